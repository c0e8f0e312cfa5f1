-- The bytes that a field spells: two digits to base 16 for each, `-` for none.
use Rattle.std.specs.Prelude.{ℕ, ◌≡◌, ◌≢◌, ◌≤◌, ◌⊎◌, List, [], ◌∷◌, length, Ok}
use Rattle.hex.specs.Hex.{decode_of}
use Rattle.console.specs.Fields.{field_of}

abbrev pub Spells : List ℕ → List ℕ → Type 0
Spells field bytes = ((field ≡ 45 ∷ []) × (bytes ≡ [])) ⊎ (decode_of field ≡ Ok bytes)

-- that a field of bytes is next in a text, no more than so many
abbrev pub AreBytesNext : ℕ → List ℕ → Type 0
AreBytesNext most text = (field_of text ≢ []) × ((bytes : List ℕ) × (length bytes ≤ most) × Spells (field_of text) bytes)
