-- What the header of an image and that of a schedule file share: "PD" and a letter in bytes 0..2, the version in 3..4, the party count
-- in 5, MAX in 6..7.
use Rattle.std.specs.Prelude.{ℕ, Bool, ◌&&◌, List, get_or, eqb}
use Rattle.little.specs.Bytes.{number_at}
use Rattle.party.specs.Calls.{max_fits}
use Rattle.call.specs.Call.{table_fits}

abbrev pub is_marked : (letter : ℕ) → List ℕ → Bool
is_marked letter bytes = eqb (get_or bytes 0 0) 80 && eqb (get_or bytes 1 0) 68 && eqb (get_or bytes 2 0) letter

abbrev pub version_at : List ℕ → ℕ
version_at bytes = number_at 2 bytes 3

abbrev pub parties_at : List ℕ → ℕ
parties_at bytes = get_or bytes 5 0

abbrev pub max_at : List ℕ → ℕ
max_at bytes = number_at 2 bytes 6

-- MAX is from 1 to 4,094, the party count from 1 to 16
abbrev pub counts_fit : (max parties : ℕ) → Bool
counts_fit max parties = max_fits max && table_fits parties
