-- The number that a field spells: decimal digits alone, below 2^64.
use Rattle.std.specs.Prelude.{◌≡◌, ◌≢◌, ◌<◌, ◌⊎◌, IsSome, IfSome, ℕ, zero, suc, ◌+◌, ◌-◌, ◌*◌, ◌^◌, ◌&&◌, cond, leb, ltb, Bool, true, List, [], ◌∷◌, Option, Some, None}
use Rattle.std.specs.List.{list_all}
use Rattle.console.specs.Fields.{is_blank, field_of, rest_of}

abbrev pub is_digit : ℕ → Bool
is_digit b = leb 48 b && leb b 57

-- a number with one more digit
abbrev pub longer : ℕ → ℕ → Option ℕ
longer value b =
    let next = value * 10 + (b - 48) in
    cond (is_digit b && ltb next (2 ^ 64)) (Some next) None

-- a number with the digits of a text after its own
abbrev pub number_from : ℕ → List ℕ → Option ℕ
number_from value [] = Some value
number_from value (b ∷ bs) = elim (longer value b) [ None ↦ None | Some next ↦ number_from next bs ]

abbrev pub number_of : List ℕ → Option ℕ
number_of field = number_from 0 field

-- that a number is next in a text, where so many may yet be taken
abbrev pub IsNumberNext : ℕ → List ℕ → Type 0
IsNumberNext most text = (field_of text ≢ []) × (0 < most) × IsSome (number_of (field_of text))

-- that a number below a bound is
abbrev pub IsBelowNext : ℕ → ℕ → List ℕ → Type 0
IsBelowNext bound most text = IsNumberNext most text × IfSome (number_of (field_of text)) (λ n. n < bound)

-- that numbers below these bounds are, one after another
abbrev pub AreBelowNext : List ℕ → ℕ → List ℕ → Type 0
AreBelowNext [] most text = Unit {0}
AreBelowNext (bound ∷ bounds) most text = IsBelowNext bound most text × AreBelowNext bounds (most - 1) (rest_of text)

-- that a text is numbers to its end, no more than so many
abbrev pub AreNumbers : ℕ → List ℕ → Type 0
AreNumbers zero text = list_all is_blank text ≡ true
AreNumbers (suc most) text = (list_all is_blank text ≡ true) ⊎ (IsNumberNext (suc most) text × AreNumbers most (rest_of text))

-- that a text begins with these numbers, and what is left after them
abbrev pub Reads : List ℕ → List ℕ → List ℕ → Type 0
Reads text [] rest = text ≡ rest
Reads text (n ∷ ns) rest = (number_of (field_of text) ≡ Some n) × Reads (rest_of text) ns rest
