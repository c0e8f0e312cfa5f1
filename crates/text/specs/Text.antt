-- Numbers as decimal digits, without leading zeros.
use Rattle.std.specs.Prelude.{ℕ, zero, suc, ◌+◌, ◌/◌, ◌%◌, List, [], ◌∷◌, ◌++◌, ltb}
use Rattle.logic.specs.Pick.{pick}

-- of a number with at most `most` digits more than one
unfoldable pub digits_of : (most number : ℕ) → List ℕ
digits_of zero number = (48 + number % 10) ∷ []
digits_of (suc most) number =
    pick (ltb number 10) ((48 + number) ∷ []) (digits_of most (number / 10) ++ ((48 + number % 10) ∷ []))

-- ten digits hold 32 bits
abbrev pub decimal : (number : ℕ) → List ℕ
decimal number = digits_of 9 number

-- a space and a number
abbrev pub spaced : (number : ℕ) → List ℕ
spaced number = 32 ∷ decimal number
