-- The digits of a number spell the number.
use Prim.Native.Nat.{ℕ, zero, suc, ◌+◌, ◌*◌, ◌-◌, ◌/◌, ◌%◌, ◌<◌}
use mathlib.Core.Path.{◌≡◌, refl}
use mathlib.Core.List.{List, [], ◌∷◌, ◌++◌}
use lib.Dec.{ltb}
use native.Mathlib.Omega.{arith}
use Rattle.logic.proofs.Bools.{whichever}
use Rattle.text.specs.Text.{digits_of}
use Rattle.text.proofs.Lengths.{tens}
use Rattle.shown.specs.Shown.{decimal_from, decimal_in}

one_digit_more : (digits : List ℕ) (number digit : ℕ)
    → decimal_from number (digits ++ (digit ∷ [])) ≡ 10 * decimal_from number digits + (digit - 48)
unfolding decimal_from
one_digit_more [] number digit = refl
one_digit_more (d ∷ digits) number digit = one_digit_more digits (10 * number + (d - 48)) digit

pub digits_spell_the_number : (most number : ℕ) → number < tens most → decimal_in (digits_of most number) ≡ number
unfolding decimal_from digits_of
digits_spell_the_number zero number fits = omega arith
digits_spell_the_number (suc most) number fits =
    let before = digits_spell_the_number most (number / 10) (omega arith) in
    whichever (λ (digits : List ℕ). decimal_in digits ≡ number) (ltb number 10) (omega arith)
    (omega (arith, one_digit_more (digits_of most (number / 10)) 0 (48 + number % 10)))
