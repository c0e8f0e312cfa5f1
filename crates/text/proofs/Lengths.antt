-- How many digits a number has.
use Prim.Native.Nat.{ℕ, zero, suc, ◌+◌, ◌*◌, ◌/◌, ◌%◌, ◌≤◌}
use mathlib.Core.List.{List, [], ◌∷◌}
use lib.ListN.{length, length-append}
use lib.Dec.{ltb}
use native.Mathlib.Omega.{arith}
use Rattle.logic.proofs.Bools.{whichever}
use Rattle.text.specs.Text.{digits_of}

-- ten to one more than k
abbrev pub tens : ℕ → ℕ
tens zero = 10
tens (suc k) = 10 * tens k

-- whatever the number
pub digits_most : (most number : ℕ) → length (digits_of most number) ≤ suc most
unfolding digits_of
digits_most zero number = omega arith
digits_most (suc most) number =
    let within = digits_most most (number / 10) in
    whichever (λ (l : List ℕ). length l ≤ suc (suc most)) (ltb number 10) (omega arith)
    (omega (arith, length-append (digits_of most (number / 10)) ((48 + number % 10) ∷ [])))
