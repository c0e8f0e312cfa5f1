-- The library prints the same digits, so that its laws hold of them.
use Prim.Native.Nat.{ℕ, zero, suc, ◌+◌, ◌/◌, ◌%◌, ◌≤◌, ◌<◌, ◌^◌}
use mathlib.Core.Path.{◌≡◌}
use mathlib.Core.List.{List, [], ◌∷◌, ◌++◌}
use lib.ListN.{length}
use borrow.Author.Tests.{lt-ltb, le-ltb}
use native.Mathlib.Omega.{arith}
use Rattle.std.specs.Fmt.{decimal}
use Rattle.std.proofs.lemmas.Fmt.{decimal_by_steps, length-decimal-le}
use Rattle.text.specs.Text.{digits_of, decimal as in_digits}
use Rattle.text.proofs.Lengths.{tens}

Same : ℕ → List ℕ → Type 0
Same number digits = (most : ℕ) → number < tens most → digits_of most number ≡ digits

one : (number : ℕ) → number < 10 → Same number ((48 + number) ∷ [])
unfolding Same digits_of
one number h zero fits =
    let low : number % 10 ≡ number = omega arith in
    rw low
one number h (suc most) fits = rw (lt-ltb number 10 h)

more : (number : ℕ) (digits : List ℕ) → 10 ≤ number → Same (number / 10) digits → Same number (digits ++ ((48 + number % 10) ∷ []))
unfolding Same digits_of
more number digits h same zero fits = absurd (omega arith)
more number digits h same (suc most) fits = rw (le-ltb number 10 h, same most (omega arith))

-- a number of 32 bits
pub decimal_is_printed : (number : ℕ) → number < 2 ^ 32 → in_digits number ≡ decimal number
unfolding Same
decimal_is_printed number small = decimal_by_steps Same one more number (omega arith) 9 (omega arith)

pub decimal_is_short : (k number : ℕ) → 0 < k → number < 10 ^ k → number < 2 ^ 32 → length (in_digits number) ≤ k
decimal_is_short k number some fits small =
    rw (decimal_is_printed number small) (length-decimal-le k number some fits (omega arith))
