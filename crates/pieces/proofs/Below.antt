-- A test that holds of every number below a count.
use Prim.Native.Nat.{ℕ, zero, suc, ◌+◌, ◌<◌}
use mathlib.Core.Path.{◌≡◌, refl, ◌∙◌, ap}
use mathlib.Core.Bool.{Bool, true, false, ◌&&◌}
use mathlib.Core.List.{[], ◌∷◌, ◌++◌}
use lib.Dec.{eqb}
use borrow.Author.Tests.{eqb-true, eqb-false}
use native.Mathlib.Nat.{add-zero, zero-add}
use native.Mathlib.Numerals.{add-one}
use native.Mathlib.Omega.{arith}
use Rattle.std.specs.List.{list_all, range_with_len}
use Rattle.std.proofs.lemmas.List.Folds.{list_all-append}
use Rattle.logic.proofs.Bools.{both}
use Rattle.pieces.specs.Pieces.{all_below}

pub one_more_tested : (test : ℕ → Bool) (i : ℕ) → all_below test i && test i ≡ all_below test (i + 1)
unfolding all_below
one_more_tested test i = rw (add-one i) refl

-- of each of them
pub each_below : (test : ℕ → Bool) (count : ℕ) → all_below test count ≡ true → (i : ℕ) → i < count → test i ≡ true
unfolding all_below
each_below test zero all i h = absurd (omega arith)
each_below test (suc count) all i h =
    let parts = both (all_below test count) (test count) all in
    go (eqb i count) refl parts.1 (λ below. each_below test count parts.0 i below)
  where
    go : (last : Bool) → eqb i count ≡ last → test count ≡ true → (i < count → test i ≡ true) → test i ≡ true
    go true e this others = rw (eqb-true i count e) this
    go false e this others = let other = eqb-false i count e in others (omega arith)

pub all_of_each : (test : ℕ → Bool) (count : ℕ) → ((i : ℕ) → i < count → test i ≡ true) → all_below test count ≡ true
unfolding all_below
all_of_each test zero each = refl
all_of_each test (suc count) each =
    rw (all_of_each test count (λ i h. each i (omega arith)), each count (omega arith)) refl

range_end : (from n : ℕ) → range_with_len from (suc n) ≡ range_with_len from n ++ ((from + n) ∷ [])
range_end from zero = rw add-zero refl
range_end from (suc n) =
    let moved : from + suc n ≡ from + 1 + n = omega arith in
    rw (moved, range_end (from + 1) n) refl

-- of all numbers of a range
pub all_in_range : (test : ℕ → Bool) (count : ℕ) → list_all test (range_with_len 0 count) ≡ all_below test count
unfolding all_below
all_in_range test zero = refl
all_in_range test (suc count) =
    ap (list_all test) (range_end 0 count) ∙ list_all-append test (range_with_len 0 count) ((0 + count) ∷ [])
    ∙ rw (all_in_range test count, zero-add count) (go (all_below test count) (test count))
  where
    go : (all this : Bool) → all && (this && true) ≡ all && this
    go true true = refl
    go true false = refl
    go false this = refl
