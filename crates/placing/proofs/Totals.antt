-- The order of the effects leaves out none and plays none twice: whatever is summed over the finished is summed over them in order.
use Prim.Native.Nat.{ℕ, zero, suc, ◌+◌, ◌<◌}
use mathlib.Core.Path.{◌≡◌, refl, ◌∙◌}
use mathlib.Core.Bool.{Bool, true, false}
use mathlib.Core.List.{List, [], ◌∷◌}
use lib.Dec.{eqb, ltb}
use borrow.Author.Tests.{lt-ltb, le-ltb, eqb-true, eqb-false, ltb-true, ltb-false}
use native.Mathlib.Omega.{arith}
use Rattle.logic.specs.Pick.{pick}
use Rattle.logic.specs.Every.{Every}
use Rattle.logic.specs.Total.{total}
use Rattle.logic.proofs.Lists.{total_of_both}
use Rattle.placing.specs.Placing.{at_entry, in_order}

module _ {F : Type 0} (weight : F → ℕ) (effect : F → ℕ) where
  -- one more is played once, if its effect is among the entries
  one_more : (n : ℕ) (f : F) (fs : List F)
      → total weight (in_order effect n (f ∷ fs)) ≡ pick (ltb (effect f) n) (weight f) 0 + total weight (in_order effect n fs)
  unfolding total in_order at_entry
  one_more zero f fs = rw (le-ltb (effect f) 0 (omega arith)) (omega arith)
  one_more (suc n) f fs =
      rw (
        total_of_both weight (in_order effect n (f ∷ fs)) (pick (eqb (effect f) n) (f ∷ at_entry effect n fs) (at_entry effect n fs)),
        total_of_both weight (in_order effect n fs) (at_entry effect n fs),
        one_more n f fs,
      )
      (go (ltb (effect f) n) (eqb (effect f) n) refl refl)
    where
      go : (early here : Bool) → ltb (effect f) n ≡ early → eqb (effect f) n ≡ here
          → pick early (weight f) 0 + total weight (in_order effect n fs)
          + total weight (pick here (f ∷ at_entry effect n fs) (at_entry effect n fs))
          ≡ pick (ltb (effect f) (suc n)) (weight f) 0
          + (total weight (in_order effect n fs) + total weight (at_entry effect n fs))
      go true true e h = absurd (omega (arith, ltb-true (effect f) n e, eqb-true (effect f) n h))
      go true false e h = rw (lt-ltb (effect f) (suc n) (omega (arith, ltb-true (effect f) n e))) (omega arith)
      go false true e h = rw (lt-ltb (effect f) (suc n) (omega (arith, eqb-true (effect f) n h))) (omega arith)
      go false false e h =
          let other = eqb-false (effect f) n h in
          rw (le-ltb (effect f) (suc n) (omega (arith, ltb-false (effect f) n e))) (omega arith)

  nothing_in_order : (n : ℕ) → in_order effect n [] ≡ []
  unfolding in_order at_entry
  nothing_in_order zero = refl
  nothing_in_order (suc n) = rw (nothing_in_order n) refl

  pub none_is_left_out : (n : ℕ) (past : F) (fs : List F) → Every (λ (f : F). effect f < n) past fs
      → total weight (in_order effect n fs) ≡ total weight fs
  unfolding total
  none_is_left_out n past [] within = rw (nothing_in_order n) refl
  none_is_left_out n past (f ∷ fs) within =
      one_more n f fs
      ∙ rw (
        lt-ltb (effect f) n (within 0 (omega arith)),
        none_is_left_out n past fs (λ i inside. within (suc i) (omega arith)),
      ) refl
