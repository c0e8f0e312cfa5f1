-- The operations that took effect at one entry.
use Prim.Native.Nat.{ℕ}
use mathlib.Core.Path.{◌≡◌, refl}
use mathlib.Core.Bool.{Bool, true, false}
use mathlib.Core.List.{List, [], ◌∷◌, ◌++◌}
use lib.Dec.{eqb}
use borrow.Author.Tests.{eq-eqb, ne_eqb}
use Rattle.logic.specs.Pick.{pick}
use Rattle.placing.specs.Placing.{at_entry}

module _ {F : Type 0} (effect : F → ℕ) where
  pub at_entry_of_both : (entry : ℕ) (fs gs : List F)
      → at_entry effect entry (fs ++ gs) ≡ at_entry effect entry fs ++ at_entry effect entry gs
  unfolding at_entry
  at_entry_of_both entry [] gs = refl
  at_entry_of_both entry (f ∷ fs) gs =
      rw (at_entry_of_both entry fs gs) (go (eqb (effect f) entry) (at_entry effect entry fs) (at_entry effect entry gs))
    where
      go : (here : Bool) (a b : List F) → pick here (f ∷ (a ++ b)) (a ++ b) ≡ pick here (f ∷ a) a ++ b
      go true a b = refl
      go false a b = refl

  pub one_at_its_entry : (entry : ℕ) (f : F) → effect f ≡ entry → at_entry effect entry (f ∷ []) ≡ f ∷ []
  unfolding at_entry
  one_at_its_entry entry f e = rw (eq-eqb (effect f) entry e)

  pub none_at_another : (entry : ℕ) (f : F) → (effect f ≡ entry → ⊥) → at_entry effect entry (f ∷ []) ≡ []
  unfolding at_entry
  none_at_another entry f n = rw (ne_eqb (effect f) entry n)
