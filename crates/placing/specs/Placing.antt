-- Finished operations in the order of their effects, and what it means that they play. Generic in the machine: a state S, a
-- finished operation F with the entry of its effect, and Agrees f s t, that f played at s answers as it did and leaves t.
use Rattle.std.specs.Prelude.{ℕ, zero, suc, ◌<◌, ◌≡◌, List, [], ◌∷◌, ◌++◌, eqb}
use Rattle.logic.specs.Pick.{pick}

module _ {F : Type 0} (effect : F → ℕ) where
  -- those that took effect at an entry, in the order in which they answered
  unfoldable pub at_entry : (entry : ℕ) → List F → List F
  at_entry entry [] = []
  at_entry entry (f ∷ fs) = pick (eqb (effect f) entry) (f ∷ at_entry entry fs) (at_entry entry fs)

  -- for each entry in turn, those that took effect there
  unfoldable pub in_order : (entries : ℕ) → List F → List F
  in_order zero fs = []
  in_order (suc entries) fs = in_order entries fs ++ at_entry entries fs

module _ {F S : Type 0} (Agrees : F → S → S → Type 0) where
  -- played one after the other from s, each gives its answer, and the end is t
  abbrev pub Plays : S → List F → S → Type 0
  Plays s [] t = s ≡ t
  Plays s (f ∷ fs) t = (next : S) × Agrees f s next × Plays next fs t

module _ {F S : Type 0} (effect : F → ℕ) (Agrees : F → S → S → Type 0) (trace : ℕ → S) where
  -- What entry n adds to the finished operations, where trace n is the state before it: nothing; one that takes effect now; or
  -- one that took effect at an earlier entry, after which the state says that it answers so and changes nothing.
  pub data Adds (n : ℕ) (added : List F) : Type 0 where
    nothing : added ≡ [] → trace (suc n) ≡ trace n → Adds n added
    now : (f : F) → added ≡ f ∷ [] → effect f ≡ n → Agrees f (trace n) (trace (suc n)) → Adds n added
    earlier : (f : F) → added ≡ f ∷ [] → effect f < n → trace (suc n) ≡ trace n
        → Agrees f (trace (suc (effect f))) (trace (suc (effect f))) → Adds n added

  -- so each of the first entries
  abbrev pub AllAdd : (added : ℕ → List F) (entries : ℕ) → Type 0
  AllAdd added entries = (n : ℕ) → n < entries → Adds n (added n)

module _ {F : Type 0} (added : ℕ → List F) where
  -- what the first entries added, one behind the other
  unfoldable pub gathered : (entries : ℕ) → List F
  gathered zero = []
  gathered (suc entries) = gathered entries ++ added entries
