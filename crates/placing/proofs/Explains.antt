-- From local facts to whole histories: where every entry adds nothing, or what takes effect now, or what took effect earlier and
-- changed nothing, all that was added plays in the order of its effects.
use Prim.Native.Nat.{ℕ, zero, suc, ◌<◌, ◌≤◌}
use mathlib.Core.Path.{◌≡◌, refl, sym}
use mathlib.Core.Bool.{Bool, true, false}
use mathlib.Core.List.{List, [], ◌∷◌, ◌++◌}
use lib.Dec.{eqb}
use borrow.Author.Tests.{eqb-true, eqb-false}
use native.Mathlib.Omega.{arith}
use Rattle.placing.specs.Placing.{at_entry, in_order, Plays, Adds, AllAdd, gathered}
use Rattle.placing.proofs.Entries.{at_entry_of_both, one_at_its_entry, none_at_another}
use Rattle.placing.proofs.Playing.{plays_both}

module _ {F S : Type 0} (effect : F → ℕ) (Agrees : F → S → S → Type 0) (trace : ℕ → S) where
  -- what an entry adds to those of a later entry
  added_later : (n e : ℕ) (fs : List F) → Adds effect Agrees trace n fs → n < e → at_entry effect e fs ≡ []
  unfolding at_entry
  added_later n e fs (Adds.nothing none same) later = rw none
  added_later n e fs (Adds.now f one now gives) later = rw one (none_at_another effect e f (λ (at : effect f ≡ e). omega arith))
  added_later n e fs (Adds.earlier f one before same gives) later = rw one (none_at_another effect e f (λ (at : effect f ≡ e). omega arith))

  -- to its own
  added_now : (n : ℕ) (fs : List F) → Adds effect Agrees trace n fs → Plays Agrees (trace n) (at_entry effect n fs) (trace (suc n))
  unfolding at_entry
  added_now n fs (Adds.nothing none same) = rw none (sym same)
  added_now n fs (Adds.now f one now gives) = rw (one, one_at_its_entry effect n f now) (trace (suc n), gives, refl)
  added_now n fs (Adds.earlier f one before same gives) =
      rw (one, none_at_another effect n f (λ (at : effect f ≡ n). omega arith)) (sym same)

  -- and to those of an earlier one, after which they change nothing
  added_before : (n e : ℕ) (fs : List F) → Adds effect Agrees trace n fs → e < n
      → Plays Agrees (trace (suc e)) (at_entry effect e fs) (trace (suc e))
  unfolding at_entry
  added_before n e fs (Adds.nothing none same) before = rw none refl
  added_before n e fs (Adds.now f one now gives) before =
      rw (one, none_at_another effect e f (λ (at : effect f ≡ e). omega arith)) refl
  added_before n e fs (Adds.earlier f one past same gives) before = rw one (go (eqb (effect f) e) refl)
    where
      go : (here : Bool) → eqb (effect f) e ≡ here → Plays Agrees (trace (suc e)) (at_entry effect e (f ∷ [])) (trace (suc e))
      go true t =
          let at = eqb-true (effect f) e t in
          rw (one_at_its_entry effect e f at) (trace (suc e), rw at at gives, refl)
      go false t = rw (none_at_another effect e f (eqb-false (effect f) e t)) refl

  module _ (added : ℕ → List F) where
    nothing_ahead : (n e : ℕ) → AllAdd effect Agrees trace added n → n ≤ e → at_entry effect e (gathered added n) ≡ []
    unfolding gathered at_entry
    nothing_ahead zero e adds ahead = refl
    nothing_ahead (suc n) e adds ahead =
        rw (
          at_entry_of_both effect e (gathered added n) (added n),
          nothing_ahead n e (λ m below. adds m (omega arith)) (omega arith),
          added_later n e (added n) (adds n (omega arith)) ahead,
        )

    -- those of one entry take the state before it to the state after it
    pub entry_plays : (n e : ℕ) → AllAdd effect Agrees trace added n → e < n
        → Plays Agrees (trace e) (at_entry effect e (gathered added n)) (trace (suc e))
    unfolding gathered
    entry_plays zero e adds below = absurd (omega arith)
    entry_plays (suc n) e adds below =
        rw (at_entry_of_both effect e (gathered added n) (added n))
        (go (eqb e n) refl (entry_plays n e (λ m within. adds m (omega arith))))
      where
        go : (last : Bool) → eqb e n ≡ last → (e < n → Plays Agrees (trace e) (at_entry effect e (gathered added n)) (trace (suc e)))
            → Plays Agrees (trace e) (at_entry effect e (gathered added n) ++ at_entry effect e (added n)) (trace (suc e))
        go true t earlier =
            let at = eqb-true e n t in
            rw (at, nothing_ahead n n (λ m within. adds m (omega arith)) (omega arith))
            (added_now n (added n) (adds n (omega arith)))
        go false t earlier =
            let other = eqb-false e n t in
            plays_both Agrees (trace e) (trace (suc e)) (trace (suc e)) (at_entry effect e (gathered added n)) (at_entry effect e (added n))
            (earlier (omega arith)) (added_before n e (added n) (adds n (omega arith)) (omega arith))

    -- Whatever the machine: all that was added plays, in the order of its effects, from the first state to the last.
    pub all_that_was_added_plays : (entries : ℕ) → AllAdd effect Agrees trace added entries
        → Plays Agrees (trace 0) (in_order effect entries (gathered added entries)) (trace entries)
    unfolding in_order
    all_that_was_added_plays entries adds = upto entries (omega arith)
      where
        all : List F
        all = gathered added entries

        upto : (n : ℕ) → n ≤ entries → Plays Agrees (trace 0) (in_order effect n all) (trace n)
        upto zero within = refl
        upto (suc n) within =
            plays_both Agrees (trace 0) (trace n) (trace (suc n)) (in_order effect n all) (at_entry effect n all) (upto n (omega arith))
            (entry_plays entries n adds (omega arith))
