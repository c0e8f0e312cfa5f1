-- The state before an entry: what those with earlier effects leave.
use Prim.Native.Nat.{ℕ, zero, suc, ◌<◌, ◌≤◌}
use mathlib.Core.Path.{◌≡◌, refl, sym, subst}
use mathlib.Core.Bool.{Bool, true, false}
use mathlib.Core.List.{List, [], ◌∷◌, ◌++◌, append-nil, append_assoc}
use lib.ListN.{length, get_or}
use lib.Dec.{eqb}
use borrow.Author.Tests.{eqb-true, eqb-false, eq-eqb, ne_eqb}
use native.Mathlib.Omega.{arith}
use Rattle.placing.specs.Placing.{at_entry, in_order, Plays}

module _ {F S : Type 0} (Agrees : F → S → S → Type 0) where
  -- what plays one behind the other plays each
  pub plays_apart : (s u : S) (fs gs : List F) → Plays Agrees s (fs ++ gs) u → (t : S) × Plays Agrees s fs t × Plays Agrees t gs u
  plays_apart s u [] gs plays = (s, refl, plays)
  plays_apart s u (f ∷ fs) gs plays =
      let rest = plays_apart plays.0 u fs gs plays.2 in
      (rest.0, (plays.0, plays.1, rest.1), rest.2)

module _ {F : Type 0} (effect : F → ℕ) (past : F) where
  -- those of the first entries come first
  in_order_from : (n e : ℕ) (fs : List F) → e ≤ n → (rest : List F) × (in_order effect n fs ≡ in_order effect e fs ++ rest)
  unfolding in_order
  in_order_from zero e fs within = ([], rw (let first : e ≡ 0 = omega arith in first) refl)
  in_order_from (suc n) e fs within = go (eqb e (suc n)) refl (in_order_from n e fs)
    where
      go : (last : Bool) → eqb e (suc n) ≡ last → (e ≤ n → (rest : List F) × (in_order effect n fs ≡ in_order effect e fs ++ rest))
          → (rest : List F) × (in_order effect n fs ++ at_entry effect n fs ≡ in_order effect e fs ++ rest)
      go true t before = ([], rw (eqb-true e (suc n) t) (sym (append-nil (in_order effect n fs ++ at_entry effect n fs))))
      go false t before =
          let other = eqb-false e (suc n) t in
          let rest = before (omega arith) in
          (rest.0 ++ at_entry effect n fs, rw rest.1 (append_assoc (in_order effect e fs) rest.0 (at_entry effect n fs)))

  none_at : (e : ℕ) (fs : List F) → ((j : ℕ) → j < length fs → effect (get_or fs j past) ≡ e → ⊥) → at_entry effect e fs ≡ []
  unfolding at_entry
  none_at e [] others = refl
  none_at e (f ∷ fs) others =
      rw (ne_eqb (effect f) e (others 0 (omega arith)), none_at e fs (λ j within. others (suc j) (omega arith))) refl

  -- one that shares its effect with no other stands alone at its entry
  alone_at : (fs : List F) (i : ℕ) → i < length fs
      → ((j : ℕ) → j < length fs → (j ≡ i → ⊥) → effect (get_or fs j past) ≡ effect (get_or fs i past) → ⊥)
      → at_entry effect (effect (get_or fs i past)) fs ≡ get_or fs i past ∷ []
  unfolding at_entry
  alone_at [] i within others = absurd (omega arith)
  alone_at (f ∷ fs) zero within others =
      rw (eq-eqb (effect f) (effect f) refl, none_at (effect f) fs (λ j inside. others (suc j) (omega arith) (omega arith))) refl
  alone_at (f ∷ fs) (suc i) within others =
      rw (
        ne_eqb (effect f) (effect (get_or fs i past)) (others 0 (omega arith) (omega arith)),
        alone_at fs i (omega arith) (λ j inside other. others (suc j) (omega arith) (λ (e : suc j ≡ suc i). other (omega arith))),
      ) refl

module _ {F S : Type 0} (effect : F → ℕ) (Agrees : F → S → S → Type 0) (past : F) where
  -- What plays in order, with no effect shared, answers each as the state does that those with earlier effects leave.
  pub each_answers_the_state_before : (n : ℕ) (s u : S) (fs : List F) → Plays Agrees s (in_order effect n fs) u
      → (i : ℕ) → i < length fs → effect (get_or fs i past) < n
      → ((j : ℕ) → j < length fs → (j ≡ i → ⊥) → effect (get_or fs j past) ≡ effect (get_or fs i past) → ⊥)
      → (t v : S) × Plays Agrees s (in_order effect (effect (get_or fs i past)) fs) t × Agrees (get_or fs i past) t v
  unfolding in_order
  each_answers_the_state_before n s u fs plays i within early others =
      let e = effect (get_or fs i past) in
      let rest = in_order_from effect past n (suc e) fs early in
      let upto = plays_apart Agrees s u (in_order effect (suc e) fs) rest.0 (subst (λ (l : List F). Plays Agrees s l u) rest.1 plays) in
      let here = plays_apart Agrees s upto.0 (in_order effect e fs) (at_entry effect e fs) upto.1 in
      let it = subst (λ (l : List F). Plays Agrees here.0 l upto.0) (alone_at effect past fs i within others) here.2 in
      (here.0, it.0, here.1, it.1)
