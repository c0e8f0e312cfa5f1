-- What each answer tells of the plain strip at its effect.
use Prim.Native.Nat.{ℕ, ◌<◌}
use mathlib.Core.Path.{◌≡◌, refl, sym, ◌∙◌, ap}
use mathlib.Core.Bool.{Bool, true, false}
use mathlib.Core.List.{List}
use lib.ListN.{length, get_or}
use lib.Dec.{ltb}
use borrow.Author.Tests.{ltb-true, ltb-false}
use native.Mathlib.Omega.{arith}
use Rattle.logic.specs.Pick.{pick}
use Rattle.record.specs.Operation.{is_right}
use Rattle.plain.specs.Plain.{Plain}
use Rattle.plain.specs.Play.{room}
use Rattle.plain.proofs.Laws.{full_is_no_room, empty_is_no_order}
use Rattle.placing.proofs.Before.{each_answers_the_state_before}
use Rattle.history.specs.Finished.{Finished}
use Rattle.history.specs.Explained.{Agrees, Explained, AtItsEffect, none}

module _ {first last : Plain} {finished : List Finished} {entries : ℕ} (explained : Explained first finished entries last)
    (i : ℕ) (within : i < length finished) where
  abbrev it : Finished
  it = get_or finished i none

  -- Each answers as the plain strip before its effect does.
  pub each_answers_at_its_effect : (p q : Plain) × AtItsEffect first finished it p × Agrees it p q
  each_answers_at_its_effect =
      each_answers_the_state_before (λ (f : Finished). f.effect) Agrees none entries first last finished explained.played i within
      (omega (arith, (explained.between i within).by_answer, explained.answered i within)) others
    where
      others : (j : ℕ) → j < length finished → (j ≡ i → ⊥) → (get_or finished j none).effect ≡ it.effect → ⊥
      others j inside other same = go (ltb j i) refl
        where
          go : (before : Bool) → ltb j i ≡ before → ⊥
          go true e = explained.apart j i (ltb-true j i e) within same
          go false e = let after = ltb-false j i e in explained.apart i j (omega arith) inside (sym same)

  -- FULL only where its end had no room, EMPTY only where no order was held, at its effect.
  pub full_only_without_room : it.number ≡ 18 → (p : Plain) × AtItsEffect first finished it p × (room it.operation p ≡ 0)
  full_only_without_room full =
      let at = each_answers_at_its_effect in
      (at.0, at.2, full_is_no_room at.3 full)

  pub empty_only_without_orders : it.number ≡ 19 → (p : Plain) × AtItsEffect first finished it p × (length p.orders ≡ 0)
  empty_only_without_orders empty =
      let at = each_answers_at_its_effect in
      (at.0, at.2, empty_is_no_order at.3 empty)

  -- FULL from the right only where R was 0, and from the left only where L was.
  pub full_from_the_right_only_where_R_was_0 : it.number ≡ 18 → is_right it.operation ≡ true
      → (p : Plain) × AtItsEffect first finished it p × (p.right ≡ 0)
  full_from_the_right_only_where_R_was_0 full right =
      let at = full_only_without_room full in
      (at.0, at.1, ap (λ (t : Bool). pick t at.0.right at.0.left) (sym right) ∙ at.2)

  pub full_from_the_left_only_where_L_was_0 : it.number ≡ 18 → is_right it.operation ≡ false
      → (p : Plain) × AtItsEffect first finished it p × (p.left ≡ 0)
  full_from_the_left_only_where_L_was_0 full left =
      let at = full_only_without_room full in
      (at.0, at.1, ap (λ (t : Bool). pick t at.0.right at.0.left) (sym left) ∙ at.2)

-- No operation takes effect at its own start.
pub no_effect_at_its_own_start : {first last : Plain} {finished : List Finished} {entries : ℕ} → Explained first finished entries last
    → (i : ℕ) → i < length finished → (get_or finished i none).effect ≡ (get_or finished i none).started → ⊥
no_effect_at_its_own_start explained i within same = omega (arith, (explained.between i within).past_start)
