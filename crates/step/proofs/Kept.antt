-- What a step keeps: a refused one changes nothing, a valid record stays valid, and its promise leaves nothing open.
use Prim.Native.Nat.{ℕ}
use mathlib.Core.Path.{◌≡◌, refl, sym, ◌∙◌, ap}
use mathlib.Core.Bool.{true, false, not, ◌&&◌, true≢false}
use mathlib.Core.Logic.{inl, inr}
use mathlib.Core.List.{List}
use lib.ListN.{length}
use lib.Dec.{eqb}
use borrow.Author.Tests.{not-true, eqb-true}
use Rattle.logic.proofs.Bools.{both}
use Rattle.record.specs.Operation.{is_push}
use Rattle.record.specs.Record.{again}
use Rattle.record.specs.Valid.{valid_of, place_fits, operation_fits}
use Rattle.party.specs.Answer.{is_refusal, number_of, carried_of, RefusedKeeps}
use Rattle.record.specs.declared.Record.{Record}
use Rattle.refusal.specs.declared.Refusal.{Refusal}
use Rattle.party.specs.declared.Answered.{Answered}
use Rattle.party.proofs.Kept.{idle_is_valid}
use Rattle.record.proofs.Stages.{ValidAt, at_valid, stage_1_fits, stage_2_fits, stage_3_fits, stage_4_fits, busy_fits}
use Rattle.step.specs.Step.{max_of, step_of, step_leaves, StepPromise}
use Rattle.step.proofs.Cleared.{Steppable}
use Rattle.step.proofs.Accesses.{Gone}
use Rattle.step.proofs.Went.{GoneOn, Went, went}
use Rattle.step.proofs.Stepped.{Stepped, stepped}

-- Two results that keep the promise are equal, and so are the words they leave.
pub two_steps_that_keep_it_are_equal : {strip : List ℕ} {r : Record} {hint : ℕ} {one two : Answered Refusal} {left other : List ℕ}
    → StepPromise strip r hint one left → StepPromise strip r hint two other → (one ≡ two) × (left ≡ other)
two_steps_that_keep_it_are_equal p q = (p.gives ∙ sym q.gives, p.words ∙ sym q.words)

module _ (strip : List ℕ) (r : Record) (hint : ℕ) where
  pub going_on_is_no_refusal : GoneOn strip r hint → is_refusal (number_of (step_of strip r hint).answer) ≡ false
  going_on_is_no_refusal on = go (stepped strip r hint on)
    where
      go : Stepped r (step_of strip r hint).rec (number_of (step_of strip r hint).answer)
          → is_refusal (number_of (step_of strip r hint).answer) ≡ false
      go (Stepped.going_on number operation v to-2 to-3) = rw number refl
      go (Stepped.acting (inl number) ended) = rw number refl
      go (Stepped.acting (inr number) ended) = rw number refl
      go (Stepped.filling number second ended) = rw number refl
      go (Stepped.emptying number third ended) = rw number refl

  -- A refused step gives its record back, carries no order and leaves every word.
  pub refused_step_changes_nothing : RefusedKeeps r (step_of strip r hint)
      × (is_refusal (number_of (step_of strip r hint).answer) ≡ true → step_leaves strip r hint ≡ strip)
  refused_step_changes_nothing = go (went strip r hint)
    where
      go : Went strip r hint → RefusedKeeps r (step_of strip r hint)
          × (is_refusal (number_of (step_of strip r hint).answer) ≡ true → step_leaves strip r hint ≡ strip)
      go (Went.stays refusal gone) = (
        λ h. (ap (λ (a : Answered Refusal). a.rec) gone.answered, ap (λ (a : Answered Refusal). carried_of a.answer) gone.answered),
        λ h. gone.words,
      )
      go (Went.goes clear on) =
          (λ h. absurd (true≢false (sym h ∙ going_on_is_no_refusal on)), λ h. absurd (true≢false (sym h ∙ going_on_is_no_refusal on)))

  abbrev max : ℕ
  max = max_of (length strip)

  -- what a step gives is valid if what it went to is
  gone_valid : {given : Answered Refusal} {left : List ℕ} → Gone strip r hint given left → valid_of max given.rec ≡ true
      → valid_of max (step_of strip r hint).rec ≡ true
  gone_valid gone valid = ap (λ (a : Answered Refusal). valid_of max a.rec) gone.answered ∙ valid

  again_is_valid : operation_fits r ≡ true → valid_of max (again r) ≡ true
  again_is_valid fits = at_valid max (again r) (ValidAt.at1 refl fits refl)

  going_on_keeps_valid : Steppable (length strip) r hint → GoneOn strip r hint → valid_of max (step_of strip r hint).rec ≡ true
  going_on_keeps_valid clear (GoneOn.remembers s gone) =
      let each = stage_1_fits max r clear.valid s in
      let second = (both (eqb r.k 0 && eqb r.first 0) (eqb r.second 0) each.1).1 in
      gone_valid gone
      (at_valid max _ (ValidAt.at2 refl each.0 (rw s at clear.aimed_fits) (eqb-true r.second 0 second)))
  going_on_keeps_valid clear (GoneOn.drops s d gone) =
      gone_valid gone (again_is_valid (busy_fits max r clear.valid clear.busy))
  going_on_keeps_valid clear (GoneOn.fills s d w gone) = gone_valid gone (idle_is_valid max)
  going_on_keeps_valid clear (GoneOn.doubts s d f gone) =
      let each = stage_2_fits max r clear.valid s in
      let place = (both (place_fits max r) (eqb r.second 0) each.1).0 in
      let pop = not-true (is_push r.operation) (both (not (is_push r.operation)) _ f).0 in
      gone_valid gone (at_valid max _ (ValidAt.at3 refl each.0 place pop))
  going_on_keeps_valid clear (GoneOn.readies s d w f gone) =
      let each = stage_2_fits max r clear.valid s in
      let place = (both (place_fits max r) (eqb r.second 0) each.1).0 in
      gone_valid gone (at_valid max _ (ValidAt.at4 refl each.0 (rw (place, w) refl)))
  going_on_keeps_valid clear (GoneOn.empties s e gone) = gone_valid gone (idle_is_valid max)
  going_on_keeps_valid clear (GoneOn.rechecks s e gone) =
      let each = stage_3_fits max r clear.valid s in
      let both-3 = both (place_fits max r) (not (is_push r.operation)) each.1 in
      let pop = not-true (is_push r.operation) both-3.1 in
      gone_valid gone (at_valid max _ (ValidAt.at4 refl each.0 (rw (both-3.0, pop) refl)))
  going_on_keeps_valid clear (GoneOn.push_4 s p t gone) =
      let each = stage_4_fits max r clear.valid s in
      gone_valid gone (at_valid max _ (ValidAt.at5 refl each.0 each.1))
  going_on_keeps_valid clear (GoneOn.pop_4 s p t gone) =
      let each = stage_4_fits max r clear.valid s in
      gone_valid gone (at_valid max _ (ValidAt.at5 refl each.0 each.1))
  going_on_keeps_valid clear (GoneOn.push_5 s p t gone) = gone_valid gone (idle_is_valid max)
  going_on_keeps_valid clear (GoneOn.pop_5 s p t gone) = gone_valid gone (idle_is_valid max)
  going_on_keeps_valid clear (GoneOn.loses place from to then access other gone) =
      gone_valid gone (again_is_valid (busy_fits max r clear.valid clear.busy))

  -- A valid record stays valid.
  pub step_keeps_valid : valid_of (max_of (length strip)) r ≡ true → valid_of (max_of (length strip)) (step_of strip r hint).rec ≡ true
  step_keeps_valid valid = go (went strip r hint)
    where
      go : Went strip r hint → valid_of (max_of (length strip)) (step_of strip r hint).rec ≡ true
      go (Went.stays refusal gone) = gone_valid gone valid
      go (Went.goes clear on) = going_on_keeps_valid clear on
