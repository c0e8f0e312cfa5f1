-- What a step does to the plain strip that the words stand for: nothing, its operation now, or an operation that took effect at
-- an earlier look.
use Prim.Native.Nat.{ℕ, ◌≤◌, ◌<◌}
use mathlib.Core.Path.{◌≡◌, refl, sym, ◌∙◌, ap, subst}
use mathlib.Core.Bool.{true, false, not, ◌&&◌}
use mathlib.Core.Logic.{◌⊎◌, inl, inr}
use mathlib.Core.List.{List}
use lib.ListN.{length, set}
use borrow.Author.Tests.{not-true}
use native.Mathlib.Omega.{arith}
use Rattle.logic.proofs.Bools.{both}
use Rattle.word.specs.Word.{value_of, raised_to, value_at}
use Rattle.word.proofs.Laws.{raised_value}
use Rattle.swaps.specs.Remembered.{Wins}
use Rattle.swaps.proofs.Facts.{values_kept}
use Rattle.record.specs.Operation.{is_push}
use Rattle.record.specs.Valid.{place_fits, at_wall}
use Rattle.party.specs.Answer.{number_of, going_on, ends}
use Rattle.record.specs.declared.Record.{Record}
use Rattle.std.specs.declared.result.Result.{Result}
use Rattle.refusal.specs.declared.Refusal.{Refusal}
use Rattle.std.specs.declared.result.Result.TheVariants.{Ok}
use Rattle.party.specs.declared.Answer.{Answer}
use Rattle.party.specs.declared.Answered.{Answered}
use Rattle.party.specs.declared.Answer.TheVariants.{GoesOn, Pushed, Popped, Full, Empty}
use Rattle.record.proofs.Stages.{stage_3_fits, stage_5_fits}
use Rattle.stages.specs.Stages.{near, own, far, at_place, at_near}
use Rattle.step.specs.Step.{strip_fits, max_of, step_of, step_leaves}
use Rattle.step.proofs.Accesses.{Gone}
use Rattle.step.proofs.Went.{GoneOn}
use Rattle.plain.specs.Plain.{Plain}
use Rattle.plain.specs.Play.{added, removed, Yields}
use Rattle.plain.proofs.Ways.{yields_pushed, yields_full, yields_popped, yields_empty}
use Rattle.strip.specs.Shape.{StandsFor}
use Rattle.invariant.specs.Invariant.{Sound}
use Rattle.invariant.specs.Remembered.{Remembers, RecordYields}
use Rattle.invariant.proofs.Sides.{own_is_null, order_is, Placed, placed, wins_at_place, wins_at_near}
use Rattle.invariant.proofs.Ends.{at_the_end, room_off_wall, held_off_far, end_order_is}
use Rattle.invariant.proofs.Acts.{pushed_stands, popped_stands}

module _ (strip : List ℕ) (r : Record) (hint : ℕ) (p : Plain) where
  pub data StepEffect : Type 0 where
    quiet : (step_of strip r hint).answer ≡ Ok GoesOn → StandsFor (step_leaves strip r hint) p → StepEffect
    acts : (answer : Result Answer Refusal) → (step_of strip r hint).answer ≡ answer → (number_of answer ≡ 16) ⊎ (number_of answer ≡ 17) → (q : Plain)
        → RecordYields r p answer q → StandsFor (step_leaves strip r hint) q → StepEffect
    recalls : (answer : Result Answer Refusal) → (step_of strip r hint).answer ≡ answer → (number_of answer ≡ 18) ⊎ (number_of answer ≡ 19)
        → step_leaves strip r hint ≡ strip → ((then : Plain) → Remembers strip r then → RecordYields r then answer then) → StepEffect

module _ (strip : List ℕ) (r : Record) (hint : ℕ) (p : Plain) (fits : strip_fits (length strip) ≡ true) (sound : Sound strip r)
    (stands : StandsFor strip p) where
  answer_is : {given : Answered Refusal} {left : List ℕ} → Gone strip r hint given left → (step_of strip r hint).answer ≡ given.answer
  answer_is gone = ap (λ (a : Answered Refusal). a.answer) gone.answered

  at : 2 ≤ r.stage → Placed (length strip) r
  at = placed (length strip) r fits sound.valid

  -- a step that goes on and writes nothing
  same : {next : Record} → Gone strip r hint (going_on next) strip → StepEffect strip r hint p
  same gone = StepEffect.quiet (answer_is gone) (rw gone.words stands)

  -- one that writes the value that stood there
  same_value : {next : Record} {place from : ℕ} (w : Wins strip place from) (to : ℕ) → to < 4294967296 → value_at strip place ≡ to
      → Gone strip r hint (going_on next) (set strip place (raised_to from to)) → StepEffect strip r hint p
  same_value w to fits is gone =
      StepEffect.quiet (answer_is gone)
      (rw gone.words (record { values = values_kept w to fits is ∙ stands.values; orders = stands.orders }))

  in_range_lem : r.stage ≡ 5 → place_fits (max_of (length strip)) r ≡ true
  in_range_lem s = (both (place_fits (max_of (length strip)) r) _ (stage_5_fits (max_of (length strip)) r sound.valid s).1).0

  off_wall : r.stage ≡ 5 → is_push r.operation ≡ true → at_wall (max_of (length strip)) r ≡ false
  off_wall s push =
      let fits = (stage_5_fits (max_of (length strip)) r sound.valid s).1 in
      let off = (both (place_fits (max_of (length strip)) r) (not (is_push r.operation && at_wall (max_of (length strip)) r)) fits).1 in
      not-true (at_wall (max_of (length strip)) r) (rw push at off)

  pushes : r.stage ≡ 5 → is_push r.operation ≡ true → at_place strip r ≡ r.second
      → Gone strip r hint (ends Pushed) (set strip r.k (raised_to r.second r.v)) → StepEffect strip r hint p
  pushes s push took gone =
      let mine = ap value_of took ∙ sound.second_own (omega arith) in
      let end = at_the_end strip p r fits stands (in_range_lem s) mine (sound.push_behind s push took) in
      let some = room_off_wall strip p r fits stands end (off_wall s push) in
      let order = order_is (max_of (length strip)) r sound.valid (omega arith) push in
      let value = raised_value r.second r.v sound.order_fits in
      StepEffect.acts (Ok Pushed) (answer_is gone) (inl refl) (added r.operation r.v p) (yields_pushed r.operation r.v p push some)
      (rw gone.words (pushed_stands strip p r stands end _ value order some))

  pops : r.stage ≡ 5 → is_push r.operation ≡ false → at_near strip r ≡ r.first
      → Gone strip r hint (ends (Popped (value_of r.first))) (set strip (near r) (raised_to r.first (own r)))
      → StepEffect strip r hint p
  pops s pop took gone =
      let first = ap value_of took in
      let other : value_at strip (near r) ≡ own r → ⊥ = λ is. sound.first_not_own (omega arith) (sym first ∙ is) in
      let end = at_the_end strip p r fits stands (in_range_lem s) (sound.pop_ahead s pop took) other in
      let not-far : value_at strip (near r) ≡ far r → ⊥ = λ is. sound.pop_not_far (omega arith) pop took (sym first ∙ is) in
      let some = held_off_far strip p r fits stands end not-far in
      let value = raised_value r.first (own r) (omega (arith, own_is_null r)) in
      let order = sym (end_order_is strip p r fits stands end some) ∙ first in
      StepEffect.acts (Ok (Popped (value_of r.first))) (answer_is gone) (inr refl) (removed r.operation p)
      (subst (λ (v : ℕ). Yields r.operation r.v p 17 v (removed r.operation p)) order
      (yields_popped r.operation r.v p pop some))
      (rw gone.words (popped_stands strip p r stands end _ value some))

  pub step_effect : GoneOn strip r hint → StepEffect strip r hint p
  step_effect (GoneOn.remembers s gone) = same gone
  step_effect (GoneOn.drops s d gone) = same gone
  step_effect (GoneOn.fills s d w gone) =
      StepEffect.recalls (Ok Full) (answer_is gone) (inl refl) gone.words
      (λ then known. yields_full r.operation r.v then (both (is_push r.operation) _ w).0 (known.full_then s w d.first_other))
  step_effect (GoneOn.doubts s d f gone) = same gone
  step_effect (GoneOn.readies s d w f gone) = same gone
  step_effect (GoneOn.empties s e gone) =
      let fits-3 = (stage_3_fits (max_of (length strip)) r sound.valid s).1 in
      let pop = not-true (is_push r.operation) (both (place_fits (max_of (length strip)) r) (not (is_push r.operation)) fits-3).1 in
      StepEffect.recalls (Ok Empty) (answer_is gone) (inr refl) gone.words
      (λ then known. yields_empty r.operation r.v then pop (known.empty_then s e))
  step_effect (GoneOn.rechecks s e gone) = same gone
  step_effect (GoneOn.push_4 s push t gone) =
      same_value (wins_at_near (at (omega arith)) t) (value_of r.first) (omega arith) (ap value_of t.same) gone
  step_effect (GoneOn.pop_4 s pop t gone) =
      same_value (wins_at_place (at (omega arith)) t) (own r) (omega (arith, own_is_null r))
      (ap value_of t.same ∙ sound.second_own (omega arith)) gone
  step_effect (GoneOn.push_5 s push t gone) = pushes s push t.same gone
  step_effect (GoneOn.pop_5 s pop t gone) = pops s pop t.same gone
  step_effect (GoneOn.loses place from to then access other gone) = same gone
