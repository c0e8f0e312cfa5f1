-- What a call does to the plain strip that the words stand for: nothing, its operation now, or an operation that took effect at
-- an earlier look.
use Prim.Native.Nat.{ℕ, ◌<◌}
use mathlib.Core.Path.{◌≡◌, ◌∙◌, ap}
use mathlib.Core.Bool.{true}
use mathlib.Core.Logic.{◌⊎◌}
use mathlib.Core.List.{List}
use lib.ListN.{length, get_or}
use native.Mathlib.Omega.{arith}
use Rattle.record.specs.Record.{idle}
use Rattle.party.specs.Answer.{number_of}
use Rattle.record.specs.declared.Record.{Record}
use Rattle.std.specs.declared.result.Result.{Result}
use Rattle.refusal.specs.declared.Refusal.{Refusal}
use Rattle.refusal.proofs.Checks.{refusal_is_small}
use Rattle.party.specs.declared.Answer.{Answer}
use Rattle.step.specs.Step.{strip_fits}
use Rattle.call.specs.Call.{Call, call_of}
use Rattle.plain.specs.Plain.{Plain}
use Rattle.strip.specs.Shape.{StandsFor, Shaped}
use Rattle.invariant.specs.Invariant.{Sane}
use Rattle.invariant.specs.Remembered.{Remembers, RecordYields}
use Rattle.call.proofs.Called.{Leaves, Called, called}
use Rattle.invariant.proofs.StepEffects.{StepEffect, step_effect}

module _ (strip : List ℕ) (table : List Record) (call : Call) (p : Plain) where
  abbrev number : ℕ
  number = number_of (call_of strip table call).answer

  pub data CallEffect : Type 0 where
    -- goes on or is refused: the plain strip stays
    quiet : number < 16 → StandsFor (call_of strip table call).strip p → CallEffect
    -- PUSHED or POPPED: the operation, played now, answers so and leaves what the words stand for
    acts : (party hint : ℕ) → call ≡ Call.step party hint → party < length table → (number ≡ 16) ⊎ (number ≡ 17) → (q : Plain)
        → RecordYields (get_or table party idle) p (call_of strip table call).answer q → StandsFor (call_of strip table call).strip q → CallEffect
    -- FULL or EMPTY: the operation, played at what the record remembers, answers so and changes nothing
    recalls : (party hint : ℕ) → call ≡ Call.step party hint → party < length table → (number ≡ 18) ⊎ (number ≡ 19)
        → (call_of strip table call).strip ≡ strip
        → ((then : Plain) → Remembers strip (get_or table party idle) then
        → RecordYields (get_or table party idle) then (call_of strip table call).answer then)
        → CallEffect

pub call_effect : (strip : List ℕ) (table : List Record) (call : Call) (p : Plain) → strip_fits (length strip) ≡ true → Sane strip table
    → StandsFor strip p → CallEffect strip table call p
call_effect strip table call p fits sane stands = go (called strip table call)
  where
    number_is : {answer : Result Answer Refusal} {words : List ℕ} {records : List Record} → Leaves strip table call answer words records
        → number_of (call_of strip table call).answer ≡ number_of answer
    number_is left = ap number_of left.answered

    go : Called strip table call → CallEffect strip table call p
    go (Called.refuses refusal left) =
        let small = refusal_is_small refusal in
        CallEffect.quiet (rw (number_is left) (omega arith)) (rw left.strip_is stands)
    go (Called.starts party operation order is known clear left) =
        CallEffect.quiet (rw (number_is left) (omega arith)) (rw left.strip_is stands)
    go (Called.withdraws party is known left) = CallEffect.quiet (rw (number_is left) (omega arith)) (rw left.strip_is stands)
    go (Called.steps party hint is known clear on left) =
        step (step_effect strip (get_or table party idle) hint p fits (sane.sound party known) stands on)
      where
        step : StepEffect strip (get_or table party idle) hint p → CallEffect strip table call p
        step (StepEffect.quiet e then) =
            CallEffect.quiet (rw (number_is left, e) (omega arith)) (rw left.strip_is then)
        step (StepEffect.acts answer e which q plays then) =
            CallEffect.acts party hint is known (rw (number_is left, e) which) q (rw (left.answered, e) plays) (rw left.strip_is then)
        step (StepEffect.recalls answer e which words plays) =
            CallEffect.recalls party hint is known (rw (number_is left, e) which) (left.strip_is ∙ words)
            (λ then knows. rw (left.answered, e) (plays then knows))

-- A shaped strip stays shaped.
pub shaped_kept : (strip : List ℕ) (table : List Record) (call : Call) → strip_fits (length strip) ≡ true → Sane strip table
    → Shaped strip → Shaped (call_of strip table call).strip
shaped_kept strip table call fits sane (p, stands) = go (call_effect strip table call p fits sane stands)
  where
    go : CallEffect strip table call p → Shaped (call_of strip table call).strip
    go (CallEffect.quiet number then) = (p, then)
    go (CallEffect.acts party hint is known which q plays then) = (q, then)
    go (CallEffect.recalls party hint is known which same plays) = (p, rw same stands)
