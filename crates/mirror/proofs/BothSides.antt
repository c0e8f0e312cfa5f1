-- Figure 1 for the left side: seen in the mirror, a left step is the figure's line.
use Prim.Native.Nat.{ℕ, ◌<◌}
use mathlib.Core.Path.{◌≡◌, refl, sym, ◌∙◌}
use mathlib.Core.Bool.{true, false, true≢false}
use mathlib.Core.List.{List}
use mathlib.Core.Logic.{◌⊎◌, inl, inr}
use lib.ListN.{length}
use borrow.Author.Tests.{eqb-false, le-leb}
use native.Mathlib.Omega.{arith}
use Rattle.std.specs.declared.result.Result.{Result}
use Rattle.std.specs.declared.result.Result.TheVariants.{Ok, Err}
use Rattle.refusal.specs.declared.Refusal.{Refusal}
use Rattle.record.specs.Operation.{is_right}
use Rattle.party.proofs.Refusals.{every_refusal_is_one}
use Rattle.record.specs.Valid.{is_idle}
use Rattle.party.specs.Answer.{is_refusal, number_of}
use Rattle.record.specs.declared.Record.{Record}
use Rattle.party.specs.declared.Answer.{Answer}
use Rattle.party.specs.declared.Answer.TheVariants.{GoesOn, Pushed, Popped, Full, Empty}
use Rattle.step.specs.Step.{max_of, step_of}
use Rattle.step.proofs.Went.{Went, went}
use Rattle.figure.specs.Reading.{IsTheLine}
use Rattle.figure.proofs.Lines.{each_step_is_the_figures_line}
use Rattle.mirror.specs.Mirror.{mirror_strip, mirror_place, mirror_operation, mirror_record, mirror_answer, StepMirrors, IsTheMirroredLine}
use Rattle.mirror.proofs.Strips.{length_mirror}
use Rattle.mirror.proofs.Left.{a_left_step_is_the_mirrored_right_step}

same_number : (answer : Result Answer Refusal) → number_of (mirror_answer answer) ≡ number_of answer
same_number (Ok GoesOn) = refl
same_number (Ok Pushed) = refl
same_number (Ok (Popped order)) = refl
same_number (Ok Full) = refl
same_number (Ok Empty) = refl
same_number (Err refusal) = refl

-- a left record that is busy mirrors to the right
to_the_right : (max : ℕ) (r : Record) → (r.operation ≡ 2) ⊎ (r.operation ≡ 3) → is_idle r ≡ false → is_right (mirror_record max r).operation ≡ true
to_the_right max r left busy = rw (le-leb 1 r.stage (omega (arith, eqb-false r.stage 0 busy))) (go left)
  where
    go : (r.operation ≡ 2) ⊎ (r.operation ≡ 3) → is_right (mirror_operation r.operation) ≡ true
    go (inl o) = rw o
    go (inr o) = rw o

-- a step that is not refused has a busy record
busy_goes : (strip : List ℕ) (r : Record) (hint : ℕ) → is_refusal (number_of (step_of strip r hint).answer) ≡ false → is_idle r ≡ false
busy_goes strip r hint goes = go (went strip r hint)
  where
    go : Went strip r hint → is_idle r ≡ false
    go (Went.stays refusal gone) = absurd (true≢false (sym (every_refusal_is_one refusal) ∙ rw gone.answered at goes))
    go (Went.goes clear on) = clear.busy

-- Demand 2 for the left: a left step that is not refused is, in the mirror, the line of figure 1 that its record stands before.
pub each_left_step_is_the_mirrored_line : (strip : List ℕ) (r : Record) (hint : ℕ) → (r.operation ≡ 2) ⊎ (r.operation ≡ 3)
    → r.v < 4294967296 → is_refusal (number_of (step_of strip r hint).answer) ≡ false
    → IsTheMirroredLine strip r hint
each_left_step_is_the_mirrored_line strip r hint left below goes = rw (length_mirror strip, step.answered, step.words) at line
  where
    max : ℕ
    max = max_of (length strip)

    step : StepMirrors strip r hint
    step = a_left_step_is_the_mirrored_right_step strip r hint left below

    line : IsTheLine (mirror_strip strip) (mirror_record max r) (mirror_place max hint)
    line =
        each_step_is_the_figures_line (mirror_strip strip) (mirror_record max r) (mirror_place max hint)
        (to_the_right max r left (busy_goes strip r hint goes)) below (rw (step.answered, same_number (step_of strip r hint).answer) goes)
