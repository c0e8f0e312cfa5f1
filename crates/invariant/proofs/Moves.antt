-- The record that a step gives is sound on the strip as it was: what each way establishes for itself.
use Prim.Native.Nat.{ℕ, ◌≤◌, ◌<◌}
use mathlib.Core.Path.{◌≡◌, refl, sym, ◌∙◌, ap}
use mathlib.Core.Bool.{true, false, true≢false}
use mathlib.Core.List.{List}
use lib.ListN.{length}
use borrow.Author.Tests.{eq-eqb}
use native.Mathlib.Omega.{arith}
use Rattle.word.specs.Word.{value_of}
use Rattle.swaps.specs.Remembered.{Remembered}
use Rattle.record.specs.Operation.{is_push}
use Rattle.record.specs.Record.{idle, at_stage, with_second}
use Rattle.record.specs.Valid.{valid_of}
use Rattle.record.specs.declared.Record.{Record}
use Rattle.party.proofs.Kept.{idle_is_valid}
use Rattle.stages.specs.Stages.{own, far, at_place, at_near}
use Rattle.stages.specs.Follow.{pop_at_far}
use Rattle.step.specs.Step.{max_of}
use Rattle.step.proofs.Went.{NotMisled}
use Rattle.invariant.specs.Invariant.{FreshFirst, FreshSecond, Sound}

module _ (strip : List ℕ) where
  abbrev Valid : Record → Type 0
  Valid r = valid_of (max_of (length strip)) r ≡ true

  -- before stage 2 nothing is remembered, and at stage 2 the first word, read just now
  pub early_sound : (r : Record) → Valid r → r.v < 4294967296 → r.stage ≤ 2 → (2 ≤ r.stage → FreshFirst strip r) → Sound strip r
  early_sound r valid fits early fresh =
      record {
        valid = valid;
        order_fits = fits;
        first_known = λ s. Remembered.fresh (fresh s);
        second_known = λ s. absurd (omega arith);
        first_not_own = λ s. absurd (omega arith);
        second_own = λ s. absurd (omega arith);
        pop_not_far = λ s. absurd (omega arith);
        push_behind = λ s. absurd (omega arith);
        pop_ahead = λ s. absurd (omega arith);
      }

  pub idle_sound : Sound strip idle
  idle_sound = early_sound idle (idle_is_valid (max_of (length strip))) (omega arith) (omega arith) (λ s. absurd (omega arith))

  module _ (r : Record) (sound : Sound strip r) where
    -- stage 2 passed its test: on to 3, or to 4 if the first value is not far null
    pub judged_sound : (stage : ℕ) → r.stage ≡ 2 → NotMisled strip r → 3 ≤ stage → stage ≤ 4
        → (4 ≤ stage → pop_at_far r ≡ false) → Valid (at_stage stage (with_second (at_place strip r) r))
        → Sound strip (at_stage stage (with_second (at_place strip r) r))
    judged_sound stage at right late early near valid =
        record {
          valid = valid;
          order_fits = sound.order_fits;
          first_known = λ s. sound.first_known (omega arith);
          second_known = λ s. Remembered.fresh refl;
          first_not_own = λ s. right.first_other;
          second_own = λ s. right.second_own;
          pop_not_far = λ s pop fresh is-far. true≢false (sym (rw (pop, eq-eqb (value_of r.first) (far r) is-far) refl) ∙ near s);
          push_behind = λ s. absurd (omega arith);
          pop_ahead = λ s. absurd (omega arith);
        }

    -- from stage 3 on the words are kept, and a stage adds what it asks of them
    later_sound : (stage : ℕ) → 3 ≤ r.stage → Valid (at_stage stage r)
        → (is_push r.operation ≡ false → FreshFirst strip r → value_of r.first ≡ far r → ⊥)
        → (stage ≡ 5 → is_push r.operation ≡ true → FreshSecond strip r → value_of (at_near strip r) ≡ own r → ⊥)
        → (stage ≡ 5 → is_push r.operation ≡ false → FreshFirst strip r → value_of (at_place strip r) ≡ own r)
        → Sound strip (at_stage stage r)
    later_sound stage late valid not-far behind ahead =
        record {
          valid = valid;
          order_fits = sound.order_fits;
          first_known = λ s. sound.first_known (omega arith);
          second_known = λ s. sound.second_known late;
          first_not_own = λ s. sound.first_not_own late;
          second_own = λ s. sound.second_own late;
          pop_not_far = λ s. not-far;
          push_behind = behind;
          pop_ahead = ahead;
        }

    -- stage 3 saw another word than its first
    pub rechecked_sound : r.stage ≡ 3 → (FreshFirst strip r → ⊥) → Valid (at_stage 4 r) → Sound strip (at_stage 4 r)
    rechecked_sound at unequal valid =
        later_sound 4 (omega arith) valid (λ pop fresh. absurd (unequal fresh)) (λ s. absurd (omega arith)) (λ s. absurd (omega arith))

    -- stage 4 met the word it remembered: a push its first, which is not own null; a pop its second, which is
    pub won_sound : r.stage ≡ 4 → (is_push r.operation ≡ true → FreshFirst strip r)
        → (is_push r.operation ≡ false → at_place strip r ≡ r.second) → Valid (at_stage 5 r) → Sound strip (at_stage 5 r)
    won_sound at pushed popped valid =
        later_sound 5 (omega arith) valid (sound.pop_not_far (omega arith))
        (λ s push fresh is-own. sound.first_not_own (omega arith) (ap value_of (sym (pushed push)) ∙ is-own))
        (λ s pop fresh. ap value_of (popped pop) ∙ sound.second_own (omega arith))
