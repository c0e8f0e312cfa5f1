-- Every step keeps a sane state sane.
use Prim.Native.Nat.{ℕ, ◌≤◌, ◌<◌}
use mathlib.Core.Path.{◌≡◌, refl, sym, ◌∙◌, ap}
use mathlib.Core.Bool.{true}
use mathlib.Core.List.{List}
use lib.ListN.{length, get_or, set}
use native.Mathlib.Omega.{arith}
use Rattle.record.specs.Record.{idle, again}
use Rattle.record.specs.Valid.{valid_of}
use Rattle.record.specs.declared.Record.{Record}
use Rattle.refusal.specs.declared.Refusal.{Refusal}
use Rattle.party.specs.declared.Answered.{Answered}
use Rattle.step.specs.Step.{strip_fits, max_of, step_of, step_leaves}
use Rattle.step.proofs.Kept.{step_keeps_valid}
use Rattle.step.proofs.Accesses.{Gone}
use Rattle.step.proofs.Went.{GoneOn}
use Rattle.invariant.specs.Invariant.{Sound, Sane}
use Rattle.invariant.proofs.Moves.{early_sound, idle_sound, judged_sound, rechecked_sound}
use Rattle.invariant.proofs.Sanity.{set_early_sane}
use Rattle.invariant.proofs.Swaps.{push_4_sane, pop_4_sane, push_5_sane, pop_5_sane}

module _ (strip : List ℕ) (table : List Record) (party hint : ℕ) (fits : strip_fits (length strip) ≡ true)
    (known : party < length table) (sane : Sane strip table) where
  abbrev r : Record
  r = get_or table party idle

  sound : Sound strip r
  sound = sane.sound party known

  -- what the step leaves is sane if what it went to is, and what it went to is valid
  gone_sane : {given : Answered Refusal} {left : List ℕ} → Gone strip r hint given left → Sane left (set table party given.rec)
      → Sane (step_leaves strip r hint) (set table party (step_of strip r hint).rec)
  gone_sane gone done = rw (gone.answered, gone.words) done

  gone_valid : {given : Answered Refusal} {left : List ℕ} → Gone strip r hint given left → valid_of (max_of (length strip)) given.rec ≡ true
  gone_valid gone =
      ap (λ (a : Answered Refusal). valid_of (max_of (length strip)) a.rec) (sym gone.answered)
      ∙ step_keeps_valid strip r hint sound.valid

  -- nothing was written: the record alone is new, and not at stage 5
  quiet : {given : Answered Refusal} → Gone strip r hint given strip → Sound strip given.rec → given.rec.stage ≤ 4
      → Sane (step_leaves strip r hint) (set table party (step_of strip r hint).rec)
  quiet gone now early = gone_sane gone (set_early_sane sane party now early)

  again_sound : valid_of (max_of (length strip)) (again r) ≡ true → Sound strip (again r)
  again_sound valid = early_sound strip (again r) valid sound.order_fits (omega arith) (λ s. absurd (omega arith))

  pub step_sane : GoneOn strip r hint → Sane (step_leaves strip r hint) (set table party (step_of strip r hint).rec)
  step_sane (GoneOn.remembers s gone) =
      quiet gone (early_sound strip _ (gone_valid gone) sound.order_fits (omega arith) (λ s. refl)) (omega arith)
  step_sane (GoneOn.drops s d gone) = quiet gone (again_sound (gone_valid gone)) (omega arith)
  step_sane (GoneOn.fills s d w gone) = quiet gone (idle_sound strip) (omega arith)
  step_sane (GoneOn.doubts s d f gone) =
      quiet gone
      (judged_sound strip r sound 3 s d (omega arith) (omega arith) (λ late. absurd (omega arith)) (gone_valid gone)) (omega arith)
  step_sane (GoneOn.readies s d w f gone) =
      quiet gone (judged_sound strip r sound 4 s d (omega arith) (omega arith) (λ late. f) (gone_valid gone)) (omega arith)
  step_sane (GoneOn.empties s e gone) = quiet gone (idle_sound strip) (omega arith)
  step_sane (GoneOn.rechecks s e gone) = quiet gone (rechecked_sound strip r sound s e (gone_valid gone)) (omega arith)
  step_sane (GoneOn.push_4 s p t gone) = gone_sane gone (push_4_sane strip table party fits known sane s p t (gone_valid gone))
  step_sane (GoneOn.pop_4 s p t gone) = gone_sane gone (pop_4_sane strip table party fits known sane s p t (gone_valid gone))
  step_sane (GoneOn.push_5 s p t gone) = gone_sane gone (push_5_sane strip table party fits known sane s p t)
  step_sane (GoneOn.pop_5 s p t gone) = gone_sane gone (pop_5_sane strip table party fits known sane s p t)
  step_sane (GoneOn.loses place from to then access other gone) = quiet gone (again_sound (gone_valid gone)) (omega arith)
