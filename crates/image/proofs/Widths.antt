-- The records that the calls leave fit the widths of the image.
use Prim.Native.Nat.{ℕ, ◌<◌}
use mathlib.Core.Path.{◌≡◌, refl}
use mathlib.Core.Bool.{Bool, true, false}
use lib.Dec.{eqb}
use borrow.Author.Tests.{eqb-true}
use native.Mathlib.Omega.{arith}
use Rattle.logic.specs.Pick.{pick}
use Rattle.logic.proofs.Bools.{whichever}
use Rattle.word.specs.Word.{IsWord}
use Rattle.word.specs.declared.Swapped.{Swapped}
use Rattle.word.specs.declared.Swapped.TheVariants.{Won, Lost, Stuck}
use Rattle.record.specs.Record.{idle, begun, with_place}
use Rattle.record.specs.declared.Record.{Record}
use Rattle.refusal.specs.declared.Refusal.{Refusal}
use Rattle.party.specs.declared.Answered.{Answered}
use Rattle.stages.specs.Follow.{misled, push_at_wall, pop_at_far, judge_of, recheck_of, looked_of, swapped_of}
use Rattle.step.specs.Step.{aimed}
use Rattle.stages.specs.declared.AfterLook.{AfterLook}
use Rattle.stages.specs.declared.AfterLook.TheVariants.{Remember, Judge, Recheck}
use Rattle.stages.specs.declared.AfterSwap.{AfterSwap}
use Rattle.stages.specs.declared.AfterSwap.TheVariants.{Onward, Push, Pop}
use Rattle.format.specs.Spelling.{RecordFits}

pub idle_fits_lem : RecordFits idle
idle_fits_lem = omega arith

pub begun_fits : (operation v : ℕ) → operation < 256 → v < 4294967296 → RecordFits (begun operation v)
begun_fits operation v known narrow = omega arith

pub aimed_fits : (r : Record) (hint : ℕ) → RecordFits r → (r.stage ≡ 1 → hint < 65536) → RecordFits (aimed r hint)
aimed_fits r hint fits narrow = go (eqb r.stage 1) refl
  where
    go : (first : Bool) → eqb r.stage 1 ≡ first → RecordFits (with_place (pick first hint r.k) r)
    go true e = omega (arith, narrow (eqb-true r.stage 1 e), fits)
    go false e = omega (arith, fits)

abbrev LeavesFitting : Answered Refusal → Type 0
LeavesFitting given = RecordFits given.rec

module _ (max : ℕ) (r : Record) (fits : RecordFits r) where
  pub looked_fits : (then : AfterLook) (word : ℕ) → IsWord word → RecordFits (looked_of max r then word).rec
  unfolding judge_of recheck_of
  looked_fits Remember word narrow = omega (arith, fits)
  looked_fits Judge word narrow =
      whichever LeavesFitting (misled r word) (omega (arith, fits))
      (whichever LeavesFitting (push_at_wall max r) idle_fits_lem
      (whichever LeavesFitting (pop_at_far r) (omega (arith, fits)) (omega (arith, fits))))
  looked_fits Recheck word narrow = whichever LeavesFitting (eqb word r.first) idle_fits_lem (omega (arith, fits))

pub swapped_fits : (r : Record) → RecordFits r → (then : AfterSwap) (met : Swapped) → RecordFits (swapped_of r then met).rec
swapped_fits r fits Onward Won = omega (arith, fits)
swapped_fits r fits Push Won = idle_fits_lem
swapped_fits r fits Pop Won = idle_fits_lem
swapped_fits r fits Onward (Lost met) = omega (arith, fits)
swapped_fits r fits Push (Lost met) = omega (arith, fits)
swapped_fits r fits Pop (Lost met) = omega (arith, fits)
swapped_fits r fits Onward Stuck = fits
swapped_fits r fits Push Stuck = fits
swapped_fits r fits Pop Stuck = fits
