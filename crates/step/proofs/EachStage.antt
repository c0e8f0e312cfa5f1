-- The table of stages, stage by stage.
use Prim.Native.Nat.{ℕ}
use mathlib.Core.Path.{◌≡◌}
use mathlib.Core.Bool.{true, false}
use borrow.Author.Tests.{ne_eqb}
use Rattle.word.specs.Word.{value_of}
use Rattle.record.specs.Operation.{is_push}
use Rattle.record.specs.Record.{with_place}
use Rattle.record.specs.declared.Record.{Record}
use Rattle.stages.specs.Stages.{near, own, access_of}
use Rattle.step.specs.Step.{aimed}
use Rattle.stages.specs.declared.AfterLook.TheVariants.{Remember, Judge, Recheck}
use Rattle.stages.specs.declared.AfterSwap.TheVariants.{Onward, Push, Pop}
use Rattle.stages.specs.declared.Access.TheVariants.{Look, Swap}

pub stage_1 : (r : Record) → r.stage ≡ 1 → access_of r ≡ Look (near r) Remember
unfolding access_of
stage_1 r s = rw s

pub stage_2 : (r : Record) → r.stage ≡ 2 → access_of r ≡ Look r.k Judge
unfolding access_of
stage_2 r s = rw s

pub stage_3 : (r : Record) → r.stage ≡ 3 → access_of r ≡ Look (near r) Recheck
unfolding access_of
stage_3 r s = rw s

pub stage_4_push : (r : Record) → r.stage ≡ 4 → is_push r.operation ≡ true
    → access_of r ≡ Swap (near r) r.first (value_of r.first) Onward
unfolding access_of
stage_4_push r s p = simp (s, p)

pub stage_4_pop : (r : Record) → r.stage ≡ 4 → is_push r.operation ≡ false → access_of r ≡ Swap r.k r.second (own r) Onward
unfolding access_of
stage_4_pop r s p = simp (s, p)

pub stage_5_push : (r : Record) → r.stage ≡ 5 → is_push r.operation ≡ true → access_of r ≡ Swap r.k r.second r.v Push
unfolding access_of
stage_5_push r s p = simp (s, p)

pub stage_5_pop : (r : Record) → r.stage ≡ 5 → is_push r.operation ≡ false → access_of r ≡ Swap (near r) r.first (own r) Pop
unfolding access_of
stage_5_pop r s p = simp (s, p)

-- stage 1 takes the hint as k, the others keep theirs
pub aimed_first : (r : Record) (hint : ℕ) → r.stage ≡ 1 → with_place hint r ≡ aimed r hint
aimed_first r hint s = simp s

pub aimed_later : (r : Record) (hint : ℕ) → (r.stage ≡ 1 → ⊥) → r ≡ aimed r hint
aimed_later r hint s = simp (ne_eqb r.stage 1 s)
