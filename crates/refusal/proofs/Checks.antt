-- The two ways a check goes, what a ladder of checks has passed, and that a refusal's number is one of document 01's table.
use Rattle.std.specs.Prelude.{◌≤◌, ◌≡◌, Bool, true, false, is_ok}
use Rattle.std.proofs.Common.{refl, sym, ap, arith}
use mathlib.Core.Bool.{true≢false}
use Rattle.std.specs.declared.result.Result.TheVariants.{Ok, Err}
use Rattle.logic.specs.Pick.{pick}
use Rattle.refusal.specs.declared.Refusal.{Refusal}
use Rattle.refusal.specs.declared.Refusal.TheVariants.{WrongSize, WrongMark, WrongOperation, WrongParty, NotValid, Busy, Idle, WrongOrder, Outside, CounterAtEnd, NoPlace, NotShaped}
use Rattle.refusal.specs.Refusal.{refusal_number, Check, passes}

pub data Decided (c : Check) : Type 0 where
  none : c ≡ passes → Decided c
  some : (refusal : Refusal) → c ≡ Err refusal → Decided c

pub decided : (c : Check) → Decided c
decided (Ok done) = none refl
decided (Err refusal) = some refusal refl

-- A check that refuses does not pass.
pub refuses_is_not_passes : {refusal : Refusal} {c : Check} → c ≡ Err refusal → c ≡ passes → ⊥
refuses_is_not_passes {c = Ok done} e p = absurd (true≢false (ap is_ok e))
refuses_is_not_passes {c = Err refusal} e p = absurd (true≢false (sym (ap is_ok p)))

-- A ladder of checks that passes has passed its first test, and the rest of it passes.
pub passed : (refused : Bool) (refusal : Refusal) (rest : Check) → pick refused (Err refusal) rest ≡ passes
    → (refused ≡ false) × (rest ≡ passes)
passed true refusal rest e = absurd (refuses_is_not_passes refl e)
passed false refusal rest e = (refl, e)

-- A refusal's number is from 1 to 12.
pub refusal_is_small : (refusal : Refusal) → refusal_number refusal ≤ 12
refusal_is_small WrongSize = omega arith
refusal_is_small WrongMark = omega arith
refusal_is_small WrongOperation = omega arith
refusal_is_small WrongParty = omega arith
refusal_is_small NotValid = omega arith
refusal_is_small Busy = omega arith
refusal_is_small Idle = omega arith
refusal_is_small WrongOrder = omega arith
refusal_is_small Outside = omega arith
refusal_is_small CounterAtEnd = omega arith
refusal_is_small NoPlace = omega arith
refusal_is_small NotShaped = omega arith

pub refusal_is_not_0 : (refusal : Refusal) → refusal_number refusal ≡ 0 → ⊥
refusal_is_not_0 WrongSize e = absurd (omega arith)
refusal_is_not_0 WrongMark e = absurd (omega arith)
refusal_is_not_0 WrongOperation e = absurd (omega arith)
refusal_is_not_0 WrongParty e = absurd (omega arith)
refusal_is_not_0 NotValid e = absurd (omega arith)
refusal_is_not_0 Busy e = absurd (omega arith)
refusal_is_not_0 Idle e = absurd (omega arith)
refusal_is_not_0 WrongOrder e = absurd (omega arith)
refusal_is_not_0 Outside e = absurd (omega arith)
refusal_is_not_0 CounterAtEnd e = absurd (omega arith)
refusal_is_not_0 NoPlace e = absurd (omega arith)
refusal_is_not_0 NotShaped e = absurd (omega arith)
