-- Why a call is refused, in document 01's numbers, and what a check decides.
use Rattle.std.specs.Prelude.{ℕ, ⊤}
use Rattle.std.specs.declared.result.Result.{Result}
use Rattle.std.specs.declared.result.Result.TheVariants.{Ok, Err}
use Rattle.refusal.specs.declared.Refusal.{Refusal}
use Rattle.refusal.specs.declared.Refusal.TheVariants.{WrongSize, WrongMark, WrongOperation, WrongParty, NotValid, Busy, Idle, WrongOrder, Outside, CounterAtEnd, NoPlace, NotShaped}

abbrev pub refusal_number : Refusal → ℕ
refusal_number WrongSize = 1
refusal_number WrongMark = 2
refusal_number WrongParty = 3
refusal_number NotValid = 4
refusal_number Busy = 5
refusal_number Idle = 6
refusal_number WrongOrder = 7
refusal_number Outside = 8
refusal_number CounterAtEnd = 9
refusal_number NoPlace = 10
refusal_number WrongOperation = 11
refusal_number NotShaped = 12

-- A check passes, or refuses.
abbrev pub Check : Type 0
Check = Result ⊤ Refusal

abbrev pub passes : Check
passes = Ok tt

-- document 01's number of what a check says: 0 where it passes
abbrev pub check_number : Check → ℕ
check_number (Ok passed) = 0
check_number (Err refusal) = refusal_number refusal

-- what a check decides: the first where it passes, the second where it refuses
abbrev pub if_passes : {A : Type 0} → Check → A → A → A
if_passes (Ok passed) a b = a
if_passes (Err refusal) a b = b
