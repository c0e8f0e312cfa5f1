-- What a call answers, in document 01's numbers, and what it gives of a record that it was handed by value.
use Rattle.std.specs.Prelude.{ℕ, ◌≡◌, Bool, true, ◌&&◌, ◌⊎◌, leb}
use Rattle.std.specs.declared.result.Result.{Result}
use Rattle.std.specs.declared.result.Result.TheVariants.{Ok, Err}
use Rattle.refusal.specs.declared.Refusal.{Refusal}
use Rattle.refusal.specs.Refusal.{refusal_number, Check}
use Rattle.record.specs.declared.Record.{Record}
use Rattle.party.specs.declared.Answer.{Answer}
use Rattle.party.specs.declared.Answer.TheVariants.{GoesOn, Pushed, Popped, Full, Empty}
use Rattle.party.specs.declared.Answered.{Answered}
use Rattle.record.specs.Record.{idle}

-- an answer's number, where a reason to refuse tells its own
abbrev pub number_by : {E : Type 0} → (told : E → ℕ) → Result Answer E → ℕ
number_by told (Ok GoesOn) = 0
number_by told (Ok Pushed) = 16
number_by told (Ok (Popped order)) = 17
number_by told (Ok Full) = 18
number_by told (Ok Empty) = 19
number_by told (Err refusal) = told refusal

-- of a call's answer, whose reasons are document 01's refusals
abbrev pub number_of : Result Answer Refusal → ℕ
number_of answer = number_by refusal_number answer

-- the order carried in a result is 0 unless 17
abbrev pub order_in : {E : Type 0} → Result Answer E → ℕ
order_in (Ok GoesOn) = 0
order_in (Ok Pushed) = 0
order_in (Ok (Popped order)) = order
order_in (Ok Full) = 0
order_in (Ok Empty) = 0
order_in (Err refusal) = 0

abbrev pub carried_of : Result Answer Refusal → ℕ
carried_of answer = order_in answer

-- the numbers of document 01's table that are refusals
abbrev pub is_refusal : (number : ℕ) → Bool
is_refusal number = leb 1 number && leb number 12

abbrev pub going_on : Record → Answered Refusal
going_on r = record { answer = Ok GoesOn; rec = r }

-- an answer behind which the record is all zero, as it is after a result
abbrev pub idle_after : {E : Type 0} → Result Answer E → Answered E
idle_after answer = record { answer = answer; rec = idle }

abbrev pub ends : Answer → Answered Refusal
ends answer = idle_after (Ok answer)

abbrev pub refused : {E : Type 0} → E → Record → Answered E
refused refusal r = record { answer = Err refusal; rec = r }

-- what a check decides: what the call does, or refused with the record as it was
abbrev pub unless : Check → Record → Answered Refusal → Answered Refusal
unless (Ok passed) r done = done
unless (Err refusal) r done = refused refusal r

-- A refused call gives the record back as it was and carries no order.
abbrev pub RefusedKeeps : Record → Answered Refusal → Type 0
RefusedKeeps r given = is_refusal (number_of given.answer) ≡ true → (given.rec ≡ r) × (carried_of given.answer ≡ 0)

-- a call is refused, or gives what is wanted
abbrev pub RefusedOr : (wanted given : Answered Refusal) → Type 0
RefusedOr wanted given = (is_refusal (number_of given.answer) ≡ true) ⊎ (given ≡ wanted)
