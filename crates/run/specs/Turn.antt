-- One entry on its party. No public promise and no theorem about schedules rests on this file: it is what the run's functions say of
-- themselves.
use Rattle.std.specs.Prelude.{ℕ, ◌%◌, Bool, true, false, ◌&&◌, ◌||◌, List, Option, Some, None, eqb}
use Rattle.std.specs.declared.result.Result.{Result}
use Rattle.std.specs.declared.result.Result.TheVariants.{Ok, Err}
use Rattle.logic.specs.Pick.{pick}
use Rattle.refusal.specs.declared.Refusal.{Refusal}
use Rattle.party.specs.declared.Answer.{Answer}
use Rattle.party.specs.declared.Answer.TheVariants.{GoesOn, Pushed, Popped, Full, Empty}
use Rattle.party.specs.declared.Answered.{Answered}
use Rattle.call.specs.Call.{Call, party_of}
use Rattle.entry.specs.OnRecord.{on_record_of}
use Rattle.history.specs.Run.{is_step}
use Rattle.run.specs.declared.Party.{Party}
use Rattle.run.specs.declared.Turn.{Turn}

-- where an operation took effect, if it did: PUSHED and POPPED at the answering entry, FULL and EMPTY at the party's last look
abbrev pub effect_of : Result Answer Refusal → (look entry : ℕ) → Option ℕ
effect_of (Ok GoesOn) look entry = None
effect_of (Ok Pushed) look entry = Some entry
effect_of (Ok (Popped order)) look entry = Some entry
effect_of (Ok Full) look entry = Some look
effect_of (Ok Empty) look entry = Some look
effect_of (Err refusal) look entry = None

abbrev pub is_going_on : Result Answer Refusal → Bool
is_going_on (Ok GoesOn) = true
is_going_on (Ok Pushed) = false
is_going_on (Ok (Popped order)) = false
is_going_on (Ok Full) = false
is_going_on (Ok Empty) = false
is_going_on (Err refusal) = false

-- a step that goes on from stage 1 or 2 has looked
abbrev pub look_of : Answered Refusal → (steps : Bool) → (before : Party) → (entry : ℕ) → ℕ
look_of a steps before entry =
    pick (steps && is_going_on a.answer && (eqb before.rec.stage 1 || eqb before.rec.stage 2)) entry before.look

abbrev pub told_of : Answered Refusal → (steps : Bool) → (before : Party) → (entry : ℕ) → Turn
told_of a steps before entry =
    record {
      answer = a.answer;
      effect = effect_of a.answer before.look entry;
      party = record { rec = a.rec; look = look_of a steps before entry };
    }

abbrev pub turn_of : (strip : List ℕ) (parties : ℕ) → Party → (entry : ℕ) → Call → Turn
turn_of strip parties party entry call = told_of (on_record_of strip parties party.rec call) (is_step call) party entry

-- the place of a call's party in arrays of 16
abbrev pub party_in_16 : Call → ℕ
party_in_16 call = party_of call % 16
