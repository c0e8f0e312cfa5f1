-- A call on a strip and its party's own record, one of so many parties: what it answers, the record it gives back and the words it
-- leaves.
use Rattle.std.specs.Prelude.{ℕ, ◌≡◌, true, List, length, set}
use Rattle.refusal.specs.Refusal.{if_passes}
use Rattle.party.specs.Answer.{number_of, is_refusal, unless, RefusedKeeps}
use Rattle.record.specs.declared.Record.{Record}
use Rattle.refusal.specs.declared.Refusal.{Refusal}
use Rattle.party.specs.declared.Answered.{Answered}
use Rattle.call.specs.Call.{Call, party_of, gate, own_of, own_leaves, Left, record_of}

-- refused before the record is looked at, or what the call does with it
unfoldable pub on_record_of : (strip : List ℕ) (parties : ℕ) → Record → Call → Answered Refusal
on_record_of strip parties r call = unless (gate (length strip) parties call) r (own_of strip r call)

unfoldable pub on_record_leaves : (strip : List ℕ) (parties : ℕ) → Record → Call → List ℕ
on_record_leaves strip parties r call = if_passes (gate (length strip) parties call) (own_leaves strip r call) strip

-- of a table: its party's record is what the call gives back
abbrev pub on_table : (strip : List ℕ) → List Record → Call → Left
on_table strip table call =
    record {
      answer = (on_record_of strip (length table) (record_of table call) call).answer;
      strip = on_record_leaves strip (length table) (record_of table call) call;
      table = set table (party_of call) (on_record_of strip (length table) (record_of table call) call).rec;
    }

-- A refused call gives the record back, carries no order and leaves every word.
abbrev pub ChangesNothing : (strip : List ℕ) → Record → Answered Refusal → List ℕ → Type 0
ChangesNothing strip r given words = RefusedKeeps r given × (is_refusal (number_of given.answer) ≡ true → words ≡ strip)
