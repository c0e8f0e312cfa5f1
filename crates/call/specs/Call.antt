-- Start, step and withdraw of a party on a strip and a table of records: what a call answers and leaves. Whatever holds a table,
-- a run, an image or lent records, promises this.
use Rattle.std.specs.Prelude.{ℕ, ◌<◌, ◌≡◌, Bool, false, not, ◌&&◌, List, length, get_or, set, leb, ltb}
use Rattle.std.specs.declared.result.Result.{Result}
use Rattle.std.specs.declared.result.Result.TheVariants.{Ok, Err}
use Rattle.logic.specs.Pick.{pick}
use Rattle.refusal.specs.declared.Refusal.{Refusal}
use Rattle.refusal.specs.declared.Refusal.TheVariants.{WrongSize, WrongOperation, WrongParty}
use Rattle.refusal.specs.Refusal.{Check, passes}
use Rattle.record.specs.Record.{idle}
use Rattle.party.specs.Answer.{carried_of}
use Rattle.party.specs.Calls.{start_of, withdraw_of}
use Rattle.record.specs.declared.Record.{Record}
use Rattle.party.specs.declared.Answer.{Answer}
use Rattle.party.specs.declared.Answered.{Answered}
use Rattle.step.specs.Step.{strip_fits, max_of, step_of, step_leaves}

pub data Call : Type 0 where
  start : (party operation order : ℕ) → Call
  step : (party hint : ℕ) → Call
  withdraw : (party : ℕ) → Call

abbrev pub party_of : Call → ℕ
party_of (start party operation order) = party
party_of (step party hint) = party
party_of (withdraw party) = party

-- 1 to 16 parties
abbrev pub table_fits : (parties : ℕ) → Bool
table_fits parties = leb 1 parties && leb parties 16

-- an operation above 3
abbrev pub is_unknown : Call → Bool
is_unknown (start party operation order) = ltb 3 operation
is_unknown (step party hint) = false
is_unknown (withdraw party) = false

-- An order is 32 bits wide, as the call's parameter is. Every other number may be any.
abbrev pub Fitting : Call → Type 0
Fitting (start party operation order) = order < 4294967296
Fitting (step party hint) = Unit {0}
Fitting (withdraw party) = Unit {0}

-- the checks before the record's own: sizes, operation, party number
abbrev pub gate_of : (words parties : ℕ) (unknown : Bool) (party : ℕ) → Check
gate_of words parties unknown party =
    pick (not (strip_fits words && table_fits parties)) (Err WrongSize)
    (pick unknown (Err WrongOperation)
    (pick (leb parties party) (Err WrongParty) passes))

unfoldable pub gate : (words parties : ℕ) → Call → Check
gate words parties call = gate_of words parties (is_unknown call) (party_of call)

-- the call on the party's own record
abbrev pub own_of : (strip : List ℕ) → Record → Call → Answered Refusal
own_of strip r (start party operation order) = start_of (max_of (length strip)) r operation order
own_of strip r (step party hint) = step_of strip r hint
own_of strip r (withdraw party) = withdraw_of (max_of (length strip)) r

abbrev pub own_leaves : (strip : List ℕ) → Record → Call → List ℕ
own_leaves strip r (start party operation order) = strip
own_leaves strip r (step party hint) = step_leaves strip r hint
own_leaves strip r (withdraw party) = strip

-- what a call answers, and the strip and the table it leaves
pub record Left : Type 0 where
  pub answer : Result Answer Refusal
  pub strip : List ℕ
  pub table : List Record

abbrev pub record_of : List Record → Call → Record
record_of table call = get_or table (party_of call) idle

abbrev pub through : List ℕ → List Record → Call → Left
through strip table call =
    record {
      answer = (own_of strip (record_of table call) call).answer;
      strip = own_leaves strip (record_of table call) call;
      table = set table (party_of call) (own_of strip (record_of table call) call).rec;
    }

abbrev pub turned_away : List ℕ → List Record → Refusal → Left
turned_away strip table refusal = record { answer = Err refusal; strip = strip; table = table }

-- what the gate decides: through to the party's own record, or turned away
abbrev pub past : Check → List ℕ → List Record → Call → Left
past (Ok passed) strip table call = through strip table call
past (Err refusal) strip table call = turned_away strip table refusal

unfoldable pub call_of : List ℕ → List Record → Call → Left
call_of strip table call = past (gate (length strip) (length table) call) strip table call

-- What a refused call leaves: it carries no order and leaves every word and every record.
pub record Unchanged (strip : List ℕ) (table : List Record) (left : Left) : Type 0 where
  pub carried : carried_of left.answer ≡ 0
  pub strip_kept : left.strip ≡ strip
  pub table_kept : left.table ≡ table
