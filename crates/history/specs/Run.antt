-- A run: a list of calls, the entries of a schedule, one after the other, each with its line.
use Rattle.std.specs.Prelude.{ℕ, suc, Bool, true, false, ◌&&◌, ◌||◌, List, [], ◌∷◌, map, get_or, set, replicate, eqb}
use Rattle.logic.specs.Pick.{pick}
use Rattle.record.specs.Record.{idle}
use Rattle.party.specs.Answer.{number_of, carried_of}
use Rattle.record.specs.declared.Record.{Record}
use Rattle.call.specs.Call.{Call, Left, party_of, record_of, call_of}

-- stands for what is past the end of a list of calls
abbrev pub no_call : Call
no_call = Call.withdraw 0

-- the strip, the table, and for each party the entry of its last look in stage 1 or 2
pub record State : Type 0 where
  pub strip : List ℕ
  pub table : List Record
  pub looks : List ℕ

-- a strip with every party idle
abbrev pub begin : (strip : List ℕ) (parties : ℕ) → State
begin strip parties = record { strip = strip; table = replicate parties idle; looks = replicate parties 0 }

-- what an entry's line says: the number, the carried order, and the entry where the operation took effect, if it did
pub record Line : Type 0 where
  pub number : ℕ
  pub carried : ℕ
  pub effect : ℕ

-- the columns of lines
abbrev pub line_numbers : List Line → List ℕ
line_numbers lines = map (λ (line : Line). line.number) lines

abbrev pub line_orders : List Line → List ℕ
line_orders lines = map (λ (line : Line). line.carried) lines

abbrev pub line_effects : List Line → List ℕ
line_effects lines = map (λ (line : Line). line.effect) lines

-- stands for what is past the end of a list of lines
abbrev pub no_line : Line
no_line = record { number = 0; carried = 0; effect = 0 }

abbrev pub goes_on : (number : ℕ) → Bool
goes_on number = eqb number 0

abbrev pub is_step : Call → Bool
is_step (Call.start party operation order) = false
is_step (Call.step party hint) = true
is_step (Call.withdraw party) = false

-- a step that goes on from stage 1 or 2 has looked: an answer FULL or EMPTY will name its entry
abbrev pub looked : State → Call → (number : ℕ) → Bool
looked s call number =
    is_step call && goes_on number
    && (eqb (record_of s.table call).stage 1 || eqb (record_of s.table call).stage 2)

-- PUSHED and POPPED took effect at the answering entry, FULL and EMPTY at the entry that is noted for the party
abbrev pub effect_by : (noted : List ℕ) (entry : ℕ) → Call → (number : ℕ) → ℕ
effect_by noted entry call number = pick (eqb number 18 || eqb number 19) (get_or noted (party_of call) 0) entry

abbrev pub after : State → Call → Left
after s call = call_of s.strip s.table call

-- the number that a call is answered with
abbrev pub number_in : State → Call → ℕ
number_in s call = number_of (after s call).answer

-- whether party i looks at this entry
abbrev pub looks_now : State → Call → (i : ℕ) → Bool
looks_now s call i = looked s call (number_in s call) && eqb i (party_of call)

unfoldable pub line_of : State → (entry : ℕ) → Call → Line
line_of s entry call =
    record {
      number = number_in s call;
      carried = carried_of (after s call).answer;
      effect = effect_by s.looks entry call (number_in s call);
    }

unfoldable pub leaves : State → (entry : ℕ) → Call → State
leaves s entry call =
    record {
      strip = (after s call).strip;
      table = (after s call).table;
      looks = pick (looked s call (number_in s call)) (set s.looks (party_of call) entry) s.looks;
    }

-- from entry number `entry` on: the lines, and the state at the end
unfoldable pub lines_from : State → (entry : ℕ) → List Call → List Line
lines_from s entry [] = []
lines_from s entry (call ∷ calls) = line_of s entry call ∷ lines_from (leaves s entry call) (suc entry) calls

unfoldable pub end_from : State → (entry : ℕ) → List Call → State
end_from s entry [] = s
end_from s entry (call ∷ calls) = end_from (leaves s entry call) (suc entry) calls
