-- What the calls on lent records promise: the one definition of a call on a strip and a table, and nothing beside it.
use Rattle.std.specs.Prelude.{ℕ, ◌+◌, ◌≡◌, List, [], ◌∷◌, replicate}
use Rattle.std.specs.declared.result.Result.{Result}
use Rattle.refusal.specs.declared.Refusal.{Refusal}
use Rattle.record.specs.declared.Record.{Record}
use Rattle.party.specs.declared.Answer.{Answer}
use Rattle.party.specs.Answer.{carried_of}
use Rattle.call.specs.Call.{Call, call_of}

-- the answer, the order that comes back with it, every word of the strip and every record of the table
pub record Does (strip : List ℕ) (table : List Record) (call : Call) (answer : Result Answer Refusal) (carried : ℕ) (words : List ℕ) (left : List Record) : Type 0 where
  pub answer_is : answer ≡ (call_of strip table call).answer
  pub carried_is : carried ≡ carried_of (call_of strip table call).answer
  pub words_left : words ≡ (call_of strip table call).strip
  pub records_left : left ≡ (call_of strip table call).table

-- A record that is lent alone is a table of one.
abbrev pub alone : Record → List Record
alone r = r ∷ []

-- Start and withdraw are handed MAX and no strip. They look at a strip's length alone, so MAX stands for any strip of MAX+2
-- words, here of zeros.
abbrev pub blank : (max : ℕ) → List ℕ
blank max = replicate (max + 2) 0

abbrev pub DoesAtMax : (max : ℕ) (table : List Record) (call : Call) (answer : Result Answer Refusal) (carried : ℕ) (left : List Record) → Type 0
DoesAtMax max table call answer carried left = Does (blank max) table call answer carried (blank max) left
