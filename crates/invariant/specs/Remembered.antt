-- No public promise speaks of this file, nor does demand 3's theorem: the proof goes by it. What a record at stage 2 or 3 remembers
-- of the plain strip at its last look, which FULL and EMPTY will name, and what a record's operation gives on a plain strip.
use Rattle.std.specs.Prelude.{ℕ, ◌≡◌, true, List, length}
use Rattle.word.specs.Word.{value_of}
use Rattle.party.specs.Answer.{number_of, carried_of}
use Rattle.record.specs.declared.Record.{Record}
use Rattle.std.specs.declared.result.Result.{Result}
use Rattle.refusal.specs.declared.Refusal.{Refusal}
use Rattle.party.specs.declared.Answer.{Answer}
use Rattle.plain.specs.Plain.{Plain}
use Rattle.plain.specs.Play.{room, Yields}
use Rattle.stages.specs.Stages.{own}
use Rattle.stages.specs.Follow.{push_at_wall}
use Rattle.step.specs.Step.{max_of}
use Rattle.invariant.specs.Invariant.{FreshFirst}

-- `then` is the plain strip at the record's last look in stage 1 or 2
pub record Remembers (strip : List ℕ) (r : Record) (then : Plain) : Type 0 where
  pub full_then : r.stage ≡ 2 → push_at_wall (max_of (length strip)) r ≡ true → (value_of r.first ≡ own r → ⊥)
      → room r.operation then ≡ 0
  pub empty_then : r.stage ≡ 3 → FreshFirst strip r → length then.orders ≡ 0

-- the record's operation, played on the plain strip p, gives this answer and leaves q
abbrev pub RecordYields : Record → Plain → Result Answer Refusal → Plain → Type 0
RecordYields r p answer q = Yields r.operation r.v p (number_of answer) (carried_of answer) q
