-- The mirror: left and right exchanged.
use Rattle.std.specs.Prelude.{ℕ, ◌+◌, ◌-◌, ◌≡◌, List, map, reverse, length, eqb, leb, ltb}
use Rattle.std.specs.declared.result.Result.{Result}
use Rattle.std.specs.declared.result.Result.TheVariants.{Ok, Err}
use Rattle.refusal.specs.declared.Refusal.{Refusal}
use Rattle.logic.specs.Pick.{pick}
use Rattle.word.specs.Word.{value_of, counter_of, word_of, LN, RN}
use Rattle.record.specs.Record.{with_operation, with_place, with_first, with_second}
use Rattle.record.specs.declared.Record.{Record}
use Rattle.party.specs.declared.Answer.{Answer}
use Rattle.party.specs.declared.Answer.TheVariants.{GoesOn, Pushed, Popped, Full, Empty}
use Rattle.party.specs.declared.Answered.{Answered}
use Rattle.step.specs.Step.{max_of, step_of, step_leaves}
use Rattle.figure.specs.Figure.{run}
use Rattle.figure.specs.Reading.{elements, line_at, Matches}

-- LN and RN are exchanged, every other value stays
abbrev pub mirror_value : (value : ℕ) → ℕ
mirror_value value = pick (eqb value LN) RN (pick (eqb value RN) LN value)

-- the counter is kept
abbrev pub mirror_word : (word : ℕ) → ℕ
mirror_word word = word_of (counter_of word) (mirror_value (value_of word))

abbrev pub mirror_strip : List ℕ → List ℕ
mirror_strip strip = reverse (map mirror_word strip)

-- a place, and so a hint
abbrev pub mirror_place : (max place : ℕ) → ℕ
mirror_place max place = max + 1 - place

-- 0 with 2 and 1 with 3
abbrev pub mirror_operation : (operation : ℕ) → ℕ
mirror_operation operation = pick (ltb operation 2) (operation + 2) (pick (ltb operation 4) (operation - 2) operation)

-- What a record holds from a stage on is mirrored from that stage on: the operation from 1, k and the first word from 2, the second
-- word from 3. Before that they are 0 and stay 0.
abbrev pub mirror_record : (max : ℕ) → Record → Record
mirror_record max r =
    with_operation (pick (leb 1 r.stage) (mirror_operation r.operation) r.operation)
    (with_place (pick (leb 2 r.stage) (mirror_place max r.k) r.k)
    (with_first (pick (leb 2 r.stage) (mirror_word r.first) r.first)
    (with_second (pick (leb 3 r.stage) (mirror_word r.second) r.second) r)))

abbrev pub mirror_answer : Result Answer Refusal → Result Answer Refusal
mirror_answer (Ok GoesOn) = Ok GoesOn
mirror_answer (Ok Pushed) = Ok Pushed
mirror_answer (Ok (Popped order)) = Ok (Popped (mirror_value order))
mirror_answer (Ok Full) = Ok Full
mirror_answer (Ok Empty) = Ok Empty
mirror_answer (Err refusal) = Err refusal

-- what a call gives: the answer and the record
abbrev pub mirror_answered : (max : ℕ) → Answered Refusal → Answered Refusal
mirror_answered max given = record { answer = mirror_answer given.answer; rec = mirror_record max given.rec }

-- what a call gave and left on the mirrored side is the mirror of what it gave and left
pub record Mirrors (max : ℕ) (given : Answered Refusal) (left : List ℕ) (given' : Answered Refusal) (left' : List ℕ) : Type 0 where
  pub answered : given' ≡ mirror_answered max given
  pub words : left' ≡ mirror_strip left

-- The step on the mirrored strip, of the mirrored record with the mirrored hint, mirrors the step.
abbrev pub StepMirrors : List ℕ → Record → (hint : ℕ) → Type 0
StepMirrors strip r hint =
    let max = max_of (length strip) in
    let r' = mirror_record max r in
    let hint' = mirror_place max hint in
    Mirrors max (step_of strip r hint) (step_leaves strip r hint)
    (step_of (mirror_strip strip) r' hint') (step_leaves (mirror_strip strip) r' hint')

-- A step is, in the mirror, the line that its mirrored record stands before: run on the mirrored strip, the line leaves the mirror of
-- what the step leaves, and leads to the line of the mirror of what it gives, or returns its answer.
abbrev pub IsTheMirroredLine : List ℕ → Record → (hint : ℕ) → Type 0
IsTheMirroredLine strip r hint =
    let max = max_of (length strip) in
    Matches (run max (elements (mirror_strip strip)) (line_at (mirror_record max r) (mirror_place max hint)))
    (mirror_answered max (step_of strip r hint)) (mirror_strip (step_leaves strip r hint))
