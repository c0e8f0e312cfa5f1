-- Our words and records read as the figure's elements and lines, and what it is that a step is a line.
use Rattle.std.specs.Prelude.{ℕ, ◌≡◌, List, map, length, eqb}
use Rattle.logic.specs.Pick.{pick}
use Rattle.word.specs.Word.{value_of, counter_of}
use Rattle.record.specs.Operation.{is_push}
use Rattle.record.specs.declared.Record.{Record}
use Rattle.std.specs.declared.result.Result.TheVariants.{Ok}
use Rattle.party.specs.declared.Answer.TheVariants.{GoesOn, Pushed, Popped, Full, Empty}
use Rattle.refusal.specs.declared.Refusal.{Refusal}
use Rattle.party.specs.declared.Answered.{Answered}
use Rattle.step.specs.Step.{max_of, step_of, step_leaves}
use Rattle.figure.specs.Figure.{Element, element, Line, Next, told, After, run}

abbrev pub element_of : (word : ℕ) → Element
element_of word = element (value_of word) (counter_of word)

abbrev pub elements : List ℕ → List Element
elements strip = map element_of strip

abbrev pub push_line : Record → (hint : ℕ) → Line
push_line r hint =
    pick (eqb r.stage 1) (Line.RH2 r.v hint)
    (pick (eqb r.stage 2) (Line.RH3 r.v r.k (element_of r.first))
    (pick (eqb r.stage 4) (Line.RH6 r.v r.k (element_of r.first) (element_of r.second))
    (Line.RH7 r.v r.k (element_of r.first) (element_of r.second))))

abbrev pub pop_line : Record → (hint : ℕ) → Line
pop_line r hint =
    pick (eqb r.stage 1) (Line.RP2 hint)
    (pick (eqb r.stage 2) (Line.RP3 r.k (element_of r.first))
    (pick (eqb r.stage 3) (Line.RP5 r.k (element_of r.first) (element_of r.second))
    (pick (eqb r.stage 4) (Line.RP7 r.k (element_of r.first) (element_of r.second))
    (Line.RP8 r.k (element_of r.first) (element_of r.second)))))

-- the line that a record of the right side stands before; in stage 1 the hint is the oracle's answer
abbrev pub line_at : Record → (hint : ℕ) → Line
line_at r hint = pick (is_push r.operation) (push_line r hint) (pop_line r hint)

-- What a step gives says where the figure is: at the record's line, whatever the next hint; or returned. A refusal says nothing.
pub data Reaches (next : Next) (given : Answered Refusal) : Type 0 where
  goes_on : given.answer ≡ Ok GoesOn → ((hint : ℕ) → told hint next ≡ Next.on (line_at given.rec hint)) → Reaches next given
  pushed : given.answer ≡ Ok Pushed → next ≡ Next.ok → Reaches next given
  popped : (order : ℕ) → given.answer ≡ Ok (Popped order) → next ≡ Next.value order → Reaches next given
  filled : given.answer ≡ Ok Full → next ≡ Next.full → Reaches next given
  emptied : given.answer ≡ Ok Empty → next ≡ Next.empty → Reaches next given

-- What is given and left is what a line leaves.
pub record Matches (after : After) (given : Answered Refusal) (left : List ℕ) : Type 0 where
  pub array : after.array ≡ elements left
  pub next : Reaches after.next given

-- A step is the line that its record stands before: it leaves the same array and leads to the same line, or returns the same.
abbrev pub IsTheLine : List ℕ → Record → (hint : ℕ) → Type 0
IsTheLine strip r hint =
    Matches (run (max_of (length strip)) (elements strip) (line_at r hint)) (step_of strip r hint) (step_leaves strip r hint)
