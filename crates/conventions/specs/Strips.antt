-- Lay, measure and find; and value 2, which is reserved: no order to measure, not null to a step.
use Rattle.std.specs.Prelude.{ℕ, List, [], ◌∷◌, length}
use Rattle.word.specs.Word.{◌·◌}
use Rattle.record.specs.declared.Record.{Record}
use Rattle.party.specs.Answer.{number_of, carried_of}
use Rattle.step.specs.Step.{step_of}
use Rattle.strip.specs.Lay.{lay_refusal, laid_number}
use Rattle.strip.specs.Measure.{measure_of, measured_number, measured_left, measured_orders, measured_right}
use Rattle.find.specs.Find.{find_of, found_number, found_place}
use Rattle.conventions.specs.Case.{Case, ◌is◌}
use Rattle.conventions.specs.Given.{rec, fresh, two_words}

-- 1 before 8; the divide is 0 to MAX
abbrev pub lays : List Case
lays =
    laid_number (lay_refusal (length two_words) 3) is 1
    ∷ laid_number (lay_refusal (length fresh) 3) is 8
    ∷ laid_number (lay_refusal (length fresh) 2) is 0
    ∷ laid_number (lay_refusal (length fresh) 0) is 0
    ∷ []

abbrev pub measured : List ℕ → ℕ
measured strip = measured_number (measure_of strip)

-- L 1, three orders, R 2; counters play no part
abbrev pub held : List ℕ
held = 0 · 5 ∷ 0 · 0 ∷ 7 · 1 ∷ 8 · 0 ∷ 3 · 9 ∷ 1 · 4 ∷ 1 · 0 ∷ 1 · 6 ∷ []

-- 1 before 12; one or more LN, orders of 3 and up, one or more RN, and nothing after them; a refusal gives 0
abbrev pub measures : List Case
measures =
    measured two_words is 1
    ∷ measured (0 · 0 ∷ 0 · 0 ∷ 0 · 0 ∷ []) is 12
    ∷ measured (1 · 0 ∷ 1 · 0 ∷ 1 · 0 ∷ []) is 12
    ∷ measured (0 · 0 ∷ 2 · 0 ∷ 1 · 0 ∷ []) is 12
    ∷ measured (0 · 0 ∷ 1 · 0 ∷ 7 · 0 ∷ []) is 12
    ∷ measured (0 · 0 ∷ 7 · 0 ∷ 0 · 0 ∷ 1 · 0 ∷ []) is 12
    ∷ measured held is 0
    ∷ measured_left (measure_of held) is 1
    ∷ measured_orders (measure_of held) is 3
    ∷ measured_right (measure_of held) is 2
    ∷ measured_left (measure_of two_words) is 0
    ∷ measured_orders (measure_of two_words) is 0
    ∷ measured_right (measure_of two_words) is 0
    ∷ []

-- value 2 at place 1
abbrev pub reserved : List ℕ
reserved = 0 · 0 ∷ 2 · 0 ∷ 1 · 0 ∷ 1 · 0 ∷ []

-- two places for each side: 1 and 3 for the right, 0 and 2 for the left
abbrev pub twice : List ℕ
twice = 0 · 0 ∷ 1 · 0 ∷ 0 · 0 ∷ 1 · 0 ∷ []

-- 1 before 10, with place 0; the first place from 1 up, and the first from MAX down, which may be 0; value 2 is a neighbour like an order
abbrev pub finds : List Case
finds =
    found_number (find_of 0 two_words) is 1
    ∷ found_number (find_of 2 two_words) is 1
    ∷ found_number (find_of 0 (1 · 0 ∷ 1 · 0 ∷ 1 · 0 ∷ [])) is 10
    ∷ found_number (find_of 2 (0 · 0 ∷ 0 · 0 ∷ 0 · 0 ∷ [])) is 10
    ∷ found_place (find_of 2 two_words) is 0
    ∷ found_place (find_of 0 twice) is 1
    ∷ found_place (find_of 2 twice) is 2
    ∷ found_number (find_of 2 (0 · 0 ∷ 1 · 0 ∷ 1 · 0 ∷ [])) is 0
    ∷ found_place (find_of 2 (0 · 0 ∷ 1 · 0 ∷ 1 · 0 ∷ [])) is 0
    ∷ found_place (find_of 0 reserved) is 2
    ∷ found_number (find_of 2 reserved) is 0
    ∷ []

-- the stage after a step in another stage than 1
abbrev pub stage_after : List ℕ → Record → ℕ
stage_after strip r = (step_of strip r 0).rec.stage

-- beside it a push and a pop go to stage 4; at it, as at any word but own null, back to stage 1; and it is popped as it stands
abbrev pub twos : List Case
twos =
    stage_after reserved (rec 0 2 2 3 (2 · 0) 0) is 4
    ∷ stage_after reserved (rec 1 2 2 0 (2 · 0) 0) is 4
    ∷ stage_after reserved (rec 0 2 1 3 (0 · 0) 0) is 1
    ∷ stage_after reserved (rec 2 2 1 3 (1 · 0) 0) is 1
    ∷ number_of (step_of reserved (rec 1 5 2 0 (2 · 0) (1 · 0)) 0).answer is 17
    ∷ carried_of (step_of reserved (rec 1 5 2 0 (2 · 0) (1 · 0)) 0).answer is 2
    ∷ []
