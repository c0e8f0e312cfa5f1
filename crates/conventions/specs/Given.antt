-- What the cases are given: words, strips, records and a table, for MAX 2.
use Rattle.std.specs.Prelude.{ℕ, List, [], ◌∷◌}
use Rattle.word.specs.Word.{◌·◌}
use Rattle.record.specs.declared.Record.{Record}
use Rattle.record.specs.Record.{idle, begun, at_stage, with_place, with_first, with_second}
use Rattle.strip.specs.Lay.{fresh_strip}

abbrev pub fresh : List ℕ
fresh = fresh_strip 2 1

-- too short, and without an LN
abbrev pub two_words : List ℕ
two_words = 1 · 0 ∷ 1 · 0 ∷ []

-- a record, field by field
abbrev pub rec : (operation stage k v first second : ℕ) → Record
rec operation stage k v first second =
    with_second second (with_first first (with_place k (at_stage stage (begun operation v))))

-- a right push that has started
abbrev pub busy : Record
busy = begun 0 3

-- not valid: busy, with a place in stage 1
abbrev pub spoilt : Record
spoilt = rec 0 1 2 3 0 0

-- not valid: idle, with a field that is not 0
abbrev pub soiled : Record
soiled = rec 0 0 0 3 0 0

-- a right pop that takes 7 at its next step; the strip before that step, and after it
abbrev pub popping : Record
popping = rec 1 5 2 0 (7 · 1) (1 · 0)

abbrev pub before_pop : List ℕ
before_pop = 0 · 0 ∷ 7 · 1 ∷ 1 · 1 ∷ 1 · 0 ∷ []

abbrev pub after_pop : List ℕ
after_pop = 0 · 0 ∷ 1 · 2 ∷ 1 · 1 ∷ 1 · 0 ∷ []

-- parties 0 to 3, one of each kind
abbrev pub table : List Record
table = spoilt ∷ soiled ∷ busy ∷ idle ∷ []
