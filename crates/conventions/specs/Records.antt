-- When a record is valid, clause by clause, at MAX 2: what a withdrawal says of it. The columns are operation, stage, k, v, first and
-- second word.
use Rattle.std.specs.Prelude.{ℕ, List, [], ◌∷◌, ◌++◌}
use Rattle.party.specs.Answer.{number_of}
use Rattle.party.specs.Calls.{withdraw_of}
use Rattle.conventions.specs.Case.{Case, ◌is◌}
use Rattle.conventions.specs.Given.{rec}

abbrev pub judged : (operation stage k v first second : ℕ) → ℕ
judged operation stage k v first second = number_of (withdraw_of 2 (rec operation stage k v first second)).answer

-- valid, and withdrawn; valid, and idle; not valid
abbrev pub ok : (operation stage k v first second : ℕ) → Case
ok operation stage k v first second = judged operation stage k v first second is 0

abbrev pub rests : (operation stage k v first second : ℕ) → Case
rests operation stage k v first second = judged operation stage k v first second is 6

abbrev pub bad : (operation stage k v first second : ℕ) → Case
bad operation stage k v first second = judged operation stage k v first second is 4

-- stage 0 has every field 0
abbrev pub stage0 : List Case
stage0 =
    rests 0 0 0 0 0 0
    ∷ bad 1 0 0 0 0 0
    ∷ bad 0 0 1 0 0 0
    ∷ bad 0 0 0 3 0 0
    ∷ bad 0 0 0 0 1 0
    ∷ bad 0 0 0 0 0 1
    ∷ []

-- stages 1 to 5 have operation 0..3 with v at least 3 for a push and 0 for a pop, here stage 1; there is no stage 6
abbrev pub operations : List Case
operations =
    ok 0 1 0 3 0 0
    ∷ ok 1 1 0 0 0 0
    ∷ ok 2 1 0 3 0 0
    ∷ ok 3 1 0 0 0 0
    ∷ bad 0 1 0 2 0 0
    ∷ bad 1 1 0 3 0 0
    ∷ bad 2 1 0 2 0 0
    ∷ bad 3 1 0 3 0 0
    ∷ bad 4 1 0 3 0 0
    ∷ bad 4 1 0 0 0 0
    ∷ bad 1 6 1 0 0 0
    ∷ []

-- stage 1 has k and both words 0
abbrev pub stage1 : List Case
stage1 =
    bad 1 1 1 0 0 0
    ∷ bad 1 1 0 0 1 0
    ∷ bad 1 1 0 0 0 1
    ∷ []

-- k is 1..3 for a right pop, 0..2 for a left pop, whatever the words; v is 0, and no operation is 4
abbrev pub ranges : (stage first second : ℕ) → List Case
ranges stage first second =
    bad 1 stage 0 0 first second
    ∷ ok 1 stage 1 0 first second
    ∷ ok 1 stage 3 0 first second
    ∷ bad 1 stage 4 0 first second
    ∷ ok 3 stage 0 0 first second
    ∷ ok 3 stage 2 0 first second
    ∷ bad 3 stage 3 0 first second
    ∷ bad 1 stage 1 3 first second
    ∷ bad 3 stage 1 3 first second
    ∷ bad 4 stage 1 0 first second
    ∷ []

-- stage 2 has k in range and second word 0; a push may be at its wall
abbrev pub stage2 : List Case
stage2 =
    ranges 2 5 0
    ++ (ok 0 2 3 3 5 0
    ∷ ok 2 2 0 3 5 0
    ∷ bad 0 2 3 2 5 0
    ∷ bad 2 2 0 2 5 0
    ∷ bad 1 2 1 0 5 1
    ∷ bad 3 2 1 0 5 1
    ∷ [])

-- stage 3 is a pop, with k in range
abbrev pub stage3 : List Case
stage3 =
    ranges 3 5 6
    ++ (bad 0 3 2 3 5 6
    ∷ bad 2 3 1 3 5 6
    ∷ [])

-- stages 4 and 5 have k in range, and a push's k is not the wall
abbrev pub swap_stage : (stage : ℕ) → List Case
swap_stage stage =
    ranges stage 5 6
    ++ (ok 0 stage 1 3 5 6
    ∷ ok 0 stage 2 3 5 6
    ∷ bad 0 stage 2 2 5 6
    ∷ bad 0 stage 3 3 5 6
    ∷ bad 2 stage 0 3 5 6
    ∷ ok 2 stage 1 3 5 6
    ∷ ok 2 stage 2 3 5 6
    ∷ bad 2 stage 2 2 5 6
    ∷ [])
