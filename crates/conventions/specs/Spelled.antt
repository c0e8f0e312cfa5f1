-- One image spelled out in bytes, after C calls: orders pushed at both ends, one popped again, one call refused, a push left in the
-- middle.
use Rattle.std.specs.Prelude.{ℕ, List, [], ◌∷◌, ◌++◌, replicate}
use Rattle.word.specs.Word.{◌·◌}
use Rattle.record.specs.declared.Record.{Record}
use Rattle.record.specs.Record.{idle}
use Rattle.call.specs.Call.{Call}
use Rattle.call.specs.Call.Call.{start, step}
use Rattle.image.specs.Calls.{lay_of}
use Rattle.conventions.specs.Given.{rec}

-- laid over any bytes: MAX 4, 2 parties, divide 2
abbrev pub laid_image : List ℕ
laid_image = (lay_of (replicate 120 255) 4 2 2).image

-- a party starts an operation and makes its first steps, each of which goes on, the first with a hint
abbrev pub begins : (party operation order hint : ℕ) → List Call
begins party operation order hint =
    start party operation order ∷ step party hint ∷ step party 0 ∷ step party 0 ∷ []

abbrev pub in_turn : List Call
in_turn =
    -- right push 70,000, and a step of the party that is idle then
    begins 0 0 70000 3 ++ (step 0 0 ∷ step 0 0
    -- left push 300
    ∷ (begins 1 2 300 2 ++ (step 1 0
    -- left pop
    ∷ (begins 1 3 0 1 ++ (step 1 0
    -- left push 500
    ∷ (begins 1 2 500 2 ++ (step 1 0
    -- left push 66,051, up to its second swap
    ∷ begins 1 2 66051 1)))))))

-- 16 is PUSHED, 6 the refusal; 17 + 2^32 × 300 is POPPED with 300
abbrev pub answers : List ℕ
answers =
    0 ∷ 0 ∷ 0 ∷ 0 ∷ 16 ∷ 6 ∷
    0 ∷ 0 ∷ 0 ∷ 0 ∷ 16 ∷
    0 ∷ 0 ∷ 0 ∷ 0 ∷ 1288490188817 ∷
    0 ∷ 0 ∷ 0 ∷ 0 ∷ 16 ∷
    0 ∷ 0 ∷ 0 ∷ 0 ∷ []

-- the header; six words; 32 bytes of each party
abbrev pub bytes : List ℕ
bytes =
    80 ∷ 68 ∷ 83 ∷ 1 ∷ 0 ∷ 2 ∷ 4 ∷ 0 ∷
    0 ∷ 0 ∷ 0 ∷ 0 ∷ 0 ∷ 0 ∷ 0 ∷ 0 ∷
    0 ∷ 0 ∷ 0 ∷ 0 ∷ 1 ∷ 0 ∷ 0 ∷ 0 ∷
    244 ∷ 1 ∷ 0 ∷ 0 ∷ 5 ∷ 0 ∷ 0 ∷ 0 ∷
    112 ∷ 17 ∷ 1 ∷ 0 ∷ 3 ∷ 0 ∷ 0 ∷ 0 ∷
    1 ∷ 0 ∷ 0 ∷ 0 ∷ 0 ∷ 0 ∷ 0 ∷ 0 ∷
    1 ∷ 0 ∷ 0 ∷ 0 ∷ 0 ∷ 0 ∷ 0 ∷ 0 ∷
    0 ∷ 0 ∷ 0 ∷ 0 ∷ 0 ∷ 0 ∷ 0 ∷ 0 ∷
    0 ∷ 0 ∷ 0 ∷ 0 ∷ 0 ∷ 0 ∷ 0 ∷ 0 ∷
    0 ∷ 0 ∷ 0 ∷ 0 ∷ 0 ∷ 0 ∷ 0 ∷ 0 ∷
    0 ∷ 0 ∷ 0 ∷ 0 ∷ 0 ∷ 0 ∷ 0 ∷ 0 ∷
    2 ∷ 5 ∷ 1 ∷ 0 ∷ 3 ∷ 2 ∷ 1 ∷ 0 ∷
    244 ∷ 1 ∷ 0 ∷ 0 ∷ 4 ∷ 0 ∷ 0 ∷ 0 ∷
    0 ∷ 0 ∷ 0 ∷ 0 ∷ 1 ∷ 0 ∷ 0 ∷ 0 ∷
    0 ∷ 0 ∷ 0 ∷ 0 ∷ 0 ∷ 0 ∷ 0 ∷ 0 ∷ []

-- the same as words and records
abbrev pub words : List ℕ
words = 0 · 0 ∷ 0 · 1 ∷ 500 · 5 ∷ 70000 · 3 ∷ 1 · 0 ∷ 1 · 0 ∷ []

abbrev pub parties : List Record
parties = idle ∷ rec 2 5 1 66051 (500 · 4) (0 · 1) ∷ []
