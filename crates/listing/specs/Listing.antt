-- The listing of a run, as document 01 prints it.
use Rattle.std.specs.Prelude.{ℕ, suc, ◌<◌, List, [], ◌∷◌, ◌++◌}
use Rattle.logic.specs.Pick.{pick}
use Rattle.word.specs.Word.{value_of, counter_of}
use Rattle.call.specs.Call.{Call, party_of}
use Rattle.strip.specs.Lay.{fresh_strip}
use Rattle.history.specs.Run.{State, Line, begin, lines_from, end_from}
use Rattle.history.specs.Finished.{is_result}
use Rattle.text.specs.Text.{decimal, spaced}

-- the entry where the operation took effect, or "-"
abbrev pub effect_text : Line → List ℕ
effect_text line = pick (is_result line.number) (decimal line.effect) (45 ∷ [])

-- entry, party, number, carried order, effect
abbrev pub line_text : (entry : ℕ) → Call → Line → List ℕ
line_text entry call line =
    decimal entry
    ++ (spaced (party_of call) ++ (spaced line.number ++ (spaced line.carried ++ (32 ∷ (effect_text line ++ (10 ∷ []))))))

unfoldable pub lines_text : (entry : ℕ) → List Call → List Line → List ℕ
lines_text entry [] lines = []
lines_text entry (call ∷ calls) [] = []
lines_text entry (call ∷ calls) (line ∷ lines) = line_text entry call line ++ lines_text (suc entry) calls lines

-- of a run from a state and an entry number on
abbrev pub run_text : State → (entry : ℕ) → List Call → List ℕ
run_text s entry calls = lines_text entry calls (lines_from s entry calls)

-- "strip MAX divide parties N"
abbrev pub header_text : (max divide parties : ℕ) → List ℕ
header_text max divide parties =
    (115 ∷ 116 ∷ 114 ∷ 105 ∷ 112 ∷ [])
    ++ (spaced max ++ (spaced divide ++ ((32 ∷ 112 ∷ 97 ∷ 114 ∷ 116 ∷ 105 ∷ 101 ∷ 115 ∷ []) ++ (spaced parties ++ (10 ∷ [])))))

-- value.counter
abbrev pub word_text : (word : ℕ) → List ℕ
word_text word = spaced (value_of word) ++ (46 ∷ decimal (counter_of word))

-- of each word
unfoldable pub words_text : List ℕ → List ℕ
words_text [] = 10 ∷ []
words_text (word ∷ words) = word_text word ++ words_text words

-- "cells", then the words
abbrev pub cells_text : List ℕ → List ℕ
cells_text strip = (99 ∷ 101 ∷ 108 ∷ 108 ∷ 115 ∷ []) ++ words_text strip

-- a fresh strip with every party idle
abbrev pub first_state : (max divide parties : ℕ) → State
first_state max divide parties = begin (fresh_strip max divide) parties

-- header, a line for each entry, cells
unfoldable pub listing_text : (max divide parties : ℕ) → List Call → List ℕ
listing_text max divide parties calls =
    let first = first_state max divide parties in
    header_text max divide parties ++ (run_text first 0 calls ++ cells_text (end_from first 0 calls).strip)

-- the party of an entry is a byte
abbrev pub Narrow : Call → Type 0
Narrow call = party_of call < 256

-- a bound: no listing of a schedule file is longer
abbrev pub listing_bound : ℕ
listing_bound = 147489
