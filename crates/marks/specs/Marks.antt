-- The starred bench marks of document 01, as one table of cases.
use Rattle.std.specs.Prelude.{ℕ, Bool, true, ◌&&◌, List, [], ◌∷◌, map, eqb}
use Rattle.word.specs.Word.{◌·◌}
use Rattle.call.specs.Call.{Call}
use Rattle.call.specs.Call.Call.{start, step}
use Rattle.strip.specs.Lay.{fresh_strip}
use Rattle.strip.specs.Measure.{measure_of, measured_left}
use Rattle.history.specs.Run.{State, begin, lines_from, end_from}
use Rattle.schedule.specs.List.{listing_of}
use Rattle.marks.specs.Fight.{fight, fight_text}
use Rattle.marks.specs.Withdrawal.{withdrawal, withdrawal_text}
use Rattle.marks.specs.Seen.{Row, goes, refuses, ends, same_row, seen_from}
use Rattle.marks.specs.Replay.{all_same, is_explained}

-- What is run, from a strip and parties that are idle: the calls, each with what must be seen of it. Then the cells that must be left,
-- and L as measure gives it of them.
pub record Mark : Type 0 where
  pub strip : List ℕ
  pub parties : ℕ
  pub rows : List Row
  pub cells : List ℕ
  pub left : ℕ

abbrev pub mark_calls : Mark → List Call
mark_calls m = map (λ (row : Row). row.call) m.rows

abbrev pub mark_first : Mark → State
mark_first m = begin m.strip m.parties

-- All is seen as it must be, and the plain strip explains it.
abbrev pub holds : Mark → Bool
holds m =
    let calls = mark_calls m in
    let first = mark_first m in
    let last = (end_from first 0 calls).strip in
    all_same same_row (seen_from first 0 calls) m.rows
    && all_same eqb last m.cells
    && eqb (measured_left (measure_of last)) m.left
    && is_explained m.strip m.parties calls (lines_from first 0 calls) last

unfoldable pub all_hold : List Mark → Bool
all_hold [] = true
all_hold (m ∷ ms) = holds m && all_hold ms

abbrev pub right_push : ℕ
right_push = 0

abbrev pub right_pop : ℕ
right_pop = 1

abbrev pub left_push : ℕ
left_push = 2

abbrev pub left_pop : ℕ
left_pop = 3

-- MAX 2, divide 1 unless said
abbrev pub fresh : List ℕ
fresh = fresh_strip 2 1

abbrev pub after_M1 : List ℕ
after_M1 = 0 · 0 ∷ 0 · 1 ∷ 7 · 1 ∷ 1 · 0 ∷ []

-- M1: right push 7, hint 2, alone: four steps, cells 0.0 0.1 7.1 1.0
abbrev pub m1 : Mark
m1 =
    record {
      strip = fresh;
      parties = 1;
      rows =
          goes (start 0 right_push 7) 1
          ∷ goes (step 0 2) 2
          ∷ goes (step 0 0) 4
          ∷ goes (step 0 0) 5
          ∷ ends (step 0 0) 16 0 4
          ∷ [];
      cells = after_M1;
      left = 1;
    }

-- M3: the listing of document 01: the pop answers EMPTY after 7 stands in the strip, and comes before the push
abbrev pub m3 : Mark
m3 =
    record {
      strip = fresh;
      parties = 2;
      rows =
          goes (start 0 right_push 7) 1
          ∷ goes (start 1 right_pop 0) 1
          ∷ goes (step 0 2) 2
          ∷ goes (step 0 0) 4
          ∷ goes (step 0 0) 5
          ∷ goes (step 1 2) 2
          ∷ goes (step 1 0) 3
          ∷ ends (step 0 0) 16 0 7
          ∷ ends (step 1 0) 19 0 6
          ∷ [];
      cells = after_M1;
      left = 1;
    }

-- M11 is run by a program.
abbrev pub marks : List Mark
marks =
    m1
    -- M2: then right push 8, hint 3: FULL in two steps, though L is 1
    ∷ record {
      strip = after_M1;
      parties = 1;
      rows =
          goes (start 0 right_push 8) 1
          ∷ goes (step 0 3) 2
          ∷ ends (step 0 0) 18 0 1
          ∷ [];
      cells = after_M1;
      left = 1;
    }
    ∷ m3
    -- M4: right pop reads 0.0 at 1; right push 7 takes stages 1, 2, 4; pop takes stages 2, 3, 4; push's stage 5 loses;
    -- pop's stage 5 loses
    ∷ record {
      strip = fresh;
      parties = 2;
      rows =
          goes (start 0 right_pop 0) 1
          ∷ goes (start 1 right_push 7) 1
          ∷ goes (step 0 2) 2
          ∷ goes (step 1 2) 2
          ∷ goes (step 1 0) 4
          ∷ goes (step 1 0) 5
          ∷ goes (step 0 0) 3
          ∷ goes (step 0 0) 4
          ∷ goes (step 0 0) 5
          ∷ goes (step 1 0) 1
          ∷ goes (step 0 0) 1
          ∷ [];
      cells = 0 · 0 ∷ 0 · 1 ∷ 1 · 1 ∷ 1 · 0 ∷ [];
      left = 1;
    }
    -- M5: from M1, right pop (hint 3) and left pop (hint 1) both reach stage 5; right pop takes 7; left pop loses and with
    -- hint 1 then answers EMPTY
    ∷ record {
      strip = after_M1;
      parties = 2;
      rows =
          goes (start 0 right_pop 0) 1
          ∷ goes (start 1 left_pop 0) 1
          ∷ goes (step 0 3) 2
          ∷ goes (step 1 1) 2
          ∷ goes (step 0 0) 4
          ∷ goes (step 1 0) 4
          ∷ goes (step 0 0) 5
          ∷ goes (step 1 0) 5
          ∷ ends (step 0 0) 17 7 8
          ∷ goes (step 1 0) 1
          ∷ goes (step 1 1) 2
          ∷ goes (step 1 0) 3
          ∷ ends (step 1 0) 19 0 11
          ∷ [];
      cells = 0 · 0 ∷ 0 · 2 ∷ 1 · 2 ∷ 1 · 1 ∷ [];
      left = 1;
    }
    -- M6: right push, hint 3, fresh: stage 1 after two steps, strip unchanged
    ∷ record {
      strip = fresh;
      parties = 1;
      rows =
          goes (start 0 right_push 7) 1
          ∷ goes (step 0 3) 2
          ∷ goes (step 0 0) 1
          ∷ [];
      cells = fresh;
      left = 1;
    }
    -- M7: divide 2: right push, hint 3, FULL; left push 9, hint 2, PUSHED
    ∷ record {
      strip = fresh_strip 2 2;
      parties = 2;
      rows =
          goes (start 0 right_push 7) 1
          ∷ goes (step 0 3) 2
          ∷ ends (step 0 0) 18 0 1
          ∷ goes (start 1 left_push 9) 1
          ∷ goes (step 1 2) 2
          ∷ goes (step 1 0) 4
          ∷ goes (step 1 0) 5
          ∷ ends (step 1 0) 16 0 7
          ∷ [];
      cells = 0 · 0 ∷ 0 · 0 ∷ 9 · 1 ∷ 1 · 1 ∷ [];
      left = 1;
    }
    -- M8: right hints 0 and 3: 8 and taken
    ∷ record {
      strip = fresh;
      parties = 2;
      rows =
          goes (start 0 right_push 7) 1
          ∷ refuses (step 0 0) 8 1
          ∷ goes (step 0 3) 2
          ∷ goes (start 1 right_pop 0) 1
          ∷ refuses (step 1 0) 8 1
          ∷ goes (step 1 3) 2
          ∷ [];
      cells = fresh;
      left = 1;
    }
    -- M8: left hints 2 and 3: taken and 8
    ∷ record {
      strip = fresh;
      parties = 2;
      rows =
          goes (start 0 left_push 7) 1
          ∷ refuses (step 0 3) 8 1
          ∷ goes (step 0 2) 2
          ∷ goes (start 1 left_pop 0) 1
          ∷ refuses (step 1 3) 8 1
          ∷ goes (step 1 2) 2
          ∷ [];
      cells = fresh;
      left = 1;
    }
    -- M9: order 2 is 7; order 3 starts
    ∷ record {
      strip = fresh;
      parties = 2;
      rows =
          refuses (start 0 right_push 2) 7 0
          ∷ goes (start 0 right_push 3) 1
          ∷ refuses (start 1 left_push 2) 7 0
          ∷ goes (start 1 left_push 3) 1
          ∷ [];
      cells = fresh;
      left = 1;
    }
    -- M10: a push's stage 4 on an unchanged neighbour 0.4294967294 wins
    ∷ record {
      strip = 0 · 0 ∷ 0 · 4294967294 ∷ 1 · 0 ∷ 1 · 0 ∷ [];
      parties = 1;
      rows =
          goes (start 0 right_push 7) 1
          ∷ goes (step 0 2) 2
          ∷ goes (step 0 0) 4
          ∷ goes (step 0 0) 5
          ∷ [];
      cells = 0 · 0 ∷ 0 · 4294967295 ∷ 1 · 0 ∷ 1 · 0 ∷ [];
      left = 1;
    }
    -- M10: on 0.4294967295 it is 9
    ∷ record {
      strip = 0 · 0 ∷ 0 · 4294967295 ∷ 1 · 0 ∷ 1 · 0 ∷ [];
      parties = 1;
      rows =
          goes (start 0 right_push 7) 1
          ∷ goes (step 0 2) 2
          ∷ goes (step 0 0) 4
          ∷ refuses (step 0 0) 9 4
          ∷ [];
      cells = 0 · 0 ∷ 0 · 4294967295 ∷ 1 · 0 ∷ 1 · 0 ∷ [];
      left = 1;
    }
    ∷ []

-- M3 as it is printed: document 01's nine entries, as a schedule file, print its listing; and a second file prints its own.
abbrev pub prints : Bool
prints = all_same eqb (listing_of fight) fight_text && all_same eqb (listing_of withdrawal) withdrawal_text
