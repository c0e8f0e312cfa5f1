-- Two marks' runs with one effect moved, as a wrong listing would have it.
use Rattle.std.specs.Prelude.{ℕ, List, get_or, set}
use Rattle.history.specs.Run.{Line, no_line, lines_from}
use Rattle.history.specs.Finished.{Finished, finished_of}
use Rattle.marks.specs.Marks.{Mark, mark_calls, mark_first, m1, m3}

abbrev pub mark_lines : Mark → List Line
mark_lines m = lines_from (mark_first m) 0 (mark_calls m)

-- what is read as finished from a mark's calls and these lines
abbrev pub finished_by : Mark → List Line → List Finished
finished_by m lines = finished_of m.parties (mark_calls m) lines

-- the lines of a mark's run, that of one entry with another effect
abbrev pub moved : Mark → (entry effect : ℕ) → List Line
moved m entry effect =
    let line = get_or (mark_lines m) entry no_line in
    set (mark_lines m) entry (record { number = line.number; carried = line.carried; effect = effect })

-- M3: EMPTY, answered by entry 8, took effect at its look, entry 6; here at its answer
abbrev pub empty_at_its_answer : List Finished
empty_at_its_answer = finished_by m3 (moved m3 8 8)

-- M1: PUSHED, answered by entry 4, took effect there; here at its start, entry 0
abbrev pub pushed_at_its_start : List Finished
pushed_at_its_start = finished_by m1 (moved m1 4 0)
