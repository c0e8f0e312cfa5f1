-- What the checks of a file give where none refuses. No public promise speaks of these.
use Rattle.std.specs.Prelude.{ℕ, List, map}
use Rattle.std.specs.declared.result.Result.{Result}
use Rattle.std.specs.declared.result.Result.TheVariants.{Ok}
use Rattle.std.specs.Result.{result_and}
use Rattle.refusal.specs.declared.Refusal.{Refusal}
use Rattle.call.specs.Call.{Call}
use Rattle.entry.specs.Entry.{call_at}
use Rattle.header.specs.Header.{parties_at, max_at}
use Rattle.schedule.specs.File.{divide_at, file_refusal}
use Rattle.schedule.specs.List.{list_refusal}
use Rattle.schedule.specs.declared.Header.{Header}

abbrev pub taken_header : List ℕ → Header
taken_header file = record { max = max_at file; divide = divide_at file; parties = parties_at file }

unfoldable pub header_of : List ℕ → Result Header Refusal
header_of file = result_and (file_refusal file) (Ok (taken_header file))

-- the same where the strip and the room that are lent are looked at first
unfoldable pub listed_header : List ℕ → (words room : ℕ) → Result Header Refusal
listed_header file words room = result_and (list_refusal file words room) (Ok (taken_header file))

-- the calls of entries cut out of their file
abbrev pub calls_in : List (List ℕ) → List Call
calls_in entries = map (λ entry. call_at entry 0) entries
