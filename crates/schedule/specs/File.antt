-- The schedule file: its header, its entries, and when it is refused.
use Rattle.std.specs.Prelude.{ℕ, zero, suc, ◌+◌, ◌-◌, ◌/◌, ◌%◌, Bool, not, ◌&&◌, List, [], ◌∷◌, length, eqb, leb, ltb}
use Rattle.std.specs.declared.result.Result.TheVariants.{Err}
use Rattle.logic.specs.Pick.{pick}
use Rattle.refusal.specs.declared.Refusal.TheVariants.{WrongSize, WrongMark, Outside}
use Rattle.refusal.specs.Refusal.{Check, passes}
use Rattle.little.specs.Bytes.{number_at}
use Rattle.call.specs.Call.{Call}
use Rattle.header.specs.Header.{is_marked, version_at, parties_at, max_at, counts_fit}
use Rattle.entry.specs.Entry.{call_at}

-- behind the header's common part
abbrev pub divide_at : List ℕ → ℕ
divide_at file = number_at 2 file 8

-- whole entries of 8 bytes after a header of 10, at most 2,048
abbrev pub length_fits : (length : ℕ) → Bool
length_fits length = eqb ((length - 10) % 8) 0 && leb ((length - 10) / 8) 2048

abbrev pub entries_of : List ℕ → ℕ
entries_of file = (length file - 10) / 8

-- 1 for what is too short to have a header, 2 for the mark "PDO" or another version than 1, then 1 for what the header says, then 8
unfoldable pub file_refusal : List ℕ → Check
file_refusal file =
    pick (ltb (length file) 10) (Err WrongSize)
    (pick (not (is_marked 79 file && eqb (version_at file) 1)) (Err WrongMark)
    (pick (not (counts_fit (max_at file) (parties_at file) && length_fits (length file))) (Err WrongSize)
    (pick (not (leb (divide_at file) (max_at file))) (Err Outside) passes)))

unfoldable pub calls_from : (file : List ℕ) (at count : ℕ) → List Call
calls_from file at zero = []
calls_from file at (suc count) = call_at file at ∷ calls_from file (at + 8) count

abbrev pub calls_of : List ℕ → List Call
calls_of file = calls_from file 10 (entries_of file)
