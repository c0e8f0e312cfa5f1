-- The call that runs a schedule file and writes its listing.
use Rattle.std.specs.Prelude.{ℕ, ◌+◌, ◌≡◌, not, ◌&&◌, List, ◌++◌, length, drop, eqb, leb}
use Rattle.std.specs.declared.result.Result.{Result}
use Rattle.std.specs.declared.result.Result.TheVariants.{Ok, Err}
use Rattle.logic.specs.Pick.{pick}
use Rattle.refusal.specs.declared.Refusal.{Refusal}
use Rattle.refusal.specs.declared.Refusal.TheVariants.{WrongSize}
use Rattle.refusal.specs.Refusal.{Check, if_passes}
use Rattle.history.specs.Run.{State, end_from}
use Rattle.listing.specs.Listing.{first_state, listing_text, listing_bound}
use Rattle.header.specs.Header.{parties_at, max_at}
use Rattle.schedule.specs.File.{divide_at, file_refusal, calls_of}

-- the strip is lent at its longest and any listing has room, whatever the file; then the file's own checks
unfoldable pub list_refusal : (file : List ℕ) (words room : ℕ) → Check
list_refusal file words room = pick (not (eqb words 4096 && leb listing_bound room)) (Err WrongSize) (file_refusal file)

-- what is written where no check refuses
abbrev pub listing_of : (file : List ℕ) → List ℕ
listing_of file = listing_text (max_at file) (divide_at file) (parties_at file) (calls_of file)

-- the strip as it is laid, every party idle
abbrev pub first_of : (file : List ℕ) → State
first_of file = first_state (max_at file) (divide_at file) (parties_at file)

-- the strip's words after the last entry
unfoldable pub words_at_end : (file : List ℕ) → List ℕ
words_at_end file = (end_from (first_of file) 0 (calls_of file)).strip

-- the listing's length, or the refusal
abbrev pub listed_of : (file : List ℕ) → Check → Result ℕ Refusal
listed_of file (Ok passed) = Ok (length (listing_of file))
listed_of file (Err refusal) = Err refusal

-- What list promises: its answer, and every word and byte it was lent. A refusal alters none.
pub record ListPromise (file strip out : List ℕ) (got : Result ℕ Refusal) (words bytes : List ℕ) : Type 0 where
  pub gives : got ≡ listed_of file (list_refusal file (length strip) (length out))
  -- the strip of MAX+2 words, then what was lent beyond it
  pub words_left : words ≡ if_passes (list_refusal file (length strip) (length out))
      (words_at_end file ++ drop (max_at file + 2) strip) strip
  pub bytes_left : bytes ≡ if_passes (list_refusal file (length strip) (length out))
      (listing_of file ++ drop (length (listing_of file)) out) out
