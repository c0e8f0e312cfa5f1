-- A whole image piece by piece: the checks of reading one, the sizes of one that is written, and a record with its spare bytes.
use Rattle.std.specs.Prelude.{ℕ, zero, suc, ◌+◌, Bool, true, not, ◌&&◌, List, ◌++◌, eqb}
use Rattle.std.specs.declared.result.Result.TheVariants.{Err}
use Rattle.std.specs.Result.{result_and}
use Rattle.logic.specs.Pick.{pick}
use Rattle.refusal.specs.declared.Refusal.TheVariants.{WrongSize, NotValid}
use Rattle.refusal.specs.Refusal.{Check, passes}
use Rattle.record.specs.Valid.{valid_of}
use Rattle.record.specs.declared.Record.{Record}
use Rattle.step.specs.Step.{strip_fits, max_of}
use Rattle.call.specs.Call.{table_fits}
use Rattle.little.specs.Bytes.{bytes_of}
use Rattle.header.specs.Header.{max_at, parties_at, version_at}
use Rattle.format.specs.Format.{record_place, length_of, header_refusal, records_base}
use Rattle.format.specs.Spelling.{record_at, is_spare, record_bytes}

-- a test that holds of every number below a count
unfoldable pub all_below : (test : ℕ → Bool) (count : ℕ) → Bool
all_below test zero = true
all_below test (suc count) = all_below test count && test count

-- a strip of 3 to 4,096 words, a table of 1 to 16 records
abbrev pub lent_fits : (words parties : ℕ) → Bool
lent_fits words parties = strip_fits words && table_fits parties

-- the record at a place of the image is valid, and its spare bytes are zero
abbrev pub is_sound_at : (image : List ℕ) (max at : ℕ) → Bool
is_sound_at image max at = is_spare (version_at image) image at && valid_of max (record_at (version_at image) image at)

abbrev pub is_sound : (image : List ℕ) (max party : ℕ) → Bool
is_sound image max party = is_sound_at image max (record_place (records_base (version_at image) max) party)

abbrev pub agrees : (image : List ℕ) (words parties : ℕ) → Bool
agrees image words parties = eqb words (max_at image + 2) && eqb parties (parties_at image)

-- Reading: the sizes of the strip and table that are lent, the header's own checks, that they agree with it, then every record.
unfoldable pub read_refusal : (image : List ℕ) (words parties : ℕ) → Check
read_refusal image words parties =
    pick (not (lent_fits words parties)) (Err WrongSize)
    (result_and (header_refusal image)
    (pick (not (agrees image words parties)) (Err WrongSize)
    (pick (not (all_below (is_sound image (max_at image)) (parties_at image))) (Err NotValid) passes)))

-- Writing makes images of version 1 and looks at no byte already there: the strip, the table and the exact length.
abbrev pub sizes_agree : (bytes words parties : ℕ) → Bool
sizes_agree bytes words parties = lent_fits words parties && eqb bytes (length_of 1 (max_of words) parties)

-- a record's 32 bytes, the last 8 of them zero
abbrev pub party_bytes : (version : ℕ) → Record → List ℕ
party_bytes version r = record_bytes version r ++ bytes_of 8 0
