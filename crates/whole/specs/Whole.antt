-- Reading a whole image into a lent strip and table, and writing one from them: what its checks say, and every word, record and byte
-- left.
use Rattle.std.specs.Prelude.{ℕ, ◌≡◌, Bool, not, List, [], ◌∷◌, ◌++◌, length, get_or}
use Rattle.std.specs.declared.result.Result.TheVariants.{Err}
use Rattle.logic.specs.Pick.{pick}
use Rattle.refusal.specs.declared.Refusal.TheVariants.{WrongSize, NotValid}
use Rattle.refusal.specs.Refusal.{Check, passes, if_passes}
use Rattle.record.specs.Record.{idle}
use Rattle.record.specs.Valid.{valid_of}
use Rattle.record.specs.declared.Record.{Record}
use Rattle.step.specs.Step.{max_of}
use Rattle.format.specs.Spelling.{strip_of, table_of, word_bytes}
use Rattle.format.specs.Fresh.{header_bytes}
use Rattle.pieces.specs.Pieces.{all_below, read_refusal, sizes_agree, party_bytes}

pub record ReadPromise (image strip : List ℕ) (table : List Record) (check : Check) (words : List ℕ) (records : List Record) : Type 0 where
  pub check_read : check ≡ read_refusal image (length strip) (length table)
  pub words_read : words ≡ if_passes (read_refusal image (length strip) (length table)) (strip_of image) strip
  pub records_read : records ≡ if_passes (read_refusal image (length strip) (length table)) (table_of image) table

abbrev pub is_valid_in : (words : ℕ) (table : List Record) (party : ℕ) → Bool
is_valid_in words table party = valid_of (max_of words) (get_or table party idle)

-- Writing: the strip, the table and the exact length, then every record.
unfoldable pub write_refusal : (bytes words : ℕ) (table : List Record) → Check
write_refusal bytes words table =
    pick (not (sizes_agree bytes words (length table))) (Err WrongSize)
    (pick (not (all_below (is_valid_in words table) (length table))) (Err NotValid) passes)

unfoldable pub table_bytes : (version : ℕ) → List Record → List ℕ
table_bytes version [] = []
table_bytes version (r ∷ table) = party_bytes version r ++ table_bytes version table

-- the bytes that spell a strip and a table
abbrev pub written_of : (strip : List ℕ) (table : List Record) → List ℕ
written_of strip table = header_bytes 1 (max_of (length strip)) (length table) ++ (word_bytes strip ++ table_bytes 1 table)

pub record WritePromise (image strip : List ℕ) (table : List Record) (check : Check) (bytes : List ℕ) : Type 0 where
  pub check_written : check ≡ write_refusal (length image) (length strip) table
  pub bytes_written : bytes ≡ if_passes (write_refusal (length image) (length strip) table) (written_of strip table) image
