-- What the bytes of an image spell as words and records, and an image with its words and records spelled anew.
use Rattle.std.specs.Prelude.{ℕ, zero, suc, ◌+◌, ◌<◌, Bool, List, [], ◌∷◌, ◌++◌, get_or, eqb}
use Rattle.std.proofs.lemmas.List.Edits.{sets}
use Rattle.record.specs.declared.Record.{Record}
use Rattle.little.specs.Bytes.{number_at, bytes_of}
use Rattle.header.specs.Header.{version_at, parties_at, max_at}
use Rattle.format.specs.Format.{words_base, records_in}

unfoldable pub words_from : (image : List ℕ) (at count : ℕ) → List ℕ
words_from image at zero = []
words_from image at (suc count) = number_at 8 image at ∷ words_from image (at + 8) count

abbrev pub strip_of : List ℕ → List ℕ
strip_of image = words_from image words_base (max_at image + 2)

-- a record, alike in every version that is known: 0 operation, 1 stage, 2..3 k, 4..7 v, 8..15 first word, 16..23 second word
unfoldable pub record_at : (version : ℕ) (image : List ℕ) (at : ℕ) → Record
record_at version image at =
    record {
      operation = get_or image at 0;
      stage = get_or image (at + 1) 0;
      k = number_at 2 image (at + 2);
      v = number_at 4 image (at + 4);
      first = number_at 8 image (at + 8);
      second = number_at 8 image (at + 16);
    }

-- each field is as wide as in the image
pub record RecordFits (r : Record) : Type 0 where
  pub operation_fits : r.operation < 256
  pub stage_fits : r.stage < 256
  pub k_fits : r.k < 65536
  pub v_fits : r.v < 4294967296
  pub first_fits : r.first < 18446744073709551616
  pub second_fits : r.second < 18446744073709551616

unfoldable pub records_from : (version : ℕ) (image : List ℕ) (at count : ℕ) → List Record
records_from version image at zero = []
records_from version image at (suc count) = record_at version image at ∷ records_from version image (at + 32) count

abbrev pub table_of : List ℕ → List Record
table_of image = records_from (version_at image) image (records_in image) (parties_at image)

-- bytes 24..31 of a record are zero
abbrev pub is_spare : (version : ℕ) (image : List ℕ) (at : ℕ) → Bool
is_spare version image at = eqb (number_at 8 image (at + 24)) 0

-- the bytes that spell words, and a record's first 24
unfoldable pub word_bytes : List ℕ → List ℕ
word_bytes [] = []
word_bytes (word ∷ words) = bytes_of 8 word ++ word_bytes words

abbrev pub record_bytes : (version : ℕ) → Record → List ℕ
record_bytes version r =
    (r.operation ∷ r.stage ∷ [])
    ++ (bytes_of 2 r.k ++ (bytes_of 4 r.v ++ (bytes_of 8 r.first ++ bytes_of 8 r.second)))

unfoldable pub with_records : (version : ℕ) (image : List ℕ) (at : ℕ) → List Record → List ℕ
with_records version image at [] = image
with_records version image at (r ∷ rs) = with_records version (sets image at (record_bytes version r)) (at + 32) rs

-- the image with these words and records, all else as it was
unfoldable pub spelled : (image : List ℕ) → List ℕ → List Record → List ℕ
spelled image strip table =
    with_records (version_at image) (sets image words_base (word_bytes strip)) (records_in image) table
