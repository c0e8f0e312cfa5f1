-- Decoding and encoding are inverse both ways, and what is laid for one word and one record is what the image spells.
use Prim.Native.Nat.{ℕ, zero, suc, ◌+◌, ◌*◌, ◌≤◌, ◌<◌}
use mathlib.Core.Path.{◌≡◌, refl, sym, ◌∙◌, ap}
use mathlib.Core.List.{List, [], ◌∷◌}
use lib.ListN.{length, get_or, set}
use lib.Seq.{sets}
use native.Mathlib.Omega.{arith}
use Rattle.logic.specs.Every.{Every}
use Rattle.word.specs.Word.{IsWord}
use Rattle.record.specs.Record.{idle}
use Rattle.record.specs.declared.Record.{Record}
use Rattle.little.specs.Bytes.{number_at, bytes_of, AreBytes}
use Rattle.header.specs.Header.{version_at, parties_at, max_at}
use Rattle.format.specs.Format.{words_base, word_place, length_of, records_in, party_place}
use Rattle.format.specs.Spelling.{strip_of, table_of, record_at, word_bytes, record_bytes, spelled, RecordFits}
use Rattle.little.proofs.Runs.{past_a_run}
use Rattle.little.proofs.Digits.{length_bytes, digits_are_bytes, bytes_stay, same_number}
use Rattle.format.proofs.Parts.{Part, parts_from, with_parts, length_parts, length_with, below_parts, past_parts, same_parts, read_parts_laid, one_part_laid, part_at, laid_parts_read, parts_leave_bytes}
use Rattle.format.proofs.Words.{word_part, words_are_parts, words_laid_are_parts}
use Rattle.format.proofs.Records.{length_record, record_part, records_are_parts, records_laid_are_parts}

-- a record as the image's own version has it
abbrev own_part : List ℕ → Part Record
own_part image = record_part (version_at image)

abbrev words_spelled : List ℕ → List ℕ → List ℕ
words_spelled image strip = with_parts word_part image words_base strip

spelled_is : (image strip : List ℕ) (table : List Record)
    → spelled image strip table ≡ with_parts (own_part image) (words_spelled image strip) (records_in image) table
unfolding spelled
spelled_is image strip table =
    records_laid_are_parts (version_at image) table (sets image words_base (word_bytes strip)) (records_in image)
    ∙ ap (λ (l : List ℕ). with_parts (own_part image) l (records_in image) table) (words_laid_are_parts strip image words_base)

strip_is : (image : List ℕ) → strip_of image ≡ parts_from word_part image words_base (max_at image + 2)
strip_is image = words_are_parts (max_at image + 2) image words_base

table_is : (image : List ℕ) → table_of image ≡ parts_from (own_part image) image (records_in image) (parties_at image)
table_is image = records_are_parts (version_at image) (parties_at image) image (records_in image)

pub strip_length : (image : List ℕ) → length (strip_of image) ≡ max_at image + 2
strip_length image = rw (strip_is image) (length_parts word_part (max_at image + 2) image words_base)

pub table_length : (image : List ℕ) → length (table_of image) ≡ parties_at image
table_length image = rw (table_is image) (length_parts (own_part image) (parties_at image) image (records_in image))

-- A word of the strip and a record of the table are read where they stand.
pub word_is_read : (image : List ℕ) (place : ℕ) → place < max_at image + 2
    → get_or (strip_of image) place 0 ≡ number_at 8 image (word_place words_base place)
word_is_read image place h = rw (strip_is image) (part_at word_part (max_at image + 2) image words_base place 0 h)

pub record_is_read : (image : List ℕ) (party : ℕ) → party < parties_at image
    → get_or (table_of image) party idle ≡ record_at (version_at image) image (party_place image party)
record_is_read image party h =
    rw (table_is image) (part_at (own_part image) (parties_at image) image (records_in image) party idle h)

module _ (image : List ℕ) (are : AreBytes image) where
  words_kept : words_spelled image (strip_of image) ≡ image
  words_kept = rw (strip_is image) (read_parts_laid word_part (max_at image + 2) image words_base are)

  -- What was decoded, spelled again, is the image.
  pub decoded_is_spelled : spelled image (strip_of image) (table_of image) ≡ image
  decoded_is_spelled =
      spelled_is image (strip_of image) (table_of image)
      ∙ rw (words_kept, table_is image) (read_parts_laid (own_part image) (parties_at image) image (records_in image) are)

  -- With one record set, the bytes of that record alone are laid.
  pub record_is_laid : (party : ℕ) (r : Record) → RecordFits r → party < parties_at image
      → spelled image (strip_of image) (set (table_of image) party r)
      ≡ sets image (party_place image party) (record_bytes (version_at image) r)
  record_is_laid party r fits h =
      spelled_is image (strip_of image) (set (table_of image) party r)
      ∙ rw (words_kept, table_is image)
      (one_part_laid (own_part image) (parties_at image) image (records_in image) party r are fits h)

  -- With one word set too, the bytes of that word and of that record.
  pub both_are_laid : (place w party : ℕ) (r : Record) → IsWord w → place < max_at image + 2 → RecordFits r → party < parties_at image
      → spelled image (set (strip_of image) place w) (set (table_of image) party r)
      ≡ sets (sets image (word_place words_base place) (bytes_of 8 w)) (party_place image party) (record_bytes (version_at image) r)
  both_are_laid place w party r fitting inside fits h =
      let laid = sets image (word_place words_base place) (bytes_of 8 w) in
      let word : words_spelled image (set (strip_of image) place w) ≡ laid =
      rw (strip_is image) (one_part_laid word_part (max_at image + 2) image words_base place w are fitting inside) in
      let others : table_of image ≡ parts_from (own_part image) laid (records_in image) (parties_at image) =
      table_is image
      ∙ same_parts (own_part image) (parties_at image) image laid (records_in image)
      (λ i lo hi. sym (past_a_run (bytes_of 8 w) image (word_place words_base place) i (omega (arith, length_bytes 8 w)))) in
      spelled_is image (set (strip_of image) place w) (set (table_of image) party r)
      ∙ rw (word, others)
      (one_part_laid (own_part image) (parties_at image) laid (records_in image) party r
      (bytes_stay (bytes_of 8 w) image (word_place words_base place) are (digits_are_bytes 8 w)) fits h)

-- Words and records that fit, as many as the header says, are what the image with them spells.
module _ (image strip : List ℕ) (table : List Record) where
  pub header_kept : (i : ℕ) → i < 8 → get_or (spelled image strip table) i 0 ≡ get_or image i 0
  header_kept i h =
      rw (spelled_is image strip table)
      (below_parts (own_part image) table (words_spelled image strip) (records_in image) i (omega arith)
      ∙ below_parts word_part strip image words_base i h)

  pub as_long : length (spelled image strip table) ≡ length image
  as_long =
      rw (spelled_is image strip table)
      (length_with (own_part image) table (words_spelled image strip) (records_in image) ∙ length_with word_part strip image words_base)

  pub still_bytes : AreBytes image → Every IsWord 0 strip → Every RecordFits idle table → AreBytes (spelled image strip table)
  still_bytes are words records =
      rw (spelled_is image strip table)
      (parts_leave_bytes (own_part image) idle table (words_spelled image strip) (records_in image) records
      (parts_leave_bytes word_part 0 strip image words_base words are))

  pub version_kept : version_at (spelled image strip table) ≡ version_at image
  version_kept = same_number 2 (spelled image strip table) image 3 (λ i lo hi. header_kept i (omega arith))

  pub max_kept : max_at (spelled image strip table) ≡ max_at image
  max_kept = same_number 2 (spelled image strip table) image 6 (λ i lo hi. header_kept i (omega arith))

  module _ (exact : length image ≡ length_of (version_at image) (max_at image) (parties_at image)) (words : length strip ≡ max_at image + 2)
      (parties : length table ≡ parties_at image) where
    pub spelled_strip_is_decoded : Every IsWord 0 strip → strip_of (spelled image strip table) ≡ strip
    spelled_strip_is_decoded fit =
        strip_is (spelled image strip table)
        ∙ rw (max_kept, ← words, spelled_is image strip table)
        (same_parts word_part (length strip) (with_parts (own_part image) (words_spelled image strip) (records_in image) table)
        (words_spelled image strip) words_base
        (λ i lo hi. below_parts (own_part image) table (words_spelled image strip) (records_in image) i (omega arith))
        ∙ laid_parts_read word_part 0 strip image words_base fit (omega arith))

    pub spelled_table_is_decoded : Every RecordFits idle table → table_of (spelled image strip table) ≡ table
    spelled_table_is_decoded fit =
        let long = length_with word_part strip image words_base in
        table_is (spelled image strip table)
        ∙ rw (version_kept, max_kept, header_kept 5 (omega arith), ← parties, spelled_is image strip table)
        (laid_parts_read (own_part image) idle table (words_spelled image strip) (records_in image) fit (omega arith))

-- The bytes that spell no word and no field, the header's 8 and the last 8 of each record, stay as they were.
past_fields : (version : ℕ) (table : List Record) (l : List ℕ) (at party i : ℕ) → 24 ≤ i → i < 32
    → get_or (with_parts (record_part version) l at table) (at + 32 * party + i) 0 ≡ get_or l (at + 32 * party + i) 0
unfolding with_parts
past_fields version [] l at party i lo hi = refl
past_fields version (r ∷ table) l at zero i lo hi =
    below_parts (record_part version) table (sets l at (record_bytes version r)) (at + 32) (at + 32 * 0 + i) (omega arith)
    ∙ past_a_run (record_bytes version r) l at (at + 32 * 0 + i) (omega (arith, length_record version r))
past_fields version (r ∷ table) l at (suc party) i lo hi =
    let moved : at + 32 * suc party + i ≡ at + 32 + 32 * party + i = omega arith in
    rw moved
    (past_fields version table (sets l at (record_bytes version r)) (at + 32) party i lo hi
    ∙ past_a_run (record_bytes version r) l at (at + 32 + 32 * party + i) (omega (arith, length_record version r)))

pub spare_bytes_kept : (image strip : List ℕ) (table : List Record) (party i : ℕ) → length strip ≡ max_at image + 2 → 24 ≤ i → i < 32
    → get_or (spelled image strip table) (party_place image party + i) 0 ≡ get_or image (party_place image party + i) 0
spare_bytes_kept image strip table party i words lo hi =
    rw (spelled_is image strip table)
    (past_fields (version_at image) table (words_spelled image strip) (records_in image) party i lo hi
    ∙ past_parts word_part strip image words_base (party_place image party + i) (omega (arith, words)))
