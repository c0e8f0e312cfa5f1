-- A strip and a table that are written, read from the bytes, are the same strip and table.
use Prim.Native.Nat.{ℕ, zero, suc, ◌+◌, ◌*◌, ◌≤◌, ◌<◌}
use mathlib.Core.Path.{◌≡◌, refl, sym, ◌∙◌, ap}
use mathlib.Core.Bool.{true, not}
use mathlib.Core.List.{List, [], ◌∷◌}
use lib.ListN.{length, get_or}
use lib.Seq.{sets, length-sets}
use lib.Dec.{eqb}
use borrow.Author.Tests.{eq-eqb, le-leb, le-ltb, not-false}
use native.Mathlib.Omega.{arith}
use Rattle.logic.specs.Every.{Every}
use Rattle.refusal.specs.Refusal.{Check, passes}
use Rattle.refusal.proofs.Checks.{passed}
use Rattle.word.specs.Word.{IsWord}
use Rattle.record.specs.Record.{idle}
use Rattle.record.specs.declared.Record.{Record}
use Rattle.step.specs.Step.{max_of}
use Rattle.little.specs.Bytes.{number_at, bytes_of}
use Rattle.little.proofs.Runs.{below_a_run}
use Rattle.little.proofs.Digits.{number_below_run}
use Rattle.header.specs.Header.{max_at, parties_at, version_at}
use Rattle.format.specs.Format.{word_place, length_of, sizes_fit, header_refusal, words_base, records_in, party_place}
use Rattle.format.specs.Spelling.{strip_of, table_of, words_from, record_at, records_from, word_bytes, RecordFits}
use Rattle.format.specs.Fresh.{header_bytes}
use Rattle.format.proofs.Parts.{parts_from, same_parts, part_at, laid_parts_read}
use Rattle.format.proofs.Words.{word_part, words_are_parts, words_laid_are_parts}
use Rattle.format.proofs.Records.{record_part, same_record, records_are_parts}
use Rattle.pieces.specs.Pieces.{all_below, is_sound, read_refusal, sizes_agree, party_bytes}
use Rattle.whole.specs.Whole.{ReadPromise, is_valid_in, table_bytes, write_refusal, written_of, WritePromise}
use Rattle.pieces.proofs.Below.{each_below, all_of_each}
use Rattle.pieces.proofs.Checked.{Lent, is_lent, refused_by_none, writable}
use Rattle.pieces.proofs.PartyBytes.{party_read, spare_read}
use Rattle.whole.proofs.Laid.{first_laid, length_written, written_laid}

-- the records of a table that was laid, and their spare bytes
laid_records_read : (table : List Record) (l : List ℕ) (at : ℕ) → Every RecordFits idle table → at + 32 * length table ≤ length l
    → records_from 1 (sets l at (table_bytes 1 table)) at (length table) ≡ table
unfolding records_from table_bytes
laid_records_read [] l at fit long = refl
laid_records_read (r ∷ table) l at fit long =
    let m = sets l at (party_bytes 1 r) in
    let same = length-sets l at (party_bytes 1 r) in
    let this : record_at 1 (sets m (at + 32) (table_bytes 1 table)) at ≡ r =
    same_record 1 (sets m (at + 32) (table_bytes 1 table)) m at (λ i lo hi. below_a_run (table_bytes 1 table) m (at + 32) i hi) ∙ party_read 1 l at r (fit 0 (omega arith)) (omega arith) in
    let rest = laid_records_read table m (at + 32) (λ i h. fit (suc i) (omega arith)) (omega arith) in
    ap (λ (b : List ℕ). records_from 1 b at (length (r ∷ table))) (first_laid 1 l at r table)
    ∙ ap (λ (s : Record). s ∷ records_from 1 (sets m (at + 32) (table_bytes 1 table)) (at + 32) (length table)) this
    ∙ ap (λ (s : List Record). r ∷ s) rest

laid_spare : (table : List Record) (l : List ℕ) (at i : ℕ) → i < length table → at + 32 * length table ≤ length l
    → number_at 8 (sets l at (table_bytes 1 table)) (at + 32 * i + 24) ≡ 0
laid_spare [] l at i h long = absurd (omega arith)
laid_spare (r ∷ table) l at zero h long =
    let m = sets l at (party_bytes 1 r) in
    let here : at + 32 * 0 + 24 ≡ at + 24 = omega arith in
    rw (here, first_laid 1 l at r table)
    (number_below_run 8 (table_bytes 1 table) m (at + 32) (at + 24) (omega arith) ∙ spare_read 1 l at r (omega arith))
laid_spare (r ∷ table) l at (suc i) h long =
    let m = sets l at (party_bytes 1 r) in
    let moved : at + 32 * suc i + 24 ≡ at + 32 + 32 * i + 24 = omega arith in
    let same = length-sets l at (party_bytes 1 r) in
    rw (moved, first_laid 1 l at r table) (laid_spare table m (at + 32) i (omega arith) (omega arith))

module _ (strip : List ℕ) (table : List Record) (right : Lent (length strip) (length table)) where
  abbrev bytes : List ℕ
  bytes = written_of strip table

  -- the header of what is written
  max_is : max_at bytes ≡ max_of (length strip)
  unfolding number_at bytes_of
  max_is = omega (arith, right.most)

  words_are : max_at bytes + 2 ≡ length strip
  words_are = omega (arith, max_is, right.least)

  parties_are : parties_at bytes ≡ length table
  unfolding bytes_of
  parties_are = refl

  version_is : version_at bytes ≡ 1
  unfolding number_at bytes_of
  version_is = refl

  is_sized : sizes_fit 1 (length bytes) (max_at bytes) (parties_at bytes) ≡ true
  is_sized =
      rw (max_is, parties_are, le-leb 1 (max_of (length strip)) (omega (arith, right.least)), le-leb (max_of (length strip)) 4094 (omega (arith, right.most)), le-leb 1 (length table) right.some, le-leb (length table) 16 right.few)
      (eq-eqb (length bytes) (length_of 1 (max_of (length strip)) (length table)) (omega (arith, length_written strip table, right.least)))

  is_taken : header_refusal bytes ≡ passes
  unfolding header_refusal
  is_taken = rw (le-ltb (length bytes) 8 (omega (arith, length_written strip table)), version_is, is_sized) refl

  -- the bytes as they are laid: header, words and records over themselves
  abbrev headed : List ℕ
  headed = sets bytes 0 (header_bytes 1 (max_of (length strip)) (length table))

  abbrev worded : List ℕ
  worded = sets headed words_base (word_bytes strip)

  headed_length : length headed ≡ word_place words_base (length strip) + 32 * length table
  headed_length = length-sets bytes 0 (header_bytes 1 (max_of (length strip)) (length table)) ∙ length_written strip table

  worded_length : length worded ≡ word_place words_base (length strip) + 32 * length table
  worded_length = length-sets headed words_base (word_bytes strip) ∙ headed_length

  as_laid : bytes ≡ sets worded (word_place words_base (length strip)) (table_bytes 1 table)
  as_laid = sym (written_laid bytes strip table (length_written strip table))

  pub strip_is_read : Every IsWord 0 strip → strip_of bytes ≡ strip
  strip_is_read fit =
      ap (words_from bytes words_base) words_are ∙ words_are_parts (length strip) bytes words_base
      ∙ ap (λ (l : List ℕ). parts_from word_part l words_base (length strip)) as_laid
      ∙ same_parts word_part (length strip) (sets worded (word_place words_base (length strip)) (table_bytes 1 table)) worded words_base (λ i lo hi. below_a_run (table_bytes 1 table) worded (word_place words_base (length strip)) i hi)
      ∙ ap (λ (l : List ℕ). parts_from word_part l words_base (length strip)) (words_laid_are_parts strip headed words_base)
      ∙ laid_parts_read word_part 0 strip headed words_base fit (omega (arith, headed_length))

  records_are_read : Every RecordFits idle table → records_from 1 bytes (word_place words_base (length strip)) (length table) ≡ table
  records_are_read fit =
      ap (λ (l : List ℕ). records_from 1 l (word_place words_base (length strip)) (length table)) as_laid
      ∙ laid_records_read table worded (word_place words_base (length strip)) fit (omega (arith, worded_length))

  place_of : (i : ℕ) → party_place bytes i ≡ word_place words_base (length strip) + 32 * i
  place_of i = omega (arith, words_are)

  pub table_is_read : Every RecordFits idle table → table_of bytes ≡ table
  table_is_read fit =
      let start : records_in bytes ≡ word_place words_base (length strip) = omega (arith, words_are) in
      rw version_is
      (ap (λ (at : ℕ). records_from 1 bytes at (parties_at bytes)) start
      ∙ ap (records_from 1 bytes (word_place words_base (length strip))) parties_are ∙ records_are_read fit)

  record_read : Every RecordFits idle table → (i : ℕ) → i < length table → record_at 1 bytes (word_place words_base (length strip) + 32 * i) ≡ get_or table i idle
  record_read fit i h =
      sym (part_at (record_part 1) (length table) bytes (word_place words_base (length strip)) i idle h)
      ∙ ap (λ (l : List Record). get_or l i idle) (sym (records_are_parts 1 (length table) bytes (word_place words_base (length strip))) ∙ records_are_read fit)

  spare_at : (i : ℕ) → i < length table → number_at 8 bytes (word_place words_base (length strip) + 32 * i + 24) ≡ 0
  spare_at i h =
      ap (λ (l : List ℕ). number_at 8 l (word_place words_base (length strip) + 32 * i + 24)) as_laid
      ∙ laid_spare table worded (word_place words_base (length strip)) i h (omega (arith, worded_length))

  -- every check of reading passes
  pub is_readable : Every RecordFits idle table → all_below (is_valid_in (length strip) table) (length table) ≡ true → read_refusal bytes (length strip) (length table) ≡ passes
  is_readable fit valid =
      let each : (i : ℕ) → i < length table → is_sound bytes (max_at bytes) i ≡ true =
      λ i h. rw (version_is, place_of i, spare_at i h, record_read fit i h, max_is) (each_below (is_valid_in (length strip) table) (length table) valid i h) in
      let sound : all_below (is_sound bytes (max_at bytes)) (parties_at bytes) ≡ true =
      ap (all_below (is_sound bytes (max_at bytes))) parties_are ∙ all_of_each (is_sound bytes (max_at bytes)) (length table) each in
      let words : eqb (length strip) (max_at bytes + 2) ≡ true = eq-eqb (length strip) (max_at bytes + 2) (sym words_are) in
      let parties : eqb (length table) (parties_at bytes) ≡ true = eq-eqb (length table) (parties_at bytes) (sym parties_are) in
      refused_by_none bytes (length strip) (length table) (is_lent (length strip) (length table) right) is_taken (rw (words, parties) refl) sound

-- A strip and a table that `write` takes, read from the bytes it left into a strip and a table of their lengths, are the same.
pub written_then_read_is_the_same : (image strip : List ℕ) (table : List Record) (bytes strip' : List ℕ) (table' : List Record) (check : Check) (words : List ℕ) (records : List Record)
    → Every IsWord 0 strip → Every RecordFits idle table → WritePromise image strip table passes bytes
    → length strip' ≡ length strip → length table' ≡ length table → ReadPromise bytes strip' table' check words records
    → (check ≡ passes) × ((words ≡ strip) × (records ≡ table))
unfolding write_refusal
written_then_read_is_the_same image strip table bytes strip' table' check words records word_fits record-fits written same_words same-parties read =
    let clear = sym written.check_written in
    let fit = sizes_agree (length image) (length strip) (length table) in
    let valid = all_below (is_valid_in (length strip) table) (length table) in
    let past1 = passed (not fit) _ _ clear in
    let past4 = passed (not valid) _ passes past1.1 in
    let right = (writable (length image) (length strip) (length table) (not-false fit past1.0)).lent_right in
    let is : bytes ≡ written_of strip table = written.bytes_written ∙ rw clear refl in
    let done : read_refusal bytes (length strip') (length table') ≡ passes = rw (is, same_words, same-parties) (is_readable strip table right record-fits (not-false valid past4.0)) in (
      read.check_read ∙ done,
      (
        read.words_read ∙ rw (done, is) (strip_is_read strip table right word_fits),
        read.records_read ∙ rw (done, is) (table_is_read strip table right record-fits),
      ),
    )
