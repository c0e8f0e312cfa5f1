-- A table laid in bytes, record by record, and a whole image, part by part.
use Prim.Native.Nat.{ℕ, zero, suc, ◌+◌, ◌*◌, ◌<◌}
use mathlib.Core.Path.{◌≡◌, refl, sym, ◌∙◌, ap}
use mathlib.Core.List.{List, [], ◌∷◌, ◌++◌, append-nil}
use lib.ListN.{length, get_or, take, length-append}
use lib.Seq.{sets}
use native.Mathlib.Nat.{add-zero}
use native.Mathlib.Numerals.{add-one}
use native.Mathlib.Omega.{arith}
use Rattle.record.specs.Record.{idle}
use Rattle.record.specs.declared.Record.{Record}
use Rattle.little.proofs.Runs.{run_append, whole_run}
use Rattle.step.specs.Step.{max_of}
use Rattle.format.specs.Format.{word_place, words_base}
use Rattle.format.specs.Spelling.{word_bytes}
use Rattle.format.specs.Fresh.{header_bytes}
use Rattle.format.proofs.Laying.{length_header, length_word_bytes}
use Rattle.pieces.specs.Pieces.{party_bytes}
use Rattle.pieces.proofs.PartyBytes.{length_party}
use Rattle.whole.specs.Whole.{table_bytes, written_of}

module _ (version : ℕ) where
  pub length_table_bytes : (table : List Record) → length (table_bytes version table) ≡ 32 * length table
  unfolding table_bytes
  length_table_bytes [] = refl
  length_table_bytes (r ∷ table) =
      length-append (party_bytes version r) (table_bytes version table) ∙ omega (arith, length_party version r, length_table_bytes table)

  pub first_laid : (l : List ℕ) (at : ℕ) (r : Record) (table : List Record)
      → sets l at (table_bytes version (r ∷ table)) ≡ sets (sets l at (party_bytes version r)) (at + 32) (table_bytes version table)
  unfolding table_bytes
  first_laid l at r table = run_append (party_bytes version r) (table_bytes version table) l at ∙ rw (length_party version r) refl

  one_more_laid : (table : List Record) (l : List ℕ) (at i : ℕ) → i < length table
      → sets (sets l at (table_bytes version (take i table))) (at + 32 * i) (party_bytes version (get_or table i idle)) ≡ sets l at (table_bytes version (take (suc i) table))
  unfolding table_bytes
  one_more_laid [] l at i h = absurd (omega arith)
  one_more_laid (r ∷ table) l at zero h = rw (append-nil (party_bytes version r), add-zero at) refl
  one_more_laid (r ∷ table) l at (suc i) h =
      let moved : at + 32 * suc i ≡ at + 32 + 32 * i = omega arith in
      rw (moved, first_laid l at r (take i table), first_laid l at r (take (suc i) table)) (one_more_laid table (sets l at (party_bytes version r)) (at + 32) i (omega arith))

  -- the bytes with the first i records laid
  abbrev pub laid_to : (image : List ℕ) (at : ℕ) (table : List Record) → ℕ → List ℕ
  laid_to image at table i = sets image at (table_bytes version (take i table))

  pub one_record_more : (image : List ℕ) (at : ℕ) (table : List Record) (i : ℕ) → i < length table
      → sets (laid_to image at table i) (at + 32 * i) (party_bytes version (get_or table i idle)) ≡ laid_to image at table (i + 1)
  one_record_more image at table i h = rw (add-one i) (one_more_laid table image at i h)

-- the header, the words and the records over all of the bytes
pub length_written : (strip : List ℕ) (table : List Record) → length (written_of strip table) ≡ word_place words_base (length strip) + 32 * length table
length_written strip table =
    let header = header_bytes 1 (max_of (length strip)) (length table) in
    length-append header (word_bytes strip ++ table_bytes 1 table)
    ∙ ap (λ (n : ℕ). length header + n) (length-append (word_bytes strip) (table_bytes 1 table))
    ∙ omega (arith, length_header 1 (max_of (length strip)) (length table), length_word_bytes strip, length_table_bytes 1 table)

pub written_laid : (image strip : List ℕ) (table : List Record) → length image ≡ word_place words_base (length strip) + 32 * length table
    → sets (sets (sets image 0 (header_bytes 1 (max_of (length strip)) (length table))) words_base (word_bytes strip)) (word_place words_base (length strip)) (table_bytes 1 table)
    ≡ written_of strip table
written_laid image strip table exact =
    let header = header_bytes 1 (max_of (length strip)) (length table) in
    let words = word_bytes strip in
    let records = table_bytes 1 table in
    let short : length header ≡ 8 = length_header 1 (max_of (length strip)) (length table) in
    let long : length words ≡ 8 * length strip = length_word_bytes strip in
    sym (run_append header (words ++ records) image 0 ∙ rw short (run_append words records (sets image 0 header) 8 ∙ rw long refl))
    ∙ whole_run (written_of strip table) image (length_written strip table ∙ sym exact)
