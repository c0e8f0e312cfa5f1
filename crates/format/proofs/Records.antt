-- The records of an image, as parts of 32 bytes.
use Prim.Native.Nat.{ℕ, zero, suc, ◌+◌, ◌≤◌, ◌<◌}
use mathlib.Core.Path.{◌≡◌, refl, ◌∙◌, ap}
use mathlib.Core.List.{List, [], ◌∷◌}
use lib.ListN.{length, get_or, set, length-set, length-append}
use lib.Seq.{sets, length-sets, set-get_or, get_or-set_same, get_or-set_other}
use native.Mathlib.Nat.{add_assoc}
use native.Mathlib.Numerals.{add-one}
use native.Mathlib.Omega.{arith}
use Rattle.record.specs.declared.Record.{Record}
use Rattle.little.specs.Bytes.{number_at, bytes_of, AreBytes}
use Rattle.format.specs.Spelling.{RecordFits, record_at, record_bytes, records_from, with_records}
use Rattle.little.proofs.Runs.{Agree, below_a_run, run_append}
use Rattle.little.proofs.Digits.{length_bytes, digits_are_bytes, byte_stays, bytes_stay, same_number, number_below_run, number_fits, laid_fitting_is_read, read_is_laid}
use Rattle.format.proofs.Parts.{Part, parts_from, with_parts}

-- a record laid field by field
abbrev pub laid2 : List ℕ → ℕ → Record → List ℕ
laid2 l at r = set (set l at r.operation) (at + 1) r.stage

abbrev pub laid4 : List ℕ → ℕ → Record → List ℕ
laid4 l at r = sets (laid2 l at r) (at + 2) (bytes_of 2 r.k)

abbrev pub laid8 : List ℕ → ℕ → Record → List ℕ
laid8 l at r = sets (laid4 l at r) (at + 4) (bytes_of 4 r.v)

abbrev pub laid16 : List ℕ → ℕ → Record → List ℕ
laid16 l at r = sets (laid8 l at r) (at + 8) (bytes_of 8 r.first)

abbrev pub laid24 : List ℕ → ℕ → Record → List ℕ
laid24 l at r = sets (laid16 l at r) (at + 16) (bytes_of 8 r.second)

pub laid_by_fields : (version : ℕ) (l : List ℕ) (at : ℕ) (r : Record) → sets l at (record_bytes version r) ≡ laid24 l at r
laid_by_fields version l at r = simp (run_append, length_bytes, add_assoc, add-one at)

-- no store changes the length
pub length2 : (l : List ℕ) (at : ℕ) (r : Record) → length (laid2 l at r) ≡ length l
length2 l at r = simp length-set

pub length4 : (l : List ℕ) (at : ℕ) (r : Record) → length (laid4 l at r) ≡ length l
length4 l at r = length-sets (laid2 l at r) (at + 2) (bytes_of 2 r.k) ∙ length2 l at r

pub length8 : (l : List ℕ) (at : ℕ) (r : Record) → length (laid8 l at r) ≡ length l
length8 l at r = length-sets (laid4 l at r) (at + 4) (bytes_of 4 r.v) ∙ length4 l at r

pub length16 : (l : List ℕ) (at : ℕ) (r : Record) → length (laid16 l at r) ≡ length l
length16 l at r = length-sets (laid8 l at r) (at + 8) (bytes_of 8 r.first) ∙ length8 l at r

pub length24 : (l : List ℕ) (at : ℕ) (r : Record) → length (laid24 l at r) ≡ length l
length24 l at r = length-sets (laid16 l at r) (at + 16) (bytes_of 8 r.second) ∙ length16 l at r

pub length_record : (version : ℕ) (r : Record) → length (record_bytes version r) ≡ 24
length_record version r = simp (length-append, length_bytes)

module _ (version : ℕ) (l : List ℕ) (at : ℕ) (r : Record) (fits : RecordFits r) (long : at + 32 ≤ length l) where
  second_read : number_at 8 (laid24 l at r) (at + 16) ≡ r.second
  second_read = laid_fitting_is_read 8 (laid16 l at r) (at + 16) r.second (omega (arith, length16 l at r)) fits.second_fits

  first_read : number_at 8 (laid24 l at r) (at + 8) ≡ r.first
  first_read =
      number_below_run 8 (bytes_of 8 r.second) (laid16 l at r) (at + 16) (at + 8) (omega arith)
      ∙ laid_fitting_is_read 8 (laid8 l at r) (at + 8) r.first (omega (arith, length8 l at r)) fits.first_fits

  v_read : number_at 4 (laid24 l at r) (at + 4) ≡ r.v
  v_read =
      number_below_run 4 (bytes_of 8 r.second) (laid16 l at r) (at + 16) (at + 4) (omega arith)
      ∙ number_below_run 4 (bytes_of 8 r.first) (laid8 l at r) (at + 8) (at + 4) (omega arith)
      ∙ laid_fitting_is_read 4 (laid4 l at r) (at + 4) r.v (omega (arith, length4 l at r)) fits.v_fits

  k_read : number_at 2 (laid24 l at r) (at + 2) ≡ r.k
  k_read =
      number_below_run 2 (bytes_of 8 r.second) (laid16 l at r) (at + 16) (at + 2) (omega arith)
      ∙ number_below_run 2 (bytes_of 8 r.first) (laid8 l at r) (at + 8) (at + 2) (omega arith)
      ∙ number_below_run 2 (bytes_of 4 r.v) (laid4 l at r) (at + 4) (at + 2) (omega arith)
      ∙ laid_fitting_is_read 2 (laid2 l at r) (at + 2) r.k (omega (arith, length2 l at r)) fits.k_fits

  byte_read : (i : ℕ) → i < at + 2 → get_or (laid24 l at r) i 0 ≡ get_or (laid2 l at r) i 0
  byte_read i h =
      below_a_run (bytes_of 8 r.second) (laid16 l at r) (at + 16) i (omega arith)
      ∙ below_a_run (bytes_of 8 r.first) (laid8 l at r) (at + 8) i (omega arith)
      ∙ below_a_run (bytes_of 4 r.v) (laid4 l at r) (at + 4) i (omega arith)
      ∙ below_a_run (bytes_of 2 r.k) (laid2 l at r) (at + 2) i (omega arith)

  stage_read : get_or (laid24 l at r) (at + 1) 0 ≡ r.stage
  stage_read =
      byte_read (at + 1) (omega arith)
      ∙ get_or-set_same (set l at r.operation) (at + 1) r.stage 0 (simp length-set (omega arith))

  operation_read : get_or (laid24 l at r) at 0 ≡ r.operation
  operation_read =
      byte_read at (omega arith)
      ∙ get_or-set_other (set l at r.operation) (at + 1) at r.stage 0 (omega arith)
      ∙ get_or-set_same l at r.operation 0 (omega arith)

  pub laid_record_read : record_at version (sets l at (record_bytes version r)) at ≡ r
  unfolding record_at
  laid_record_read =
      rw (laid_by_fields version l at r, operation_read, stage_read, k_read, v_read, first_read, second_read) refl

pub same_record : (version : ℕ) (l m : List ℕ) (at : ℕ) → Agree l m at 32 → record_at version l at ≡ record_at version m at
unfolding record_at
same_record version l m at agree =
    rw
    (agree at (omega arith) (omega arith), agree (at + 1) (omega arith) (omega arith), same_number 2 l m (at + 2) (λ i lo hi. agree i (omega arith) (omega arith)), same_number 4 l m (at + 4) (λ i lo hi. agree i (omega arith) (omega arith)), same_number 8 l m (at + 8) (λ i lo hi. agree i (omega arith) (omega arith)), same_number 8 l m (at + 16) (λ i lo hi. agree i (omega arith) (omega arith)))
    refl

pub read_record_laid : (version : ℕ) (l : List ℕ) (at : ℕ) → AreBytes l → sets l at (record_bytes version (record_at version l at)) ≡ l
unfolding record_at
read_record_laid version l at are =
    laid_by_fields version l at (record_at version l at)
    ∙ simp (set-get_or, read_is_laid 2 l (at + 2) are, read_is_laid 4 l (at + 4) are, read_is_laid 8 l (at + 8) are, read_is_laid 8 l (at + 16) are)

pub laid_record_bytes : (version : ℕ) (l : List ℕ) (at : ℕ) (r : Record) → RecordFits r → AreBytes l
    → AreBytes (sets l at (record_bytes version r))
laid_record_bytes version l at r fits are =
    rw (laid_by_fields version l at r)
    (bytes_stay (bytes_of 8 r.second) (laid16 l at r) (at + 16)
    (bytes_stay (bytes_of 8 r.first) (laid8 l at r) (at + 8)
    (bytes_stay (bytes_of 4 r.v) (laid4 l at r) (at + 4)
    (bytes_stay (bytes_of 2 r.k) (laid2 l at r) (at + 2)
    (byte_stays (set l at r.operation) (at + 1) r.stage (byte_stays l at r.operation are fits.operation_fits) fits.stage_fits)
    (digits_are_bytes 2 r.k)) (digits_are_bytes 4 r.v)) (digits_are_bytes 8 r.first)) (digits_are_bytes 8 r.second))

pub read_record_fits : (version : ℕ) (l : List ℕ) (at : ℕ) → AreBytes l → RecordFits (record_at version l at)
unfolding record_at
read_record_fits version l at are =
    record {
      operation_fits = are at;
      stage_fits = are (at + 1);
      k_fits = number_fits 2 l (at + 2) are;
      v_fits = number_fits 4 l (at + 4) are;
      first_fits = number_fits 8 l (at + 8) are;
      second_fits = number_fits 8 l (at + 16) are;
    }

abbrev pub record_part : (version : ℕ) → Part Record
record_part version =
    record {
      size = 32;
      reads = record_at version;
      bytes = record_bytes version;
      Fits = RecordFits;
      short = λ r. omega (arith, length_record version r);
      same = same_record version;
      read_laid = read_record_laid version;
      laid_read = laid_record_read version;
      laid_bytes = laid_record_bytes version;
    }

pub records_are_parts : (version count : ℕ) (l : List ℕ) (at : ℕ)
    → records_from version l at count ≡ parts_from (record_part version) l at count
unfolding records_from parts_from
records_are_parts version zero l at = refl
records_are_parts version (suc count) l at =
    ap (λ (rest : List Record). record_at version l at ∷ rest) (records_are_parts version count l (at + 32))

pub records_laid_are_parts : (version : ℕ) (table : List Record) (l : List ℕ) (at : ℕ)
    → with_records version l at table ≡ with_parts (record_part version) l at table
unfolding with_records with_parts
records_laid_are_parts version [] l at = refl
records_laid_are_parts version (r ∷ table) l at =
    records_laid_are_parts version table (sets l at (record_bytes version r)) (at + 32)
