-- A party's 32 bytes: a record and its zeros, laid and read back.
use Prim.Native.Nat.{ℕ, ◌+◌, ◌≤◌}
use mathlib.Core.Path.{◌≡◌, refl, sym, ◌∙◌, ap}
use mathlib.Core.List.{List}
use lib.ListN.{length, length-append}
use lib.Seq.{sets, length-sets}
use native.Mathlib.Omega.{arith}
use Rattle.record.specs.declared.Record.{Record}
use Rattle.little.specs.Bytes.{number_at, bytes_of, AreBytes}
use Rattle.little.proofs.Runs.{run_append, below_a_run}
use Rattle.little.proofs.Digits.{length_bytes, read_is_laid, number_below_run, laid_fitting_is_read}
use Rattle.format.specs.Spelling.{record_at, record_bytes, RecordFits}
use Rattle.format.proofs.Records.{length_record, read_record_laid, laid_record_read}
use Rattle.pieces.specs.Pieces.{party_bytes}

pub length_party : (version : ℕ) (r : Record) → length (party_bytes version r) ≡ 32
length_party version r =
    length-append (record_bytes version r) (bytes_of 8 0) ∙ omega (arith, length_record version r, length_bytes 8 0)

-- the record, then its zeros
pub party_laid : (version : ℕ) (l : List ℕ) (at : ℕ) (r : Record)
    → sets (sets l at (record_bytes version r)) (at + 24) (bytes_of 8 0) ≡ sets l at (party_bytes version r)
party_laid version l at r = sym (run_append (record_bytes version r) (bytes_of 8 0) l at ∙ rw (length_record version r) refl)

-- what stands there with zeros in its spare bytes, laid over itself
pub party_is_laid : (version : ℕ) (image : List ℕ) (at : ℕ) → AreBytes image → number_at 8 image (at + 24) ≡ 0
    → sets image at (party_bytes version (record_at version image at)) ≡ image
party_is_laid version image at are spare =
    sym (party_laid version image at (record_at version image at))
    ∙ ap (λ (l : List ℕ). sets l (at + 24) (bytes_of 8 0)) (read_record_laid version image at are)
    ∙ ap (λ (n : ℕ). sets image (at + 24) (bytes_of 8 n)) (sym spare) ∙ read_is_laid 8 image (at + 24) are

-- a record's fields do not lie in its spare bytes
spare_unread : (version : ℕ) (vs l : List ℕ) (at : ℕ) → record_at version (sets l (at + 24) vs) at ≡ record_at version l at
unfolding record_at
spare_unread version vs l at =
    rw
    (below_a_run vs l (at + 24) at (omega arith), below_a_run vs l (at + 24) (at + 1) (omega arith), number_below_run 2 vs l (at + 24) (at + 2) (omega arith), number_below_run 4 vs l (at + 24) (at + 4) (omega arith), number_below_run 8 vs l (at + 24) (at + 8) (omega arith), number_below_run 8 vs l (at + 24) (at + 16) (omega arith))
    refl

-- what was laid is read: the record, and its zeros
pub party_read : (version : ℕ) (l : List ℕ) (at : ℕ) (r : Record) → RecordFits r → at + 32 ≤ length l
    → record_at version (sets l at (party_bytes version r)) at ≡ r
party_read version l at r fits long =
    ap (λ (m : List ℕ). record_at version m at) (sym (party_laid version l at r))
    ∙ spare_unread version (bytes_of 8 0) (sets l at (record_bytes version r)) at ∙ laid_record_read version l at r fits long

pub spare_read : (version : ℕ) (l : List ℕ) (at : ℕ) (r : Record) → at + 32 ≤ length l
    → number_at 8 (sets l at (party_bytes version r)) (at + 24) ≡ 0
spare_read version l at r long =
    let same = length-sets l at (record_bytes version r) in
    ap (λ (m : List ℕ). number_at 8 m (at + 24)) (sym (party_laid version l at r))
    ∙ laid_fitting_is_read 8 (sets l at (record_bytes version r)) (at + 24) 0 (omega arith) (omega arith)
