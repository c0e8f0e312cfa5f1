-- What reading and writing keep: a promise leaves nothing open, and a refused call changes nothing.
use Prim.Native.Nat.{ℕ}
use mathlib.Core.Path.{◌≡◌, refl, sym, ◌∙◌}
use mathlib.Core.List.{List}
use Rattle.std.specs.declared.result.Result.TheVariants.{Err}
use Rattle.refusal.specs.declared.Refusal.{Refusal}
use Rattle.refusal.specs.Refusal.{Check}
use Rattle.record.specs.declared.Record.{Record}
use Rattle.whole.specs.Whole.{ReadPromise, WritePromise}

-- Two results that keep one promise have the same refusal or none, words and records, or bytes.
pub two_readings_that_keep_it_are_equal : {image strip : List ℕ} {table : List Record} {one two : Check} {words words' : List ℕ} {records records' : List Record}
    → ReadPromise image strip table one words records → ReadPromise image strip table two words' records'
    → (one ≡ two) × (words ≡ words') × (records ≡ records')
two_readings_that_keep_it_are_equal p q =
    (p.check_read ∙ sym q.check_read, p.words_read ∙ sym q.words_read, p.records_read ∙ sym q.records_read)

pub two_writings_that_keep_it_are_equal : {image strip : List ℕ} {table : List Record} {one two : Check} {bytes bytes' : List ℕ}
    → WritePromise image strip table one bytes → WritePromise image strip table two bytes' → (one ≡ two) × (bytes ≡ bytes')
two_writings_that_keep_it_are_equal p q =
    (p.check_written ∙ sym q.check_written, p.bytes_written ∙ sym q.bytes_written)

-- A refusal leaves strip and table, or the image, as they were.
pub refused_reading_changes_nothing : (image strip : List ℕ) (table : List Record) (refusal : Refusal) (words : List ℕ) (records : List Record)
    → ReadPromise image strip table (Err refusal) words records → (words ≡ strip) × (records ≡ table)
refused_reading_changes_nothing image strip table refusal words records p =
    let refused = sym p.check_read in
    (p.words_read ∙ rw refused refl, p.records_read ∙ rw refused refl)

pub refused_writing_changes_nothing : (image strip : List ℕ) (table : List Record) (refusal : Refusal) (bytes : List ℕ)
    → WritePromise image strip table (Err refusal) bytes → bytes ≡ image
refused_writing_changes_nothing image strip table refusal bytes p =
    let refused = sym p.check_written in
    p.bytes_written ∙ rw refused refl
