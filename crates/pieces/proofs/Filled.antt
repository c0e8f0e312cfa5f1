-- A lent list filled from the front with what is read from bytes: words, and records.
use Prim.Native.Nat.{ℕ, zero, suc, ◌+◌, ◌*◌, ◌≤◌, ◌<◌}
use mathlib.Core.Path.{◌≡◌, refl, sym, ◌∙◌, ap}
use mathlib.Core.List.{List, [], ◌∷◌}
use lib.ListN.{length, get_or, set, take}
use lib.Seq.{sets, length-sets, take_all}
use native.Mathlib.Nat.{add-zero, zero-add}
use native.Mathlib.Numerals.{add-one}
use native.Mathlib.Omega.{arith}
use Rattle.record.specs.Record.{idle}
use Rattle.record.specs.declared.Record.{Record}
use Rattle.little.proofs.Runs.{one_more_set, whole_run}
use Rattle.format.specs.Spelling.{words_from, records_from}
use Rattle.format.proofs.Parts.{Part, parts_from, length_parts, part_at}
use Rattle.format.proofs.Words.{word_part, words_are_parts}
use Rattle.format.proofs.Records.{record_part, records_are_parts}
use Rattle.header.specs.Header.{version_at}
use Rattle.format.specs.Format.{words_base}

module _ {A : Type 0} (part : Part A) (past : A) (image : List ℕ) (at : ℕ) (old : List A) where
  abbrev new : List A
  new = parts_from part image at (length old)

  -- the first i of them are read
  abbrev pub read_to : ℕ → List A
  read_to i = sets old 0 (take i new)

  pub length_read : (i : ℕ) → length (read_to i) ≡ length old
  length_read i = length-sets old 0 (take i new)

  pub one_more_read : (i : ℕ) → i < length old → set (read_to i) i (part.reads image (at + part.size * i)) ≡ read_to (i + 1)
  one_more_read i h =
      let long : length new ≡ length old = length_parts part (length old) image at in
      rw (sym (part_at part (length old) image at i past h), add-one i) (rw zero-add at (one_more_set past new old 0 i (omega arith)))

  pub all_read : (i : ℕ) → length old ≤ i → read_to i ≡ new
  all_read i h =
      let long : length new ≡ length old = length_parts part (length old) image at in
      ap (λ (l : List A). sets old 0 l) (take_all i new (omega arith)) ∙ whole_run new old long

-- the words of an image, and its records
abbrev pub words_to : (image strip : List ℕ) → ℕ → List ℕ
words_to image strip i = read_to word_part 0 image words_base strip i

abbrev pub records_to : (image : List ℕ) (at : ℕ) (table : List Record) → ℕ → List Record
records_to image at table i = read_to (record_part (version_at image)) idle image at table i

pub all_words_read : (image strip : List ℕ) (i : ℕ) → length strip ≤ i → words_to image strip i ≡ words_from image words_base (length strip)
all_words_read image strip i h = all_read word_part 0 image words_base strip i h ∙ sym (words_are_parts (length strip) image words_base)

pub all_records_read : (image : List ℕ) (at : ℕ) (table : List Record) (i : ℕ) → length table ≤ i
    → records_to image at table i ≡ records_from (version_at image) image at (length table)
all_records_read image at table i h =
    all_read (record_part (version_at image)) idle image at table i h ∙ sym (records_are_parts (version_at image) (length table) image at)
