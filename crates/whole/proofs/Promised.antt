-- The promises of reading and writing, from what the code finds on its way.
use Prim.Native.Nat.{ℕ, ◌+◌, ◌*◌, ◌≤◌}
use mathlib.Core.Path.{◌≡◌, refl, sym, ◌∙◌, ap}
use mathlib.Core.Bool.{Bool, true, false, not}
use mathlib.Core.List.{List}
use lib.ListN.{length}
use lib.Seq.{sets}
use borrow.Author.Tests.{not-false}
use native.Mathlib.Omega.{arith}
use Rattle.std.specs.declared.result.Result.TheVariants.{Err}
use Rattle.logic.specs.Pick.{pick}
use Rattle.refusal.specs.declared.Refusal.{Refusal}
use Rattle.refusal.specs.declared.Refusal.TheVariants.{WrongSize, NotValid}
use Rattle.refusal.specs.Refusal.{Check, passes}
use Rattle.refusal.proofs.Checks.{passed, refuses_is_not_passes}
use Rattle.record.specs.declared.Record.{Record}
use Rattle.format.specs.Format.{word_place, words_base, records_in}
use Rattle.step.specs.Step.{max_of}
use Rattle.format.specs.Spelling.{words_from, records_from, word_bytes}
use Rattle.format.specs.Fresh.{header_bytes}
use Rattle.pieces.specs.Pieces.{all_below, read_refusal, sizes_agree}
use Rattle.header.specs.Header.{version_at}
use Rattle.whole.specs.Whole.{ReadPromise, is_valid_in, table_bytes, write_refusal, WritePromise}
use Rattle.whole.proofs.Found.{found_by}
use Rattle.whole.proofs.Laid.{written_laid}
use Rattle.pieces.proofs.Checked.{Readable, readable, Writable, writable}

module _ (image strip : List ℕ) (table : List Record) (check : Check) (checked : check ≡ read_refusal image (length strip) (length table)) where
  -- the checks refuse: nothing is written
  pub read_refused : (refusal : Refusal) → check ≡ Err refusal → ReadPromise image strip table (Err refusal) strip table
  read_refused refusal some =
      let refused = sym checked ∙ some in
      record { check_read = sym refused; words_read = rw refused refl; records_read = rw refused refl }

  module _ (none : check ≡ passes) where
    clear : read_refusal image (length strip) (length table) ≡ passes
    clear = sym checked ∙ none

    fits : Readable image (length strip) (length table)
    fits = readable image (length strip) (length table) clear

    -- what is read lies inside
    pub words_inside : word_place words_base (length strip) ≤ length image
    words_inside = omega (arith, fits.exact, fits.words_agree)

    pub records_inside : word_place words_base (length strip) + 32 * length table ≤ length image
    records_inside = omega (arith, fits.exact, fits.words_agree, fits.parties_agree)

    -- they pass: the words and the records of the image
    pub read_done : (words : List ℕ) (records : List Record) → words ≡ words_from image words_base (length strip)
        → records ≡ records_from (version_at image) image (word_place words_base (length strip)) (length table) → ReadPromise image strip table passes words records
    read_done words records ws rs =
        let place : word_place words_base (length strip) ≡ records_in image = omega (arith, fits.words_agree) in
        record {
          check_read = sym clear;
          words_read = ws ∙ ap (words_from image words_base) fits.words_agree ∙ rw clear refl;
          records_read = rs ∙ ap (λ (at : ℕ). records_from (version_at image) image at (length table)) place
              ∙ ap (records_from (version_at image) image (records_in image)) fits.parties_agree ∙ rw clear refl;
        }

-- Writing: the sizes are checked first, then the records.
module _ (image strip : List ℕ) (table : List Record) (check : Check) (checked : check ≡ pick (not (sizes_agree (length image) (length strip) (length table))) (Err WrongSize) passes) where
  abbrev whole : Check
  whole = write_refusal (length image) (length strip) table

  abbrev fit : Bool
  fit = sizes_agree (length image) (length strip) (length table)

  -- a refusal that is the whole check's: nothing is written
  kept : (refusal : Refusal) → whole ≡ Err refusal → WritePromise image strip table (Err refusal) image
  kept refusal e = record { check_written = sym e; bytes_written = rw e refl }

  unfit : (refusal : Refusal) → check ≡ Err refusal → fit ≡ false
  unfit refusal some = go fit refl
    where
      go : (t : Bool) → fit ≡ t → t ≡ false
      go true e = absurd (refuses_is_not_passes some (checked ∙ rw e refl))
      go false e = refl

  pub sizes_refused : (refusal : Refusal) → check ≡ Err refusal → WritePromise image strip table (Err refusal) image
  unfolding write_refusal
  sizes_refused refusal some =
      let differ = unfit refusal some in
      kept refusal (rw differ (sym (rw differ at checked) ∙ some))

  module _ (none : check ≡ passes) where
    agree : fit ≡ true
    agree = not-false fit (passed (not fit) _ passes (sym checked ∙ none)).0

    sizes : Writable (length image) (length strip) (length table)
    sizes = writable (length image) (length strip) (length table) agree

    pub words_within : (2 ≤ length strip) × (length strip ≤ 4096)
    words_within = (omega (arith, sizes.lent_right.least), sizes.lent_right.most)

    -- what is written lies inside
    pub front_inside : (word_place words_base (length strip) ≤ length image) × ((2 ≤ length strip) × ((length strip ≤ 4096) × (length table ≤ 16)))
    front_inside = (omega (arith, sizes.exact), (words_within.0, (words_within.1, sizes.lent_right.few)))

    pub table_inside : (front : List ℕ) → length front ≡ length image → word_place words_base (length strip) + 32 * length table ≤ length front
    table_inside front long = omega (arith, sizes.exact, long)

    module _ (looks : Check) (looked : looks ≡ pick (all_below (is_valid_in (length strip) table) (length table)) passes (Err NotValid)) where
      abbrev all_valid : Bool
      all_valid = all_below (is_valid_in (length strip) table) (length table)

      turned : pick all_valid passes (Err NotValid) ≡ whole
      unfolding write_refusal
      turned = rw agree (go all_valid)
        where
          go : (t : Bool) → found_by t ≡ pick (not t) (Err NotValid) passes
          go true = refl
          go false = refl

      pub records_refused : (refusal : Refusal) → looks ≡ Err refusal → WritePromise image strip table (Err refusal) image
      records_refused refusal some = kept refusal (sym turned ∙ sym looked ∙ some)

      pub write_done : looks ≡ passes → (front bytes : List ℕ) → front ≡ sets (sets image 0 (header_bytes 1 (max_of (length strip)) (length table))) words_base (word_bytes strip)
          → bytes ≡ sets front (word_place words_base (length strip)) (table_bytes 1 table) → WritePromise image strip table passes bytes
      write_done all front bytes laid last =
          let clear = sym turned ∙ sym looked ∙ all in
          record {
            check_written = sym clear;
            bytes_written = last ∙ ap (λ (l : List ℕ). sets l (word_place words_base (length strip)) (table_bytes 1 table)) laid
                ∙ written_laid image strip table sizes.exact ∙ rw clear refl;
          }
