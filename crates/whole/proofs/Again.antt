-- An image that is read, written over any region of its length, is the same bytes.
use Prim.Native.Nat.{ℕ, zero, suc, ◌+◌, ◌*◌, ◌<◌}
use mathlib.Core.Path.{◌≡◌, refl, sym, ◌∙◌, ap}
use mathlib.Core.Bool.{true, ◌&&◌}
use mathlib.Core.List.{List}
use lib.ListN.{length, get_or, set}
use lib.Seq.{sets, set-get_or}
use lib.Dec.{eqb}
use borrow.Author.Tests.{eqb-true, eq-eqb}
use native.Mathlib.Omega.{arith}
use Rattle.logic.proofs.Bools.{both}
use Rattle.refusal.specs.Refusal.{Check, passes}
use Rattle.record.specs.Valid.{valid_of}
use Rattle.record.specs.declared.Record.{Record}
use Rattle.step.specs.Step.{max_of}
use Rattle.little.specs.Bytes.{number_at, AreBytes}
use Rattle.little.proofs.Digits.{read_is_laid}
use Rattle.header.specs.Header.{is_marked, max_at, parties_at, version_at}
use Rattle.format.specs.Format.{word_place, words_base, records_in, party_place}
use Rattle.format.specs.Spelling.{strip_of, table_of, record_at, records_from, is_spare, word_bytes}
use Rattle.format.specs.Fresh.{header_bytes}
use Rattle.format.proofs.Parts.{read_parts_laid}
use Rattle.format.proofs.Words.{word_part, words_are_parts, words_laid_are_parts}
use Rattle.format.proofs.Laying.{header_laid}
use Rattle.format.proofs.Sizes.{header_marked}
use Rattle.format.proofs.Spelled.{strip_length, table_length, record_is_read}
use Rattle.pieces.specs.Pieces.{all_below, is_sound, sizes_agree}
use Rattle.whole.specs.Whole.{ReadPromise, is_valid_in, table_bytes, write_refusal, written_of, WritePromise}
use Rattle.pieces.proofs.Below.{each_below, all_of_each}
use Rattle.pieces.proofs.Checked.{is_lent, Readable, readable}
use Rattle.pieces.proofs.PartyBytes.{party_is_laid}
use Rattle.whole.proofs.Laid.{first_laid, written_laid}

-- the mark, the version, the party count and MAX, laid where they stand
header_is_laid : (image : List ℕ) → AreBytes image → is_marked 83 image ≡ true
    → sets image 0 (header_bytes (version_at image) (max_at image) (parties_at image)) ≡ image
header_is_laid image are marked =
    let third = both (eqb (get_or image 0 0) 80 && eqb (get_or image 1 0) 68) (eqb (get_or image 2 0) 83) marked in
    let first = both (eqb (get_or image 0 0) 80) (eqb (get_or image 1 0) 68) third.0 in
    let p : set image 0 80 ≡ image = ap (set image 0) (sym (eqb-true (get_or image 0 0) 80 first.0)) ∙ set-get_or image 0 0 in
    let d : set image 1 68 ≡ image = ap (set image 1) (sym (eqb-true (get_or image 1 0) 68 first.1)) ∙ set-get_or image 1 0 in
    let s : set image 2 83 ≡ image = ap (set image 2) (sym (eqb-true (get_or image 2 0) 83 third.1)) ∙ set-get_or image 2 0 in
    header_laid image (version_at image) (max_at image) (parties_at image)
    ∙ rw (p, d, s, read_is_laid 2 image 3 are, set-get_or image 5 0) (read_is_laid 2 image 6 are)

words_are_laid : (image : List ℕ) → AreBytes image → sets image words_base (word_bytes (strip_of image)) ≡ image
words_are_laid image are =
    words_laid_are_parts (strip_of image) image words_base ∙ rw (words_are_parts (max_at image + 2) image words_base) (read_parts_laid word_part (max_at image + 2) image words_base are)

-- records whose spare bytes are zero
records_are_laid : (version count : ℕ) (image : List ℕ) (at : ℕ) → AreBytes image
    → ((i : ℕ) → i < count → number_at 8 image (at + 32 * i + 24) ≡ 0)
    → sets image at (table_bytes version (records_from version image at count)) ≡ image
unfolding table_bytes records_from
records_are_laid version zero image at are spare = refl
records_are_laid version (suc count) image at are spare =
    let here : at + 32 * 0 + 24 ≡ at + 24 = omega arith in
    let this : number_at 8 image (at + 24) ≡ 0 = ap (number_at 8 image) (sym here) ∙ spare 0 (omega arith) in
    let rest : (i : ℕ) → i < count → number_at 8 image (at + 32 + 32 * i + 24) ≡ 0 =
    λ i h. let moved : at + 32 * suc i + 24 ≡ at + 32 + 32 * i + 24 = omega arith in ap (number_at 8 image) (sym moved) ∙ spare (suc i) (omega arith) in
    first_laid version image at (record_at version image at) (records_from version image (at + 32) count)
    ∙ ap (λ (l : List ℕ). sets l (at + 32) (table_bytes version (records_from version image (at + 32) count))) (party_is_laid version image at are this)
    ∙ records_are_laid version count image (at + 32) are rest

module _ (image : List ℕ) (words parties : ℕ) (fits : Readable image words parties) where
  sound_at : (i : ℕ) → i < parties_at image → is_sound image (max_at image) i ≡ true
  sound_at = each_below (is_sound image (max_at image)) (parties_at image) fits.sound

  parts_at : (i : ℕ) → i < parties_at image → (is_spare (version_at image) image (party_place image i) ≡ true) × (valid_of (max_at image) (record_at (version_at image) image (party_place image i)) ≡ true)
  parts_at i h = both (is_spare (version_at image) image (party_place image i)) (valid_of (max_at image) (record_at (version_at image) image (party_place image i))) (sound_at i h)

  max_of_lem : max_of (length (strip_of image)) ≡ max_at image
  max_of_lem = rw (strip_length image) (omega arith)

  exact_of : length image ≡ word_place words_base (length (strip_of image)) + 32 * length (table_of image)
  exact_of = omega (arith, fits.exact, strip_length image, table_length image)

  -- The bytes that spell what an image spells are the image.
  pub spelled_is_written : AreBytes image → written_of (strip_of image) (table_of image) ≡ image
  spelled_is_written are =
      let place : word_place words_base (length (strip_of image)) ≡ records_in image = omega (arith, strip_length image) in
      let marked = header_marked image fits.taken in
      let spare : (i : ℕ) → i < parties_at image → number_at 8 image (records_in image + 32 * i + 24) ≡ 0 =
      λ i h. eqb-true (number_at 8 image (party_place image i + 24)) 0 (parts_at i h).0 in
      sym (written_laid image (strip_of image) (table_of image) exact_of)
      ∙ rw (max_of_lem, table_length image, ← marked.1, header_is_laid image are marked.0, words_are_laid image are, place)
      (records_are_laid (version_at image) (parties_at image) image (records_in image) are spare)

  pub is_written : (bytes : ℕ) → bytes ≡ length image → write_refusal bytes (length (strip_of image)) (table_of image) ≡ passes
  unfolding write_refusal
  is_written bytes same =
      let lent = is_lent words parties fits.lent_right in
      let long = eq-eqb bytes (word_place words_base words + 32 * parties) (omega (arith, same, fits.exact, fits.words_agree, fits.parties_agree)) in
      let sizes : sizes_agree bytes (length (strip_of image)) (length (table_of image)) ≡ true =
      rw (max_of_lem, strip_length image, table_length image, sym fits.words_agree, sym fits.parties_agree, lent, long) refl in
      let valid : all_below (is_valid_in (length (strip_of image)) (table_of image)) (length (table_of image)) ≡ true =
      all_of_each (is_valid_in (length (strip_of image)) (table_of image)) (length (table_of image))
      (λ i h. let within : i < parties_at image = omega (arith, h, table_length image) in
      rw (max_of_lem, record_is_read image i within) (parts_at i within).1) in
      rw (sizes, valid) refl

-- An image that `read` takes, written from the strip and table it left over any region of its length, is the same bytes.
pub read_then_written_is_the_same : (image strip : List ℕ) (table : List Record) (words : List ℕ) (records : List Record) (region : List ℕ) (check : Check) (bytes : List ℕ)
    → AreBytes image → ReadPromise image strip table passes words records → length region ≡ length image → WritePromise region words records check bytes
    → (check ≡ passes) × (bytes ≡ image)
read_then_written_is_the_same image strip table words records region check bytes are read same written =
    let clear = sym read.check_read in
    let fits = readable image (length strip) (length table) clear in
    let w : words ≡ strip_of image = read.words_read ∙ rw clear refl in
    let r : records ≡ table_of image = read.records_read ∙ rw clear refl in
    let done : write_refusal (length region) (length words) records ≡ passes = rw (w, r) (is_written image (length strip) (length table) fits (length region) same) in (
      written.check_written ∙ done,
      written.bytes_written ∙ rw done (rw (w, r) (spelled_is_written image (length strip) (length table) fits are)),
    )
