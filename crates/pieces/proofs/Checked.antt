-- The rungs of the checks of reading, and what is known where they pass; and the sizes of what is written.
use Prim.Native.Nat.{ℕ, ◌+◌, ◌*◌, ◌≤◌}
use mathlib.Core.Path.{◌≡◌, refl}
use mathlib.Core.Bool.{true, false, not}
use mathlib.Core.List.{List}
use lib.ListN.{length}
use lib.Dec.{eqb, leb}
use borrow.Author.Tests.{eqb-true, leb-true, le-leb, not-false}
use native.Mathlib.Omega.{arith}
use Rattle.std.specs.declared.result.Result.TheVariants.{Err}
use Rattle.logic.proofs.Bools.{both}
use Rattle.refusal.specs.declared.Refusal.{Refusal}
use Rattle.refusal.specs.declared.Refusal.TheVariants.{WrongSize, NotValid}
use Rattle.refusal.specs.Refusal.{passes}
use Rattle.refusal.proofs.Checks.{passed}
use Rattle.step.specs.Step.{strip_fits, max_of}
use Rattle.call.specs.Call.{table_fits}
use Rattle.header.specs.Header.{max_at, parties_at, version_at}
use Rattle.format.specs.Format.{word_place, length_of, header_refusal, words_base}
use Rattle.format.proofs.Sizes.{header_sized}
use Rattle.format.proofs.Gated.{both_pass}
use Rattle.pieces.specs.Pieces.{all_below, lent_fits, is_sound, agrees, read_refusal, sizes_agree}

-- a strip and a table that may be lent
pub record Lent (words parties : ℕ) : Type 0 where
  pub least : 3 ≤ words
  pub most : words ≤ 4096
  pub some : 1 ≤ parties
  pub few : parties ≤ 16

pub lent : (words parties : ℕ) → lent_fits words parties ≡ true → Lent words parties
lent words parties e =
    let each = both (strip_fits words) (table_fits parties) e in
    let strip = both (leb 3 words) (leb words 4096) each.0 in
    let table = both (leb 1 parties) (leb parties 16) each.1 in
    record {
      least = leb-true 3 words strip.0;
      most = leb-true words 4096 strip.1;
      some = leb-true 1 parties table.0;
      few = leb-true parties 16 table.1;
    }

pub is_lent : (words parties : ℕ) → Lent words parties → lent_fits words parties ≡ true
is_lent words parties right =
    rw (le-leb 3 words right.least, le-leb words 4096 right.most, le-leb 1 parties right.some, le-leb parties 16 right.few) refl

module _ (image : List ℕ) (words parties : ℕ) where
  pub refused_by_lent : lent_fits words parties ≡ false → read_refusal image words parties ≡ Err WrongSize
  unfolding read_refusal
  refused_by_lent no-fit = rw no-fit refl

  module _ (fit : lent_fits words parties ≡ true) where
    pub refused_by_header : (refusal : Refusal) → header_refusal image ≡ Err refusal → read_refusal image words parties ≡ Err refusal
    unfolding read_refusal
    refused_by_header refusal some = rw (fit, some) refl

    module _ (taken : header_refusal image ≡ passes) where
      pub refused_by_lengths : agrees image words parties ≡ false → read_refusal image words parties ≡ Err WrongSize
      unfolding read_refusal
      refused_by_lengths differ = rw (fit, taken, differ) refl

      module _ (agree : agrees image words parties ≡ true) where
        pub refused_by_records : all_below (is_sound image (max_at image)) (parties_at image) ≡ false → read_refusal image words parties ≡ Err NotValid
        unfolding read_refusal
        refused_by_records unsound = rw (fit, taken, agree, unsound) refl

        pub refused_by_none : all_below (is_sound image (max_at image)) (parties_at image) ≡ true → read_refusal image words parties ≡ passes
        unfolding read_refusal
        refused_by_none sound = rw (fit, taken, agree, sound) refl

-- an image that is read
pub record Readable (image : List ℕ) (words parties : ℕ) : Type 0 where
  pub taken : header_refusal image ≡ passes
  pub lent_right : Lent words parties
  pub words_agree : words ≡ max_at image + 2
  pub parties_agree : parties ≡ parties_at image
  pub sound : all_below (is_sound image (max_at image)) (parties_at image) ≡ true
  pub exact : length image ≡ length_of (version_at image) (max_at image) (parties_at image)

pub readable : (image : List ℕ) (words parties : ℕ) → read_refusal image words parties ≡ passes → Readable image words parties
unfolding read_refusal
readable image words parties e =
    let past1 = passed (not (lent_fits words parties)) _ _ e in
    let past2 = both_pass (header_refusal image) _ past1.1 in
    let past3 = passed (not (agrees image words parties)) _ _ past2.1 in
    let past4 = passed (not (all_below (is_sound image (max_at image)) (parties_at image))) _ passes past3.1 in
    let agree = both (eqb words (max_at image + 2)) (eqb parties (parties_at image)) (not-false _ past3.0) in
    record {
      taken = past2.0;
      lent_right = lent words parties (not-false _ past1.0);
      words_agree = eqb-true words (max_at image + 2) agree.0;
      parties_agree = eqb-true parties (parties_at image) agree.1;
      sound = not-false _ past4.0;
      exact = (header_sized image past2.0).exact;
    }

-- the sizes of one that is written
pub record Writable (bytes words parties : ℕ) : Type 0 where
  pub lent_right : Lent words parties
  pub exact : bytes ≡ word_place words_base words + 32 * parties

pub writable : (bytes words parties : ℕ) → sizes_agree bytes words parties ≡ true → Writable bytes words parties
writable bytes words parties e =
    let each = both (lent_fits words parties) (eqb bytes (length_of 1 (max_of words) parties)) e in
    let right = lent words parties each.0 in
    let long = eqb-true bytes (length_of 1 (max_of words) parties) each.1 in
    record { lent_right = right; exact = omega (arith, right.least, long) }

-- the length that a strip and a table take
pub length_taken : (words parties : ℕ) → lent_fits words parties ≡ true → length_of 1 (max_of words) parties ≡ word_place words_base words + 32 * parties
length_taken words parties e = let right = lent words parties e in omega (arith, right.least)
