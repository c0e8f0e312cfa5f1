-- The promise of lay, from what the code finds on its way.
use Prim.Native.Nat.{ℕ, ◌+◌, ◌*◌, ◌≤◌}
use mathlib.Core.Path.{◌≡◌, refl, ◌∙◌}
use mathlib.Core.Bool.{true, false, not}
use mathlib.Core.List.{List}
use lib.ListN.{length, replicate}
use lib.Seq.{sets, length-sets}
use lib.Dec.{eqb, leb}
use borrow.Author.Tests.{leb-true, not-false}
use Rattle.std.specs.declared.result.Result.TheVariants.{Ok, Err}
use Rattle.logic.proofs.Bools.{both}
use Rattle.refusal.specs.declared.Refusal.TheVariants.{WrongSize, Outside}
use Rattle.refusal.specs.Refusal.{passes}
use Rattle.refusal.proofs.Checks.{passed}
use Rattle.party.specs.declared.Answer.TheVariants.{GoesOn}
use Rattle.party.proofs.Cleared.{max_within}
use Rattle.header.specs.Header.{counts_fit}
use Rattle.strip.specs.Lay.{rights_of}
use Rattle.format.specs.Format.{length_of, sizes_fit}
use Rattle.format.specs.Spelling.{word_bytes}
use Rattle.format.specs.Fresh.{header_bytes}
use Rattle.image.specs.Calls.{lay_refusal, lay_of, ImagePromise}
use Rattle.format.proofs.Sizes.{sized}
use Rattle.image.proofs.Promised.{promise}
use Rattle.format.proofs.Laying.{fresh_laid}

pub record Layable (bytes max parties divide : ℕ) : Type 0 where
  pub exact : bytes ≡ length_of 1 max parties
  pub counts_fit : counts_fit max parties ≡ true
  pub max_small : max ≤ 4094
  pub parties_few : parties ≤ 16
  pub divided : divide ≤ max

pub layable : (bytes max parties divide : ℕ) → lay_refusal bytes max parties divide ≡ passes → Layable bytes max parties divide
unfolding lay_refusal
layable bytes max parties divide e =
    let past1 = passed (not (sizes_fit 1 bytes max parties)) _ _ e in
    let past8 = passed (not (leb divide max)) _ passes past1.1 in
    let fits = sized 1 bytes max parties (not-false _ past1.0) in
    record {
      exact = fits.exact;
      counts_fit = (both (counts_fit max parties) (eqb bytes (length_of 1 max parties)) (not-false _ past1.0)).0;
      max_small = (max_within max fits.max_fits).1;
      parties_few = leb-true parties 16 (both (leb 1 parties) (leb parties 16) fits.parties_fit).1;
      divided = leb-true divide max (not-false _ past8.0);
    }

-- the image after each part was laid
abbrev pub headed : List ℕ → (max parties : ℕ) → List ℕ
headed image max parties = sets image 0 (header_bytes 1 max parties)

abbrev pub blank : List ℕ → (max parties : ℕ) → List ℕ
blank image max parties = sets (headed image max parties) 8 (replicate (8 * (max + 2) + 32 * parties) 0)

pub length_headed : (image : List ℕ) (max parties : ℕ) → length (headed image max parties) ≡ length image
length_headed image max parties = length-sets image 0 (header_bytes 1 max parties)

pub length_blank : (image : List ℕ) (max parties : ℕ) → length (blank image max parties) ≡ length image
length_blank image max parties =
    length-sets (headed image max parties) 8 (replicate (8 * (max + 2) + 32 * parties) 0) ∙ length_headed image max parties

module _ (image : List ℕ) (max parties divide : ℕ) where
  pub keeps_lay_size : sizes_fit 1 (length image) max parties ≡ false → ImagePromise (lay_of image max parties divide) (Err WrongSize) image
  unfolding lay_of lay_refusal
  keeps_lay_size other = promise (rw other refl)

  pub keeps_lay_divide : sizes_fit 1 (length image) max parties ≡ true → leb divide max ≡ false
      → ImagePromise (lay_of image max parties divide) (Err Outside) image
  unfolding lay_of lay_refusal
  keeps_lay_divide sized past = promise (rw (sized, past) refl)

  pub keeps_lay_done : Layable (length image) max parties divide → lay_refusal (length image) max parties divide ≡ passes → (left : List ℕ)
      → left ≡ sets (blank image max parties) (8 + 8 * (divide + 1)) (word_bytes (rights_of max divide))
      → ImagePromise (lay_of image max parties divide) (Ok GoesOn) left
  unfolding lay_of
  keeps_lay_done fits none left laid =
      let fresh = laid ∙ fresh_laid image 1 max parties divide fits.divided fits.exact in
      promise (rw (none, fresh) refl)

  pub none_refused : sizes_fit 1 (length image) max parties ≡ true → leb divide max ≡ true → lay_refusal (length image) max parties divide ≡ passes
  unfolding lay_refusal
  none_refused sized low = rw (sized, low) refl
