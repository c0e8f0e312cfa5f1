-- The checks before the record's own: what a refused one gives, and what one that passes knows.
use Prim.Native.Nat.{ℕ, ◌≤◌, ◌<◌}
use mathlib.Core.Path.{◌≡◌, refl, sym, ap}
use mathlib.Core.Bool.{Bool, true, false, not}
use mathlib.Core.List.{List}
use lib.ListN.{length}
use lib.Dec.{leb}
use borrow.Author.Tests.{leb-false, not-false, le-leb, lt-leb}
use Rattle.std.specs.declared.result.Result.TheVariants.{Ok, Err}
use Rattle.std.specs.Result.{result_and}
use Rattle.refusal.specs.declared.Refusal.{Refusal}
use Rattle.refusal.specs.declared.Refusal.TheVariants.{WrongOperation, WrongParty, NotValid}
use Rattle.refusal.specs.Refusal.{Check, passes}
use Rattle.refusal.proofs.Checks.{passed}
use Rattle.header.specs.Header.{version_at, parties_at, max_at}
use Rattle.format.specs.Format.{party_place, header_refusal}
use Rattle.format.specs.Spelling.{is_spare}
use Rattle.format.specs.Inside.{header_of, named_refusal, named_of, taken_header, found_named}
use Rattle.format.specs.declared.Header.{Header}
use Rattle.format.specs.declared.Named.{Named}
use Rattle.format.proofs.Sizes.{Sized, header_sized}

-- A check and what is looked at behind it: if both pass, each does; what was given behind it, it passed; what it refused, it refused.
pub both_pass : (check rest : Check) → result_and check rest ≡ passes → (check ≡ passes) × (rest ≡ passes)
both_pass (Ok done) rest e = (refl, e)
both_pass (Err refusal) rest e = cc

pub given_behind : {A : Type 0} (check : Check) {found got : A} → result_and check (Ok found) ≡ Ok got → (check ≡ passes) × (found ≡ got)
given_behind (Ok done) e = (refl, cc)
given_behind (Err refusal) e = cc

pub refused_by : {A : Type 0} (check : Check) (found : A) {refusal : Refusal} → result_and check (Ok found) ≡ Err refusal → check ≡ Err refusal
refused_by (Ok done) found e = cc
refused_by (Err refusal) found e = cc

-- What a header that was read says.
pub record Says (image : List ℕ) (got : Header) : Type 0 where
  pub taken : header_refusal image ≡ passes
  pub version_is : got.version ≡ version_at image
  pub max_is : got.max ≡ max_at image
  pub parties_are : got.parties ≡ parties_at image

module _ (image : List ℕ) where
  pub says : (got : Header) → header_of image ≡ Ok got → Says image got
  unfolding header_of
  says got read =
      let is = given_behind (header_refusal image) read in
      record {
        taken = is.0;
        version_is = ap (λ (h : Header). h.version) (sym is.1);
        max_is = ap (λ (h : Header). h.max) (sym is.1);
        parties_are = ap (λ (h : Header). h.parties) (sym is.1);
      }

  pub header_refuses : (refusal : Refusal) → header_of image ≡ Err refusal → header_refusal image ≡ Err refusal
  unfolding header_of
  header_refuses refusal read = refused_by (header_refusal image) (taken_header image) read

module _ (image : List ℕ) (unknown : Bool) (party : ℕ) where
  pub named_found : (got : Named) → named_of image unknown party ≡ Ok got
      → (named_refusal image unknown party ≡ passes) × (found_named image party ≡ got)
  unfolding named_of
  named_found got read = given_behind (named_refusal image unknown party) read

  pub named_passes : named_refusal image unknown party ≡ passes → named_of image unknown party ≡ Ok (found_named image party)
  unfolding named_of
  named_passes none = rw none refl

  pub named_refuses : (refusal : Refusal) → named_of image unknown party ≡ Err refusal → named_refusal image unknown party ≡ Err refusal
  unfolding named_of
  named_refuses refusal read = refused_by (named_refusal image unknown party) (found_named image party) read

  pub record NamedFits : Type 0 where
    pub taken : header_refusal image ≡ passes
    pub sized_right : Sized (version_at image) (length image) (max_at image) (parties_at image)
    pub known : unknown ≡ false
    pub party_known : party < parties_at image
    pub spare : is_spare (version_at image) image (party_place image party) ≡ true

  pub named_fits : named_refusal image unknown party ≡ passes → NamedFits
  unfolding named_refusal
  named_fits e =
      let past = both_pass (header_refusal image) _ e in
      let past11 = passed unknown _ _ past.1 in
      let past3 = passed (leb (parties_at image) party) _ _ past11.1 in
      let past4 = passed (not (is_spare (version_at image) image (party_place image party))) _ passes past3.1 in
      record {
        taken = past.0;
        sized_right = header_sized image past.0;
        known = past11.0;
        party_known = leb-false (parties_at image) party past3.0;
        spare = not-false _ past4.0;
      }

  -- the rungs of the ladder
  pub refused_by_header : (refusal : Refusal) → header_refusal image ≡ Err refusal → named_of image unknown party ≡ Err refusal
  unfolding named_of named_refusal
  refused_by_header refusal some = rw some refl

  module _ (taken : header_refusal image ≡ passes) where
    pub refused_by_operation : unknown ≡ true → named_of image unknown party ≡ Err WrongOperation
    unfolding named_of named_refusal
    refused_by_operation u = rw (taken, u) refl

    module _ (known : unknown ≡ false) where
      pub refused_by_party : parties_at image ≤ party → named_of image unknown party ≡ Err WrongParty
      unfolding named_of named_refusal
      refused_by_party h = rw (taken, known, le-leb (parties_at image) party h) refl

      module _ (inside : party < parties_at image) where
        pub refused_by_spare : is_spare (version_at image) image (party_place image party) ≡ false → named_of image unknown party ≡ Err NotValid
        unfolding named_of named_refusal
        refused_by_spare h = rw (taken, known, lt-leb (parties_at image) party inside, h) refl

        pub refused_by_none : is_spare (version_at image) image (party_place image party) ≡ true → named_of image unknown party ≡ Ok (found_named image party)
        unfolding named_of named_refusal
        refused_by_none h = rw (taken, known, lt-leb (parties_at image) party inside, h) refl
