-- What lay leaves where it is not refused, and what pds_lay leaves where it answers 0: an image at the beginning of a run.
use Prim.Native.Nat.{ℕ}
use mathlib.Core.Path.{◌≡◌, refl}
use mathlib.Core.List.{List}
use lib.ListN.{length, replicate}
use Rattle.std.specs.declared.result.Result.TheVariants.{Ok, Err}
use native.Mathlib.Omega.{arith}
use Rattle.refusal.specs.Refusal.{Check, passes}
use Rattle.refusal.proofs.Checks.{refusal_is_not_0}
use Rattle.record.specs.Record.{idle}
use Rattle.plain.specs.Plain.{fresh_plain}
use Rattle.strip.specs.Lay.{fresh_strip}
use Rattle.format.specs.Spelling.{strip_of, table_of}
use Rattle.image.specs.Calls.{lay_refusal, lay_of}
use Rattle.image.proofs.Laid.{layable}
use Rattle.pds.specs.Packed.{PackedPromise}
use Rattle.on_image.specs.Intact.{Intact}
use Rattle.on_image.specs.Run.{Begins}
use Rattle.on_image.proofs.Fresh.{a_fresh_image_begins, a_fresh_image_spells_a_fresh_strip}

module _ (bytes : List ℕ) (max parties divide : ℕ) where
  abbrev check : Check
  check = lay_refusal (length bytes) max parties divide

  pub what_lay_leaves_begins : check ≡ passes → Begins (lay_of bytes max parties divide).image (fresh_plain max divide) parties
  unfolding lay_of
  what_lay_leaves_begins none =
      let fits = layable (length bytes) max parties divide none in
      rw none (a_fresh_image_begins 1 max parties divide refl fits.counts_fit fits.divided)

  -- It has a header that is taken and zeros where they must be, and spells the fresh strip and idle parties.
  pub what_lay_leaves_spells_a_fresh_strip : check ≡ passes →
      let image = (lay_of bytes max parties divide).image in
      Intact image × (strip_of image ≡ fresh_strip max divide) × (table_of image ≡ replicate parties idle)
  unfolding lay_of
  what_lay_leaves_spells_a_fresh_strip none =
      let fits = layable (length bytes) max parties divide none in
      rw none (a_fresh_image_spells_a_fresh_strip 1 max parties divide refl fits.counts_fit fits.divided)

  -- an answer 0 is no refusal
  not_refused : (image : List ℕ) → PackedPromise (lay_of bytes max parties divide) 0 image → check ≡ passes
  unfolding lay_of
  not_refused image kept = go check refl
    where
      go : (c : Check) → check ≡ c → c ≡ passes
      go (Ok done) e = refl
      go (Err refusal) e = let packed = rw e at kept.packed in absurd (refusal_is_not_0 refusal (omega arith))

  pub what_pds_lay_leaves_begins : (image : List ℕ) → PackedPromise (lay_of bytes max parties divide) 0 image
      → Begins image (fresh_plain max divide) parties
  what_pds_lay_leaves_begins image kept = rw kept.bytes (what_lay_leaves_begins (not_refused image kept))
