-- A call on an intact image leaves an intact image, which spells what the call leaves of what the image spelled before.
use Prim.Native.Nat.{ℕ, ◌+◌, ◌-◌, ◌<◌}
use mathlib.Core.Path.{◌≡◌, refl, sym, ◌∙◌, subst}
use mathlib.Core.Bool.{true, false, not, ◌&&◌}
use mathlib.Core.List.{List}
use lib.ListN.{length, get_or}
use Rattle.std.specs.Prelude.{is_ok}
use Rattle.std.specs.declared.result.Result.TheVariants.{Ok, Err}
use native.Mathlib.Omega.{arith}
use Rattle.logic.specs.Every.{Every}
use Rattle.refusal.specs.Refusal.{Check}
use Rattle.little.proofs.Runs.{Agree}
use Rattle.little.proofs.Digits.{same_number}
use Rattle.word.specs.Word.{IsWord}
use Rattle.record.specs.Record.{idle}
use Rattle.record.specs.declared.Record.{Record}
use Rattle.call.specs.Call.{Call, Fitting, party_of, gate}
use Rattle.call.proofs.Called.{past_gate}
use Rattle.header.specs.Header.{version_at, parties_at, max_at}
use Rattle.format.specs.Format.{party_place}
use Rattle.format.specs.Spelling.{strip_of, table_of, is_spare, spelled, RecordFits}
use Rattle.format.proofs.Sizes.{same_header}
use Rattle.format.proofs.Spelled.{strip_length, as_long, still_bytes, header_kept, max_kept, spare_bytes_kept}
use Rattle.image.specs.Calls.{decoded, encoded, spare_refused, image_of}
use Rattle.image.proofs.Decoded.{spells, left_fits, strip_after_is_decoded, table_after_is_decoded}
use Rattle.on_image.specs.Intact.{Intact}

-- Words and records that fit, spelled in an intact image, leave it intact.
module _ (image strip : List ℕ) (table : List Record) (intact : Intact image) where
  abbrev after : List ℕ
  after = spelled image strip table

  parties_kept : parties_at after ≡ parties_at image
  parties_kept = header_kept image strip table 5 (omega arith)

  module _ (words : length strip ≡ max_at image + 2) where
    spare_agrees : (party : ℕ) → Agree after image (party_place image party + 24) 8
    spare_agrees party i lo hi =
        let past = party_place image party in
        let here : past + (i - past) ≡ i = omega arith in
        subst (λ (j : ℕ). get_or after j 0 ≡ get_or image j 0) here
        (spare_bytes_kept image strip table party (i - past) words (omega arith) (omega arith))

    spare_kept : (party : ℕ) → party < parties_at after → is_spare (version_at after) after (party_place after party) ≡ true
    spare_kept party known =
        rw (max_kept image strip table, same_number 8 after image (party_place image party + 24) (spare_agrees party))
        (intact.spare party (rw parties_kept at known))

    spelled_is_intact : Every IsWord 0 strip → Every RecordFits idle table → Intact after
    spelled_is_intact fit records =
        record {
          bytes = still_bytes image strip table intact.bytes fit records;
          taken = same_header after image (as_long image strip table) (λ i lo hi. header_kept image strip table i hi) ∙ intact.taken;
          spare = spare_kept;
        }

module _ (image : List ℕ) (intact : Intact image) (call : Call) (narrow : Fitting call) where
  -- the spare bytes of a party that is known are zero
  none_spared : spare_refused image call ≡ false
  none_spared = go (gate (max_at image + 2) (parties_at image) call) refl
    where
      go : (check : Check) → gate (max_at image + 2) (parties_at image) call ≡ check
          → is_ok check && not (is_spare (version_at image) image (party_place image (party_of call))) ≡ false
      go (Ok done) e =
          let known = (past_gate (max_at image + 2) (parties_at image) call e).party_known in
          rw (intact.spare (party_of call) known) refl
      go (Err refusal) e = refl

  -- A call on an intact image is the call on what the image spells, spelled back.
  pub an_intact_image_is_called_decoded : image_of image call ≡ encoded image (decoded image call)
  unfolding image_of
  an_intact_image_is_called_decoded = rw (intact.taken, none_spared) refl

  -- A call keeps the header, the bytes that must be zero, and that the bytes are bytes.
  pub a_call_keeps_an_image_intact : Intact (image_of image call).image
  a_call_keeps_an_image_intact =
      let fits = left_fits image intact.bytes intact.taken call none_spared narrow in
      subst Intact (sym (spells image intact.bytes intact.taken call none_spared narrow))
      (spelled_is_intact image (decoded image call).strip (decoded image call).table intact (fits.as_many_words ∙ strip_length image)
      fits.words fits.records)

  pub strip_after : strip_of (image_of image call).image ≡ (decoded image call).strip
  strip_after = strip_after_is_decoded image intact.bytes intact.taken call none_spared narrow

  pub table_after : table_of (image_of image call).image ≡ (decoded image call).table
  table_after = table_after_is_decoded image intact.bytes intact.taken call none_spared narrow
