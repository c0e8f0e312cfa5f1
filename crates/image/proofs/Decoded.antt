-- A call on an image, decoded: the words and the records that the image spells afterwards are those that the call leaves of the
-- words and the records that it spelled before.
use Prim.Native.Nat.{ℕ}
use mathlib.Core.Path.{◌≡◌, refl, ◌∙◌}
use mathlib.Core.Bool.{false}
use mathlib.Core.List.{List}
use lib.ListN.{length, length-set}
use Rattle.std.specs.declared.result.Result.TheVariants.{Ok, Err}
use Rattle.logic.specs.Every.{Every}
use Rattle.refusal.specs.declared.Refusal.{Refusal}
use Rattle.refusal.specs.Refusal.{Check, passes}
use Rattle.logic.proofs.Lists.{every_set}
use Rattle.word.specs.Word.{IsWord}
use Rattle.record.specs.Record.{idle}
use Rattle.record.specs.declared.Record.{Record}
use Rattle.call.specs.Call.{Call, Fitting, gate, own_of, own_leaves, record_of, party_of, Left, through, turned_away, past, call_of}
use Rattle.format.specs.Format.{header_refusal}
use Rattle.format.specs.Spelling.{strip_of, table_of, spelled, RecordFits}
use Rattle.image.specs.Calls.{decoded, spare_refused, image_of}
use Rattle.little.specs.Bytes.{AreBytes}
use Rattle.image.proofs.Widths.{idle_fits_lem}
use Rattle.format.proofs.Sizes.{header_sized}
use Rattle.format.proofs.Spelled.{strip_length, table_length, spelled_strip_is_decoded, spelled_table_is_decoded}
use Rattle.image.proofs.Leaves.{words_fit, records_fit, fits_anywhere, Fit, own_leaves_lem}

-- Of the words and records that a call leaves: as many as before, and fitting.
pub record LeftFits (strip : List ℕ) (table : List Record) (left : Left) : Type 0 where
  pub as_many_words : length left.strip ≡ length strip
  pub words : Every IsWord 0 left.strip
  pub as_many_records : length left.table ≡ length table
  pub records : Every RecordFits idle left.table

-- The image of a call that the header and the spare bytes let through spells what the call leaves.
module _ (image : List ℕ) (are : AreBytes image) (taken : header_refusal image ≡ passes) (call : Call) (spare : spare_refused image call ≡ false)
    (narrow : Fitting call) where
  abbrev strip : List ℕ
  strip = strip_of image

  abbrev table : List Record
  table = table_of image

  abbrev own : Record
  own = record_of table call

  own_fit : Fit strip (own_leaves strip own call) (own_of strip own call).rec
  own_fit =
      own_leaves_lem strip (words_fit image are) own
      (fits_anywhere RecordFits idle table (records_fit image are) idle_fits_lem (party_of call)) call narrow

  pub spells : (image_of image call).image ≡ spelled image (decoded image call).strip (decoded image call).table
  unfolding image_of
  spells = rw (taken, spare) refl

  pub left_fits : LeftFits strip table (decoded image call)
  unfolding call_of
  left_fits = go (gate (length strip) (length table) call)
    where
      gone : LeftFits strip table (through strip table call)
      gone =
          record {
            as_many_words = own_fit.as_many;
            words = own_fit.words;
            as_many_records = length-set table (party_of call) (own_of strip own call).rec;
            records = every_set RecordFits idle table (party_of call) (own_of strip own call).rec (records_fit image are) own_fit.rec;
          }

      away : (refusal : Refusal) → LeftFits strip table (turned_away strip table refusal)
      away refusal = record { as_many_words = refl; words = words_fit image are; as_many_records = refl; records = records_fit image are }

      go : (check : Check) → LeftFits strip table (past check strip table call)
      go (Ok done) = gone
      go (Err refusal) = away refusal

  pub strip_after_is_decoded : strip_of (image_of image call).image ≡ (decoded image call).strip
  strip_after_is_decoded =
      rw spells
      (spelled_strip_is_decoded image _ _ (header_sized image taken).exact (left_fits.as_many_words ∙ strip_length image)
      (left_fits.as_many_records ∙ table_length image) left_fits.words)

  pub table_after_is_decoded : table_of (image_of image call).image ≡ (decoded image call).table
  table_after_is_decoded =
      rw spells
      (spelled_table_is_decoded image _ _ (header_sized image taken).exact (left_fits.as_many_words ∙ strip_length image)
      (left_fits.as_many_records ∙ table_length image) left_fits.records)
