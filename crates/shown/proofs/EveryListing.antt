-- Demand 3, said of the listing itself: where no check refuses a schedule file, what its listing shows is explained by the plain
-- strip.
use Prim.Native.Nat.{ℕ}
use mathlib.Core.Path.{◌≡◌, refl, ◌∙◌}
use mathlib.Core.List.{List, [], ◌∷◌, map}
use lib.ListN.{length, take, drop}
use lib.Seq.{take_at, get_or_at}
use native.Mathlib.Numerals.{add-one}
use Rattle.std.specs.declared.result.Result.TheVariants.{Ok}
use Rattle.logic.specs.Every.{Every}
use Rattle.refusal.specs.Refusal.{passes}
use Rattle.little.specs.Bytes.{AreBytes}
use Rattle.word.specs.Word.{IsWord}
use Rattle.plain.specs.Plain.{fresh_plain}
use Rattle.call.specs.Call.{Call}
use Rattle.header.specs.Header.{parties_at, max_at}
use Rattle.history.specs.Run.{Line, lines_from, end_from}
use Rattle.history.specs.Finished.{finished_of}
use Rattle.history.specs.Explained.{ExplainedRun}
use Rattle.history.proofs.EverySchedule.{every_schedule_on_a_fresh_strip_is_explained, no_counter_comes_round_on_a_fresh_strip}
use Rattle.listing.proofs.Bounds.{lines_are_bounded}
use Rattle.schedule.specs.File.{divide_at, entries_of, file_refusal, calls_of}
use Rattle.schedule.specs.List.{listing_of, first_of, list_refusal, ListPromise}
use Rattle.schedule.proofs.Files.{Listable, listable, calls_count, calls_fit}
use Rattle.schedule.proofs.Refusing.{clear}
use Rattle.schedule.proofs.Kept.{listed}
use Rattle.shown.specs.Shown.{lines_in, cells_in}
use Rattle.shown.proofs.Cells.{cells_row, cells_are_shown}
use Rattle.shown.proofs.Lines.{as_shown, rows_from, each_entry_has_a_row, lines_are_shown}
use Rattle.shown.proofs.Finishing.{finished_as_shown}
use Rattle.shown.proofs.Rows.{rows_of_a_listing}

module _ (file : List ℕ) (are : AreBytes file) (taken : file_refusal file ≡ passes) where
  abbrev max : ℕ
  max = max_at file

  abbrev divide : ℕ
  divide = divide_at file

  abbrev calls : List Call
  calls = calls_of file

  abbrev lines : List Line
  lines = lines_from (first_of file) 0 calls

  -- the strip's words at the end
  abbrev strip : List ℕ
  strip = (end_from (first_of file) 0 calls).strip

  known : Listable file
  known = listable file taken

  count : length calls ≡ entries_of file
  count = calls_count file 10 (entries_of file)

  row_count : length (rows_from (first_of file) 0 calls) ≡ entries_of file
  row_count = each_entry_has_a_row (first_of file) 0 calls ∙ count

  lines_shown : lines_in file (listing_of file) ≡ map as_shown lines
  lines_shown =
      rw (rows_of_a_listing max divide (parties_at file) calls, take_at (rows_from (first_of file) 0 calls) _ (entries_of file) row_count)
      (lines_are_shown (first_of file) 0 calls
      (lines_are_bounded (first_of file).strip (parties_at file) calls (rw count known.few)))

  finished_shown : finished_of (parties_at file) calls (lines_in file (listing_of file)) ≡ finished_of (parties_at file) calls lines
  finished_shown = rw lines_shown (finished_as_shown _ 0 calls lines)

  words : Every IsWord 0 strip
  words =
      no_counter_comes_round_on_a_fresh_strip max divide (parties_at file) calls known.max_low known.max_high known.inside
      (calls_fit file are)

  cells_shown : cells_in file (listing_of file) ≡ strip
  cells_shown =
      let row = get_or_at (rows_from (first_of file) 0 calls) (cells_row strip) ([] ∷ []) [] (entries_of file) row_count in
      rw (rows_of_a_listing max divide (parties_at file) calls, add-one (entries_of file), row) (cells_are_shown strip words)

  -- Every listing is explained: the finished operations that it shows, played on a fresh plain strip in the order of the effects that
  -- it shows, give every answer that it shows, and end at the plain strip that the cells that it shows stand for.
  pub every_listing_is_explained :
      ExplainedRun (fresh_plain (max_at file) (divide_at file)) (parties_at file) (calls_of file) (lines_in file (listing_of file))
      (cells_in file (listing_of file))
  every_listing_is_explained =
      rw (cells_shown, finished_shown)
      (every_schedule_on_a_fresh_strip_is_explained max divide (parties_at file) calls known.max_low known.max_high known.inside
      (calls_fit file are))

-- What list writes where it answers a length is such a listing.
module _ (file strip out : List ℕ) (are : AreBytes file) (long : ℕ) (words bytes : List ℕ)
    (kept : ListPromise file strip out (Ok long) words bytes) where
  abbrev written : List ℕ
  written = take long bytes

  done : (list_refusal file (length strip) (length out) ≡ passes) × (long ≡ length (listing_of file))
  done = listed file strip out words bytes long kept

  the_listing_is_written : written ≡ listing_of file
  the_listing_is_written =
      rw (kept.bytes_left, done.1, done.0) (take_at (listing_of file) (drop (length (listing_of file)) out) (length (listing_of file)) refl)

  pub every_listing_that_list_writes_is_explained :
      ExplainedRun (fresh_plain (max_at file) (divide_at file)) (parties_at file) (calls_of file) (lines_in file written) (cells_in file written)
  every_listing_that_list_writes_is_explained =
      rw the_listing_is_written (every_listing_is_explained file are (clear file (length strip) (length out) done.0).file_passes)
