-- What is known of a schedule file that no check refused, and that its listing has room in what is asked for.
use Prim.Native.Nat.{ℕ, zero, suc, ◌+◌, ◌-◌, ◌%◌, ◌≤◌}
use mathlib.Core.Path.{◌≡◌, refl, sym, ◌∙◌, ap}
use mathlib.Core.Bool.{not, ◌&&◌}
use mathlib.Core.List.{List}
use lib.ListN.{length}
use lib.Dec.{eqb, leb, ltb}
use borrow.Author.Tests.{ltb-false, leb-true, le-leb, eqb-true, not-false}
use native.Mathlib.Omega.{arith}
use Rattle.std.specs.declared.result.Result.TheVariants.{Ok, Err}
use Rattle.std.specs.Result.{result_and}
use Rattle.logic.specs.Every.{Every}
use Rattle.logic.proofs.Bools.{both}
use Rattle.refusal.specs.declared.Refusal.{Refusal}
use Rattle.refusal.specs.Refusal.{Check, passes}
use Rattle.refusal.proofs.Checks.{passed}
use Rattle.little.specs.Bytes.{AreBytes}
use Rattle.text.specs.declared.Text.{Text}
use Rattle.text.specs.Writing.{Room}
use Rattle.party.specs.Calls.{max_fits}
use Rattle.call.specs.Call.{Call, Fitting, table_fits}
use Rattle.strip.specs.Lay.{fresh_strip, lay_refusal, lay_leaves, LayPromise}
use Rattle.strip.proofs.Laying.{laid_leaves}
use Rattle.entry.specs.Entry.{call_at}
use Rattle.entry.proofs.Asks.{party_is, an_order_in_bytes_has_32_bits}
use Rattle.history.specs.Run.{no_call, end_from}
use Rattle.listing.specs.Listing.{run_text, header_text, cells_text, listing_bound, Narrow}
use Rattle.listing.proofs.Bound.{no_listing_is_longer}
use Rattle.header.specs.Header.{is_marked, parties_at, max_at, version_at, counts_fit}
use Rattle.schedule.specs.File.{divide_at, entries_of, length_fits, file_refusal, calls_from, calls_of}
use Rattle.schedule.specs.Inside.{header_of}
use Rattle.schedule.specs.declared.Header.{Header}
use Rattle.schedule.specs.List.{listing_of, first_of}

pub record Listable (file : List ℕ) : Type 0 where
  pub headed : 10 ≤ length file
  pub max_low : 1 ≤ max_at file
  pub max_high : max_at file ≤ 4094
  pub parties_low : 1 ≤ parties_at file
  pub parties_high : parties_at file ≤ 16
  pub whole : (length file - 10) % 8 ≡ 0
  pub few : entries_of file ≤ 2048
  pub inside : divide_at file ≤ max_at file

pub listable : (file : List ℕ) → file_refusal file ≡ passes → Listable file
unfolding file_refusal
listable file e =
    let long = passed (ltb (length file) 10) _ _ e in
    let marked = passed (not (is_marked 79 file && eqb (version_at file) 1)) _ _ long.1 in
    let fit = counts_fit (max_at file) (parties_at file) && length_fits (length file) in
    let fits = passed (not fit) _ _ marked.1 in
    let each = both (counts_fit (max_at file) (parties_at file)) (length_fits (length file)) (not-false fit fits.0) in
    let sizes = both (max_fits (max_at file)) (table_fits (parties_at file)) each.0 in
    let max = both (leb 1 (max_at file)) (leb (max_at file) 4094) sizes.0 in
    let parties = both (leb 1 (parties_at file)) (leb (parties_at file) 16) sizes.1 in
    let entries = both (eqb ((length file - 10) % 8) 0) (leb (entries_of file) 2048) each.1 in
    let divide = passed (not (leb (divide_at file) (max_at file))) _ passes fits.1 in
    record {
      headed = ltb-false (length file) 10 long.0;
      max_low = leb-true 1 (max_at file) max.0;
      max_high = leb-true (max_at file) 4094 max.1;
      parties_low = leb-true 1 (parties_at file) parties.0;
      parties_high = leb-true (parties_at file) 16 parties.1;
      whole = eqb-true ((length file - 10) % 8) 0 entries.0;
      few = leb-true (entries_of file) 2048 entries.1;
      inside = leb-true (divide_at file) (max_at file) (not-false (leb (divide_at file) (max_at file)) divide.0);
    }

-- What a header that was read says.
pub record Says (file : List ℕ) (got : Header) : Type 0 where
  pub taken : file_refusal file ≡ passes
  pub known : Listable file
  pub max_is : got.max ≡ max_at file
  pub divide_is : got.divide ≡ divide_at file
  pub parties_are : got.parties ≡ parties_at file

-- What is given behind a check, it passed; what is refused there, it refused.
pub given : (check : Check) {found got : Header} → result_and check (Ok found) ≡ Ok got → (check ≡ passes) × (found ≡ got)
given (Ok done) e = (refl, cc)
given (Err refusal) e = cc

pub refused : (check : Check) (found : Header) {refusal : Refusal} → result_and check (Ok found) ≡ Err refusal → check ≡ Err refusal
refused (Ok done) found e = cc
refused (Err refusal) found e = cc

pub said : (file : List ℕ) (got : Header) → header_of file ≡ Ok got → Says file got
unfolding header_of
said file got read =
    let is = given (file_refusal file) read in
    record {
      taken = is.0;
      known = listable file is.0;
      max_is = ap (λ (h : Header). h.max) (sym is.1);
      divide_is = ap (λ (h : Header). h.divide) (sym is.1);
      parties_are = ap (λ (h : Header). h.parties) (sym is.1);
    }

-- a strip of the file's MAX and divide can be laid
pub lays : (file : List ℕ) (words : ℕ) → Listable file → words ≡ max_at file + 2 → lay_refusal words (divide_at file) ≡ passes
unfolding lay_refusal
lays file words l same =
    simp (le-leb 3 words (omega arith), le-leb words 4096 (omega arith), le-leb (divide_at file) (words - 2) (omega arith))

-- the three pieces of a listing
abbrev pub header_piece : (file : List ℕ) → List ℕ
header_piece file = header_text (max_at file) (divide_at file) (parties_at file)

abbrev pub lines_piece : (file : List ℕ) → List ℕ
lines_piece file = run_text (first_of file) 0 (calls_of file)

abbrev pub cells_piece : (file : List ℕ) → List ℕ
cells_piece file = cells_text (end_from (first_of file) 0 (calls_of file)).strip

pub calls_count : (file : List ℕ) (at count : ℕ) → length (calls_from file at count) ≡ count
unfolding calls_from
calls_count file at zero = refl
calls_count file at (suc count) = ap suc (calls_count file (at + 8) count)

-- What holds of the call at every place holds of every call of the file.
module _ (P : Call → Type 0) (file : List ℕ) (holds : (at : ℕ) → P (call_at file at)) where
  every_call : (at count : ℕ) → Every P no_call (calls_from file at count)
  unfolding calls_from
  every_call at zero i within = absurd (omega arith)
  every_call at (suc count) zero within = holds at
  every_call at (suc count) (suc i) within = every_call (at + 8) count i (omega arith)

-- the party of an entry is a byte, its order 32 bits
pub calls_narrow : (file : List ℕ) → AreBytes file → Every Narrow no_call (calls_of file)
calls_narrow file bytes = every_call Narrow file (λ at. rw (party_is file at) (bytes (at + 1))) 10 (entries_of file)

pub calls_fit : (file : List ℕ) → AreBytes file → Every Fitting no_call (calls_of file)
calls_fit file bytes = every_call Fitting file (λ at. an_order_in_bytes_has_32_bits file at bytes) 10 (entries_of file)

-- What is said of a file's listing holds of bytes.
module _ (file : List ℕ) (taken : file_refusal file ≡ passes) (bytes : AreBytes file) where
  -- What is asked for is enough.
  pub the_listing_fits : length (listing_of file) ≤ listing_bound
  the_listing_fits =
      let l = listable file taken in
      no_listing_is_longer (max_at file) (divide_at file) (parties_at file) (calls_of file) l.max_high l.inside l.parties_high
      (rw (calls_count file 10 (entries_of file)) l.few) (calls_narrow file bytes)

  -- the room that a listing wants
  pub room_to_list : (text : Text) → text.at ≡ 0 → listing_bound ≤ length text.out.now → Room (listing_of file) text
  room_to_list text front long = record { fits = omega (arith, the_listing_fits) }

-- the strip that was laid is the run's first
pub laid_fresh : (file strip : List ℕ) (divide : ℕ) {got : Check} {left : List ℕ} → Listable file → length strip ≡ max_at file + 2
    → divide ≡ divide_at file → LayPromise strip divide got left → left ≡ (first_of file).strip
laid_fresh file strip divide l same is laid =
    let max : length strip - 2 ≡ max_at file = omega arith in
    laid.words ∙ ap (lay_leaves strip) is ∙ laid_leaves strip (divide_at file) (lays file (length strip) l same)
    ∙ ap (λ (n : ℕ). fresh_strip n (divide_at file)) max
