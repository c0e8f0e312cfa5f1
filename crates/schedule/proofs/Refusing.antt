-- What is known of a list that no check refused, and that it keeps its promise.
use Prim.Native.Nat.{ℕ, ◌+◌, ◌≤◌}
use mathlib.Core.Path.{◌≡◌, ◌∙◌, ap}
use mathlib.Core.Bool.{not, ◌&&◌}
use mathlib.Core.List.{List, ◌++◌}
use lib.ListN.{length, drop}
use lib.Seq.{sets-eq}
use lib.Dec.{eqb, leb}
use borrow.Author.Tests.{eqb-true, leb-true, not-false}
use native.Mathlib.Omega.{arith}
use native.Mathlib.Nat.{zero-add}
use Rattle.std.specs.declared.result.Result.TheVariants.{Ok, Err}
use Rattle.logic.proofs.Bools.{both}
use Rattle.refusal.specs.declared.Refusal.{Refusal}
use Rattle.refusal.specs.Refusal.{passes}
use Rattle.refusal.proofs.Checks.{passed}
use Rattle.text.specs.declared.Text.{Text}
use Rattle.text.specs.Writing.{Puts}
use Rattle.listing.specs.Listing.{listing_bound}
use Rattle.header.specs.Header.{max_at}
use Rattle.schedule.specs.File.{file_refusal}
use Rattle.schedule.specs.List.{list_refusal, listing_of, words_at_end, ListPromise}
use Rattle.schedule.specs.Inside.{taken_header, header_of, listed_header}
use Rattle.schedule.specs.declared.Header.{Header}
use Rattle.schedule.proofs.Files.{Says, said, given, refused}

pub record Clear (file : List ℕ) (words room : ℕ) : Type 0 where
  pub whole : words ≡ 4096
  pub wide : listing_bound ≤ room
  pub file_passes : file_refusal file ≡ passes

pub clear : (file : List ℕ) (words room : ℕ) → list_refusal file words room ≡ passes → Clear file words room
unfolding list_refusal
clear file words room e =
    let past = passed (not (eqb words 4096 && leb listing_bound room)) _ _ e in
    let each = both (eqb words 4096) (leb listing_bound room) (not-false (eqb words 4096 && leb listing_bound room) past.0) in
    record { whole = eqb-true words 4096 each.0; wide = leb-true listing_bound room each.1; file_passes = past.1 }

-- What is known of a list whose header was read.
pub record Listed (file : List ℕ) (words room : ℕ) (got : Header) : Type 0 where
  pub none : list_refusal file words room ≡ passes
  pub cleared : Clear file words room
  pub read : header_of file ≡ Ok got
  pub says : Says file got

pub is_listed : (file : List ℕ) (words room : ℕ) (got : Header) → listed_header file words room ≡ Ok got → Listed file words room got
unfolding listed_header header_of
is_listed file words room got e =
    let all = given (list_refusal file words room) e in
    let cleared = clear file words room all.0 in
    let read : header_of file ≡ Ok got = rw (cleared.file_passes, all.1) in
    record { none = all.0; cleared = cleared; read = read; says = said file got read }

pub list_refuses : (file : List ℕ) (words room : ℕ) {refusal : Refusal} → listed_header file words room ≡ Err refusal
    → list_refusal file words room ≡ Err refusal
unfolding listed_header
list_refuses file words room e = refused (list_refusal file words room) (taken_header file) e

module _ (file strip out : List ℕ) where
  pub when_listed : list_refusal file (length strip) (length out) ≡ passes → length (listing_of file) ≤ listing_bound
      → {text left : Text} {bytes : List ℕ} → text.at ≡ 0 → text.out.now ≡ out → Puts (listing_of file) text left → bytes ≡ left.out.now
      → ListPromise file strip out (Ok left.at) (words_at_end file ++ drop (max_at file + 2) strip) bytes
  when_listed none short front begin puts are =
      let c = clear file (length strip) (length out) none in
      record {
        gives = rw (none, puts.behind, front, zero-add);
        words_left = rw none;
        bytes_left = rw none (are ∙ puts.bytes ∙ rw (front, begin) (sets-eq (listing_of file) out 0 (omega arith)) ∙ ap (λ (n : ℕ). listing_of file ++ drop n out) (zero-add (length (listing_of file))));
      }
