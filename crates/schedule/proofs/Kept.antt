-- List's promise leaves nothing open, and a refused list changes nothing.
use Prim.Native.Nat.{ℕ, ◌≤◌}
use mathlib.Core.Path.{◌≡◌, sym, ◌∙◌, ap}
use mathlib.Core.Bool.{true≢false}
use mathlib.Core.List.{List}
use lib.ListN.{length, drop, length-append, length-drop}
use native.Mathlib.Omega.{arith}
use Rattle.std.specs.Prelude.{is_ok}
use Rattle.std.specs.declared.result.Result.{Result}
use Rattle.std.specs.declared.result.Result.TheVariants.{Ok, Err}
use Rattle.refusal.specs.declared.Refusal.{Refusal}
use Rattle.refusal.specs.Refusal.{Check, passes}
use Rattle.refusal.proofs.Checks.{Decided, decided}
use Rattle.schedule.specs.List.{list_refusal, listing_of, listed_of, ListPromise}

-- Two results that keep it are equal, and so are the words and the bytes they leave.
pub two_lists_that_keep_it_are_equal : {file strip out : List ℕ} {one two : Result ℕ Refusal} {words more bytes others : List ℕ}
    → ListPromise file strip out one words bytes → ListPromise file strip out two more others
    → (one ≡ two) × (words ≡ more) × (bytes ≡ others)
two_lists_that_keep_it_are_equal p q =
    (p.gives ∙ sym q.gives, p.words_left ∙ sym q.words_left, p.bytes_left ∙ sym q.bytes_left)

length_in : Result ℕ Refusal → ℕ
length_in (Ok long) = long
length_in (Err refusal) = 0

module _ (file strip out words bytes : List ℕ) where
  abbrev check : Check
  check = list_refusal file (length strip) (length out)

  -- A list that answers a length was not refused, and the length is the listing's.
  pub listed : (long : ℕ) → ListPromise file strip out (Ok long) words bytes → (check ≡ passes) × (long ≡ length (listing_of file))
  unfolding length_in
  listed long p = go (decided check)
    where
      go : Decided check → (check ≡ passes) × (long ≡ length (listing_of file))
      go (Decided.none none) = (none, ap length_in (p.gives ∙ ap (listed_of file) none))
      go (Decided.some refusal some) = absurd (true≢false (ap is_ok (p.gives ∙ ap (listed_of file) some)))

  pub refused_list_changes_nothing : (refusal : Refusal) → ListPromise file strip out (Err refusal) words bytes → (words ≡ strip) × (bytes ≡ out)
  refused_list_changes_nothing refusal p = go (decided check)
    where
      go : Decided check → (words ≡ strip) × (bytes ≡ out)
      go (Decided.none none) = absurd (true≢false (sym (ap is_ok (p.gives ∙ ap (listed_of file) none))))
      go (Decided.some refusal some) = (rw some at p.words_left, rw some at p.bytes_left)

  -- The listing lies in the bytes that were lent.
  pub listing_lies_within : length bytes ≡ length out → (long : ℕ) → ListPromise file strip out (Ok long) words bytes → long ≤ length bytes
  listing_lies_within same long p =
      let is = listed long p in
      let text = listing_of file in
      omega (arith, is.1, ap length (rw is.0 at p.bytes_left), length-append text (drop (length text) out), length-drop (length text) out)
