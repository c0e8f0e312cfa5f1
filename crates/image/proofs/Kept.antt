-- What the calls on an image keep: a promise leaves nothing open, a refused call changes no byte, and every number is at most 19.
use Prim.Native.Nat.{ℕ, ◌≤◌}
use mathlib.Core.Path.{◌≡◌, refl, sym, ◌∙◌}
use mathlib.Core.Bool.{true≢false}
use mathlib.Core.List.{List}
use lib.ListN.{length}
use native.Mathlib.Omega.{arith}
use Rattle.std.specs.declared.result.Result.{Result}
use Rattle.std.specs.declared.result.Result.TheVariants.{Ok, Err}
use Rattle.logic.specs.Pick.{pick}
use Rattle.logic.proofs.Bools.{whichever}
use Rattle.refusal.specs.declared.Refusal.{Refusal}
use Rattle.refusal.specs.declared.Refusal.TheVariants.{NotValid}
use Rattle.refusal.specs.Refusal.{Check, check_number}
use Rattle.refusal.proofs.Checks.{refusal_is_small}
use Rattle.party.specs.Answer.{number_of}
use Rattle.party.specs.declared.Answer.{Answer}
use Rattle.party.specs.declared.Answer.TheVariants.{GoesOn}
use Rattle.party.proofs.Refusals.{Checked, every_check_ends}
use Rattle.call.specs.Call.{Call}
use Rattle.call.proofs.Calls.{refused_call_changes_nothing}
use Rattle.call.proofs.Bounds.{no_answer_is_above_19}
use Rattle.format.specs.Format.{header_refusal}
use Rattle.format.specs.Fresh.{fresh_image}
use Rattle.format.specs.Spelling.{strip_of, table_of}
use Rattle.image.specs.Calls.{Done, unchanged, decoded, encoded, unless, spare_refused, image_of, lay_refusal, lay_of, ImagePromise, RefusedLeaves}
use Rattle.little.specs.Bytes.{AreBytes}
use Rattle.format.proofs.Spelled.{decoded_is_spelled}

-- what a call does behind the header
abbrev behind_header : List ℕ → Call → Done
behind_header image call = pick (spare_refused image call) (unchanged NotValid image) (encoded image (decoded image call))

-- Two results that keep one promise are the same answer and the same bytes.
pub two_images_that_keep_it_are_equal : {wanted : Done} {one two : Result Answer Refusal} {left other : List ℕ}
    → ImagePromise wanted one left → ImagePromise wanted two other → (one ≡ two) × (left ≡ other)
two_images_that_keep_it_are_equal p q = (p.answered ∙ sym q.answered, p.bytes ∙ sym q.bytes)

pub refused_image_call_changes_nothing : (image : List ℕ) (call : Call) → AreBytes image → RefusedLeaves image (image_of image call)
unfolding image_of
refused_image_call_changes_nothing image call are = go (header_refusal image)
  where
    go : (check : Check) → RefusedLeaves image (unless check image (behind_header image call))
    go (Err refusal) = λ h. (refl, refl)
    go (Ok done) =
        whichever (RefusedLeaves image) (spare_refused image call) (λ h. (refl, refl))
        (λ h.
        let kept = refused_call_changes_nothing (strip_of image) (table_of image) call h in
        (kept.carried, rw (kept.strip_kept, kept.table_kept) (decoded_is_spelled image are)))

pub refused_lay_changes_nothing : (image : List ℕ) (max parties divide : ℕ) → RefusedLeaves image (lay_of image max parties divide)
unfolding lay_of
refused_lay_changes_nothing image max parties divide = go (lay_refusal (length image) max parties divide)
  where
    go : (check : Check) → RefusedLeaves image (unless check image (record { answer = Ok GoesOn; image = fresh_image 1 max parties divide }))
    go (Ok done) = λ h. absurd (true≢false (sym h))
    go (Err refusal) = λ h. (refl, refl)

pub lay_checked : (bytes max parties divide : ℕ) → Checked (check_number (lay_refusal bytes max parties divide))
lay_checked bytes max parties divide = every_check_ends (lay_refusal bytes max parties divide)

abbrev Small : Done → Type 0
Small done = number_of done.answer ≤ 19

pub no_image_answer_is_above_19 : (image : List ℕ) (call : Call) → number_of (image_of image call).answer ≤ 19
unfolding image_of
no_image_answer_is_above_19 image call = go (header_refusal image)
  where
    go : (check : Check) → Small (unless check image (behind_header image call))
    go (Err refusal) = let small = refusal_is_small refusal in omega arith
    go (Ok done) = whichever Small (spare_refused image call) (omega arith) (no_answer_is_above_19 (strip_of image) (table_of image) call)

pub no_lay_answer_is_above_19 : (image : List ℕ) (max parties divide : ℕ) → number_of (lay_of image max parties divide).answer ≤ 19
unfolding lay_of
no_lay_answer_is_above_19 image max parties divide = go (lay_refusal (length image) max parties divide)
  where
    go : (check : Check) → Small (unless check image (record { answer = Ok GoesOn; image = fresh_image 1 max parties divide }))
    go (Ok done) = omega arith
    go (Err refusal) = let small = refusal_is_small refusal in omega arith
