-- What a packed answer tells: its number and its carried order; that a promise leaves nothing open; and that a refused call changes
-- nothing.
use Prim.Native.Nat.{ℕ, ◌+◌, ◌*◌, ◌≤◌}
use mathlib.Core.Path.{◌≡◌, sym, ◌∙◌, ap}
use mathlib.Core.Bool.{true}
use mathlib.Core.List.{List}
use native.Mathlib.Omega.{arith}
use Rattle.little.specs.Bytes.{AreBytes}
use Rattle.party.specs.Answer.{is_refusal, number_of}
use Rattle.std.specs.declared.result.Result.{Result}
use Rattle.refusal.specs.declared.Refusal.{Refusal}
use Rattle.party.specs.declared.Answer.{Answer}
use Rattle.call.specs.Call.{Call}
use Rattle.image.specs.Calls.{Done, image_of, lay_of, ImagePromise, RefusedLeaves}
use Rattle.image.proofs.Kept.{refused_image_call_changes_nothing, refused_lay_changes_nothing, no_image_answer_is_above_19, no_lay_answer_is_above_19}
use Rattle.pds.specs.Packed.{packed_of, pds_number, pds_order, pds_refused, Tells, PackedPromise}

-- Whatever the answer, pds_number and pds_order are its two halves.
pub an_answer_is_its_two_halves : (answer : ℕ) → pds_number answer + 4294967296 * pds_order answer ≡ answer
an_answer_is_its_two_halves answer = omega arith

-- The answer of a call on an image, packed, keeps the promise of the C call.
pub packs : {wanted : Done} {answer : Result Answer Refusal} {left : List ℕ} {packed : ℕ}
    → ImagePromise wanted answer left → packed ≡ packed_of answer → PackedPromise wanted packed left
packs kept e = record { packed = e ∙ ap packed_of kept.answered; bytes = kept.bytes }

-- Two results that keep one promise are the same answer and the same bytes.
pub two_packed_that_keep_it_are_equal : {wanted : Done} {one two : ℕ} {left other : List ℕ}
    → PackedPromise wanted one left → PackedPromise wanted two other → (one ≡ two) × (left ≡ other)
two_packed_that_keep_it_are_equal p q = (p.packed ∙ sym q.packed, p.bytes ∙ sym q.bytes)

module _ (wanted : Done) (answer : ℕ) (left : List ℕ) (small : number_of wanted.answer ≤ 19) (kept : PackedPromise wanted answer left) where
  -- a number below 2^32 stays in the low half
  tells : Tells wanted answer
  tells = let packed = kept.packed in (omega arith, omega arith)

  refused_leaves : (image : List ℕ) → RefusedLeaves image wanted → pds_refused answer ≡ true → (pds_order answer ≡ 0) × (left ≡ image)
  refused_leaves image keeps refused =
      let unchanged = keeps (ap is_refusal (sym tells.0) ∙ refused) in
      (tells.1 ∙ unchanged.0, kept.bytes ∙ unchanged.1)

module _ (image : List ℕ) (call : Call) (answer : ℕ) (left : List ℕ) (kept : PackedPromise (image_of image call) answer left) where
  pub a_packed_answer_tells_its_number_and_order : Tells (image_of image call) answer
  a_packed_answer_tells_its_number_and_order = tells (image_of image call) answer left (no_image_answer_is_above_19 image call) kept

  -- A call that pds_refused finds refused carries no order and left every byte.
  pub refused_packed_call_changes_nothing : AreBytes image → pds_refused answer ≡ true → (pds_order answer ≡ 0) × (left ≡ image)
  refused_packed_call_changes_nothing are =
      refused_leaves (image_of image call) answer left (no_image_answer_is_above_19 image call) kept image
      (refused_image_call_changes_nothing image call are)

module _ (image : List ℕ) (max parties divide answer : ℕ) (left : List ℕ)
    (kept : PackedPromise (lay_of image max parties divide) answer left) where
  pub a_packed_lay_tells_its_number_and_order : Tells (lay_of image max parties divide) answer
  a_packed_lay_tells_its_number_and_order =
      tells (lay_of image max parties divide) answer left (no_lay_answer_is_above_19 image max parties divide) kept

  pub refused_packed_lay_changes_nothing : pds_refused answer ≡ true → (pds_order answer ≡ 0) × (left ≡ image)
  refused_packed_lay_changes_nothing =
      refused_leaves (lay_of image max parties divide) answer left (no_lay_answer_is_above_19 image max parties divide) kept image
      (refused_lay_changes_nothing image max parties divide)
