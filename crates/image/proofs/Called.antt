-- What a call on an image does, by its checks: refused before the record's own, refused by the record, or done.
use Prim.Native.Nat.{ℕ, ◌+◌, ◌≤◌, ◌<◌}
use mathlib.Core.Path.{◌≡◌, refl, sym, ◌∙◌, ap, subst}
use mathlib.Core.Bool.{Bool, true, false}
use mathlib.Core.List.{List}
use lib.ListN.{length, set, length-set}
use lib.Seq.{sets, set-get_or, get_or-set_same}
use lib.Dec.{leb}
use borrow.Author.Tests.{le-leb}
use native.Mathlib.Omega.{arith}
use Rattle.std.specs.declared.result.Result.TheVariants.{Ok, Err}
use Rattle.logic.specs.Pick.{pick}
use Rattle.refusal.specs.declared.Refusal.{Refusal}
use Rattle.refusal.specs.declared.Refusal.TheVariants.{WrongOperation, WrongParty}
use Rattle.refusal.specs.Refusal.{Check, passes}
use Rattle.logic.specs.Every.{Every}
use Rattle.word.specs.Word.{IsWord}
use Rattle.record.specs.Record.{idle}
use Rattle.party.specs.Answer.{refused}
use Rattle.record.specs.declared.Record.{Record}
use Rattle.party.specs.declared.Answered.{Answered}
use Rattle.party.proofs.Cleared.{max_within}
use Rattle.step.specs.Step.{strip_fits, max_of}
use Rattle.call.specs.Call.{Call, Fitting, party_of, is_unknown, gate, own_of, own_leaves, record_of, through, turned_away, call_of}
use Rattle.little.specs.Bytes.{bytes_of, AreBytes}
use Rattle.header.specs.Header.{max_at, parties_at, version_at}
use Rattle.format.specs.Format.{word_place, party_place, header_refusal, words_base}
use Rattle.format.specs.Spelling.{strip_of, table_of, record_at, is_spare, spelled, RecordFits}
use Rattle.format.specs.Inside.{named_refusal}
use Rattle.format.proofs.Records.{read_record_fits}
use Rattle.image.specs.Inside.{recorded}
use Rattle.image.specs.Calls.{Done, unchanged, encoded, unless, image_of}
use Rattle.image.proofs.Leaves.{words_fit, Fit, own_leaves_lem}
use Rattle.format.proofs.Sizes.{header_sized}
use Rattle.format.proofs.Gated.{NamedFits, named_fits}
use Rattle.format.proofs.Spelled.{strip_length, table_length, record_is_read, decoded_is_spelled, record_is_laid, both_are_laid}

-- a MAX that fits is that of a strip that fits
pub strip_fits_lem : (max : ℕ) → (1 ≤ max) × (max ≤ 4094) → strip_fits (max + 2) ≡ true
strip_fits_lem max within = rw (le-leb 3 (max + 2) (omega arith), le-leb (max + 2) 4096 (omega arith)) refl

pub max_of_lem : (image : List ℕ) → max_of (length (strip_of image)) ≡ max_at image
max_of_lem image = rw (strip_length image) (omega arith)

-- past the header, the sizes are right
gate_is : (image : List ℕ) (call : Call) → header_refusal image ≡ passes
    → gate (max_at image + 2) (parties_at image) call ≡ pick (is_unknown call) (Err WrongOperation) (pick (leb (parties_at image) (party_of call)) (Err WrongParty) passes)
unfolding gate
gate_is image call taken =
    let right = header_sized image taken in
    rw (strip_fits_lem (max_at image) (max_within (max_at image) right.max_fits), right.parties_fit) refl

module _ (image : List ℕ) (call : Call) (are : AreBytes image) where
  abbrev went : Done
  went = encoded image (through (strip_of image) (table_of image) call)

  -- one that is turned away leaves what it decoded
  turned : (refusal : Refusal) → encoded image (turned_away (strip_of image) (table_of image) refusal) ≡ unchanged refusal image
  turned refusal = rw (decoded_is_spelled image are) refl

  pub call_is : image_of image call ≡ unless (named_refusal image (is_unknown call) (party_of call)) image went
  unfolding image_of named_refusal call_of
  call_is = go (header_refusal image) (is_unknown call) (leb (parties_at image) (party_of call)) (is_spare (version_at image) image (party_place image (party_of call))) refl refl refl refl
    where
      Is : Type 0
      Is = image_of image call ≡ unless (named_refusal image (is_unknown call) (party_of call)) image went

      go : (h : Check) (u p s : Bool) → header_refusal image ≡ h → is_unknown call ≡ u → leb (parties_at image) (party_of call) ≡ p
          → is_spare (version_at image) image (party_place image (party_of call)) ≡ s → Is
      go (Err refusal) u p s eh eu ep es = simp eh
      go (Ok done) true p s eh eu ep es =
          simp (eh, strip_length image, table_length image, gate_is image call eh, eu) (turned WrongOperation)
      go (Ok done) false true s eh eu ep es =
          simp (eh, strip_length image, table_length image, gate_is image call eh, eu, ep) (turned WrongParty)
      go (Ok done) false false false eh eu ep es =
          simp (eh, strip_length image, table_length image, gate_is image call eh, eu, ep, es)
      go (Ok done) false false true eh eu ep es =
          simp (eh, strip_length image, table_length image, gate_is image call eh, eu, ep, es)

  pub stopped : (refusal : Refusal) → named_refusal image (is_unknown call) (party_of call) ≡ Err refusal
      → image_of image call ≡ unchanged refusal image
  stopped refusal some = call_is ∙ rw some refl

-- where the named record stands, and the record
abbrev pub place_in : List ℕ → Call → ℕ
place_in image call = party_place image (party_of call)

abbrev pub record_in : List ℕ → Call → Record
record_in image call = record_at (version_at image) image (place_in image call)

-- A call that passes the checks before the record's own does what it does on the decoded strip and record.
module _ (image : List ℕ) (call : Call) (are : AreBytes image) (clear : named_refusal image (is_unknown call) (party_of call) ≡ passes) where
  fits : NamedFits image (is_unknown call) (party_of call)
  fits = named_fits image (is_unknown call) (party_of call) clear

  record_is : record_of (table_of image) call ≡ record_in image call
  record_is = record_is_read image (party_of call) fits.party_known

  abbrev Owned : Answered Refusal → List ℕ → Type 0
  Owned given left = (own_of (strip_of image) (record_in image call) call ≡ given) × (own_leaves (strip_of image) (record_in image call) call ≡ left)

  goes : {given : Answered Refusal} {left : List ℕ} → Owned given left
      → image_of image call ≡ record { answer = given.answer; image = spelled image left (set (table_of image) (party_of call) given.rec) }
  goes owned =
      call_is image call are ∙ rw (clear, record_is, owned.0, owned.1) refl

  pub own_refused : (refusal : Refusal) → Owned (refused refusal (record_in image call)) (strip_of image) → image_of image call ≡ unchanged refusal image
  own_refused refusal owned =
      let same : set (table_of image) (party_of call) (record_in image call) ≡ table_of image =
      ap (set (table_of image) (party_of call)) (sym record_is) ∙ set-get_or (table_of image) (party_of call) idle in
      goes owned ∙ rw (same, decoded_is_spelled image are) refl

  module _ (narrow : Fitting call) where
    -- what the call leaves fits the image
    own_fit : Fit (strip_of image) (own_leaves (strip_of image) (record_in image call) call) (own_of (strip_of image) (record_in image call) call).rec
    own_fit = own_leaves_lem (strip_of image) (words_fit image are) (record_in image call) (read_record_fits (version_at image) image (place_in image call) are) call narrow

    rec_fits : (given : Answered Refusal) {left : List ℕ} → Owned given left → RecordFits given.rec
    rec_fits given owned = subst (λ (a : Answered Refusal). RecordFits a.rec) owned.0 own_fit.rec

    pub own_recorded : (given : Answered Refusal) → Owned given (strip_of image)
        → image_of image call ≡ record { answer = given.answer; image = recorded (version_at image) image (place_in image call) given }
    own_recorded given owned =
        goes owned ∙ rw (record_is_laid image are (party_of call) given.rec (rec_fits given owned) fits.party_known) refl

    pub own_swapped : (given : Answered Refusal) (place w : ℕ) → Owned given (set (strip_of image) place w) → place < max_at image + 2
        → image_of image call ≡ record { answer = given.answer; image = recorded (version_at image) (sets image (word_place words_base place) (bytes_of 8 w)) (place_in image call) given }
    own_swapped given place w owned inside =
        let within : place < length (strip_of image) = rw (strip_length image) inside in
        let word_fits : IsWord w =
        subst IsWord (get_or-set_same (strip_of image) place w 0 within)
        (subst (Every IsWord 0) owned.1 own_fit.words place (rw (length-set (strip_of image) place w) within)) in
        goes owned ∙ rw (both_are_laid image are place w (party_of call) given.rec word_fits inside (rec_fits given owned) fits.party_known) refl
