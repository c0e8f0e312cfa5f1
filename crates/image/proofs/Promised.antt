-- The promises of start, step and withdraw, from what the code finds on its way.
use Prim.Native.Nat.{ℕ, ◌+◌, ◌≤◌, ◌<◌}
use mathlib.Core.Path.{◌≡◌, refl, sym, ◌∙◌, ap}
use mathlib.Core.Bool.{false}
use mathlib.Core.List.{List}
use lib.ListN.{length}
use lib.Seq.{sets}
use lib.Dec.{ltb}
use native.Mathlib.Omega.{arith}
use Rattle.std.specs.declared.result.Result.{Result}
use Rattle.std.specs.declared.result.Result.TheVariants.{Ok, Err}
use Rattle.refusal.specs.declared.Refusal.{Refusal}
use Rattle.refusal.specs.Refusal.{Check, passes}
use Rattle.record.specs.Record.{idle, begun}
use Rattle.party.specs.Calls.{start_own, withdraw_own}
use Rattle.record.specs.declared.Record.{Record}
use Rattle.party.specs.declared.Answer.{Answer}
use Rattle.party.specs.declared.Answer.TheVariants.{GoesOn}
use Rattle.stages.specs.Stages.{access_of}
use Rattle.step.specs.Step.{step_own, aimed}
use Rattle.call.specs.Call.{Call, party_of, is_unknown}
use Rattle.stages.specs.declared.Access.{Access}
use Rattle.stages.specs.declared.Access.TheVariants.{Look, Swap}
use Rattle.stages.specs.declared.AfterLook.{AfterLook}
use Rattle.stages.specs.declared.AfterSwap.{AfterSwap}
use Rattle.step.proofs.Cleared.{place_of}
use Rattle.header.specs.Header.{max_at, version_at}
use Rattle.format.specs.Format.{word_place, words_base}
use Rattle.format.specs.Spelling.{record_at, record_bytes}
use Rattle.format.specs.Inside.{named_refusal, named_of, found_named}
use Rattle.image.specs.Inside.{LookMade, SwapMade}
use Rattle.image.specs.Calls.{Done, image_of, ImagePromise}
use Rattle.format.specs.declared.Named.{Named}
use Rattle.little.specs.Bytes.{AreBytes}
use Rattle.format.proofs.Gated.{named_found, named_refuses, named_fits}
use Rattle.image.proofs.Called.{stopped, place_in, record_in}
use Rattle.image.proofs.Owned.{start_refused, start_done, withdraw_refused, withdraw_done, step_refused, hint_fits_lem, access_inside, step_looked, step_swapped}

-- a call that leaves what is wanted keeps its promise
pub promise : {wanted : Done} {answer : Result Answer Refusal} {left : List ℕ} → wanted ≡ record { answer = answer; image = left }
    → ImagePromise wanted answer left
promise e =
    record {
      answered = ap (λ (d : Done). d.answer) (sym e);
      bytes = ap (λ (d : Done). d.image) (sym e);
    }

module _ (image : List ℕ) (call : Call) (are : AreBytes image) where
  -- refused before the record's own checks
  pub keeps_stopped : (refusal : Refusal) → named_of image (is_unknown call) (party_of call) ≡ Err refusal
      → ImagePromise (image_of image call) (Err refusal) image
  keeps_stopped refusal read =
      promise (stopped image call are refusal (named_refuses image (is_unknown call) (party_of call) refusal read))

  module _ (found : Named) (read : named_of image (is_unknown call) (party_of call) ≡ Ok found) where
    pub clear : named_refusal image (is_unknown call) (party_of call) ≡ passes
    clear = (named_found image (is_unknown call) (party_of call) found read).0

    found_is : found ≡ found_named image (party_of call)
    found_is = sym (named_found image (is_unknown call) (party_of call) found read).1

    pub at_is : found.at ≡ place_in image call
    at_is = ap (λ (n : Named). n.at) found_is

    pub max_is : found.max ≡ max_at image
    max_is = ap (λ (n : Named). n.max) found_is

    -- the named record is inside the image
    pub room : found.at + 32 ≤ length image
    room =
        let fits = named_fits image (is_unknown call) (party_of call) clear in
        omega (arith, at_is, fits.sized_right.exact, fits.party_known)

module _ (image : List ℕ) (party operation order : ℕ) (are : AreBytes image) (found : Named)
    (read : named_of image (ltb 3 operation) party ≡ Ok found)
    (r : Record) (r-is : r ≡ record_at (version_at image) image found.at) (check : Check) (check_is : check ≡ start_own found.max r operation order) where
  abbrev starting : Call
  starting = Call.start party operation order

  own_start : check ≡ start_own (max_at image) (record_in image starting) operation order
  own_start =
      let at = at_is image starting are found read in
      let max = max_is image starting are found read in
      check_is ∙ rw (r-is, at, max) refl

  pub keeps_start_refused : (refusal : Refusal) → check ≡ Err refusal → ImagePromise (image_of image starting) (Err refusal) image
  keeps_start_refused refusal some =
      promise (start_refused image party operation order are (clear image starting are found read) refusal (sym own_start ∙ some))

  pub keeps_start_done : check ≡ passes → order < 4294967296 → (left : List ℕ) → left ≡ sets image found.at (record_bytes (version_at image) (begun operation order))
      → ImagePromise (image_of image starting) (Ok GoesOn) left
  keeps_start_done none narrow left e =
      let at = at_is image starting are found read in
      promise
      (start_done image party operation order are (clear image starting are found read) (sym own_start ∙ none) narrow
      ∙ ap (λ (l : List ℕ). record { answer = Ok GoesOn; image = l }) (sym (e ∙ rw at refl)))

module _ (image : List ℕ) (party : ℕ) (are : AreBytes image) (found : Named) (read : named_of image false party ≡ Ok found)
    (r : Record) (r-is : r ≡ record_at (version_at image) image found.at) (check : Check) (check_is : check ≡ withdraw_own found.max r) where
  abbrev withdrawing : Call
  withdrawing = Call.withdraw party

  own_withdraw : check ≡ withdraw_own (max_at image) (record_in image withdrawing)
  own_withdraw =
      let at = at_is image withdrawing are found read in
      let max = max_is image withdrawing are found read in
      check_is ∙ rw (r-is, at, max) refl

  pub keeps_withdraw_refused : (refusal : Refusal) → check ≡ Err refusal → ImagePromise (image_of image withdrawing) (Err refusal) image
  keeps_withdraw_refused refusal some =
      promise (withdraw_refused image party are (clear image withdrawing are found read) refusal (sym own_withdraw ∙ some))

  pub keeps_withdraw_done : check ≡ passes → (left : List ℕ) → left ≡ sets image found.at (record_bytes (version_at image) idle)
      → ImagePromise (image_of image withdrawing) (Ok GoesOn) left
  keeps_withdraw_done none left e =
      let at = at_is image withdrawing are found read in
      promise
      (withdraw_done image party are (clear image withdrawing are found read) (sym own_withdraw ∙ none)
      ∙ ap (λ (l : List ℕ). record { answer = Ok GoesOn; image = l }) (sym (e ∙ rw at refl)))

-- what a step has read once its record's own checks are made
pub record Weighed (image : List ℕ) (party hint : ℕ) (found : Named) (r : Record) (check : Check) : Type 0 where
  pub are : AreBytes image
  pub read : named_of image false party ≡ Ok found
  pub record_is : r ≡ record_at (version_at image) image found.at
  pub check_is : check ≡ step_own found.max r hint

module _ (image : List ℕ) (party hint : ℕ) (found : Named) (r : Record) (check : Check) (w : Weighed image party hint found r check) where
  abbrev stepping : Call
  stepping = Call.step party hint

  abbrev are : AreBytes image
  are = w.are

  abbrev spot : found.at ≡ place_in image stepping
  spot = at_is image stepping are found w.read

  abbrev named : named_refusal image false party ≡ passes
  named = clear image stepping are found w.read

  abbrev wide : found.max ≡ max_at image
  wide = max_is image stepping are found w.read

  r_in : r ≡ record_in image stepping
  r_in = w.record_is ∙ rw spot refl

  own_step : check ≡ step_own (max_at image) (record_in image stepping) hint
  own_step = w.check_is ∙ rw (r_in, wide) refl

  pub keeps_step_refused : (refusal : Refusal) → check ≡ Err refusal → ImagePromise (image_of image stepping) (Err refusal) image
  keeps_step_refused refusal some = promise (step_refused image party hint are named refusal (sym own_step ∙ some))

  module _ (none : check ≡ passes) where
    pub hint_fits_k : r.stage ≡ 1 → hint < 65536
    hint_fits_k s = hint_fits_lem image party hint are named (sym own_step ∙ none) (ap (λ (x : Record). x.stage) (sym r_in) ∙ s)

    module _ (at : Record) (a : at ≡ aimed r hint) where
      aim_is : at ≡ aimed (record_in image stepping) hint
      aim_is = a ∙ ap (λ (x : Record). aimed x hint) r_in

      -- the word of the access is inside the image
      pub access_room : (l : Access) → access_of at ≡ l → word_place words_base (place_of l) + 8 ≤ length image
      access_room l access =
          let fits = named_fits image false party named in
          let inside = access_inside image party hint are named (sym own_step ∙ none) at aim_is l access in
          omega (arith, fits.sized_right.exact, inside)

      pub keeps_look : (place : ℕ) (then : AfterLook) → access_of at ≡ Look place then → {answer : Result Answer Refusal} {left : List ℕ}
          → LookMade image words_base found.at found.max at place then answer left → ImagePromise (image_of image stepping) answer left
      keeps_look place then access made =
          promise
          (step_looked image party hint are named (sym own_step ∙ none) at aim_is place then access
          ∙ sym (rw (made.answered, made.bytes_left, spot, wide) refl))

      pub keeps_swap : (place from to : ℕ) (then : AfterSwap) → access_of at ≡ Swap place from to then → {answer : Result Answer Refusal} {left : List ℕ}
          → SwapMade image words_base found.at at place from to then answer left → ImagePromise (image_of image stepping) answer left
      keeps_swap place from to then access made =
          promise
          (step_swapped image party hint are named (sym own_step ∙ none) at aim_is place from to then access
          ∙ sym (rw (made.answered, made.bytes_left, spot) refl))
