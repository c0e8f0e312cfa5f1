-- Start, step and withdraw on an image past the checks before the record's own: what each does, as the code finds it.
use Prim.Native.Nat.{ℕ, ◌+◌, ◌<◌}
use mathlib.Core.Path.{◌≡◌, refl, sym, ◌∙◌, ap, subst}
use mathlib.Core.Bool.{false}
use mathlib.Core.List.{List}
use lib.ListN.{length, get_or}
use lib.Dec.{ltb}
use native.Mathlib.Omega.{arith}
use Rattle.std.specs.declared.result.Result.TheVariants.{Ok, Err}
use Rattle.refusal.specs.declared.Refusal.{Refusal}
use Rattle.refusal.specs.declared.Refusal.TheVariants.{CounterAtEnd}
use Rattle.refusal.specs.Refusal.{passes}
use Rattle.word.specs.Word.{raised_to}
use Rattle.word.specs.Swap.{swap_of, words_after}
use Rattle.word.specs.declared.Swapped.{Swapped}
use Rattle.word.specs.declared.Swapped.TheVariants.{Won, Lost, Stuck}
use Rattle.word.proofs.Laws.{SwapGoes, swap_goes}
use Rattle.record.specs.Record.{idle, begun}
use Rattle.party.specs.Answer.{going_on, refused}
use Rattle.party.specs.Calls.{start_own, start_refusal, start_of, withdraw_own, withdraw_refusal, withdraw_of}
use Rattle.record.specs.declared.Record.{Record}
use Rattle.party.specs.declared.Answer.TheVariants.{GoesOn}
use Rattle.party.proofs.Cleared.{max_within}
use Rattle.stages.specs.Stages.{near, access_of}
use Rattle.stages.specs.Follow.{looked_of, swapped_of}
use Rattle.step.specs.Step.{max_of, step_own, step_refusal, aimed}
use Rattle.call.specs.Call.{Call}
use Rattle.stages.specs.declared.Access.{Access}
use Rattle.stages.specs.declared.Access.TheVariants.{Look, Swap}
use Rattle.stages.specs.declared.AfterLook.{AfterLook}
use Rattle.stages.specs.declared.AfterLook.TheVariants.{Remember}
use Rattle.stages.specs.declared.AfterSwap.{AfterSwap}
use Rattle.step.proofs.Cleared.{Steppable, steppable, place_of, place_inside, hint_fits_k}
use Rattle.step.proofs.Accesses.{Gone, when_refused, when_looks, when_swaps}
use Rattle.step.proofs.EachStage.{aimed_later}
use Rattle.header.specs.Header.{max_at, version_at}
use Rattle.format.specs.Spelling.{strip_of}
use Rattle.format.specs.Inside.{named_refusal}
use Rattle.format.specs.Format.{words_base}
use Rattle.image.specs.Inside.{recorded, swap_recorded, met_at, seen_at}
use Rattle.image.specs.Calls.{unchanged, image_of}
use Rattle.little.specs.Bytes.{AreBytes}
use Rattle.format.proofs.Gated.{named_fits}
use Rattle.format.proofs.Spelled.{strip_length, word_is_read}
use Rattle.image.proofs.Called.{strip_fits_lem, max_of_lem, place_in, record_in, own_refused, own_recorded, own_swapped}

module _ (image : List ℕ) (party operation order : ℕ) (are : AreBytes image)
    (clear : named_refusal image (ltb 3 operation) party ≡ passes) where
  abbrev starting : Call
  starting = Call.start party operation order

  start_own_is : start_refusal (max_of (length (strip_of image))) (record_in image starting) operation order
      ≡ start_own (max_at image) (record_in image starting) operation order
  unfolding start_refusal
  start_own_is =
      let fits = named_fits image (ltb 3 operation) party clear in
      rw (max_of_lem image, fits.sized_right.max_fits, fits.known) refl

  pub start_refused : (refusal : Refusal) → start_own (max_at image) (record_in image starting) operation order ≡ Err refusal
      → image_of image starting ≡ unchanged refusal image
  unfolding start_of
  start_refused refusal some =
      own_refused image starting are clear refusal (rw (start_own_is, some) refl, refl)

  pub start_done : start_own (max_at image) (record_in image starting) operation order ≡ passes → order < 4294967296
      → image_of image starting ≡ record { answer = Ok GoesOn; image = recorded (version_at image) image (place_in image starting) (going_on (begun operation order)) }
  unfolding start_of
  start_done none narrow =
      own_recorded image starting are clear narrow (going_on (begun operation order)) (rw (start_own_is, none) refl, refl)

module _ (image : List ℕ) (party : ℕ) (are : AreBytes image) (clear : named_refusal image false party ≡ passes) where
  abbrev withdrawing : Call
  withdrawing = Call.withdraw party

  withdraw_own_is : withdraw_refusal (max_of (length (strip_of image))) (record_in image withdrawing)
      ≡ withdraw_own (max_at image) (record_in image withdrawing)
  unfolding withdraw_refusal
  withdraw_own_is = rw (max_of_lem image, (named_fits image false party clear).sized_right.max_fits) refl

  pub withdraw_refused : (refusal : Refusal) → withdraw_own (max_at image) (record_in image withdrawing) ≡ Err refusal
      → image_of image withdrawing ≡ unchanged refusal image
  unfolding withdraw_of
  withdraw_refused refusal some =
      own_refused image withdrawing are clear refusal (rw (withdraw_own_is, some) refl, refl)

  pub withdraw_done : withdraw_own (max_at image) (record_in image withdrawing) ≡ passes
      → image_of image withdrawing ≡ record { answer = Ok GoesOn; image = recorded (version_at image) image (place_in image withdrawing) (going_on idle) }
  unfolding withdraw_of
  withdraw_done none =
      own_recorded image withdrawing are clear tt (going_on idle) (rw (withdraw_own_is, none) refl, refl)

-- an access that swaps is of a later stage than 1
swap_is_later : (r : Record) (place from to : ℕ) (then : AfterSwap) → access_of r ≡ Swap place from to then → r.stage ≡ 1 → ⊥
unfolding access_of
swap_is_later r place from to then access s =
    let looks : Look (near r) Remember ≡ Swap place from to then = rw s at access in
    let z : ◌≡◌ {A = ℕ} 0 1 = cc in
    omega arith

module _ (image : List ℕ) (party hint : ℕ) (are : AreBytes image) (clear : named_refusal image false party ≡ passes) where
  abbrev stepping : Call
  stepping = Call.step party hint

  abbrev before : Record
  before = record_in image stepping

  step_own_is : step_refusal (length (strip_of image)) before hint ≡ step_own (max_at image) before hint
  unfolding step_refusal
  step_own_is =
      let fits = named_fits image false party clear in
      rw (max_of_lem image, strip_length image, strip_fits_lem (max_at image) (max_within (max_at image) fits.sized_right.max_fits)) refl

  pub step_refused : (refusal : Refusal) → step_own (max_at image) before hint ≡ Err refusal
      → image_of image stepping ≡ unchanged refusal image
  step_refused refusal some =
      let step = when_refused (strip_of image) before hint refusal (step_own_is ∙ some) in
      own_refused image stepping are clear refusal (step.answered, step.words)

  module _ (none : step_own (max_at image) before hint ≡ passes) where
    through : step_refusal (length (strip_of image)) before hint ≡ passes
    through = step_own_is ∙ none

    cleared : Steppable (length (strip_of image)) before hint
    cleared = steppable (length (strip_of image)) before hint through

    -- the hint that stage 1 takes fits k
    pub hint_fits_lem : before.stage ≡ 1 → hint < 65536
    hint_fits_lem = hint_fits_k (length (strip_of image)) before hint cleared

    module _ (at : Record) (a : at ≡ aimed before hint) where
      -- the place of the access is inside the strip
      pub access_inside : (l : Access) → access_of at ≡ l → place_of l < max_at image + 2
      access_inside l access =
          subst (λ (m : Access). place_of m < max_at image + 2) (ap access_of (sym a) ∙ access)
          (subst (λ (words : ℕ). place_of (access_of (aimed before hint)) < words) (strip_length image)
          (place_inside (length (strip_of image)) before hint cleared))

      pub step_looked : (place : ℕ) (then : AfterLook) → access_of at ≡ Look place then
          → image_of image stepping ≡ record {
            answer = (looked_of (max_at image) at then (seen_at image words_base place)).answer;
            image = recorded (version_at image) image (place_in image stepping) (looked_of (max_at image) at then (seen_at image words_base place));
          }
      step_looked place then access =
          let word = seen_at image words_base place in
          let seen = word_is_read image place (access_inside (Look place then) access) in
          let step = when_looks (strip_of image) before hint at through a place then word access (sym seen) in
          own_recorded image stepping are clear tt (looked_of (max_at image) at then word)
          (step.answered ∙ ap (λ (max : ℕ). looked_of max at then word) (max_of_lem image), step.words)

      pub step_swapped : (place from to : ℕ) (then : AfterSwap) → access_of at ≡ Swap place from to then
          → image_of image stepping ≡ record {
            answer = (swapped_of at then (met_at image words_base place from)).answer;
            image = swap_recorded (met_at image words_base place from) image words_base (place_in image stepping) place (raised_to from to) (swapped_of at then (met_at image words_base place from));
          }
      step_swapped place from to then access = go (swap_goes (seen_at image words_base place) from)
        where
          inside : place < max_at image + 2
          inside = access_inside (Swap place from to then) access

          Went : Swapped → Type 0
          Went met = image_of image stepping ≡ record {
            answer = (swapped_of at then met).answer;
            image = swap_recorded met image words_base (place_in image stepping) place (raised_to from to) (swapped_of at then met);
          }

          owned : (met : Swapped) → met_at image words_base place from ≡ met
              → Gone (strip_of image) before hint (swapped_of at then met) (words_after met (strip_of image) place (raised_to from to))
          owned met e =
              let same : met ≡ swap_of (get_or (strip_of image) place 0) from =
              sym e ∙ ap (λ (w : ℕ). swap_of w from) (sym (word_is_read image place inside)) in
              when_swaps (strip_of image) before hint at through a place from to then met
              (words_after met (strip_of image) place (raised_to from to)) access
              (record { answered = same; words = ap (λ (t : Swapped). words_after t (strip_of image) place (raised_to from to)) same })

          go : SwapGoes (seen_at image words_base place) from → Went (met_at image words_base place from)
          go (SwapGoes.won took e) =
              let step = owned Won e in
              subst Went (sym e)
              (own_swapped image stepping are clear tt (swapped_of at then Won) place (raised_to from to) (step.answered, step.words) inside)
          go (SwapGoes.lost other e) =
              let met = seen_at image words_base place in
              let step = owned (Lost met) e in
              subst Went (sym e)
              (own_recorded image stepping are clear tt (swapped_of at then (Lost met)) (step.answered, step.words))
          go (SwapGoes.stuck same ended e) =
              let step = owned Stuck e in
              let later = aimed_later before hint (λ s. swap_is_later at place from to then access (ap (λ (r : Record). r.stage) a ∙ s)) in
              subst Went (sym e) (own_refused image stepping are clear CounterAtEnd (step.answered ∙ ap (refused CounterAtEnd) (a ∙ sym later), step.words))
