-- What a call leaves of words and records that fit the image, fits it too.
use Prim.Native.Nat.{ℕ, ◌<◌}
use mathlib.Core.Path.{◌≡◌, refl, sym, subst}
use mathlib.Core.Bool.{Bool, true, false}
use mathlib.Core.List.{List}
use lib.ListN.{length, get_or, length-set, get_or-eq_default}
use lib.Dec.{eqb, ltb}
use borrow.Author.Tests.{ltb-true, ltb-false}
use native.Mathlib.Omega.{arith}
use Rattle.std.specs.declared.result.Result.TheVariants.{Ok, Err}
use Rattle.logic.specs.Every.{Every}
use Rattle.logic.proofs.Bools.{whichever}
use Rattle.refusal.specs.Refusal.{Check, if_passes}
use Rattle.logic.proofs.Lists.{every_set}
use Rattle.word.specs.Word.{IsWord, raised_to}
use Rattle.word.specs.Swap.{swap_of, words_after}
use Rattle.word.specs.declared.Swapped.{Swapped}
use Rattle.word.specs.declared.Swapped.TheVariants.{Won, Lost, Stuck}
use Rattle.word.proofs.Laws.{SwapGoes, swap_goes, raised_is_word}
use Rattle.record.specs.Record.{idle, begun}
use Rattle.party.specs.Answer.{going_on, unless}
use Rattle.party.specs.Calls.{start_refusal, start_of, withdraw_refusal, withdraw_of}
use Rattle.record.specs.declared.Record.{Record}
use Rattle.party.proofs.Cleared.{startable}
use Rattle.stages.specs.Stages.{access_of}
use Rattle.stages.specs.Follow.{swapped_of}
use Rattle.step.specs.Step.{max_of, step_refusal, aimed, followed, written, step_of, step_leaves}
use Rattle.call.specs.Call.{Call, Fitting, own_of, own_leaves}
use Rattle.call.specs.Call.Call.{start, step, withdraw}
use Rattle.stages.specs.declared.Access.{Access}
use Rattle.stages.specs.declared.Access.TheVariants.{Look, Swap}
use Rattle.step.proofs.Cleared.{steppable, hint_fits_k}
use Rattle.format.specs.Format.{word_place, party_place, words_base}
use Rattle.format.specs.Spelling.{strip_of, table_of, RecordFits}
use Rattle.little.specs.Bytes.{AreBytes}
use Rattle.little.proofs.Digits.{number_fits}
use Rattle.header.specs.Header.{version_at}
use Rattle.format.proofs.Records.{read_record_fits}
use Rattle.image.proofs.Widths.{idle_fits_lem, begun_fits, aimed_fits, looked_fits, swapped_fits}
use Rattle.format.proofs.Spelled.{strip_length, table_length, word_is_read, record_is_read}
use Rattle.record.specs.Operation.{is_push, is_right}
use Rattle.stages.specs.Stages.{own}

pub words_fit : (image : List ℕ) → AreBytes image → Every IsWord 0 (strip_of image)
words_fit image are i within =
    rw (word_is_read image i (subst (λ (n : ℕ). i < n) (strip_length image) within)) (number_fits 8 image (word_place words_base i) are)

pub records_fit : (image : List ℕ) → AreBytes image → Every RecordFits idle (table_of image)
records_fit image are i within =
    rw (record_is_read image i (subst (λ (n : ℕ). i < n) (table_length image) within)) (read_record_fits (version_at image) image (party_place image i) are)

-- What fits past the end too, where 0 and an idle record stand, fits everywhere.
pub fits_anywhere : {A : Type 0} (P : A → Type 0) (past : A) (l : List A) → Every P past l → P past → (i : ℕ) → P (get_or l i past)
fits_anywhere P past l every beyond i = go (ltb i (length l)) refl
  where
    go : (within : Bool) → ltb i (length l) ≡ within → P (get_or l i past)
    go true e = every i (ltb-true i (length l) e)
    go false e = rw (get_or-eq_default l past (ltb-false i (length l) e)) beyond

-- Words and a record that fit, as many words as before.
pub record Fit (strip left : List ℕ) (r : Record) : Type 0 where
  pub as_many : length left ≡ length strip
  pub words : Every IsWord 0 left
  pub rec : RecordFits r

-- what a swap goes from and to fits its width
abbrev AccessFits : Access → Type 0
AccessFits (Look place then) = Unit {0}
AccessFits (Swap place from to then) = IsWord from × (to < 4294967296)

access_fits : (r : Record) → RecordFits r → AccessFits (access_of r)
unfolding access_of
access_fits r fits =
    whichever AccessFits (eqb r.stage 1) tt
    (whichever AccessFits (eqb r.stage 2) tt
    (whichever AccessFits (eqb r.stage 3) tt
    (whichever AccessFits (eqb r.stage 4)
    (whichever AccessFits push (omega (arith, fits)) (fits.second_fits, null))
    (whichever AccessFits (eqb r.stage 5)
    (whichever AccessFits push (omega (arith, fits)) (fits.first_fits, null)) tt))))
  where
    push : Bool
    push = is_push r.operation

    null : own r < 4294967296
    null = whichever (λ (n : ℕ). n < 4294967296) (is_right r.operation) (omega arith) (omega arith)

module _ (strip : List ℕ) (words : Every IsWord 0 strip) where
  same_words : (r : Record) → RecordFits r → Fit strip strip r
  same_words r fits = record { as_many = refl; words = words; rec = fits }

  -- one access, and what follows it
  access_leaves : (at : Record) → RecordFits at → (l : Access) → AccessFits l → Fit strip (written strip l) (followed strip at l).rec
  access_leaves at fits (Look place then) access =
      same_words _ (looked_fits (max_of (length strip)) at fits then (get_or strip place 0) (fits_anywhere IsWord 0 strip words (omega arith) place))
  access_leaves at fits (Swap place from to then) access = go (swap_goes (get_or strip place 0) from)
    where
      met : ℕ
      met = get_or strip place 0

      After : Swapped → Type 0
      After end = Fit strip (words_after end strip place (raised_to from to)) (swapped_of at then end).rec

      go : SwapGoes met from → After (swap_of met from)
      go (SwapGoes.won took e) =
          subst After (sym e)
          (record {
            as_many = length-set strip place (raised_to from to);
            words = every_set IsWord 0 strip place (raised_to from to) words (raised_is_word met from to took access.0 access.1);
            rec = swapped_fits at fits then Won;
          })
      go (SwapGoes.lost other e) = subst After (sym e) (same_words (swapped_of at then (Lost met)).rec (swapped_fits at fits then (Lost met)))
      go (SwapGoes.stuck same ended e) = subst After (sym e) (same_words (swapped_of at then Stuck).rec (swapped_fits at fits then Stuck))

  module _ (r : Record) (fits : RecordFits r) where
    step_leaves_lem : (hint : ℕ) → Fit strip (step_leaves strip r hint) (step_of strip r hint).rec
    unfolding step_of step_leaves
    step_leaves_lem hint = go (step_refusal (length strip) r hint) refl
      where
        access : Access
        access = access_of (aimed r hint)

        go : (check : Check) → step_refusal (length strip) r hint ≡ check
            → Fit strip (if_passes check (written strip access) strip) (unless check r (followed strip (aimed r hint) access)).rec
        go (Ok done) e =
            let clear = steppable (length strip) r hint e in
            let fitting = aimed_fits r hint fits (hint_fits_k (length strip) r hint clear) in
            access_leaves (aimed r hint) fitting access (access_fits (aimed r hint) fitting)
        go (Err refusal) e = same_words r fits

    pub own_leaves_lem : (call : Call) → Fitting call → Fit strip (own_leaves strip r call) (own_of strip r call).rec
    unfolding start_of withdraw_of
    own_leaves_lem (start party operation order) narrow = same_words _ (go (start_refusal max r operation order) refl)
      where
        max : ℕ
        max = max_of (length strip)

        go : (check : Check) → start_refusal max r operation order ≡ check → RecordFits (unless check r (going_on (begun operation order))).rec
        go (Ok done) e = begun_fits operation order (omega (arith, (startable max r operation order e).known)) narrow
        go (Err refusal) e = fits
    own_leaves_lem (step party hint) narrow = step_leaves_lem hint
    own_leaves_lem (withdraw party) narrow = same_words _ (go (withdraw_refusal (max_of (length strip)) r))
      where
        go : (check : Check) → RecordFits (unless check r (going_on idle)).rec
        go (Ok done) = idle_fits_lem
        go (Err refusal) = fits
