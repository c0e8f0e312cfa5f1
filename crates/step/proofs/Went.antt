-- Every way a step can go, each with what it read, what it gives and the words it leaves. Whatever is proved of steps goes by
-- these cases.
use Prim.Native.Nat.{ℕ}
use mathlib.Core.Path.{◌≡◌, refl, subst}
use mathlib.Core.Bool.{Bool, true, false}
use mathlib.Core.List.{List}
use lib.ListN.{length, get_or, set}
use lib.Dec.{eqb}
use borrow.Author.Tests.{eqb-true, eqb-false}
use native.Mathlib.Omega.{arith}
use Rattle.word.specs.Word.{value_of, raised_to}
use Rattle.word.specs.Swap.{swap_of, words_after, Took}
use Rattle.word.specs.declared.Swapped.{Swapped}
use Rattle.word.proofs.Laws.{SwapGoes, swap_goes}
use Rattle.record.specs.Operation.{is_push}
use Rattle.record.specs.Record.{again, at_stage, with_place, with_first, with_second}
use Rattle.refusal.specs.declared.Refusal.{Refusal}
use Rattle.refusal.specs.declared.Refusal.TheVariants.{CounterAtEnd}
use Rattle.refusal.specs.Refusal.{passes, check_number}
use Rattle.party.proofs.Refusals.{Checked, every_check_ends}
use Rattle.refusal.proofs.Checks.{Decided, decided}
use Rattle.party.specs.Answer.{going_on, ends, refused}
use Rattle.record.specs.declared.Record.{Record}
use Rattle.party.specs.declared.Answer.TheVariants.{Pushed, Popped, Full, Empty}
use Rattle.record.proofs.Stages.{ValidAt, valid_at}
use Rattle.stages.specs.Stages.{near, own, at_place, at_near, access_of}
use Rattle.stages.specs.Follow.{push_at_wall, pop_at_far, judge_of, recheck_of, won_of, swapped_of}
use Rattle.step.specs.Step.{max_of, step_refusal}
use Rattle.stages.specs.declared.AfterSwap.{AfterSwap}
use Rattle.stages.specs.declared.Access.TheVariants.{Swap}
use Rattle.step.proofs.Cleared.{Steppable, steppable}
use Rattle.step.proofs.Accesses.{Gone, when_refused, when_looks, when_swaps}
use Rattle.step.proofs.EachStage.{stage_1, stage_2, stage_3, stage_4_push, stage_4_pop, stage_5_push, stage_5_pop, aimed_first, aimed_later}

-- Stage 2 drops the attempt by one of two tests: the first value is own null, or the second is not.
pub data Misled (strip : List ℕ) (r : Record) : Type 0 where
  first_own : value_of r.first ≡ own r → Misled strip r
  second_other : (value_of (at_place strip r) ≡ own r → ⊥) → Misled strip r

pub record NotMisled (strip : List ℕ) (r : Record) : Type 0 where
  pub first_other : value_of r.first ≡ own r → ⊥
  pub second_own : value_of (at_place strip r) ≡ own r

module _ (strip : List ℕ) (r : Record) (hint : ℕ) where
  pub data GoneOn : Type 0 where
    remembers : r.stage ≡ 1
        → Gone strip r hint (going_on (at_stage 2 (with_first (at_near strip (with_place hint r)) (with_place hint r)))) strip → GoneOn
    drops : r.stage ≡ 2 → Misled strip r → Gone strip r hint (going_on (again r)) strip → GoneOn
    fills : r.stage ≡ 2 → NotMisled strip r → push_at_wall (max_of (length strip)) r ≡ true
        → Gone strip r hint (ends Full) strip → GoneOn
    doubts : r.stage ≡ 2 → NotMisled strip r → pop_at_far r ≡ true
        → Gone strip r hint (going_on (at_stage 3 (with_second (at_place strip r) r))) strip → GoneOn
    readies : r.stage ≡ 2 → NotMisled strip r → push_at_wall (max_of (length strip)) r ≡ false → pop_at_far r ≡ false
        → Gone strip r hint (going_on (at_stage 4 (with_second (at_place strip r) r))) strip → GoneOn
    empties : r.stage ≡ 3 → at_near strip r ≡ r.first → Gone strip r hint (ends Empty) strip → GoneOn
    rechecks : r.stage ≡ 3 → (at_near strip r ≡ r.first → ⊥) → Gone strip r hint (going_on (at_stage 4 r)) strip → GoneOn
    push_4 : r.stage ≡ 4 → is_push r.operation ≡ true → Took (at_near strip r) r.first
        → Gone strip r hint (going_on (at_stage 5 r)) (set strip (near r) (raised_to r.first (value_of r.first))) → GoneOn
    pop_4 : r.stage ≡ 4 → is_push r.operation ≡ false → Took (at_place strip r) r.second
        → Gone strip r hint (going_on (at_stage 5 r)) (set strip r.k (raised_to r.second (own r))) → GoneOn
    push_5 : r.stage ≡ 5 → is_push r.operation ≡ true → Took (at_place strip r) r.second
        → Gone strip r hint (ends Pushed) (set strip r.k (raised_to r.second r.v)) → GoneOn
    pop_5 : r.stage ≡ 5 → is_push r.operation ≡ false → Took (at_near strip r) r.first
        → Gone strip r hint (ends (Popped (value_of r.first))) (set strip (near r) (raised_to r.first (own r))) → GoneOn
    -- the swap of its stage met another word than the one it expected
    loses : (place from to : ℕ) (then : AfterSwap) → access_of r ≡ Swap place from to then → (get_or strip place 0 ≡ from → ⊥)
        → Gone strip r hint (going_on (again r)) strip → GoneOn

  -- refused by a check, or by a swap at its counter's end; or gone on
  pub data Went : Type 0 where
    stays : (refusal : Refusal) → Gone strip r hint (refused refusal r) strip → Went
    goes : Steppable (length strip) r hint → GoneOn → Went

module _ (strip : List ℕ) (r : Record) (hint : ℕ) (none : step_refusal (length strip) r hint ≡ passes) where
  clear : Steppable (length strip) r hint
  clear = steppable (length strip) r hint none

  remembering : r.stage ≡ 1 → Went strip r hint
  remembering s =
      let at = with_place hint r in
      goes clear (remembers s (when_looks strip r hint at none (aimed_first r hint s) (near at) _ (at_near strip at) (stage_1 at s) refl))

  judging : r.stage ≡ 2 → Went strip r hint
  unfolding judge_of
  judging s =
      go (eqb (value_of r.first) (own r)) (eqb (value_of word) (own r)) (push_at_wall (max_of (length strip)) r) (pop_at_far r)
      refl refl refl refl
    where
      word : ℕ
      word = at_place strip r

      looked : Gone strip r hint (judge_of (max_of (length strip)) r word) strip
      looked = when_looks strip r hint r none (aimed_later r hint (λ e. omega arith)) r.k _ word (stage_2 r s) refl

      right : eqb (value_of r.first) (own r) ≡ false → eqb (value_of word) (own r) ≡ true → NotMisled strip r
      right a b = record { first_other = eqb-false _ _ a; second_own = eqb-true _ _ b }

      go : (first second wall far : Bool) → eqb (value_of r.first) (own r) ≡ first → eqb (value_of word) (own r) ≡ second
          → push_at_wall (max_of (length strip)) r ≡ wall → pop_at_far r ≡ far → Went strip r hint
      go true second wall far a b w f = goes clear (drops s (Misled.first_own (eqb-true _ _ a)) (simp a at looked))
      go false false wall far a b w f = goes clear (drops s (Misled.second_other (eqb-false _ _ b)) (simp (a, b) at looked))
      go false true true far a b w f = goes clear (fills s (right a b) w (simp (a, b, w) at looked))
      go false true false true a b w f = goes clear (doubts s (right a b) f (simp (a, b, w, f) at looked))
      go false true false false a b w f = goes clear (readies s (right a b) w f (simp (a, b, w, f) at looked))

  rechecking : r.stage ≡ 3 → Went strip r hint
  unfolding recheck_of
  rechecking s = go (eqb word r.first) refl
    where
      word : ℕ
      word = at_near strip r

      looked : Gone strip r hint (recheck_of r word) strip
      looked = when_looks strip r hint r none (aimed_later r hint (λ e. omega arith)) (near r) _ word (stage_3 r s) refl

      go : (same : Bool) → eqb word r.first ≡ same → Went strip r hint
      go true e = goes clear (empties s (eqb-true word r.first e) (simp e at looked))
      go false e = goes clear (rechecks s (eqb-false word r.first e) (simp e at looked))

  -- the swap of a stage: stuck, lost, or won, where the case says what that is
  swapping : (place from to : ℕ) (then : AfterSwap) → (r.stage ≡ 1 → ⊥) → access_of r ≡ Swap place from to then
      → (Took (get_or strip place 0) from → Gone strip r hint (won_of r then) (set strip place (raised_to from to)) → GoneOn strip r hint)
      → Went strip r hint
  swapping place from to then later access won = go (swap_goes (get_or strip place 0) from)
    where
      met : ℕ
      met = get_or strip place 0

      Swapping : Swapped → Type 0
      Swapping t = Gone strip r hint (swapped_of r then t) (words_after t strip place (raised_to from to))

      swapped : Swapping (swap_of met from)
      swapped =
          when_swaps strip r hint r none (aimed_later r hint later) place from to then (swap_of met from)
          (words_after (swap_of met from) strip place (raised_to from to)) access (record { answered = refl; words = refl })

      go : SwapGoes met from → Went strip r hint
      go (SwapGoes.won took e) = goes clear (won took (subst Swapping e swapped))
      go (SwapGoes.lost other e) = goes clear (loses place from to then access other (subst Swapping e swapped))
      go (SwapGoes.stuck same ended e) = stays CounterAtEnd (subst Swapping e swapped)

  fourth : r.stage ≡ 4 → (push : Bool) → is_push r.operation ≡ push → Went strip r hint
  fourth s true p = swapping _ _ _ _ (λ e. omega arith) (stage_4_push r s p) (push_4 s p)
  fourth s false p = swapping _ _ _ _ (λ e. omega arith) (stage_4_pop r s p) (pop_4 s p)

  fifth : r.stage ≡ 5 → (push : Bool) → is_push r.operation ≡ push → Went strip r hint
  fifth s true p = swapping _ _ _ _ (λ e. omega arith) (stage_5_push r s p) (push_5 s p)
  fifth s false p = swapping _ _ _ _ (λ e. omega arith) (stage_5_pop r s p) (pop_5 s p)

  by_stage : ValidAt (max_of (length strip)) r → Went strip r hint
  by_stage (ValidAt.at0 s fits) = absurd (eqb-false r.stage 0 clear.busy s)
  by_stage (ValidAt.at1 s fits read) = remembering s
  by_stage (ValidAt.at2 s fits place second) = judging s
  by_stage (ValidAt.at3 s fits place pop) = rechecking s
  by_stage (ValidAt.at4 s fits swap) = fourth s (is_push r.operation) refl
  by_stage (ValidAt.at5 s fits swap) = fifth s (is_push r.operation) refl

pub step_checked : (words : ℕ) (r : Record) (hint : ℕ) → Checked (check_number (step_refusal words r hint))
step_checked words r hint = every_check_ends (step_refusal words r hint)

pub went : (strip : List ℕ) (r : Record) (hint : ℕ) → Went strip r hint
went strip r hint = go (decided (step_refusal (length strip) r hint))
  where
    go : Decided (step_refusal (length strip) r hint) → Went strip r hint
    go (Decided.none none) =
        by_stage strip r hint none (valid_at (max_of (length strip)) r (steppable (length strip) r hint none).valid)
    go (Decided.some refusal e) = stays refusal (when_refused strip r hint refusal e)
