-- Each stage of the right side does what its line of the figure does.
use Prim.Native.Nat.{ℕ, ◌+◌, ◌-◌, ◌<◌}
use mathlib.Core.Path.{◌≡◌, refl, sym, ◌∙◌, subst}
use mathlib.Core.Bool.{Bool, true, false, not, ◌&&◌, ◌||◌, true≢false}
use mathlib.Core.List.{List}
use lib.ListN.{length, get_or, set}
use lib.Dec.{eqb}
use borrow.Author.Tests.{eq-eqb, ne_eqb, eqb-true, eqb-false, ltb-true}
use native.Mathlib.Omega.{arith}
use Rattle.logic.specs.Pick.{pick}
use Rattle.word.specs.Word.{value_of, counter_of, raised_to, LN, RN}
use Rattle.word.specs.Swap.{swap_of, words_after}
use Rattle.word.proofs.Laws.{SwapGoes, swap_goes}
use Rattle.record.specs.Operation.{is_right}
use Rattle.record.specs.Record.{again, at_stage, with_operation}
use Rattle.record.specs.Valid.{is_idle}
use Rattle.party.specs.Answer.{is_refusal, number_of, going_on}
use Rattle.record.specs.declared.Record.{Record}
use Rattle.refusal.specs.declared.Refusal.{Refusal}
use Rattle.party.specs.declared.Answered.{Answered}
use Rattle.stages.specs.Stages.{access_of}
use Rattle.stages.specs.Follow.{judge_of, recheck_of, won_of, swapped_of}
use Rattle.step.specs.Step.{max_of, step_refusal, step_of, step_leaves}
use Rattle.stages.specs.declared.AfterSwap.{AfterSwap}
use Rattle.stages.specs.declared.AfterSwap.TheVariants.{Onward, Push, Pop}
use Rattle.record.proofs.Stages.{ValidAt, valid_at}
use Rattle.party.proofs.Refusals.{every_refusal_is_one}
use Rattle.refusal.specs.Refusal.{passes}
use Rattle.refusal.proofs.Checks.{Decided, decided}
use Rattle.step.proofs.Cleared.{steppable}
use Rattle.step.proofs.Accesses.{when_refused}
use Rattle.figure.specs.Figure.{element, Next, leads, if_CAS}
use Rattle.figure.specs.Reading.{element_of, elements, Reaches, Matches, IsTheLine}
use Rattle.figure.proofs.Elements.{same_is_whole, element_at, element_raised, elements_set}

-- where both lead the same way by one test
either : (test : Bool) {n m : Next} {x y : Answered Refusal} → Reaches n x → Reaches m y → Reaches (pick test n m) (pick test x y)
either true p q = p
either false p q = q

-- RH4 and RP4 pass exactly where stage 2 is not misled
judged : (left right : Bool) {n m : Next} {x y : Answered Refusal} → Reaches n x → Reaches m y
    → Reaches (pick (not left && right) n m) (pick (left || not right) y x)
judged true right p q = q
judged false true p q = p
judged false false p q = q

-- a swap is a CAS; it is not refused, so its counter is not at its end
swapped_is_CAS : (strip : List ℕ) (place from to : ℕ) (r : Record) (then : AfterSwap) (succeeds fails : Next) → to < 4294967296
    → is_refusal (number_of (swapped_of r then (swap_of (get_or strip place 0) from)).answer) ≡ false
    → Reaches succeeds (won_of r then) → Reaches fails (going_on (again r))
    → Matches (if_CAS (elements strip) place (element_of from) (element to (counter_of from + 1)) succeeds fails)
    (swapped_of r then (swap_of (get_or strip place 0) from))
    (words_after (swap_of (get_or strip place 0) from) strip place (raised_to from to))
swapped_is_CAS strip place from to r then succeeds fails fits goes won lost =
    rw (element_at strip place, same_is_whole met from) (go (swap_goes met from))
  where
    met : ℕ
    met = get_or strip place 0

    go : SwapGoes met from
        → Matches (pick (eqb met from) (leads (set (elements strip) place (element to (counter_of from + 1))) succeeds) (leads (elements strip) fails))
        (swapped_of r then (swap_of met from)) (words_after (swap_of met from) strip place (raised_to from to))
    go (SwapGoes.won took e) =
        rw (e, eq-eqb met from took.same)
        (record { array = rw (elements_set strip place (raised_to from to), element_raised from to fits); next = won })
    go (SwapGoes.lost other e) = rw (e, ne_eqb met from other) (record { array = refl; next = lost })
    go (SwapGoes.stuck whole ended e) = absurd (true≢false (rw e at goes))

-- what is shown of each stage: a step that no check and no swap refuses is its line
abbrev StepIsLine : List ℕ → (hint : ℕ) → Record → Type 0
StepIsLine strip hint r =
    step_refusal (length strip) r hint ≡ passes → is_refusal (number_of (step_of strip r hint).answer) ≡ false → IsTheLine strip r hint

module _ (strip : List ℕ) (hint : ℕ) (r : Record) where
  abbrev push : (stage : ℕ) → Record
  push stage = with_operation 0 (at_stage stage r)

  abbrev pop : (stage : ℕ) → Record
  pop stage = with_operation 1 (at_stage stage r)

  stage_1_is_RH2 : StepIsLine strip hint (push 1)
  unfolding step_of step_leaves access_of
  stage_1_is_RH2 passes goes =
      rw (passes, element_at strip (hint - 1)) (record { array = refl; next = Reaches.goes_on refl (λ h. refl) })

  stage_1_is_RP2 : StepIsLine strip hint (pop 1)
  unfolding step_of step_leaves access_of
  stage_1_is_RP2 passes goes =
      rw (passes, element_at strip (hint - 1)) (record { array = refl; next = Reaches.goes_on refl (λ h. refl) })

  stage_2_is_RH3 : StepIsLine strip hint (push 2)
  unfolding step_of step_leaves access_of judge_of
  stage_2_is_RH3 passes goes =
      rw (passes, element_at strip r.k)
      (record {
        array = refl;
        next =
            judged (eqb (value_of r.first) RN) (eqb (value_of (get_or strip r.k 0)) RN)
            (either (eqb r.k (max_of (length strip) + 1)) (Reaches.filled refl refl) (Reaches.goes_on refl (λ h. refl)))
            (Reaches.goes_on refl (λ h. refl));
      })

  stage_2_is_RP3 : StepIsLine strip hint (pop 2)
  unfolding step_of step_leaves access_of judge_of
  stage_2_is_RP3 passes goes =
      rw (passes, element_at strip r.k)
      (record {
        array = refl;
        next =
            judged (eqb (value_of r.first) RN) (eqb (value_of (get_or strip r.k 0)) RN)
            (either (eqb (value_of r.first) LN) (Reaches.goes_on refl (λ h. refl)) (Reaches.goes_on refl (λ h. refl)))
            (Reaches.goes_on refl (λ h. refl));
      })

  stage_3_is_RP5 : StepIsLine strip hint (pop 3)
  unfolding step_of step_leaves access_of recheck_of
  stage_3_is_RP5 passes goes =
      let met = get_or strip (r.k - 1) 0 in
      rw (passes, element_at strip (r.k - 1), same_is_whole met r.first)
      (record { array = refl; next = either (eqb met r.first) (Reaches.emptied refl refl) (Reaches.goes_on refl (λ h. refl)) })

  stage_4_is_RH6 : StepIsLine strip hint (push 4)
  unfolding step_of step_leaves access_of
  stage_4_is_RH6 passes goes =
      rw passes
      (swapped_is_CAS strip (r.k - 1) r.first (value_of r.first) (push 4) Onward _ _ (omega arith) (rw passes at goes)
      (Reaches.goes_on refl (λ h. refl)) (Reaches.goes_on refl (λ h. refl)))

  stage_4_is_RP7 : StepIsLine strip hint (pop 4)
  unfolding step_of step_leaves access_of
  stage_4_is_RP7 passes goes =
      rw passes
      (swapped_is_CAS strip r.k r.second RN (pop 4) Onward _ _ (omega arith) (rw passes at goes)
      (Reaches.goes_on refl (λ h. refl)) (Reaches.goes_on refl (λ h. refl)))

  stage_5_is_RH7 : r.v < 4294967296 → StepIsLine strip hint (push 5)
  unfolding step_of step_leaves access_of
  stage_5_is_RH7 fits passes goes =
      rw passes
      (swapped_is_CAS strip r.k r.second r.v (push 5) Push _ _ fits (rw passes at goes)
      (Reaches.pushed refl refl) (Reaches.goes_on refl (λ h. refl)))

  stage_5_is_RP8 : StepIsLine strip hint (pop 5)
  unfolding step_of step_leaves access_of
  stage_5_is_RP8 passes goes =
      rw passes
      (swapped_is_CAS strip (r.k - 1) r.first RN (pop 5) Pop _ _ (omega arith) (rw passes at goes)
      (Reaches.popped (value_of r.first) refl refl) (Reaches.goes_on refl (λ h. refl)))

-- a valid busy record of the right side has one of these stages
module _ (strip : List ℕ) (r : Record) (hint : ℕ) (fits : r.v < 4294967296) where
  -- the record is the one with its numbers
  numbered : (operation stage : ℕ) → r.operation ≡ operation → r.stage ≡ stage
      → StepIsLine strip hint (with_operation operation (at_stage stage r)) → StepIsLine strip hint r
  numbered operation stage o s = subst (StepIsLine strip hint) (λ i. with_operation (sym o i) (at_stage (sym s i) r))

  push_is_its_line : r.operation ≡ 0 → is_idle r ≡ false → ValidAt (max_of (length strip)) r → StepIsLine strip hint r
  push_is_its_line o busy (ValidAt.at0 s f) = absurd (eqb-false r.stage 0 busy s)
  push_is_its_line o busy (ValidAt.at1 s f read) = numbered 0 1 o s (stage_1_is_RH2 strip hint r)
  push_is_its_line o busy (ValidAt.at2 s f k none) = numbered 0 2 o s (stage_2_is_RH3 strip hint r)
  push_is_its_line o busy (ValidAt.at3 s f k pop) = absurd (true≢false (rw o at pop))
  push_is_its_line o busy (ValidAt.at4 s f k) = numbered 0 4 o s (stage_4_is_RH6 strip hint r)
  push_is_its_line o busy (ValidAt.at5 s f k) = numbered 0 5 o s (stage_5_is_RH7 strip hint r fits)

  pop_is_its_line : r.operation ≡ 1 → is_idle r ≡ false → ValidAt (max_of (length strip)) r → StepIsLine strip hint r
  pop_is_its_line o busy (ValidAt.at0 s f) = absurd (eqb-false r.stage 0 busy s)
  pop_is_its_line o busy (ValidAt.at1 s f read) = numbered 1 1 o s (stage_1_is_RP2 strip hint r)
  pop_is_its_line o busy (ValidAt.at2 s f k none) = numbered 1 2 o s (stage_2_is_RP3 strip hint r)
  pop_is_its_line o busy (ValidAt.at3 s f k pop) = numbered 1 3 o s (stage_3_is_RP5 strip hint r)
  pop_is_its_line o busy (ValidAt.at4 s f k) = numbered 1 4 o s (stage_4_is_RP7 strip hint r)
  pop_is_its_line o busy (ValidAt.at5 s f k) = numbered 1 5 o s (stage_5_is_RP8 strip hint r)

-- Demand 2: a step of the right side that is not refused is the line of figure 1 that its record stands before.
-- An order is 32 bits wide.
pub each_step_is_the_figures_line : (strip : List ℕ) (r : Record) (hint : ℕ) → is_right r.operation ≡ true → r.v < 4294967296
    → is_refusal (number_of (step_of strip r hint).answer) ≡ false → IsTheLine strip r hint
each_step_is_the_figures_line strip r hint right fits goes = go (decided (step_refusal (length strip) r hint)) (eqb r.operation 0) refl
  where
    go : Decided (step_refusal (length strip) r hint) → (push : Bool) → eqb r.operation 0 ≡ push → IsTheLine strip r hint
    go (Decided.none none) true o =
        let clear = steppable (length strip) r hint none in
        push_is_its_line strip r hint fits (eqb-true r.operation 0 o) clear.busy (valid_at _ r clear.valid) none goes
    go (Decided.none none) false o =
        let clear = steppable (length strip) r hint none in
        let is-1 : r.operation ≡ 1 = omega (arith, ltb-true r.operation 2 right, eqb-false r.operation 0 o) in
        pop_is_its_line strip r hint fits is-1 clear.busy (valid_at _ r clear.valid) none goes
    go (Decided.some refusal e) push o =
        absurd (true≢false (sym (every_refusal_is_one refusal) ∙ rw (when_refused strip r hint refusal e).answered at goes))
