-- A left step is the mirror of the right step.
use Prim.Native.Nat.{ℕ, ◌+◌, ◌-◌, ◌<◌, ◌≤◌}
use mathlib.Core.Path.{◌≡◌, refl, sym, ◌∙◌, ap, subst}
use mathlib.Core.Bool.{Bool, true, false, not, ◌||◌, true≢false}
use mathlib.Core.List.{List}
use mathlib.Core.Logic.{◌⊎◌, inl, inr}
use lib.ListN.{length, get_or}
use lib.Dec.{eqb, leb}
use borrow.Author.Tests.{leb-true}
use native.Mathlib.Omega.{arith}
use Rattle.logic.specs.Pick.{pick}
use Rattle.logic.proofs.Bools.{both}
use Rattle.word.specs.Word.{value_of, counter_of, raised_to, last_counter, LN, RN}
use Rattle.word.specs.Swap.{swap_of, words_after}
use Rattle.record.specs.Record.{again, at_stage, with_operation}
use Rattle.record.specs.Valid.{place_fits}
use Rattle.std.specs.declared.result.Result.TheVariants.{Ok, Err}
use Rattle.refusal.specs.declared.Refusal.TheVariants.{CounterAtEnd}
use Rattle.refusal.specs.Refusal.{Check, if_passes}
use Rattle.party.specs.Answer.{going_on, ends, refused, unless}
use Rattle.record.specs.declared.Record.{Record}
use Rattle.refusal.specs.declared.Refusal.{Refusal}
use Rattle.party.specs.declared.Answered.{Answered}
use Rattle.party.specs.declared.Answer.TheVariants.{Popped}
use Rattle.stages.specs.Stages.{access_of}
use Rattle.stages.specs.Follow.{judge_of, recheck_of, won_of, swapped_of}
use Rattle.step.specs.Step.{strip_fits, max_of, step_refusal, aimed, followed, written, step_of, step_leaves}
use Rattle.stages.specs.declared.AfterSwap.{AfterSwap}
use Rattle.stages.specs.declared.AfterSwap.TheVariants.{Onward, Push, Pop}
use Rattle.word.specs.declared.Swapped.{Swapped}
use Rattle.word.specs.declared.Swapped.TheVariants.{Won, Lost, Stuck}
use Rattle.step.proofs.Cleared.{Steppable, steppable, strip_within}
use Rattle.record.proofs.Stages.{stage_3_fits, stage_5_fits}
use Rattle.mirror.specs.Mirror.{mirror_word, mirror_strip, mirror_place, mirror_record, mirror_answered, Mirrors, StepMirrors}
use Rattle.mirror.proofs.Words.{order_stays, mirror_value_lem, mirror_counter, mirror_same, mirror_is_RN, mirror_is_LN, mirror_raised}
use Rattle.mirror.proofs.Strips.{length_mirror, mirror_at, mirror_set}
use Rattle.mirror.proofs.Refusals.{wall_mirrors, by_stage, past_is_invalid, push_refused_alike, pop_refused_alike}

-- what computes to its mirror
mirrored : {max : ℕ} {given : Answered Refusal} {left : List ℕ} → Mirrors max given left (mirror_answered max given) (mirror_strip left)
mirrored = record { answered = refl; words = refl }

-- where both go the same way by one test
either : {max : ℕ} {left left' : List ℕ} (test : Bool) {x y x' y' : Answered Refusal} → Mirrors max x left x' left' → Mirrors max y left y' left'
    → Mirrors max (pick test x y) left (pick test x' y') left'
either true p q = p
either false p q = q

-- what follows the access of the mirrored record, and the words it leaves, mirror those of the record's access
abbrev AccessMirrors : List ℕ → Record → (hint : ℕ) → Type 0
AccessMirrors strip r hint =
    let max = max_of (length strip) in
    let at = aimed r hint in
    let at' = aimed (mirror_record max r) (mirror_place max hint) in
    Mirrors max (followed strip at (access_of at)) (written strip (access_of at)) (followed (mirror_strip strip) at' (access_of at'))
    (written (mirror_strip strip) (access_of at'))

-- a step that is refused alike mirrors, if its access does where it passes
step_mirrors : (strip : List ℕ) (r : Record) (hint : ℕ)
    → step_refusal (length strip) (mirror_record (max_of (length strip)) r) (mirror_place (max_of (length strip)) hint) ≡ step_refusal (length strip) r hint
    → (Steppable (length strip) r hint → AccessMirrors strip r hint) → StepMirrors strip r hint
unfolding step_of step_leaves
step_mirrors strip r hint alike access = rw (length_mirror strip, alike) (go (step_refusal (length strip) r hint) refl)
  where
    max : ℕ
    max = max_of (length strip)

    at : Record
    at = aimed r hint

    r' : Record
    r' = mirror_record max r

    at' : Record
    at' = aimed r' (mirror_place max hint)

    go : (check : Check) → step_refusal (length strip) r hint ≡ check
        → Mirrors max (unless check r (followed strip at (access_of at))) (if_passes check (written strip (access_of at)) strip)
        (unless check r' (followed (mirror_strip strip) at' (access_of at')))
        (if_passes check (written (mirror_strip strip) (access_of at')) (mirror_strip strip))
    go (Ok passed) e = access (steppable (length strip) r hint e)
    go (Err refusal) e = mirrored

-- a swap on the mirrored strip goes as the swap does
swap_mirrors : (strip : List ℕ) (i j from to to' : ℕ) (r r' : Record) (then : AfterSwap) → i + j + 1 ≡ length strip
    → raised_to (mirror_word from) to' ≡ mirror_word (raised_to from to)
    → Mirrors (max_of (length strip)) (won_of r then) strip (won_of r' then) (mirror_strip strip)
    → r' ≡ mirror_record (max_of (length strip)) r → again r' ≡ mirror_record (max_of (length strip)) (again r)
    → Mirrors (max_of (length strip)) (swapped_of r then (swap_of (get_or strip i 0) from))
    (words_after (swap_of (get_or strip i 0) from) strip i (raised_to from to))
    (swapped_of r' then (swap_of (get_or (mirror_strip strip) j 0) (mirror_word from)))
    (words_after (swap_of (get_or (mirror_strip strip) j 0) (mirror_word from)) (mirror_strip strip) j (raised_to (mirror_word from) to'))
swap_mirrors strip i j from to to' r r' then across raised won same lost =
    rw (raised, mirror_at strip i j across, mirror_same met from, mirror_counter from) (go (eqb met from) (eqb (counter_of from) last_counter))
  where
    met : ℕ
    met = get_or strip i 0

    goes : (whole ended : Bool) (word : ℕ) → Swapped
    goes whole ended word = pick whole (pick ended Stuck Won) (Lost word)

    go : (whole ended : Bool)
        → Mirrors (max_of (length strip)) (swapped_of r then (goes whole ended met)) (words_after (goes whole ended met) strip i (raised_to from to))
        (swapped_of r' then (goes whole ended (mirror_word met)))
        (words_after (goes whole ended (mirror_word met)) (mirror_strip strip) j (mirror_word (raised_to from to)))
    go true true = record { answered = ap (refused CounterAtEnd) same; words = refl }
    go true false = record { answered = won.answered; words = mirror_set strip i j (raised_to from to) across }
    go false ended = record { answered = ap going_on lost; words = refl }

module _ (strip : List ℕ) (hint : ℕ) (r : Record) where
  abbrev max : ℕ
  max = max_of (length strip)

  abbrev push : (stage : ℕ) → Record
  push stage = with_operation 2 (at_stage stage r)

  abbrev pop : (stage : ℕ) → Record
  pop stage = with_operation 3 (at_stage stage r)

  push_1 : hint + 2 ≤ length strip → AccessMirrors strip (push 1) hint
  unfolding access_of
  push_1 inside = rw (mirror_at strip (hint + 1) (mirror_place max hint - 1) (omega arith)) mirrored

  pop_1 : hint + 2 ≤ length strip → AccessMirrors strip (pop 1) hint
  unfolding access_of
  pop_1 inside = rw (mirror_at strip (hint + 1) (mirror_place max hint - 1) (omega arith)) mirrored

  module _ (inside : r.k + 2 ≤ length strip) where
    met : get_or (mirror_strip strip) (mirror_place max r.k) 0 ≡ mirror_word (get_or strip r.k 0)
    met = mirror_at strip r.k (mirror_place max r.k) (omega arith)

    push_2 : AccessMirrors strip (push 2) hint
    unfolding access_of judge_of
    push_2 =
        let word = get_or strip r.k 0 in
        rw (length_mirror strip, met, mirror_is_RN r.first, mirror_is_RN word, wall_mirrors max r.k)
        (either (eqb (value_of r.first) LN || not (eqb (value_of word) LN)) mirrored (either (eqb r.k 0) mirrored mirrored))

    pop_2 : AccessMirrors strip (pop 2) hint
    unfolding access_of judge_of
    pop_2 =
        let word = get_or strip r.k 0 in
        rw (met, mirror_is_RN r.first, mirror_is_LN r.first, mirror_is_RN word)
        (either (eqb (value_of r.first) LN || not (eqb (value_of word) LN)) mirrored
        (either (eqb (value_of r.first) RN) mirrored mirrored))

    pop_3 : AccessMirrors strip (pop 3) hint
    unfolding access_of recheck_of
    pop_3 =
        let word = get_or strip (r.k + 1) 0 in
        rw (mirror_at strip (r.k + 1) (mirror_place max r.k - 1) (omega arith), mirror_same word r.first)
        (either (eqb word r.first) mirrored mirrored)

    push_4 : AccessMirrors strip (push 4) hint
    unfolding access_of
    push_4 =
        let word = r.first in
        swap_mirrors strip (r.k + 1) (mirror_place max r.k - 1) word (value_of word) (value_of (mirror_word word)) (push 4)
        (mirror_record max (push 4)) Onward (omega arith)
        (ap (raised_to (mirror_word word)) (mirror_value_lem word) ∙ mirror_raised word (value_of word) (omega arith)) mirrored refl refl

    pop_4 : AccessMirrors strip (pop 4) hint
    unfolding access_of
    pop_4 =
        swap_mirrors strip r.k (mirror_place max r.k) r.second LN RN (pop 4) (mirror_record max (pop 4)) Onward (omega arith)
        (mirror_raised r.second LN (omega arith)) mirrored refl refl

    push_5 : 3 ≤ r.v → r.v < 4294967296 → AccessMirrors strip (push 5) hint
    unfolding access_of
    push_5 order below =
        swap_mirrors strip r.k (mirror_place max r.k) r.second r.v r.v (push 5) (mirror_record max (push 5)) Push (omega arith)
        (ap (raised_to (mirror_word r.second)) (sym (order_stays r.v order)) ∙ mirror_raised r.second r.v below) mirrored refl refl

    pop_5 : AccessMirrors strip (pop 5) hint
    unfolding access_of
    pop_5 =
        swap_mirrors strip (r.k + 1) (mirror_place max r.k - 1) r.first LN RN (pop 5) (mirror_record max (pop 5)) Pop (omega arith)
        (mirror_raised r.first LN (omega arith))
        (record { answered = ap (λ (order : ℕ). ends (Popped order)) (mirror_value_lem r.first); words = refl }) refl refl

  -- a place in range on the left, and its neighbour, lie inside the strip
  within : (place : ℕ) → strip_fits (length strip) ≡ true → leb place max ≡ true → place + 2 ≤ length strip
  within place fits low = omega (arith, strip_within (length strip) fits, leb-true place max low)

  push_access : r.v < 4294967296 → (stage : ℕ) → Steppable (length strip) (push stage) hint → AccessMirrors strip (push stage) hint
  push_access below =
      by_stage (λ (stage : ℕ). Steppable (length strip) (push stage) hint → AccessMirrors strip (push stage) hint)
      (λ clear. absurd (true≢false clear.busy))
      (λ clear. push_1 (within hint clear.strip_fits clear.aimed_fits))
      (λ clear. push_2 (within r.k clear.strip_fits clear.aimed_fits))
      (λ clear. let fits = (stage_3_fits max (push 3) clear.valid refl).1 in absurd (true≢false (sym (both (place_fits max (push 3)) false fits).1)))
      (λ clear. push_4 (within r.k clear.strip_fits clear.aimed_fits))
      (λ clear.
      let order = leb-true 3 r.v (stage_5_fits max (push 5) clear.valid refl).0 in
      push_5 (within r.k clear.strip_fits clear.aimed_fits) order below)
      (λ stage past clear. absurd (true≢false (sym clear.valid ∙ past_is_invalid max (push stage) past)))

  pop_access : (stage : ℕ) → Steppable (length strip) (pop stage) hint → AccessMirrors strip (pop stage) hint
  pop_access =
      by_stage (λ (stage : ℕ). Steppable (length strip) (pop stage) hint → AccessMirrors strip (pop stage) hint)
      (λ clear. absurd (true≢false clear.busy))
      (λ clear. pop_1 (within hint clear.strip_fits clear.aimed_fits))
      (λ clear. pop_2 (within r.k clear.strip_fits clear.aimed_fits))
      (λ clear. pop_3 (within r.k clear.strip_fits clear.aimed_fits))
      (λ clear. pop_4 (within r.k clear.strip_fits clear.aimed_fits))
      (λ clear. pop_5 (within r.k clear.strip_fits clear.aimed_fits))
      (λ stage past clear. absurd (true≢false (sym clear.valid ∙ past_is_invalid max (pop stage) past)))

  push_mirrors : r.v < 4294967296 → (stage : ℕ) → StepMirrors strip (push stage) hint
  push_mirrors below stage =
      step_mirrors strip (push stage) hint (push_refused_alike (length strip) hint r stage) (push_access below stage)

  pop_mirrors : (stage : ℕ) → StepMirrors strip (pop stage) hint
  pop_mirrors stage = step_mirrors strip (pop stage) hint (pop_refused_alike (length strip) hint r stage) (pop_access stage)

-- A left step is the mirror of the right step, refused or not, on any strip and with any hint. An order is 32 bits wide.
pub a_left_step_is_the_mirrored_right_step : (strip : List ℕ) (r : Record) (hint : ℕ)
    → (r.operation ≡ 2) ⊎ (r.operation ≡ 3) → r.v < 4294967296 → StepMirrors strip r hint
a_left_step_is_the_mirrored_right_step strip r hint left below = go left
  where
    -- the record is the one with its operation's number
    numbered : (operation : ℕ) → r.operation ≡ operation → StepMirrors strip (with_operation operation r) hint → StepMirrors strip r hint
    numbered operation o = subst (λ (x : Record). StepMirrors strip x hint) (λ i. with_operation (sym o i) r)

    go : (r.operation ≡ 2) ⊎ (r.operation ≡ 3) → StepMirrors strip r hint
    go (inl o) = numbered 2 o (push_mirrors strip hint r below r.stage)
    go (inr o) = numbered 3 o (pop_mirrors strip hint r r.stage)
