-- Every look in stage 1 or 2 remembers the plain strip of now: that its side is full there, or that it is empty.
use Prim.Native.Nat.{ℕ}
use mathlib.Core.Path.{◌≡◌, refl, sym, ◌∙◌, ap}
use mathlib.Core.Bool.{true, not}
use mathlib.Core.Logic.{◌⊎◌, inl, inr}
use mathlib.Core.List.{List}
use lib.ListN.{length}
use borrow.Author.Tests.{eqb-true}
use native.Mathlib.Omega.{arith}
use Rattle.logic.proofs.Bools.{both}
use Rattle.word.specs.Word.{value_of, value_at}
use Rattle.record.specs.Operation.{is_push, wall}
use Rattle.record.specs.Record.{idle}
use Rattle.record.specs.Valid.{place_fits, at_wall}
use Rattle.std.specs.declared.result.Result.TheVariants.{Ok}
use Rattle.party.specs.Answer.{going_on}
use Rattle.record.specs.declared.Record.{Record}
use Rattle.refusal.specs.declared.Refusal.{Refusal}
use Rattle.party.specs.declared.Answered.{Answered}
use Rattle.party.specs.declared.Answer.TheVariants.{GoesOn}
use Rattle.stages.specs.Stages.{near, own, far}
use Rattle.step.specs.Step.{strip_fits, max_of, step_of, step_leaves}
use Rattle.step.proofs.Cleared.{Steppable}
use Rattle.step.proofs.Accesses.{Gone}
use Rattle.step.proofs.Went.{GoneOn}
use Rattle.plain.specs.Plain.{Plain}
use Rattle.strip.specs.Shape.{StandsFor}
use Rattle.strip.proofs.Shapes.{stands_for_bounds, strip_length}
use Rattle.invariant.specs.Invariant.{FreshFirst, Sound}
use Rattle.invariant.specs.Remembered.{Remembers}
use Rattle.invariant.proofs.Sides.{Side, side, place_fits_lem}
use Rattle.invariant.proofs.Ends.{at_the_end, full_at_wall, empty_at_far}

-- at other stages than 2 and 3 there is nothing to remember
abbrev pub Elsewhere : Record → Type 0
Elsewhere r = (r.stage ≡ 2 → ⊥) × (r.stage ≡ 3 → ⊥)

pub remembers_nothing : (strip : List ℕ) (r : Record) (then : Plain) → Elsewhere r → Remembers strip r then
remembers_nothing strip r then off = record { full_then = λ s. absurd (off.0 s); empty_then = λ s. absurd (off.1 s) }

pub idle_remembers : (strip : List ℕ) (then : Plain) → Remembers strip idle then
idle_remembers strip then = remembers_nothing strip idle then (omega arith)

-- FULL, from the look in stage 1: at the wall of a shaped strip stands own null
module _ (strip : List ℕ) (p : Plain) (fits : strip_fits (length strip) ≡ true) (stands : StandsFor strip p) where
  wall_is_own : (r : Record) → at_wall (max_of (length strip)) r ≡ true → value_at strip r.k ≡ own r
  wall_is_own r at = go (side r)
    where
      is : r.k ≡ wall (max_of (length strip)) r.operation
      is = eqb-true r.k (wall (max_of (length strip)) r.operation) at

      go : Side r → value_at strip r.k ≡ own r
      go (Side.right e o f n) =
          let last = rw e at is in
          let words = strip_length strip p stands in
          (stands_for_bounds strip p stands).rights r.k (omega arith) (omega arith) ∙ sym o
      go (Side.left e o f n) =
          let first = rw e at is in
          (stands_for_bounds strip p stands).lefts r.k (omega arith) ∙ sym o

  look_1_remembers : (r : Record) → r.stage ≡ 2 → place_fits (max_of (length strip)) r ≡ true → FreshFirst strip r
      → Remembers strip r p
  look_1_remembers r s in_range_lem fresh =
      record {
        full_then = λ s' wall not_own.
            let at = (both (is_push r.operation) (at_wall (max_of (length strip)) r) wall).1 in
            let other : value_at strip (near r) ≡ own r → ⊥ = λ is. not_own (ap value_of (sym fresh) ∙ is) in
            full_at_wall strip p r fits stands (at_the_end strip p r fits stands in_range_lem (wall_is_own r at) other) at;
        empty_then = λ s'. absurd (omega arith);
      }

  -- EMPTY, from the look in stage 2: own null beside far null
  look_2_remembers : (r : Record) → r.stage ≡ 3 → place_fits (max_of (length strip)) r ≡ true → value_at strip r.k ≡ own r
      → (value_of r.first ≡ own r → ⊥) → value_of r.first ≡ far r → Remembers strip r p
  look_2_remembers r s in_range_lem mine not_own is-far =
      record {
        full_then = λ s'. absurd (omega arith);
        empty_then = λ s' fresh.
            let first = ap value_of fresh in
            let other : value_at strip (near r) ≡ own r → ⊥ = λ is. not_own (sym first ∙ is) in
            empty_at_far strip p r fits stands (at_the_end strip p r fits stands in_range_lem mine other) (first ∙ is-far);
      }

-- A step that goes on from stage 1 or 2 remembers the plain strip of now; after any other that was not refused there is nothing
-- to remember.
pub data StepLooks (strip : List ℕ) (r : Record) (hint : ℕ) (p : Plain) : Type 0 where
  looks : (r.stage ≡ 1) ⊎ (r.stage ≡ 2) → (step_of strip r hint).answer ≡ Ok GoesOn
      → Remembers (step_leaves strip r hint) (step_of strip r hint).rec p → StepLooks strip r hint p
  forgets : ((then : Plain) → Remembers (step_leaves strip r hint) (step_of strip r hint).rec then) → StepLooks strip r hint p

module _ (strip : List ℕ) (r : Record) (hint : ℕ) (p : Plain) (fits : strip_fits (length strip) ≡ true) (sound : Sound strip r)
    (stands : StandsFor strip p) where
  gone_remembers : {given : Answered Refusal} {left : List ℕ} (then : Plain) → Gone strip r hint given left → Remembers left given.rec then
      → Remembers (step_leaves strip r hint) (step_of strip r hint).rec then
  gone_remembers then gone known = rw (gone.answered, gone.words) known

  -- to another stage than 2 and 3
  forgotten : {given : Answered Refusal} {left : List ℕ} → Gone strip r hint given left → Elsewhere given.rec → StepLooks strip r hint p
  forgotten {given} {left} gone off =
      StepLooks.forgets (λ then. gone_remembers then gone (remembers_nothing left given.rec then off))

  looked : {next : Record} → (r.stage ≡ 1) ⊎ (r.stage ≡ 2) → Gone strip r hint (going_on next) strip → Remembers strip next p
      → StepLooks strip r hint p
  looked stage gone known =
      StepLooks.looks stage (ap (λ (a : Answered Refusal). a.answer) gone.answered) (gone_remembers p gone known)

  pub step_looks : Steppable (length strip) r hint → GoneOn strip r hint → StepLooks strip r hint p
  step_looks clear (GoneOn.remembers s gone) =
      looked (inl s) gone (look_1_remembers strip p fits stands _ refl (rw s at clear.aimed_fits) refl)
  step_looks clear (GoneOn.drops s d gone) = forgotten gone (omega arith)
  step_looks clear (GoneOn.fills s d w gone) = forgotten gone (omega arith)
  step_looks clear (GoneOn.doubts s d f gone) =
      let in_range_lem = place_fits_lem (max_of (length strip)) r sound.valid (omega arith) in
      let is-far = eqb-true (value_of r.first) (far r) (both (not (is_push r.operation)) _ f).1 in
      looked (inr s) gone (look_2_remembers strip p fits stands _ refl in_range_lem d.second_own d.first_other is-far)
  step_looks clear (GoneOn.readies s d w f gone) = forgotten gone (omega arith)
  step_looks clear (GoneOn.empties s e gone) = forgotten gone (omega arith)
  step_looks clear (GoneOn.rechecks s e gone) = forgotten gone (omega arith)
  step_looks clear (GoneOn.push_4 s q t gone) = forgotten gone (omega arith)
  step_looks clear (GoneOn.pop_4 s q t gone) = forgotten gone (omega arith)
  step_looks clear (GoneOn.push_5 s q t gone) = forgotten gone (omega arith)
  step_looks clear (GoneOn.pop_5 s q t gone) = forgotten gone (omega arith)
  step_looks clear (GoneOn.loses place from to then access other gone) = forgotten gone (omega arith)
