-- What a step gives and leaves: refused by a check, or by the access of its stage.
use Prim.Native.Nat.{ℕ}
use mathlib.Core.Path.{◌≡◌, refl, sym, ◌∙◌, ap, ap₂}
use mathlib.Core.List.{List}
use lib.ListN.{length, get_or}
use Rattle.std.specs.declared.result.Result.TheVariants.{Err}
use Rattle.refusal.specs.declared.Refusal.{Refusal}
use Rattle.refusal.specs.Refusal.{passes}
use Rattle.word.specs.Swap.{SwapPromise}
use Rattle.word.specs.declared.Swapped.{Swapped}
use Rattle.party.specs.Answer.{refused}
use Rattle.record.specs.declared.Record.{Record}
use Rattle.party.specs.declared.Answered.{Answered}
use Rattle.stages.specs.Stages.{access_of}
use Rattle.stages.specs.Follow.{looked_of, swapped_of}
use Rattle.step.specs.Step.{max_of, step_refusal, aimed, step_of, step_leaves}
use Rattle.stages.specs.declared.AfterLook.{AfterLook}
use Rattle.stages.specs.declared.AfterSwap.{AfterSwap}
use Rattle.stages.specs.declared.Access.TheVariants.{Look, Swap}

module _ (strip : List ℕ) (r : Record) (hint : ℕ) where
  pub record Gone (given : Answered Refusal) (left : List ℕ) : Type 0 where
    pub answered : step_of strip r hint ≡ given
    pub words : step_leaves strip r hint ≡ left

  -- a step that a check refuses gives that refusal and the record, and leaves every word
  pub when_refused : (refusal : Refusal) → step_refusal (length strip) r hint ≡ Err refusal → Gone (refused refusal r) strip
  unfolding step_of step_leaves
  when_refused refusal e = record { answered = rw e refl; words = rw e refl }

  -- one that passes is what follows its access, here at a record and a word that the code has found
  module _ (at : Record) (clear : step_refusal (length strip) r hint ≡ passes) (a : at ≡ aimed r hint) where
    pub when_looks : (place : ℕ) (then : AfterLook) (word : ℕ) → access_of at ≡ Look place then → word ≡ get_or strip place 0
        → Gone (looked_of (max_of (length strip)) at then word) strip
    unfolding step_of step_leaves
    when_looks place then word access w =
        let found = ap access_of (sym a) ∙ access in
        record {
          answered = rw (clear, found) (sym (ap₂ (λ (x : Record) (y : ℕ). looked_of (max_of (length strip)) x then y) a w));
          words = rw (clear, found) refl;
        }

    pub when_swaps : (place from to : ℕ) (then : AfterSwap) (met : Swapped) (left : List ℕ) → access_of at ≡ Swap place from to then
        → SwapPromise strip place from to met left → Gone (swapped_of at then met) left
    unfolding step_of step_leaves
    when_swaps place from to then met left access swap =
        let found = ap access_of (sym a) ∙ access in
        record {
          answered = rw (clear, found) (sym (ap₂ (λ (x : Record) (y : Swapped). swapped_of x then y) a swap.answered));
          words = rw (clear, found) (sym swap.words);
        }
