-- Every call keeps a sane state sane.
use Prim.Native.Nat.{ℕ}
use mathlib.Core.Path.{◌≡◌, subst}
use mathlib.Core.Bool.{true}
use mathlib.Core.List.{List}
use lib.ListN.{length}
use native.Mathlib.Omega.{arith}
use Rattle.record.specs.Record.{begun}
use Rattle.record.specs.declared.Record.{Record}
use Rattle.std.specs.declared.result.Result.{Result}
use Rattle.refusal.specs.declared.Refusal.{Refusal}
use Rattle.party.specs.declared.Answer.{Answer}
use Rattle.party.proofs.Kept.{begun_is_valid}
use Rattle.step.specs.Step.{strip_fits, max_of}
use Rattle.call.specs.Call.{Call, Fitting, call_of}
use Rattle.invariant.specs.Invariant.{Sane}
use Rattle.invariant.proofs.Moves.{early_sound, idle_sound}
use Rattle.invariant.proofs.Sanity.{set_early_sane}
use Rattle.invariant.proofs.Steps.{step_sane}
use Rattle.call.proofs.Called.{Leaves, Called, called}

module _ (strip : List ℕ) (table : List Record) (call : Call) where
  -- what a call leaves is sane if what it went to is
  leaves_sane : {answer : Result Answer Refusal} {words : List ℕ} {records : List Record} → Leaves strip table call answer words records
      → Sane words records → Sane (call_of strip table call).strip (call_of strip table call).table
  leaves_sane left done = rw (left.strip_is, left.table_is) done

  pub sane_kept : strip_fits (length strip) ≡ true → Fitting call → Sane strip table
      → Sane (call_of strip table call).strip (call_of strip table call).table
  sane_kept fits fitting sane = go (called strip table call)
    where
      go : Called strip table call → Sane (call_of strip table call).strip (call_of strip table call).table
      go (Called.refuses refusal left) = leaves_sane left sane
      go (Called.starts party operation order is known clear left) =
          let small = subst Fitting is fitting in
          let valid = begun_is_valid (max_of (length strip)) operation order (omega (arith, clear.known)) clear.ordered in
          leaves_sane left
          (set_early_sane sane party (early_sound strip (begun operation order) valid small (omega arith) (λ s. absurd (omega arith))) (omega arith))
      go (Called.withdraws party is known left) = leaves_sane left (set_early_sane sane party (idle_sound strip) (omega arith))
      go (Called.steps party hint is known clear on left) = leaves_sane left (step_sane strip table party hint fits known sane on)
