-- What a call answers is a number of document 01's table, which ends at 19, and an order of 32 bits.
use Prim.Native.Nat.{ℕ, ◌≤◌, ◌<◌}
use mathlib.Core.Logic.{inl, inr}
use mathlib.Core.List.{List}
use native.Mathlib.Omega.{arith}
use Rattle.party.specs.Answer.{number_of, carried_of}
use Rattle.record.specs.declared.Record.{Record}
use Rattle.std.specs.declared.result.Result.{Result}
use Rattle.refusal.specs.declared.Refusal.{Refusal}
use Rattle.refusal.proofs.Checks.{refusal_is_small}
use Rattle.party.specs.declared.Answer.{Answer}
use Rattle.step.specs.Step.{step_of}
use Rattle.step.proofs.Went.{GoneOn}
use Rattle.step.proofs.Stepped.{Stepped, stepped}
use Rattle.call.specs.Call.{Call, call_of}
use Rattle.call.proofs.Called.{Called, called}

stepped_bounded : {r next : Record} {number : ℕ} → Stepped r next number → number ≤ 19
stepped_bounded (Stepped.going_on number operation v to-2 to-3) = omega arith
stepped_bounded (Stepped.acting (inl number) ended) = omega arith
stepped_bounded (Stepped.acting (inr number) ended) = omega arith
stepped_bounded (Stepped.filling number second ended) = omega arith
stepped_bounded (Stepped.emptying number third ended) = omega arith

-- what POPPED carries is a word's value
step_carries : (strip : List ℕ) (r : Record) (hint : ℕ) → GoneOn strip r hint → carried_of (step_of strip r hint).answer < 4294967296
step_carries strip r hint (GoneOn.remembers s gone) = rw gone.answered (omega arith)
step_carries strip r hint (GoneOn.drops s d gone) = rw gone.answered (omega arith)
step_carries strip r hint (GoneOn.fills s d w gone) = rw gone.answered (omega arith)
step_carries strip r hint (GoneOn.doubts s d f gone) = rw gone.answered (omega arith)
step_carries strip r hint (GoneOn.readies s d w f gone) = rw gone.answered (omega arith)
step_carries strip r hint (GoneOn.empties s e gone) = rw gone.answered (omega arith)
step_carries strip r hint (GoneOn.rechecks s e gone) = rw gone.answered (omega arith)
step_carries strip r hint (GoneOn.push_4 s p t gone) = rw gone.answered (omega arith)
step_carries strip r hint (GoneOn.pop_4 s p t gone) = rw gone.answered (omega arith)
step_carries strip r hint (GoneOn.push_5 s p t gone) = rw gone.answered (omega arith)
step_carries strip r hint (GoneOn.pop_5 s p t gone) = rw gone.answered (omega arith)
step_carries strip r hint (GoneOn.loses place from to then access other gone) = rw gone.answered (omega arith)

module _ (strip : List ℕ) (table : List Record) (call : Call) where
  abbrev Small : Result Answer Refusal → Type 0
  Small answer = (number_of answer ≤ 19) × (carried_of answer < 4294967296)

  small : Small (call_of strip table call).answer
  small = go (called strip table call)
    where
      go : Called strip table call → Small (call_of strip table call).answer
      go (Called.refuses refusal left) =
          let below = refusal_is_small refusal in rw left.answered (omega arith, omega arith)
      go (Called.starts party operation order is known clear left) = rw left.answered (omega arith, omega arith)
      go (Called.withdraws party is known left) = rw left.answered (omega arith, omega arith)
      go (Called.steps party hint is known clear on left) =
          rw left.answered (stepped_bounded (stepped strip _ hint on), step_carries strip _ hint on)

  pub no_answer_is_above_19 : number_of (call_of strip table call).answer ≤ 19
  no_answer_is_above_19 = small.0

  pub every_carried_order_has_32_bits : carried_of (call_of strip table call).answer < 4294967296
  every_carried_order_has_32_bits = small.1
