-- What a call makes of its own party's record. What is proved of parties goes by these cases, and by that the others' records stand.
use Prim.Native.Nat.{ℕ, ◌<◌, ◌≤◌}
use mathlib.Core.Path.{◌≡◌, refl, sym, ◌∙◌, ap}
use mathlib.Core.Bool.{false}
use mathlib.Core.List.{List}
use lib.ListN.{length, get_or, set}
use lib.Seq.{get_or-set_same}
use borrow.Author.Tests.{eqb-false}
use native.Mathlib.Omega.{arith}
use Rattle.record.specs.Record.{idle, begun}
use Rattle.party.specs.Answer.{number_of}
use Rattle.record.specs.declared.Record.{Record}
use Rattle.std.specs.declared.result.Result.{Result}
use Rattle.refusal.specs.declared.Refusal.{Refusal}
use Rattle.refusal.specs.Refusal.{refusal_number}
use Rattle.party.specs.declared.Answer.{Answer}
use Rattle.call.specs.Call.{Call, party_of, record_of}
use Rattle.step.proofs.Stepped.{Stepped, stepped}
use Rattle.call.proofs.Called.{Leaves, Called, called}
use Rattle.history.specs.Run.{State, is_step, leaves, number_in}

module _ (s : State) (entry : ℕ) (call : Call) where
  abbrev was : Record
  was = record_of s.table call

  abbrev now : Record
  now = get_or (leaves s entry call).table (party_of call) idle

  pub data Own : Type 0 where
    refused : (refusal : Refusal) → number_in s call ≡ refusal_number refusal → now ≡ was → Own
    begins : (operation order : ℕ) → call ≡ Call.start (party_of call) operation order → party_of call < length s.table
        → number_in s call ≡ 0 → now ≡ begun operation order → Own
    withdrawn : is_step call ≡ false → number_in s call ≡ 0 → now ≡ idle → Own
    steps : (hint : ℕ) → call ≡ Call.step (party_of call) hint → party_of call < length s.table → 1 ≤ was.stage
        → Stepped was now (number_in s call) → Own

  pub own : Own
  unfolding leaves
  own = go (called s.strip s.table call)
    where
      number_is : {answer : Result Answer Refusal} {words : List ℕ} {records : List Record} → Leaves s.strip s.table call answer words records
          → number_in s call ≡ number_of answer
      number_is left = ap number_of left.answered

      set_is : {answer : Result Answer Refusal} {words : List ℕ} (party : ℕ) (r : Record) → party_of call ≡ party → party < length s.table
          → Leaves s.strip s.table call answer words (set s.table party r) → now ≡ r
      set_is party r is known left = rw (left.table_is, is) (get_or-set_same s.table party r idle known)

      go : Called s.strip s.table call → Own
      go (Called.refuses refusal left) = refused refusal (number_is left) (rw left.table_is refl)
      go (Called.starts party operation order is known clear left) =
          let at = ap party_of is in
          begins operation order (is ∙ ap (λ (p : ℕ). Call.start p operation order) (sym at)) (rw at known) (number_is left)
          (set_is party _ at known left)
      go (Called.withdraws party is known left) =
          withdrawn (rw is refl) (number_is left) (set_is party idle (ap party_of is) known left)
      go (Called.steps party hint is known clear on left) =
          let at = ap party_of is in
          let busy = eqb-false (get_or s.table party idle).stage 0 clear.busy in
          steps hint (is ∙ ap (λ (p : ℕ). Call.step p hint) (sym at)) (rw at known) (rw at (omega arith))
          (rw (set_is party _ at known left, number_is left, at) (stepped s.strip (get_or s.table party idle) hint on))
