-- What a call on a strip and a table of records keeps: a refused one changes nothing, valid records stay valid, the table stays as
-- long as it was, and the others' records as they were.
use Prim.Native.Nat.{ℕ}
use mathlib.Core.Path.{◌≡◌, refl, sym, ◌∙◌, ap}
use mathlib.Core.Bool.{true, true≢false}
use mathlib.Core.List.{List}
use lib.ListN.{length, get_or, set, length-set}
use lib.Seq.{get_or-set_other}
use native.Mathlib.Omega.{arith}
use Rattle.logic.specs.Every.{Every}
use Rattle.logic.proofs.Lists.{every_set}
use Rattle.record.specs.Record.{idle}
use Rattle.record.specs.Valid.{valid_of}
use Rattle.party.specs.Answer.{is_refusal, number_of, carried_of}
use Rattle.record.specs.declared.Record.{Record}
use Rattle.std.specs.declared.result.Result.{Result}
use Rattle.refusal.specs.declared.Refusal.{Refusal}
use Rattle.std.specs.declared.result.Result.TheVariants.{Ok, Err}
use Rattle.refusal.specs.Refusal.{Check}
use Rattle.party.specs.declared.Answer.{Answer}
use Rattle.party.proofs.Kept.{idle_is_valid, begun_is_valid}
use Rattle.step.specs.Step.{max_of}
use Rattle.call.specs.Call.{Call, party_of, gate, past, call_of, Unchanged}
use Rattle.step.proofs.Kept.{going_on_is_no_refusal, step_keeps_valid}
use Rattle.call.proofs.Called.{Leaves, Called, called}

module _ (strip : List ℕ) (table : List Record) (call : Call) where
  pub refused_call_changes_nothing : is_refusal (number_of (call_of strip table call).answer) ≡ true
      → Unchanged strip table (call_of strip table call)
  refused_call_changes_nothing refused = go (called strip table call)
    where
      is_refused : {answer : Result Answer Refusal} {words : List ℕ} {records : List Record} → Leaves strip table call answer words records
          → is_refusal (number_of answer) ≡ true
      is_refused left = ap (λ (a : Result Answer Refusal). is_refusal (number_of a)) (sym left.answered) ∙ refused

      go : Called strip table call → Unchanged strip table (call_of strip table call)
      go (Called.refuses refusal left) =
          record { carried = ap carried_of left.answered; strip_kept = left.strip_is; table_kept = left.table_is }
      go (Called.starts party operation order is known clear left) = absurd (true≢false (sym (is_refused left)))
      go (Called.withdraws party is known left) = absurd (true≢false (sym (is_refused left)))
      go (Called.steps party hint is known clear on left) =
          absurd (true≢false (sym (is_refused left) ∙ going_on_is_no_refusal strip _ hint on))

  -- Valid records stay valid, whatever is called.
  pub valid_records_stay_valid : Every (λ r. valid_of (max_of (length strip)) r ≡ true) idle table
      → Every (λ r. valid_of (max_of (length strip)) r ≡ true) idle (call_of strip table call).table
  valid_records_stay_valid valid = go (called strip table call)
    where
      Valid : Record → Type 0
      Valid r = valid_of (max_of (length strip)) r ≡ true

      one : {answer : Result Answer Refusal} {words : List ℕ} (party : ℕ) (r : Record) → Leaves strip table call answer words (set table party r)
          → Valid r → Every Valid idle (call_of strip table call).table
      one party r left new = rw left.table_is (every_set Valid idle table party r valid new)

      go : Called strip table call → Every Valid idle (call_of strip table call).table
      go (Called.refuses refusal left) = rw left.table_is valid
      go (Called.starts party operation order is known clear left) =
          one party _ left (begun_is_valid (max_of (length strip)) operation order (omega (arith, clear.known)) clear.ordered)
      go (Called.withdraws party is known left) = one party idle left (idle_is_valid (max_of (length strip)))
      go (Called.steps party hint is known clear on left) = one party _ left (step_keeps_valid strip _ hint (valid party known))

  pub table_stays_as_long : length (call_of strip table call).table ≡ length table
  table_stays_as_long = go (called strip table call)
    where
      go : Called strip table call → length (call_of strip table call).table ≡ length table
      go (Called.refuses refusal left) = ap length left.table_is
      go (Called.starts party operation order is known clear left) = ap length left.table_is ∙ length-set table party _
      go (Called.withdraws party is known left) = ap length left.table_is ∙ length-set table party idle
      go (Called.steps party hint is known clear on left) = ap length left.table_is ∙ length-set table party _

  -- Every record but the party's is as it was.
  pub other_records_stand : (i : ℕ) → (i ≡ party_of call → ⊥) → get_or (call_of strip table call).table i idle ≡ get_or table i idle
  unfolding call_of
  other_records_stand i other =
      go (gate (length strip) (length table) call)
    where
      go : (check : Check) → get_or (past check strip table call).table i idle ≡ get_or table i idle
      go (Ok passed) = get_or-set_other table (party_of call) i _ idle other
      go (Err refusal) = refl
