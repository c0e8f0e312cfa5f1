-- Every way a call on a strip and a table can go: refused, a start or a withdrawal taken, or a step that went on. Whatever is proved
-- of calls goes by these cases.
use Prim.Native.Nat.{ℕ, ◌<◌}
use mathlib.Core.Path.{◌≡◌, refl, ap, subst}
use mathlib.Core.Bool.{true, not, ◌&&◌}
use mathlib.Core.List.{List}
use lib.ListN.{length, get_or, set}
use lib.Seq.{set-get_or}
use lib.Dec.{leb}
use borrow.Author.Tests.{leb-false, not-false}
use Rattle.std.specs.declared.result.Result.{Result}
use Rattle.std.specs.declared.result.Result.TheVariants.{Ok, Err}
use Rattle.logic.proofs.Bools.{both}
use Rattle.refusal.specs.declared.Refusal.{Refusal}
use Rattle.refusal.specs.Refusal.{Check, passes, check_number}
use Rattle.party.proofs.Refusals.{Checked, every_check_ends}
use Rattle.refusal.proofs.Checks.{Decided, decided, passed}
use Rattle.record.specs.Record.{idle, begun}
use Rattle.party.specs.Answer.{going_on, refused, unless}
use Rattle.party.specs.Calls.{start_refusal, start_of, withdraw_refusal, withdraw_of}
use Rattle.record.specs.declared.Record.{Record}
use Rattle.party.specs.declared.Answer.{Answer}
use Rattle.party.specs.declared.Answered.{Answered}
use Rattle.party.specs.declared.Answer.TheVariants.{GoesOn}
use Rattle.party.proofs.Cleared.{Startable, startable}
use Rattle.step.specs.Step.{strip_fits, max_of, step_of, step_leaves}
use Rattle.call.specs.Call.{Call, party_of, table_fits, is_unknown, gate, own_of, own_leaves, Left, record_of, through, turned_away, call_of}
use Rattle.step.proofs.Cleared.{Steppable}
use Rattle.step.proofs.Went.{GoneOn, Went, went}

pub gate_checked : (words parties : ℕ) (call : Call) → Checked (check_number (gate words parties call))
gate_checked words parties call = every_check_ends (gate words parties call)

-- The gate passes: the strip fits, and the party is below the count.
pub record PastGate (words parties : ℕ) (call : Call) : Type 0 where
  pub strip_fits : strip_fits words ≡ true
  pub party_known : party_of call < parties

pub past_gate : (words parties : ℕ) (call : Call) → gate words parties call ≡ passes → PastGate words parties call
unfolding gate
past_gate words parties call none =
    let past1 = passed (not (strip_fits words && table_fits parties)) _ _ none in
    let past11 = passed (is_unknown call) _ _ past1.1 in
    let past3 = passed (leb parties (party_of call)) _ passes past11.1 in
    record {
      strip_fits = (both _ _ (not-false (strip_fits words && table_fits parties) past1.0)).0;
      party_known = leb-false parties (party_of call) past3.0;
    }

module _ (strip : List ℕ) (table : List Record) (call : Call) where
  abbrev gated : Check
  gated = gate (length strip) (length table) call

  -- The gate decides the call: through to the party's own record, or turned away.
  pub call_through : gated ≡ passes → call_of strip table call ≡ through strip table call
  unfolding call_of
  call_through none = rw none

  pub call_away : (refusal : Refusal) → gated ≡ Err refusal → call_of strip table call ≡ turned_away strip table refusal
  unfolding call_of
  call_away refusal some = rw some

  -- the answer, the words and the records that a call leaves
  pub record Leaves (answer : Result Answer Refusal) (words : List ℕ) (records : List Record) : Type 0 where
    pub answered : (call_of strip table call).answer ≡ answer
    pub strip_is : (call_of strip table call).strip ≡ words
    pub table_is : (call_of strip table call).table ≡ records

  pub data Called : Type 0 where
    refuses : (refusal : Refusal) → Leaves (Err refusal) strip table → Called
    starts : (party operation order : ℕ) → call ≡ Call.start party operation order → party < length table
        → Startable (max_of (length strip)) (get_or table party idle) operation order
        → Leaves (Ok GoesOn) strip (set table party (begun operation order)) → Called
    withdraws : (party : ℕ) → call ≡ Call.withdraw party → party < length table → Leaves (Ok GoesOn) strip (set table party idle) → Called
    steps : (party hint : ℕ) → call ≡ Call.step party hint → party < length table
        → Steppable (length strip) (get_or table party idle) hint → GoneOn strip (get_or table party idle) hint
        → Leaves (step_of strip (get_or table party idle) hint).answer (step_leaves strip (get_or table party idle) hint)
        (set table party (step_of strip (get_or table party idle) hint).rec)
        → Called

  leaves_all : {left : Left} → call_of strip table call ≡ left → Leaves left.answer left.strip left.table
  leaves_all e =
      record {
        answered = ap (λ (l : Left). l.answer) e;
        strip_is = ap (λ (l : Left). l.strip) e;
        table_is = ap (λ (l : Left). l.table) e;
      }

  -- past the gate a call does what it does to the party's own record
  module _ (none : gated ≡ passes) where
    leaves : {given : Answered Refusal} {words : List ℕ} → own_of strip (record_of table call) call ≡ given
        → own_leaves strip (record_of table call) call ≡ words → Leaves given.answer words (set table (party_of call) given.rec)
    leaves gives left = rw (← gives, ← left) (leaves_all (call_through none))

    refusing : (refusal : Refusal) → own_of strip (record_of table call) call ≡ refused refusal (record_of table call)
        → own_leaves strip (record_of table call) call ≡ strip → Called
    refusing refusal gives left =
        refuses refusal (subst (Leaves (Err refusal) strip) (set-get_or table (party_of call) idle) (leaves gives left))

module _ (strip : List ℕ) (table : List Record) where
  abbrev max : ℕ
  max = max_of (length strip)

  abbrev of : ℕ → Record
  of party = get_or table party idle

  abbrev Through : Call → Type 0
  Through call = gate (length strip) (length table) call ≡ passes → Called strip table call

  -- start and withdraw: refused with the record as it was, or done
  deciding : (call : Call) (check : Check) (next : Record)
      → own_of strip (record_of table call) call ≡ unless check (record_of table call) (going_on next)
      → own_leaves strip (record_of table call) call ≡ strip
      → (check ≡ passes → party_of call < length table → Leaves strip table call (Ok GoesOn) strip (set table (party_of call) next)
      → Called strip table call)
      → Through call
  deciding call (Err refusal) next own left done none = refusing strip table call none refusal own left
  deciding call (Ok passed) next own left done none =
      done refl (past_gate (length strip) (length table) call none).party_known (leaves strip table call none own left)

  starting : (party operation order : ℕ) → Through (Call.start party operation order)
  unfolding start_of
  starting party operation order =
      deciding (Call.start party operation order) (start_refusal max (of party) operation order) (begun operation order) refl refl
      (λ passes known. Called.starts party operation order refl known (startable max (of party) operation order passes))

  withdrawing : (party : ℕ) → Through (Call.withdraw party)
  unfolding withdraw_of
  withdrawing party =
      deciding (Call.withdraw party) (withdraw_refusal max (of party)) idle refl refl
      (λ passes. Called.withdraws party refl)

  stepping : (party hint : ℕ) → Through (Call.step party hint)
  stepping party hint none = go (went strip (of party) hint)
    where
      call : Call
      call = Call.step party hint

      go : Went strip (of party) hint → Called strip table call
      go (Went.stays refusal gone) = refusing strip table call none refusal gone.answered gone.words
      go (Went.goes clear on) =
          Called.steps party hint refl (past_gate (length strip) (length table) call none).party_known clear on
          (leaves strip table call none refl refl)

  going : (call : Call) → Through call
  going (Call.start party operation order) = starting party operation order
  going (Call.step party hint) = stepping party hint
  going (Call.withdraw party) = withdrawing party

  pub called : (call : Call) → Called strip table call
  called call = go (decided (gate (length strip) (length table) call))
    where
      go : Decided (gate (length strip) (length table) call) → Called strip table call
      go (Decided.none none) = going call none
      go (Decided.some refusal some) = Called.refuses refusal (leaves_all strip table call (call_away strip table call refusal some))
