-- What is promised of the lent records: the call by value does it to a record that is lent alone, and what is done to a party's
-- record alone is done to it in the table.
use Prim.Native.Nat.{ℕ, ◌+◌, ◌<◌}
use mathlib.Core.Path.{◌≡◌, refl, sym, ◌∙◌, ap, subst}
use mathlib.Core.Bool.{Bool, true, false}
use mathlib.Core.List.{List}
use lib.ListN.{length, set}
use lib.Dec.{leb, ltb}
use borrow.Author.Tests.{leb-true, leb-false, le-leb, lt-leb}
use native.Mathlib.Omega.{arith}
use Rattle.std.specs.declared.result.Result.{Result}
use Rattle.std.specs.declared.result.Result.TheVariants.{Err}
use Rattle.refusal.specs.declared.Refusal.{Refusal}
use Rattle.refusal.specs.Refusal.{Check, passes}
use Rattle.record.specs.declared.Record.{Record}
use Rattle.party.specs.declared.Answer.{Answer}
use Rattle.party.specs.declared.Answered.{Answered}
use Rattle.party.specs.Answer.{carried_of}
use Rattle.party.specs.Calls.{max_fits, start_of, start_refusal, withdraw_of, withdraw_refusal}
use Rattle.step.specs.Step.{strip_fits, max_of, step_of, step_leaves, step_refusal}
use Rattle.call.specs.Call.{Call, party_of, gate_of, gate, own_of, own_leaves, Left, record_of, call_of}
use Rattle.call.proofs.Called.{past_gate, call_through, call_away}
use Rattle.table.specs.Lent.{Does, DoesAtMax, alone, blank}
use Rattle.table.proofs.Kept.{alone_one, blank_words}

-- A strip fits where its MAX does.
strip_fits_by_max : (words : ℕ) → max_fits (max_of words) ≡ strip_fits words
strip_fits_by_max words = go (leb 3 words) (leb words 4096) refl refl
  where
    go : (least most : Bool) → leb 3 words ≡ least → leb words 4096 ≡ most → max_fits (max_of words) ≡ strip_fits words
    go true true l m = simp (l, m, le-leb 1 (max_of words) (let h = leb-true 3 words l in omega arith), le-leb (max_of words) 4094 (let h = leb-true words 4096 m in omega arith))
    go true false l m = simp (l, m, le-leb 1 (max_of words) (let h = leb-true 3 words l in omega arith), lt-leb (max_of words) 4094 (let h = leb-false words 4096 m in omega arith))
    go false most l m = simp (l, lt-leb 1 (max_of words) (let h = leb-false 3 words l in omega arith))

-- the same call of the first party, which is that of a record alone
abbrev of_first : Call → Call
of_first (Call.start party operation order) = Call.start 0 operation order
of_first (Call.step party hint) = Call.step 0 hint
of_first (Call.withdraw party) = Call.withdraw 0

-- ---- a record that is lent alone
module _ (strip : List ℕ) (r : Record) where
  abbrev own : Call → Left
  own call = record { answer = (own_of strip r call).answer; strip = own_leaves strip r call; table = alone (own_of strip r call).rec }

  -- The call on the table of one is the call by value, which makes the same checks.
  own_alone : (call : Call) → call_of strip (alone r) (of_first call) ≡ own call
  unfolding call_of gate start_of start_refusal step_of step_leaves step_refusal withdraw_of withdraw_refusal
  own_alone call = go call (strip_fits (length strip)) refl (strip_fits_by_max (length strip))
    where
      Is : Call → Type 0
      Is call = call_of strip (alone r) (of_first call) ≡ own call

      go : (call : Call) (fits : Bool) → strip_fits (length strip) ≡ fits → max_fits (max_of (length strip)) ≡ strip_fits (length strip) → Is call
      go (Call.start party operation order) true e m = starts (ltb 3 operation) refl
        where
          starts : (unknown : Bool) → ltb 3 operation ≡ unknown → Is (Call.start party operation order)
          starts true u = simp (m, e, u)
          starts false u = simp (m, e, u)
      go (Call.start party operation order) false e m = simp (m, e)
      go (Call.step party hint) true e m = simp e
      go (Call.step party hint) false e m = simp e
      go (Call.withdraw party) true e m = simp (m, e)
      go (Call.withdraw party) false e m = simp (m, e)

  does_alone : (call : Call) (given : Answered Refusal) (words : List ℕ) → given ≡ own_of strip r call → words ≡ own_leaves strip r call
      → Does strip (alone r) (of_first call) given.answer (carried_of given.answer) words (alone given.rec)
  does_alone call given words gives left =
      let by_value = own_alone call in
      record { answer_is = simp (gives, by_value); carried_is = simp (gives, by_value); words_left = simp (left, by_value); records_left = simp (gives, by_value) }

-- ---- the numbered party's record in the table: the checks, by what they decide
module _ (strip : List ℕ) (table : List Record) (call : Call) (gated : Check) (gates : gated ≡ gate (length strip) (length table) call) where
  pub within : gated ≡ passes → party_of call < length table
  within clear = (past_gate (length strip) (length table) call (sym gates ∙ clear)).party_known

  -- they refuse, and nothing is written
  pub turned_away_lem : (refusal : Refusal) → gated ≡ Err refusal → Does strip table call (Err refusal) 0 strip table
  turned_away_lem refusal barred =
      let away = call_away strip table call refusal (sym gates ∙ barred) in
      record { answer_is = simp away; carried_is = simp away; words_left = simp away; records_left = simp away }

  -- they pass: what is promised of the record alone
  pub in_place : gated ≡ passes → (answer : Result Answer Refusal) {carried : ℕ} (words : List ℕ) (r : Record)
      → Does strip (alone (record_of table call)) (of_first call) answer carried words (alone r)
      → Does strip table call answer carried words (set table (party_of call) r)
  in_place clear answer words r p =
      let by_value = own_alone strip (record_of table call) call in
      let through = call_through strip table call (sym gates ∙ clear) in
      let stored = alone_one (p.records_left ∙ ap (λ (l : Left). l.table) by_value) in
      record {
        answer_is = p.answer_is ∙ simp (by_value, through);
        carried_is = p.carried_is ∙ simp (by_value, through);
        words_left = p.words_left ∙ simp (by_value, through);
        records_left = simp (stored, through);
      }

-- ---- each call of a record that is lent alone; start and withdraw are handed MAX
pub step_alone : (strip : List ℕ) (r : Record) (hint : ℕ) (given : Answered Refusal) (words : List ℕ) → given ≡ step_of strip r hint
    → words ≡ step_leaves strip r hint → Does strip (alone r) (Call.step 0 hint) given.answer (carried_of given.answer) words (alone given.rec)
step_alone strip r hint = does_alone strip r (Call.step 0 hint)

blank_max : (max : ℕ) → max ≡ max_of (length (blank max))
blank_max max = rw blank_words (omega arith)

pub start_alone : (max : ℕ) (r : Record) (operation order : ℕ) (given : Answered Refusal) → given ≡ start_of max r operation order
    → DoesAtMax max (alone r) (Call.start 0 operation order) given.answer (carried_of given.answer) (alone given.rec)
start_alone max r operation order given gives =
    does_alone (blank max) r (Call.start 0 operation order) given (blank max) (subst (λ (m : ℕ). given ≡ start_of m r operation order) (blank_max max) gives) refl

pub withdraw_alone : (max : ℕ) (r : Record) (given : Answered Refusal) → given ≡ withdraw_of max r
    → DoesAtMax max (alone r) (Call.withdraw 0) given.answer (carried_of given.answer) (alone given.rec)
withdraw_alone max r given gives =
    does_alone (blank max) r (Call.withdraw 0) given (blank max) (subst (λ (m : ℕ). given ≡ withdraw_of m r) (blank_max max) gives) refl

-- the gate is the call's, on a strip and at MAX
module _ {gated : Check} (parties party : ℕ) where
  pub step_gates : (words hint : ℕ) → gated ≡ gate_of words parties false party → gated ≡ gate words parties (Call.step party hint)
  unfolding gate
  step_gates words hint gates = gates

  pub start_gates : (max operation order : ℕ) → gated ≡ gate_of (max + 2) parties (ltb 3 operation) party
      → gated ≡ gate (length (blank max)) parties (Call.start party operation order)
  unfolding gate
  start_gates max operation order gates = rw blank_words gates

  pub withdraw_gates : (max : ℕ) → gated ≡ gate_of (max + 2) parties false party → gated ≡ gate (length (blank max)) parties (Call.withdraw party)
  unfolding gate
  withdraw_gates max gates = rw blank_words gates
