-- What the promise of a call on lent records settles: everything; and what such a call leaves as it was.
use Prim.Native.Nat.{ℕ, ◌+◌}
use mathlib.Core.Path.{◌≡◌, refl, sym, ◌∙◌, ap, subst}
use mathlib.Core.Bool.{true}
use mathlib.Core.List.{List}
use lib.ListN.{length, get_or, length-replicate}
use lib.Seq.{get_or-set_other}
use Rattle.record.specs.Record.{idle}
use Rattle.party.specs.Answer.{is_refusal, number_of, carried_of}
use Rattle.party.specs.Calls.{start_of, withdraw_of}
use Rattle.record.specs.declared.Record.{Record}
use Rattle.std.specs.declared.result.Result.{Result}
use Rattle.refusal.specs.declared.Refusal.{Refusal}
use Rattle.party.specs.declared.Answer.{Answer}
use Rattle.party.specs.declared.Answered.{Answered}
use Rattle.stages.specs.Stages.{near}
use Rattle.step.specs.Step.{max_of, step_leaves}
use Rattle.call.specs.Call.{Call, party_of, gate, own_of, own_leaves, record_of}
use Rattle.refusal.proofs.Checks.{Decided, decided}
use Rattle.call.proofs.Called.{call_through, call_away}
use Rattle.call.proofs.Calls.{refused_call_changes_nothing, other_records_stand}
use Rattle.step.proofs.Accesses.{Gone}
use Rattle.step.proofs.Went.{GoneOn, Went, went}
use Rattle.table.specs.Lent.{Does, DoesAtMax, alone, blank}

module _ {strip : List ℕ} {table : List Record} {call : Call} where
  -- Two results that keep one promise are the same and leave the same words and records.
  pub two_that_keep_it_are_equal : {one two : Result Answer Refusal} {order order' : ℕ} {words words' : List ℕ} {left left' : List Record}
      → Does strip table call one order words left → Does strip table call two order' words' left'
      → (one ≡ two) × ((order ≡ order') × ((words ≡ words') × (left ≡ left')))
  two_that_keep_it_are_equal p q = (
    p.answer_is ∙ sym q.answer_is,
    (p.carried_is ∙ sym q.carried_is, (p.words_left ∙ sym q.words_left, p.records_left ∙ sym q.records_left)),
  )

  -- A refused call carries no order and leaves every word and every record.
  pub refused_changes_nothing : {answer : Result Answer Refusal} {carried : ℕ} {words : List ℕ} {left : List Record}
      → Does strip table call answer carried words left → is_refusal (number_of answer) ≡ true
      → (carried_of answer ≡ 0) × ((carried ≡ 0) × ((words ≡ strip) × (left ≡ table)))
  refused_changes_nothing p refused =
      let kept = refused_call_changes_nothing strip table call (rw p.answer_is at refused) in (
        ap carried_of p.answer_is ∙ kept.carried,
        (p.carried_is ∙ kept.carried, (p.words_left ∙ kept.strip_kept, p.records_left ∙ kept.table_kept)),
      )

  -- Every record but the numbered party's is as it was.
  pub others_stand : {answer : Result Answer Refusal} {carried : ℕ} {words : List ℕ} {left : List Record}
      → Does strip table call answer carried words left → (i : ℕ) → (i ≡ party_of call → ⊥) → get_or left i idle ≡ get_or table i idle
  others_stand p i other = ap (λ (l : List Record). get_or l i idle) p.records_left ∙ other_records_stand strip table call i other

-- A record that is lent alone: what is left of it is settled.
pub alone_one : {r r' : Record} → alone r ≡ alone r' → r ≡ r'
alone_one e = ap (λ (l : List Record). get_or l 0 idle) e

-- A step leaves every word but the one it swaps, which is at its place or beside it.
module _ (strip : List ℕ) (r : Record) (hint i : ℕ) (away : i ≡ r.k → ⊥) (beside : i ≡ near r → ⊥) where
  abbrev Stands : List ℕ → Type 0
  Stands words = get_or words i 0 ≡ get_or strip i 0

  stands_where : {given : Answered Refusal} {words : List ℕ} → Gone strip r hint given words → Stands words → Stands (step_leaves strip r hint)
  stands_where gone stands = subst Stands (sym gone.words) stands

  stands_after : GoneOn strip r hint → Stands (step_leaves strip r hint)
  stands_after (GoneOn.remembers s gone) = stands_where gone refl
  stands_after (GoneOn.drops s d gone) = stands_where gone refl
  stands_after (GoneOn.fills s d w gone) = stands_where gone refl
  stands_after (GoneOn.doubts s d f gone) = stands_where gone refl
  stands_after (GoneOn.readies s d w f gone) = stands_where gone refl
  stands_after (GoneOn.empties s e gone) = stands_where gone refl
  stands_after (GoneOn.rechecks s e gone) = stands_where gone refl
  stands_after (GoneOn.push_4 s p took gone) = stands_where gone (get_or-set_other strip (near r) i _ 0 beside)
  stands_after (GoneOn.pop_4 s p took gone) = stands_where gone (get_or-set_other strip r.k i _ 0 away)
  stands_after (GoneOn.push_5 s p took gone) = stands_where gone (get_or-set_other strip r.k i _ 0 away)
  stands_after (GoneOn.pop_5 s p took gone) = stands_where gone (get_or-set_other strip (near r) i _ 0 beside)
  stands_after (GoneOn.loses place from to then access other gone) = stands_where gone refl

  pub other_words_stand : get_or (step_leaves strip r hint) i 0 ≡ get_or strip i 0
  other_words_stand = go (went strip r hint)
    where
      go : Went strip r hint → Stands (step_leaves strip r hint)
      go (Went.stays refusal gone) = stands_where gone refl
      go (Went.goes clear on) = stands_after on

-- What start and withdraw promise at MAX they promise of any strip of MAX+2 words.
module _ (strip strip' : List ℕ) (table : List Record) (call : Call) (len : length strip ≡ length strip')
    (own : own_of strip (record_of table call) call ≡ own_of strip' (record_of table call) call)
    (kept : own_leaves strip' (record_of table call) call ≡ strip') where
  carries_over : {answer : Result Answer Refusal} {carried : ℕ} {left : List Record} → Does strip table call answer carried strip left
      → Does strip' table call answer carried strip' left
  carries_over {answer} {carried} {left} p = go (decided (gate (length strip) (length table) call))
    where
      same : gate (length strip') (length table) call ≡ gate (length strip) (length table) call
      same = ap (λ (n : ℕ). gate n (length table) call) (sym len)

      go : Decided (gate (length strip) (length table) call) → Does strip' table call answer carried strip' left
      go (Decided.none clear) =
          let here = call_through strip table call clear in
          let there = call_through strip' table call (same ∙ clear) in
          record {
            answer_is = p.answer_is ∙ simp (here, there, own);
            carried_is = p.carried_is ∙ simp (here, there, own);
            words_left = simp (there, kept);
            records_left = p.records_left ∙ simp (here, there, own);
          }
      go (Decided.some refusal barred) =
          let here = call_away strip table call refusal barred in
          let there = call_away strip' table call refusal (same ∙ barred) in
          record {
            answer_is = p.answer_is ∙ simp (here, there);
            carried_is = p.carried_is ∙ simp (here, there);
            words_left = simp there;
            records_left = p.records_left ∙ simp (here, there);
          }

pub blank_words : (max : ℕ) → length (blank max) ≡ max + 2
blank_words max = length-replicate (max + 2) 0

module _ (max : ℕ) (strip : List ℕ) (words : length strip ≡ max + 2) (table : List Record) where
  same_length : length (blank max) ≡ length strip
  same_length = blank_words max ∙ sym words

  pub any_strip_starts : (party operation order : ℕ) {answer : Result Answer Refusal} {carried : ℕ} {left : List Record}
      → DoesAtMax max table (Call.start party operation order) answer carried left
      → Does strip table (Call.start party operation order) answer carried strip left
  any_strip_starts party operation order =
      carries_over (blank max) strip table (Call.start party operation order) same_length
      (ap (λ (n : ℕ). start_of (max_of n) (get_or table party idle) operation order) same_length) refl

  pub any_strip_withdraws : (party : ℕ) {answer : Result Answer Refusal} {carried : ℕ} {left : List Record}
      → DoesAtMax max table (Call.withdraw party) answer carried left → Does strip table (Call.withdraw party) answer carried strip left
  any_strip_withdraws party =
      carries_over (blank max) strip table (Call.withdraw party) same_length (ap (λ (n : ℕ). withdraw_of (max_of n) (get_or table party idle)) same_length) refl
