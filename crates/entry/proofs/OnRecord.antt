-- A call on its party's record: turned away at the gate, or let through to the record's own checks. It is the call on any table that
-- holds the record, its promise leaves nothing open, and a refused one changes nothing.
use Prim.Native.Nat.{ℕ}
use mathlib.Core.Path.{◌≡◌, refl, sym, ◌∙◌}
use mathlib.Core.List.{List}
use lib.ListN.{length}
use lib.Seq.{set-get_or}
use Rattle.std.specs.declared.result.Result.TheVariants.{Err}
use Rattle.refusal.specs.declared.Refusal.{Refusal}
use Rattle.refusal.specs.Refusal.{passes}
use Rattle.refusal.proofs.Checks.{Decided, decided}
use Rattle.party.specs.Answer.{refused}
use Rattle.record.specs.declared.Record.{Record}
use Rattle.party.specs.declared.Answered.{Answered}
use Rattle.party.proofs.Kept.{refused_start_changes_nothing, refused_withdraw_changes_nothing}
use Rattle.step.specs.Step.{max_of}
use Rattle.step.proofs.Kept.{refused_step_changes_nothing}
use Rattle.call.specs.Call.{Call, gate, own_of, own_leaves, record_of, call_of}
use Rattle.call.specs.Call.Call.{start, step, withdraw}
use Rattle.call.proofs.Called.{call_through, call_away}
use Rattle.entry.specs.OnRecord.{on_record_of, on_record_leaves, ChangesNothing, on_table}

refused_own_changes_nothing : (strip : List ℕ) (r : Record) (call : Call)
    → ChangesNothing strip r (own_of strip r call) (own_leaves strip r call)
refused_own_changes_nothing strip r (start party operation order) =
    (refused_start_changes_nothing (max_of (length strip)) r operation order, λ h. refl)
refused_own_changes_nothing strip r (step party hint) = refused_step_changes_nothing strip r hint
refused_own_changes_nothing strip r (withdraw party) =
    (refused_withdraw_changes_nothing (max_of (length strip)) r, λ h. refl)

module _ (strip : List ℕ) (parties : ℕ) (r : Record) (call : Call) where
  pub turned_away_lem : (refusal : Refusal) → gate (length strip) parties call ≡ Err refusal
      → (on_record_of strip parties r call ≡ refused refusal r) × (on_record_leaves strip parties r call ≡ strip)
  unfolding on_record_of on_record_leaves
  turned_away_lem refusal barred = simp barred (refl, refl)

  pub let_through : gate (length strip) parties call ≡ passes
      → (on_record_of strip parties r call ≡ own_of strip r call) × (on_record_leaves strip parties r call ≡ own_leaves strip r call)
  unfolding on_record_of on_record_leaves
  let_through clear = simp clear (refl, refl)

  pub refused_on_record_changes_nothing : ChangesNothing strip r (on_record_of strip parties r call) (on_record_leaves strip parties r call)
  refused_on_record_changes_nothing = go (decided (gate (length strip) parties call))
    where
      go : Decided (gate (length strip) parties call)
          → ChangesNothing strip r (on_record_of strip parties r call) (on_record_leaves strip parties r call)
      go (Decided.none clear) =
          let own = let_through clear in
          rw (own.0, own.1) (refused_own_changes_nothing strip r call)
      go (Decided.some refusal barred) =
          let away = turned_away_lem refusal barred in
          rw (away.0, away.1) (λ h. (refl, refl), λ h. refl)

  -- Two results that keep the promise are equal, and so are the words they leave.
  pub two_on_record_that_keep_it_are_equal : {one two : Answered Refusal} {left other : List ℕ}
      → one ≡ on_record_of strip parties r call → left ≡ on_record_leaves strip parties r call
      → two ≡ on_record_of strip parties r call → other ≡ on_record_leaves strip parties r call → (one ≡ two) × (left ≡ other)
  two_on_record_that_keep_it_are_equal gives words other-gives other-words = (gives ∙ sym other-gives, words ∙ sym other-words)

-- A call on a strip and a table is that call on its party's record.
module _ (strip : List ℕ) (table : List Record) (call : Call) where
  pub a_call_is_on_its_record : call_of strip table call ≡ on_table strip table call
  a_call_is_on_its_record = go (decided (gate (length strip) (length table) call))
    where
      go : Decided (gate (length strip) (length table) call) → call_of strip table call ≡ on_table strip table call
      go (Decided.none clear) =
          let own = let_through strip (length table) (record_of table call) call clear in
          rw (call_through strip table call clear, own.0, own.1)
      go (Decided.some refusal barred) =
          let away = turned_away_lem strip (length table) (record_of table call) call refusal barred in
          rw (call_away strip table call refusal barred, away.0, away.1, set-get_or)
