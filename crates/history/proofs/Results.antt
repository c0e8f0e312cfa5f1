-- A result comes only from a step of a busy record, and leaves it idle; FULL only from stage 2, EMPTY only from stage 3.
use Prim.Native.Nat.{ℕ, ◌≤◌}
use mathlib.Core.Path.{◌≡◌, refl, sym, ◌∙◌}
use mathlib.Core.Bool.{true, true≢false}
use mathlib.Core.Logic.{◌⊎◌, inl, inr}
use lib.ListN.{get_or}
use lib.Dec.{leb}
use borrow.Author.Tests.{leb-true}
use native.Mathlib.Omega.{arith}
use Rattle.logic.proofs.Bools.{both}
use Rattle.record.specs.Record.{idle}
use Rattle.refusal.specs.declared.Refusal.{Refusal}
use Rattle.refusal.specs.Refusal.{refusal_number}
use Rattle.refusal.proofs.Checks.{refusal_is_small}
use Rattle.call.specs.Call.{Call, party_of, record_of}
use Rattle.step.proofs.Stepped.{Stepped}
use Rattle.history.specs.Run.{State, leaves, number_in}
use Rattle.history.specs.Finished.{is_result}
use Rattle.history.proofs.Own.{Own, own}

pub record Ended (s : State) (entry : ℕ) (call : Call) : Type 0 where
  pub busy : 1 ≤ (record_of s.table call).stage
  pub leaves_idle : get_or (leaves s entry call).table (party_of call) idle ≡ idle
  pub full_at : number_in s call ≡ 18 → (record_of s.table call).stage ≡ 2
  pub empty_at : number_in s call ≡ 19 → (record_of s.table call).stage ≡ 3

pub looked_before : (s : State) (entry : ℕ) (call : Call) → Ended s entry call → (number_in s call ≡ 18) ⊎ (number_in s call ≡ 19)
    → 2 ≤ (record_of s.table call).stage
looked_before s entry call ended (inl full) = let at = ended.full_at full in omega arith
looked_before s entry call ended (inr empty) = let at = ended.empty_at empty in omega arith

refusal_is_no_result : (number : ℕ) (refusal : Refusal) → number ≡ refusal_number refusal → is_result number ≡ true → ⊥
refusal_is_no_result number refusal numbered result =
    omega (arith, refusal_is_small refusal, leb-true 16 number (both (leb 16 number) (leb number 19) result).0)

pub a_result_ends : (s : State) (entry : ℕ) (call : Call) → is_result (number_in s call) ≡ true → Ended s entry call
a_result_ends s entry call result = go (own s entry call)
  where
    number : ℕ
    number = number_in s call

    none_is_no_result : number ≡ 0 → ⊥
    none_is_no_result none = true≢false (sym result ∙ rw none refl)

    ended : 1 ≤ (record_of s.table call).stage → get_or (leaves s entry call).table (party_of call) idle ≡ idle
        → (number ≡ 18 → (record_of s.table call).stage ≡ 2) → (number ≡ 19 → (record_of s.table call).stage ≡ 3) → Ended s entry call
    ended busy idles full empty = record { busy = busy; leaves_idle = idles; full_at = full; empty_at = empty }

    go : Own s entry call → Ended s entry call
    go (Own.refused refusal numbered same) = absurd (refusal_is_no_result number refusal numbered result)
    go (Own.begins operation order is known none begun-is) = absurd (none_is_no_result none)
    go (Own.withdrawn other none idles) = absurd (none_is_no_result none)
    go (Own.steps hint is known busy (Stepped.going_on none operation v to-2 to-3)) = absurd (none_is_no_result none)
    go (Own.steps hint is known busy (Stepped.acting (inl n) idles)) =
        ended busy idles (λ e. absurd (omega arith)) (λ e. absurd (omega arith))
    go (Own.steps hint is known busy (Stepped.acting (inr n) idles)) =
        ended busy idles (λ e. absurd (omega arith)) (λ e. absurd (omega arith))
    go (Own.steps hint is known busy (Stepped.filling n second idles)) = ended busy idles (λ e. second) (λ e. absurd (omega arith))
    go (Own.steps hint is known busy (Stepped.emptying n third idles)) = ended busy idles (λ e. absurd (omega arith)) (λ e. third)
