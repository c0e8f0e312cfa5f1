-- Every refusal's number is one of document 01's refusals, so that every check ends at 0 or at one of them.
use Rattle.std.specs.Prelude.{ℕ, ◌≡◌, ◌≤◌, true, leb}
use Rattle.std.proofs.Common.{refl, sym, ◌∙◌, ap, arith}
use mathlib.Core.Bool.{true≢false}
use borrow.Author.Tests.{leb-true}
use Rattle.logic.proofs.Bools.{both}
use Rattle.refusal.specs.declared.Refusal.{Refusal}
use Rattle.refusal.specs.declared.Refusal.TheVariants.{WrongSize, WrongMark, WrongOperation, WrongParty, NotValid, Busy, Idle, WrongOrder, Outside, CounterAtEnd, NoPlace, NotShaped}
use Rattle.std.specs.declared.result.Result.TheVariants.{Ok, Err}
use Rattle.refusal.specs.Refusal.{refusal_number, Check, check_number}
use Rattle.record.specs.declared.Record.{Record}
use Rattle.party.specs.Answer.{is_refusal}
use Rattle.party.specs.Calls.{start_refusal, withdraw_refusal}

pub every_refusal_is_one : (refusal : Refusal) → is_refusal (refusal_number refusal) ≡ true
every_refusal_is_one WrongSize = refl
every_refusal_is_one WrongMark = refl
every_refusal_is_one WrongOperation = refl
every_refusal_is_one WrongParty = refl
every_refusal_is_one NotValid = refl
every_refusal_is_one Busy = refl
every_refusal_is_one Idle = refl
every_refusal_is_one WrongOrder = refl
every_refusal_is_one Outside = refl
every_refusal_is_one CounterAtEnd = refl
every_refusal_is_one NoPlace = refl
every_refusal_is_one NotShaped = refl

pub data Checked (number : ℕ) : Type 0 where
  none : number ≡ 0 → Checked number
  some : is_refusal number ≡ true → Checked number

pub refusal_is_not_0 : (number : ℕ) → is_refusal number ≡ true → number ≡ 0 → ⊥
refusal_is_not_0 number refusal e = true≢false (sym refusal ∙ ap is_refusal e)

pub refusal_is_small : (number : ℕ) → is_refusal number ≡ true → number ≤ 12
refusal_is_small number refusal = leb-true number 12 (both (leb 1 number) (leb number 12) refusal).1

pub checked_is_small : {number : ℕ} → Checked number → number ≤ 12
checked_is_small (none e) = omega arith
checked_is_small {number} (some refusal) = refusal_is_small number refusal

pub every_check_ends : (check : Check) → Checked (check_number check)
every_check_ends (Ok passed) = none refl
every_check_ends (Err refusal) = some (every_refusal_is_one refusal)

pub start_checked : (max : ℕ) (r : Record) (operation order : ℕ) → Checked (check_number (start_refusal max r operation order))
start_checked max r operation order = every_check_ends (start_refusal max r operation order)

pub withdraw_checked : (max : ℕ) (r : Record) → Checked (check_number (withdraw_refusal max r))
withdraw_checked max r = every_check_ends (withdraw_refusal max r)
