-- What is known of a start that no check refused.
use Prim.Native.Nat.{ℕ, ◌≤◌}
use mathlib.Core.Path.{◌≡◌}
use mathlib.Core.Bool.{true, not}
use lib.Dec.{leb, ltb}
use borrow.Author.Tests.{leb-true, ltb-false, not-false}
use Rattle.logic.proofs.Bools.{both}
use Rattle.refusal.specs.Refusal.{passes}
use Rattle.refusal.proofs.Checks.{passed}
use Rattle.record.specs.Operation.{order_fits}
use Rattle.record.specs.Valid.{is_idle, valid_of}
use Rattle.party.specs.Calls.{max_fits, start_own, start_refusal}
use Rattle.record.specs.declared.Record.{Record}

pub max_within : (max : ℕ) → max_fits max ≡ true → (1 ≤ max) × (max ≤ 4094)
max_within max e =
    let each = both (leb 1 max) (leb max 4094) e in
    (leb-true 1 max each.0, leb-true max 4094 each.1)

pub record Startable (max : ℕ) (r : Record) (operation order : ℕ) : Type 0 where
  pub max_fits : max_fits max ≡ true
  pub known : operation ≤ 3
  pub valid : valid_of max r ≡ true
  pub idle : is_idle r ≡ true
  pub ordered : order_fits operation order ≡ true

pub startable : (max : ℕ) (r : Record) (operation order : ℕ) → start_refusal max r operation order ≡ passes
    → Startable max r operation order
unfolding start_refusal start_own
startable max r operation order e =
    let past1 = passed (not (max_fits max)) _ _ e in
    let past11 = passed (ltb 3 operation) _ _ past1.1 in
    let past4 = passed (not (valid_of max r)) _ _ past11.1 in
    let past5 = passed (not (is_idle r)) _ _ past4.1 in
    let past7 = passed (not (order_fits operation order)) _ passes past5.1 in
    record {
      max_fits = not-false _ past1.0;
      known = ltb-false _ _ past11.0;
      valid = not-false _ past4.0;
      idle = not-false _ past5.0;
      ordered = not-false _ past7.0;
    }
