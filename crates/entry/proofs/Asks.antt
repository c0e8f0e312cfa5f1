-- What an entry asks for, act by act.
use Prim.Native.Nat.{ℕ, ◌+◌}
use mathlib.Core.Path.{◌≡◌, refl}
use mathlib.Core.Bool.{Bool, true, false, not}
use mathlib.Core.List.{List}
use lib.Dec.{eqb}
use borrow.Author.Tests.{eq-eqb, ne_eqb, not-true, not-false}
use native.Mathlib.Omega.{arith}
use Rattle.logic.specs.Pick.{pick}
use Rattle.logic.proofs.Bools.{whichever}
use Rattle.little.specs.Bytes.{AreBytes}
use Rattle.little.proofs.Digits.{number_fits}
use Rattle.call.specs.Call.{Call, party_of, Fitting}
use Rattle.entry.specs.Entry.{act_at, party_at, operation_at, zero_at, word_at, is_known, unknown, call_at}

module _ (bytes : List ℕ) (at number : ℕ) (known : Bool) (reads : number ≡ word_at bytes at)
    (tests : known ≡ is_known (act_at bytes at) (operation_at bytes at) (zero_at bytes at) number) where
  -- the call by the three tests alone
  by_tests : Bool → Bool → Bool → Call
  by_tests known starts steps =
      pick known
      (pick starts (Call.start (party_at bytes at) (operation_at bytes at) number)
      (pick steps (Call.step (party_at bytes at) number)
      (Call.withdraw (party_at bytes at))))
      (unknown (party_at bytes at))

  is_by_tests : by_tests known (eqb (act_at bytes at) 0) (eqb (act_at bytes at) 1) ≡ call_at bytes at
  unfolding call_at by_tests
  is_by_tests = rw (tests, reads)

  pub asks_unknown : not known ≡ true → unknown (party_at bytes at) ≡ call_at bytes at
  unfolding by_tests
  asks_unknown e = rw (← is_by_tests, not-true known e)

  pub asks_start : not known ≡ false → act_at bytes at ≡ 0 → Call.start (party_at bytes at) (operation_at bytes at) number ≡ call_at bytes at
  unfolding by_tests
  asks_start e act = rw (← is_by_tests, not-false known e, eq-eqb (act_at bytes at) 0 act)

  pub asks_step : not known ≡ false → act_at bytes at ≡ 1 → Call.step (party_at bytes at) number ≡ call_at bytes at
  unfolding by_tests
  asks_step e act = rw (← is_by_tests, not-false known e, act)

  pub asks_withdraw : not known ≡ false → (act_at bytes at ≡ 0 → ⊥) → (act_at bytes at ≡ 1 → ⊥)
      → Call.withdraw (party_at bytes at) ≡ call_at bytes at
  unfolding by_tests
  asks_withdraw e starts steps =
      rw (← is_by_tests, not-false known e, ne_eqb (act_at bytes at) 0 starts, ne_eqb (act_at bytes at) 1 steps)

-- The party is the entry's byte, whatever the entry asks for.
pub party_is : (bytes : List ℕ) (at : ℕ) → party_of (call_at bytes at) ≡ party_at bytes at
unfolding call_at
party_is bytes at =
    whichever P (is_known (act_at bytes at) (operation_at bytes at) (zero_at bytes at) (word_at bytes at))
    (whichever P (eqb (act_at bytes at) 0) refl (whichever P (eqb (act_at bytes at) 1) refl refl)) refl
  where
    P : Call → Type 0
    P call = party_of call ≡ party_at bytes at

-- An order in bytes is 32 bits wide.
pub an_order_in_bytes_has_32_bits : (bytes : List ℕ) (at : ℕ) → AreBytes bytes → Fitting (call_at bytes at)
unfolding call_at
an_order_in_bytes_has_32_bits bytes at are =
    whichever Fitting (is_known (act_at bytes at) (operation_at bytes at) (zero_at bytes at) (word_at bytes at))
    (whichever Fitting (eqb (act_at bytes at) 0) (number_fits 4 bytes (at + 4) are) (whichever Fitting (eqb (act_at bytes at) 1) tt tt))
    (omega arith)
