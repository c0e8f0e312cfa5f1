-- What the number of an operation tells.
use Prim.Native.Nat.{ℕ}
use mathlib.Core.Path.{◌≡◌}
use mathlib.Core.Bool.{true, false}
use mathlib.Core.Logic.{◌⊎◌, inl, inr}
use borrow.Author.Tests.{ne_eqb}
use Rattle.record.specs.Operation.{is_push}

pub push_is : (operation : ℕ) → (operation ≡ 0) ⊎ (operation ≡ 2) → is_push operation ≡ true
push_is operation (inl e) = rw e
push_is operation (inr e) = rw e

pub pop_is : (operation : ℕ) → ((operation ≡ 0) ⊎ (operation ≡ 2) → ⊥) → is_push operation ≡ false
pop_is operation h = simp (ne_eqb _ _ (λ (e : operation ≡ 0). h (inl e)), ne_eqb _ _ (λ (e : operation ≡ 2). h (inr e)))
