-- What is held and accepted is held or taken: one operation at a time.
use Prim.Native.Nat.{ℕ, suc, ◌+◌, ◌-◌, ◌≤◌}
use mathlib.Core.Path.{◌≡◌, refl, sym, ◌∙◌, ap}
use mathlib.Core.Bool.{Bool, true, false}
use mathlib.Core.List.{[], ◌∷◌}
use lib.ListN.{length, get_or, take}
use lib.Seq.{take-suc, take_all, drop-cons}
use lib.Dec.{eqb}
use native.Mathlib.Omega.{arith}
use Rattle.logic.specs.Total.{total}
use Rattle.logic.proofs.Lists.{total_of_both}
use Rattle.record.specs.Operation.{is_right}
use Rattle.plain.specs.Plain.{Plain}
use Rattle.plain.specs.Play.{added, end_order, removed, Yields}
use Rattle.plain.specs.Accounts.{once, held, accepts, takes}
use Rattle.plain.proofs.Ways.{Way, way}

module _ (order : ℕ) where
  abbrev is : ℕ → ℕ
  is o = once (eqb o order)

  -- a push adds its order once
  held_added : (operation o : ℕ) (p : Plain) → held order (added operation o p) ≡ held order p + is o
  unfolding total
  held_added operation o p = go (is_right operation) refl
    where
      go : (right : Bool) → is_right operation ≡ right → held order (added operation o p) ≡ held order p + is o
      go true e = rw e (omega (arith, total_of_both is p.orders (o ∷ [])))
      go false e = rw e (omega arith)

  -- a pop takes its order away once
  held_removed : (operation : ℕ) (p : Plain) → 1 ≤ length p.orders
      → held order p ≡ held order (removed operation p) + is (end_order operation p)
  unfolding total
  held_removed operation p some = go (is_right operation) refl
    where
      last : ℕ
      last = length p.orders - 1

      go : (right : Bool) → is_right operation ≡ right → held order p ≡ held order (removed operation p) + is (end_order operation p)
      go true e =
          let whole : take (suc last) p.orders ≡ p.orders = take_all (suc last) p.orders (omega arith) in
          let split = sym whole ∙ take-suc p.orders last 0 (omega arith) in
          rw e (omega (arith, ap (total is) split, total_of_both is (take last p.orders) (get_or p.orders last 0 ∷ [])))
      go false e = rw e (omega (arith, ap (total is) (drop-cons p.orders 0 0 some)))

  -- Accepted, with what was held, is held or taken.
  pub each_accounts : {operation o number carried : ℕ} {p q : Plain} → Yields operation o p number carried q
      → held order p + accepts order o number ≡ held order q + takes order number carried
  each_accounts {operation} {o} {number} {carried} {p} {q} y = go (way operation o p y)
    where
      go : Way operation o p number carried q → held order p + accepts order o number ≡ held order q + takes order number carried
      go (Way.pushed push room n left) = rw (n, left) (omega (arith, held_added operation o p))
      go (Way.full push room n left) = rw (n, left) refl
      go (Way.popped pop some n c left) = rw (n, c, left) (omega (arith, held_removed operation p some))
      go (Way.empty pop bare n left) = rw (n, left) refl
