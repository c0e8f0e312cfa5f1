-- The four ways an operation goes on a plain strip. What an answer tells goes by these cases.
use Prim.Native.Nat.{ℕ, ◌≤◌}
use mathlib.Core.Path.{◌≡◌, refl, ap}
use mathlib.Core.Bool.{Bool, true, false}
use lib.ListN.{length}
use lib.Dec.{eqb}
use borrow.Author.Tests.{eqb-true, eqb-false, eq-eqb, ne_eqb}
use native.Mathlib.Omega.{arith}
use Rattle.std.specs.declared.result.Result.TheVariants.{Ok}
use Rattle.record.specs.Operation.{is_push}
use Rattle.party.specs.Answer.{number_of, carried_of}
use Rattle.party.specs.declared.Answer.{Answer}
use Rattle.party.specs.declared.Answer.TheVariants.{Pushed, Popped, Full, Empty}
use Rattle.plain.specs.Plain.{Plain}
use Rattle.plain.specs.Play.{room, added, end_order, removed, Played, play_push, play_pop, play, Yields}

module _ (operation order : ℕ) (p : Plain) where
  pub data Way (number carried : ℕ) (q : Plain) : Type 0 where
    pushed : is_push operation ≡ true → 1 ≤ room operation p → number ≡ 16 → q ≡ added operation order p → Way number carried q
    full : is_push operation ≡ true → room operation p ≡ 0 → number ≡ 18 → q ≡ p → Way number carried q
    popped : is_push operation ≡ false → 1 ≤ length p.orders → number ≡ 17 → carried ≡ end_order operation p
        → q ≡ removed operation p → Way number carried q
    empty : is_push operation ≡ false → length p.orders ≡ 0 → number ≡ 19 → q ≡ p → Way number carried q

  pub way : {number carried : ℕ} {q : Plain} → Yields operation order p number carried q → Way number carried q
  unfolding play
  way {number} {carried} {q} y = go (is_push operation) refl
    where
      Of : Played → Type 0
      Of done = Way (number_of (Ok done.answer)) (carried_of (Ok done.answer)) done.plain

      pushing : is_push operation ≡ true → (walled : Bool) → eqb (room operation p) 0 ≡ walled → Of (play_push operation order p)
      pushing e true w = rw w (full e (eqb-true (room operation p) 0 w) refl refl)
      pushing e false w =
          let some = eqb-false (room operation p) 0 w in
          rw w (pushed e (omega arith) refl refl)

      popping : is_push operation ≡ false → (bare : Bool) → eqb (length p.orders) 0 ≡ bare → Of (play_pop operation p)
      popping e true b = rw b (empty e (eqb-true (length p.orders) 0 b) refl refl)
      popping e false b =
          let some = eqb-false (length p.orders) 0 b in
          rw b (popped e (omega arith) refl refl refl)

      go : (push : Bool) → is_push operation ≡ push → Way number carried q
      go true e = rw (← y.number_is, ← y.carried_is, ← y.leaves, e) (pushing e (eqb (room operation p) 0) refl)
      go false e = rw (← y.number_is, ← y.carried_is, ← y.leaves, e) (popping e (eqb (length p.orders) 0) refl)

  -- and the other way: which of the four it is
  plays : (answer : Answer) {q : Plain} → play operation order p ≡ record { answer = answer; plain = q }
      → Yields operation order p (number_of (Ok answer)) (carried_of (Ok answer)) q
  plays answer e =
      record {
        number_is = ap (λ (done : Played). number_of (Ok done.answer)) e;
        carried_is = ap (λ (done : Played). carried_of (Ok done.answer)) e;
        leaves = ap (λ (done : Played). done.plain) e;
      }

  pub yields_pushed : is_push operation ≡ true → 1 ≤ room operation p → Yields operation order p 16 0 (added operation order p)
  unfolding play
  yields_pushed push some = plays Pushed (simp (push, ne_eqb (room operation p) 0 (λ h. omega arith)))

  pub yields_full : is_push operation ≡ true → room operation p ≡ 0 → Yields operation order p 18 0 p
  unfolding play
  yields_full push none = plays Full (simp (push, eq-eqb (room operation p) 0 none))

  pub yields_popped : is_push operation ≡ false → 1 ≤ length p.orders
      → Yields operation order p 17 (end_order operation p) (removed operation p)
  unfolding play
  yields_popped pop some =
      plays (Popped (end_order operation p)) (simp (pop, ne_eqb (length p.orders) 0 (λ h. omega arith)))

  pub yields_empty : is_push operation ≡ false → length p.orders ≡ 0 → Yields operation order p 19 0 p
  unfolding play
  yields_empty pop none = plays Empty (simp (pop, eq-eqb (length p.orders) 0 none))
