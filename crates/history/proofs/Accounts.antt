-- An accepted order is held or was taken, as often as it was accepted, and no other order appears.
use Prim.Native.Nat.{ℕ, ◌+◌, ◌≤◌}
use mathlib.Core.Path.{◌≡◌, refl}
use mathlib.Core.List.{List, [], ◌∷◌}
use native.Mathlib.Omega.{arith}
use Rattle.logic.specs.Total.{total}
use Rattle.plain.specs.Plain.{Plain, fresh_plain}
use Rattle.plain.specs.Accounts.{held, accepts, takes}
use Rattle.plain.proofs.Accounts.{each_accounts}
use Rattle.placing.specs.Placing.{in_order, Plays}
use Rattle.placing.proofs.Totals.{none_is_left_out}
use Rattle.history.specs.Finished.{Finished}
use Rattle.history.specs.Explained.{Agrees, Explained, none}
use Rattle.history.specs.Accounts.{accepted, taken, Closed}

pub what_plays_accounts : (order : ℕ) (fs : List Finished) (p q : Plain) → Plays Agrees p fs q
    → held order p + accepted order fs ≡ held order q + taken order fs
unfolding total
what_plays_accounts order [] p q same = rw same refl
what_plays_accounts order (f ∷ fs) p q plays =
    omega (arith, each_accounts order plays.1, what_plays_accounts order fs plays.0 q plays.2)

module _ {first last : Plain} {finished : List Finished} {entries : ℕ} (explained : Explained first finished entries last) where
  in_the_order_of_effects : (weight : Finished → ℕ)
      → total weight (in_order (λ (f : Finished). f.effect) entries finished) ≡ total weight finished
  in_the_order_of_effects weight =
      none_is_left_out weight (λ (f : Finished). f.effect) entries none finished
      (λ i within. omega (arith, (explained.between i within).by_answer, explained.answered i within))

  -- Each order is held or was taken as often as it was accepted; those that the first strip held count as accepted.
  pub accepted_is_held_or_taken : (order : ℕ)
      → held order first + accepted order finished ≡ held order last + taken order finished
  accepted_is_held_or_taken order =
      rw (
        ← (in_the_order_of_effects (λ (f : Finished). accepts order f.order f.number)),
        ← (in_the_order_of_effects (λ (f : Finished). takes order f.number f.carried)),
      )
      (what_plays_accounts order (in_order (λ (f : Finished). f.effect) entries finished) first last explained.played)

  -- No other order is held or was taken.
  pub no_other_order_appears : (order : ℕ) → held order first ≡ 0 → accepted order finished ≡ 0
      → (held order last ≡ 0) × (taken order finished ≡ 0)
  no_other_order_appears order unheld unaccepted = omega (arith, accepted_is_held_or_taken order)

-- A fresh strip holds none, so from there each account is closed.
pub from_fresh_each_account_is_closed : (max divide : ℕ) {finished : List Finished} {entries : ℕ} {last : Plain}
    → Explained (fresh_plain max divide) finished entries last → (order : ℕ) → Closed order last finished
unfolding total
from_fresh_each_account_is_closed max divide explained order =
    let balanced = accepted_is_held_or_taken explained order in
    record { balanced = omega arith; none_made_up = no_other_order_appears explained order refl }

-- In a closed account no order is lost: what was accepted is held or was taken; and none is doubled: what is held or was taken was accepted.
pub no_order_is_lost : {order : ℕ} {p : Plain} {finished : List Finished} → Closed order p finished
    → accepted order finished ≤ held order p + taken order finished
no_order_is_lost closed = omega (arith, closed.balanced)

pub no_order_is_doubled : {order : ℕ} {p : Plain} {finished : List Finished} → Closed order p finished
    → held order p + taken order finished ≤ accepted order finished
no_order_is_doubled closed = omega (arith, closed.balanced)
