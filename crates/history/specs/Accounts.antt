-- How often an order was accepted and was taken, and when its account is closed; how often it is held stands with the plain strip.
use Rattle.std.specs.Prelude.{ℕ, ◌+◌, ◌≡◌, List}
use Rattle.logic.specs.Total.{total}
use Rattle.plain.specs.Plain.{Plain}
use Rattle.plain.specs.Accounts.{accepts, takes, held}
use Rattle.history.specs.Finished.{Finished}

-- PUSHED with this order
abbrev pub accepted : (order : ℕ) → List Finished → ℕ
accepted order finished = total (λ (f : Finished). accepts order f.order f.number) finished

-- POPPED that carried this order
abbrev pub taken : (order : ℕ) → List Finished → ℕ
taken order finished = total (λ (f : Finished). takes order f.number f.carried) finished

-- It is held or was taken as often as it was accepted; where it never was, it is not held and was not taken.
pub record Closed (order : ℕ) (p : Plain) (finished : List Finished) : Type 0 where
  pub balanced : accepted order finished ≡ held order p + taken order finished
  pub none_made_up : accepted order finished ≡ 0 → (held order p ≡ 0) × (taken order finished ≡ 0)
