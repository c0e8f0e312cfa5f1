-- A place in range lies inside the strip, and so does its neighbour.
use Prim.Native.Nat.{ℕ, ◌+◌, ◌-◌, ◌<◌}
use mathlib.Core.Path.{◌≡◌}
use mathlib.Core.Bool.{Bool, true, false, ◌&&◌}
use lib.Dec.{leb}
use borrow.Author.Tests.{leb-true}
use native.Mathlib.Omega.{arith}
use Rattle.logic.specs.Pick.{pick}
use Rattle.logic.proofs.Bools.{both}
use Rattle.record.specs.Operation.{is_right, in_range, neighbour}

pub inside : (max operation k : ℕ) → in_range max operation k ≡ true → (k < max + 2) × (neighbour operation k < max + 2)
inside max operation k = go (is_right operation)
  where
    go : (right : Bool) → pick right (leb 1 k && leb k (max + 1)) (leb k max) ≡ true
        → (k < max + 2) × (pick right (k - 1) (k + 1) < max + 2)
    go true e = let each = both (leb 1 k) (leb k (max + 1)) e in omega (arith, leb-true 1 k each.0, leb-true k (max + 1) each.1)
    go false e = omega (arith, leb-true k max e)
