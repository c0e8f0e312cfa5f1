-- The plain strip, used to say what is right: a number L of free places on the left, a list of orders, and a number R on the right.
use Rattle.std.specs.Prelude.{ℕ, ◌+◌, ◌-◌, List, [], length}

pub record Plain : Type 0 where
  pub left : ℕ
  pub orders : List ℕ
  pub right : ℕ

-- a fresh strip has L = d, no orders, R = MAX − d
abbrev pub fresh_plain : (max divide : ℕ) → Plain
fresh_plain max divide = record { left = divide; orders = []; right = max - divide }

-- L + length + R, which is MAX
abbrev pub places_of : Plain → ℕ
places_of p = p.left + length p.orders + p.right
