-- The four operations and the two sides: 0 right push, 1 right pop, 2 left push, 3 left pop.
use Rattle.std.specs.Prelude.{ℕ, ◌+◌, ◌-◌, Bool, ◌&&◌, ◌||◌, eqb, leb, ltb}
use Rattle.logic.specs.Pick.{pick}
use Rattle.word.specs.Word.{LN, RN}

abbrev pub is_right : (operation : ℕ) → Bool
is_right operation = ltb operation 2

abbrev pub is_push : (operation : ℕ) → Bool
is_push operation = eqb operation 0 || eqb operation 2

-- own null is RN on the right, LN on the left; far null is the other
abbrev pub own_null : (operation : ℕ) → ℕ
own_null operation = pick (is_right operation) RN LN

abbrev pub far_null : (operation : ℕ) → ℕ
far_null operation = pick (is_right operation) LN RN

abbrev pub neighbour : (operation k : ℕ) → ℕ
neighbour operation k = pick (is_right operation) (k - 1) (k + 1)

-- the place past which a side's pushes cannot go
abbrev pub wall : (max operation : ℕ) → ℕ
wall max operation = pick (is_right operation) (max + 1) 0

-- k is 1..MAX+1 for the right, 0..MAX for the left
abbrev pub in_range : (max operation k : ℕ) → Bool
in_range max operation k = pick (is_right operation) (leb 1 k && leb k (max + 1)) (leb k max)

-- v is at least 3 for a push and 0 for a pop
abbrev pub order_fits : (operation v : ℕ) → Bool
order_fits operation v = pick (is_push operation) (leb 3 v) (eqb v 0)
