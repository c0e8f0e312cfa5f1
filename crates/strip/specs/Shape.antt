-- The shape of a strip, twice: as document 01 says it, and by two boundaries.
use Rattle.std.specs.Prelude.{ℕ, ◌+◌, ◌-◌, ◌≤◌, ◌<◌, ◌≡◌, List, ◌++◌, map, length, take, drop, replicate}
use Rattle.logic.specs.Every.{Every}
use Rattle.word.specs.Word.{value_of, LN, RN, value_at}
use Rattle.plain.specs.Plain.{Plain}

-- the values of a strip that stands for p: LN once more than L, the orders, RN once more than R
abbrev pub values_of : Plain → List ℕ
values_of p = replicate (p.left + 1) LN ++ p.orders ++ replicate (p.right + 1) RN

-- orders are 3 and up
abbrev pub IsOrder : ℕ → Type 0
IsOrder value = 3 ≤ value

-- One or more LN, then zero or more orders, then one or more RN: the strip stands for the plain strip p. Counters play no part.
pub record StandsFor (strip : List ℕ) (p : Plain) : Type 0 where
  pub values : map value_of strip ≡ values_of p
  pub orders : Every IsOrder 3 p.orders

abbrev pub Shaped : List ℕ → Type 0
Shaped strip = (p : Plain) × StandsFor strip p

-- LN below lo, orders from lo, RN from hi.
pub record Bounds (strip : List ℕ) (lo hi : ℕ) : Type 0 where
  pub some_left : 1 ≤ lo
  pub in_order : lo ≤ hi
  pub some_right : hi < length strip
  pub lefts : (i : ℕ) → i < lo → value_at strip i ≡ LN
  pub orders : (i : ℕ) → lo ≤ i → i < hi → IsOrder (value_at strip i)
  pub rights : (i : ℕ) → hi ≤ i → i < length strip → value_at strip i ≡ RN

-- the plain strip between the boundaries lo and hi
abbrev pub plain_between : (strip : List ℕ) (lo hi : ℕ) → Plain
plain_between strip lo hi =
    record { left = lo - 1; orders = take (hi - lo) (drop lo (map value_of strip)); right = length strip - hi - 1 }
