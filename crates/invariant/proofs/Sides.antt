-- The two sides of two records, and the places of a valid record.
use Prim.Native.Nat.{ℕ, ◌+◌, ◌-◌, ◌≤◌, ◌<◌}
use mathlib.Core.Path.{◌≡◌, refl, sym, ◌∙◌, ap₂}
use mathlib.Core.Bool.{Bool, true, false}
use mathlib.Core.List.{List}
use lib.ListN.{length}
use lib.Dec.{leb, ltb}
use borrow.Author.Tests.{leb-true, ne_eqb}
use native.Mathlib.Omega.{arith}
use Rattle.logic.specs.Pick.{pick}
use Rattle.logic.proofs.Bools.{both}
use Rattle.word.specs.Swap.{Took}
use Rattle.swaps.specs.Remembered.{Wins}
use Rattle.record.specs.Operation.{is_right, is_push, order_fits}
use Rattle.record.specs.Valid.{valid_of, place_fits}
use Rattle.record.specs.declared.Record.{Record}
use Rattle.record.proofs.Stages.{ValidAt, valid_at, busy_fits}
use Rattle.stages.specs.Stages.{near, own, far, at_place, at_near}
use Rattle.step.specs.Step.{strip_fits, max_of}
use Rattle.step.proofs.Cleared.{strip_within}

-- one record's side, in numbers
pub data Side (r : Record) : Type 0 where
  right : is_right r.operation ≡ true → own r ≡ 1 → far r ≡ 0 → near r ≡ r.k - 1 → Side r
  left : is_right r.operation ≡ false → own r ≡ 0 → far r ≡ 1 → near r ≡ r.k + 1 → Side r

pub side : (r : Record) → Side r
side r = go (is_right r.operation) refl
  where
    go : (t : Bool) → is_right r.operation ≡ t → Side r
    go true e = Side.right e (rw e) (rw e) (rw e)
    go false e = Side.left e (rw e) (rw e) (rw e)

-- a null is no order
pub own_is_null : (r : Record) → own r ≤ 1
own_is_null r = go (side r)
  where
    go : Side r → own r ≤ 1
    go (Side.right e o f n) = omega arith
    go (Side.left e o f n) = omega arith

-- two records: of one side, or the one's own null is the other's far null
pub data Sides (a b : Record) : Type 0 where
  same : is_right a.operation ≡ is_right b.operation → own a ≡ own b → Sides a b
  other : own b ≡ far a → (own a ≡ own b → ⊥) → Sides a b

pub sides : (a b : Record) → Sides a b
sides a b = go (side a) (side b)
  where
    go : Side a → Side b → Sides a b
    go (Side.right e o f n) (Side.right e' o' f' n') = Sides.same (e ∙ sym e') (o ∙ sym o')
    go (Side.right e o f n) (Side.left e' o' f' n') = Sides.other (o' ∙ sym f) (λ h. omega arith)
    go (Side.left e o f n) (Side.right e' o' f' n') = Sides.other (o' ∙ sym f) (λ h. omega arith)
    go (Side.left e o f n) (Side.left e' o' f' n') = Sides.same (e ∙ sym e') (o ∙ sym o')

-- k in range lies inside the strip, its neighbour beside it
pub data Placed (words : ℕ) (r : Record) : Type 0 where
  right : is_right r.operation ≡ true → own r ≡ 1 → far r ≡ 0 → near r + 1 ≡ r.k → r.k < words → Placed words r
  left : is_right r.operation ≡ false → own r ≡ 0 → far r ≡ 1 → near r ≡ r.k + 1 → near r < words → Placed words r

pub placed_in_range : (words : ℕ) (r : Record) → 3 ≤ words → place_fits (max_of words) r ≡ true → Placed words r
placed_in_range words r some fits = go (side r)
  where
    go : Side r → Placed words r
    go (Side.right e o f n) =
        let each = both (leb 1 r.k) (leb r.k (max_of words + 1)) (rw e at fits) in
        let low = leb-true 1 r.k each.0 in
        let high = leb-true r.k (max_of words + 1) each.1 in
        Placed.right e o f (omega arith) (omega arith)
    go (Side.left e o f n) =
        let high = leb-true r.k (max_of words) (rw e at fits) in
        Placed.left e o f n (omega arith)

-- what is known of a valid record from stage 2 on
pub place_fits_lem : (max : ℕ) (r : Record) → valid_of max r ≡ true → 2 ≤ r.stage → place_fits max r ≡ true
place_fits_lem max r valid late = go (valid_at max r valid)
  where
    go : ValidAt max r → place_fits max r ≡ true
    go (ValidAt.at0 s fits) = absurd (omega arith)
    go (ValidAt.at1 s fits read) = absurd (omega arith)
    go (ValidAt.at2 s fits place second) = place
    go (ValidAt.at3 s fits place pop) = place
    go (ValidAt.at4 s fits swap) = (both (place_fits max r) _ swap).0
    go (ValidAt.at5 s fits swap) = (both (place_fits max r) _ swap).0

-- a valid push from stage 1 on has an order
pub order_is : (max : ℕ) (r : Record) → valid_of max r ≡ true → 1 ≤ r.stage → is_push r.operation ≡ true → 3 ≤ r.v
order_is max r valid busy push =
    let fits = busy_fits max r valid (ne_eqb r.stage 0 (λ e. omega arith)) in
    let ordered = (both (ltb r.operation 4) (order_fits r.operation r.v) fits).1 in
    leb-true 3 r.v (rw push at ordered)

pub placed : (words : ℕ) (r : Record) → strip_fits words ≡ true → valid_of (max_of words) r ≡ true → 2 ≤ r.stage → Placed words r
placed words r fits valid late =
    placed_in_range words r (strip_within words fits).0 (place_fits_lem (max_of words) r valid late)

pub inside : {words : ℕ} {r : Record} → Placed words r → (r.k < words) × (near r < words)
inside (Placed.right e o f n i) = omega arith
inside (Placed.left e o f n i) = omega arith

-- two of one side with one neighbour are at one place
pub one_place : {words : ℕ} {a b : Record} → Placed words a → Placed words b → own a ≡ own b → near a ≡ near b → a.k ≡ b.k
one_place (Placed.right e o f n i) (Placed.right e' o' f' n' i') h m = omega arith
one_place (Placed.right e o f n i) (Placed.left e' o' f' n' i') h m = absurd (omega arith)
one_place (Placed.left e o f n i) (Placed.right e' o' f' n' i') h m = absurd (omega arith)
one_place (Placed.left e o f n i) (Placed.left e' o' f' n' i') h m = omega arith

-- and two of one side at one place have one neighbour
pub one_neighbour : (a b : Record) → is_right a.operation ≡ is_right b.operation → a.k ≡ b.k → near a ≡ near b
one_neighbour a b = ap₂ (λ (right : Bool) (k : ℕ). pick right (k - 1) (k + 1))

-- a swap at k or at the neighbour of such a record is inside the strip
pub wins_at_place : {strip : List ℕ} {r : Record} → Placed (length strip) r → Took (at_place strip r) r.second
    → Wins strip r.k r.second
wins_at_place at took = record { within = (inside at).0; took = took }

pub wins_at_near : {strip : List ℕ} {r : Record} → Placed (length strip) r → Took (at_near strip r) r.first
    → Wins strip (near r) r.first
wins_at_near at took = record { within = (inside at).1; took = took }
