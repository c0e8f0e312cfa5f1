-- The end of a side on a strip that stands for a plain one: the place that holds own null beside a neighbour that does not.
use Prim.Native.Nat.{ℕ, ◌+◌, ◌-◌, ◌≤◌, ◌<◌}
use mathlib.Core.Path.{◌≡◌, refl, sym, ◌∙◌, ap}
use mathlib.Core.Bool.{true, false}
use mathlib.Core.List.{List}
use lib.ListN.{length, get_or, get_or-map}
use borrow.Author.Tests.{eqb-true, eqb-false, eq-eqb, ne_eqb}
use native.Mathlib.Omega.{arith}
use Rattle.logic.specs.Pick.{pick}
use Rattle.word.specs.Word.{value_of, value_at}
use Rattle.record.specs.Operation.{is_right, wall}
use Rattle.record.specs.Valid.{place_fits, at_wall}
use Rattle.record.specs.declared.Record.{Record}
use Rattle.stages.specs.Stages.{near, own, far}
use Rattle.step.specs.Step.{strip_fits, max_of}
use Rattle.step.proofs.Cleared.{strip_within}
use Rattle.plain.specs.Plain.{Plain}
use Rattle.plain.specs.Play.{room, end_order}
use Rattle.strip.specs.Shape.{StandsFor, Bounds}
use Rattle.find.specs.Find.{is_end}
use Rattle.strip.proofs.Shapes.{strip_length, stands_for_bounds, past_left, before_right}
use Rattle.strip.proofs.Values.{values_between}
use Rattle.find.proofs.FindShapes.{the_end_is_one}
use Rattle.invariant.proofs.Sides.{Placed, placed_in_range}

-- k is the end of its side on the plain strip
pub data AtEnd (p : Plain) (r : Record) : Type 0 where
  right : is_right r.operation ≡ true → far r ≡ 0 → r.k ≡ p.left + 1 + length p.orders → near r + 1 ≡ r.k → AtEnd p r
  left : is_right r.operation ≡ false → far r ≡ 1 → r.k ≡ p.left → near r ≡ r.k + 1 → AtEnd p r

module _ (strip : List ℕ) (p : Plain) (r : Record) (fits : strip_fits (length strip) ≡ true) (stands : StandsFor strip p) where
  abbrev lo : ℕ
  lo = p.left + 1

  abbrev hi : ℕ
  hi = p.left + 1 + length p.orders

  bounds : Bounds strip lo hi
  bounds = stands_for_bounds strip p stands

  words : length strip ≡ p.left + length p.orders + p.right + 2
  words = strip_length strip p stands

  pub at_the_end : place_fits (max_of (length strip)) r ≡ true → value_at strip r.k ≡ own r → (value_at strip (near r) ≡ own r → ⊥)
      → AtEnd p r
  at_the_end in_range_lem mine other = go (placed_in_range (length strip) r (strip_within (length strip) fits).0 in_range_lem)
    where
      end : is_end r.operation strip r.k ≡ true
      end = rw (eq-eqb (value_at strip r.k) (own r) mine, ne_eqb (value_at strip (near r)) (own r) other) refl

      place : r.k ≡ pick (is_right r.operation) hi (lo - 1)
      place = the_end_is_one strip lo hi bounds fits r.operation r.k in_range_lem end

      go : Placed (length strip) r → AtEnd p r
      go (Placed.right e o f n i) = AtEnd.right e f (place ∙ rw e refl) n
      go (Placed.left e o f n i) = AtEnd.left e f (place ∙ rw e (omega arith)) n

  module _ (end : AtEnd p r) where
    -- at the wall there is no room
    pub full_at_wall : at_wall (max_of (length strip)) r ≡ true → room r.operation p ≡ 0
    full_at_wall at = go end
      where
        is : r.k ≡ wall (max_of (length strip)) r.operation
        is = eqb-true r.k (wall (max_of (length strip)) r.operation) at

        go : AtEnd p r → room r.operation p ≡ 0
        go (AtEnd.right e f k n) = let w = rw e at is in rw e (omega (arith, words))
        go (AtEnd.left e f k n) = let w = rw e at is in rw e (omega (arith, words))

    -- and elsewhere there is some
    pub room_off_wall : at_wall (max_of (length strip)) r ≡ false → 1 ≤ room r.operation p
    room_off_wall off = go end
      where
        is : r.k ≡ wall (max_of (length strip)) r.operation → ⊥
        is = eqb-false r.k (wall (max_of (length strip)) r.operation) off

        go : AtEnd p r → 1 ≤ room r.operation p
        go (AtEnd.right e f k n) = let w = rw e at is in rw e (omega (arith, words))
        go (AtEnd.left e f k n) = let w = rw e at is in rw e (omega (arith, words))

    -- beside far null no order is held
    pub empty_at_far : value_at strip (near r) ≡ far r → length p.orders ≡ 0
    empty_at_far is = go end
      where
        go : AtEnd p r → length p.orders ≡ 0
        go (AtEnd.right e f k n) =
            let no-order : lo ≤ near r → ⊥ = λ h. past_left strip lo hi bounds (near r) h (omega (arith, words)) (is ∙ f) in
            omega arith
        go (AtEnd.left e f k n) =
            let no-order : near r < hi → ⊥ = λ h. before_right strip lo hi bounds (near r) h (is ∙ f) in
            omega arith

    -- and beside anything else some order is
    pub held_off_far : (value_at strip (near r) ≡ far r → ⊥) → 1 ≤ length p.orders
    held_off_far off = go end
      where
        go : AtEnd p r → 1 ≤ length p.orders
        go (AtEnd.right e f k n) =
            let no-null : near r < lo → ⊥ = λ h. off (bounds.lefts (near r) h ∙ sym f) in
            omega arith
        go (AtEnd.left e f k n) =
            let no-null : hi ≤ near r → ⊥ = λ h. off (bounds.rights (near r) h (omega (arith, words)) ∙ sym f) in
            omega arith

    -- the order there is the end order
    pub end_order_is : 1 ≤ length p.orders → value_at strip (near r) ≡ end_order r.operation p
    end_order_is some = go end
      where
        order_at : (i : ℕ) → lo ≤ i → i < hi → value_at strip i ≡ get_or p.orders (i - lo) 0
        order_at i l h =
            sym (get_or-map value_of strip i 0) ∙ ap (λ (v : List ℕ). get_or v i 0) stands.values ∙ values_between p i l h

        index : near r - lo ≡ pick (is_right r.operation) (length p.orders - 1) 0
            → lo ≤ near r → near r < hi → value_at strip (near r) ≡ end_order r.operation p
        index is l h = order_at (near r) l h ∙ ap (λ (j : ℕ). get_or p.orders j 0) is

        go : AtEnd p r → value_at strip (near r) ≡ end_order r.operation p
        go (AtEnd.right e f k n) =
            let last : near r - lo ≡ length p.orders - 1 = omega arith in
            index (last ∙ rw e refl) (omega arith) (omega arith)
        go (AtEnd.left e f k n) =
            let first : near r - lo ≡ 0 = omega arith in
            index (first ∙ rw e refl) (omega arith) (omega arith)
