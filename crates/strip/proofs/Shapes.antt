-- The two shapes are the same, and a strip stands for one plain strip.
use Prim.Native.Nat.{ℕ, ◌+◌, ◌-◌, ◌≤◌, ◌<◌}
use mathlib.Core.Path.{◌≡◌, refl, sym, ap, ap₂, subst, ◌∙◌}
use mathlib.Core.Bool.{Bool, true, false}
use mathlib.Core.List.{List, map, append_assoc}
use lib.ListN.{length, get_or, take, drop, length-map, length-take, length-drop, length-replicate, get_or-map}
use lib.Seq.{get_or-take, get_or-drop, take_at, drop_at, ext_get_or}
use lib.Dec.{ltb}
use borrow.Author.Tests.{ltb-true, ltb-false}
use native.Mathlib.Omega.{arith}
use Rattle.std.proofs.lemmas.List.{get_or_default}
use Rattle.logic.specs.Every.{Every}
use Rattle.word.specs.Word.{value_of, LN, RN, value_at}
use Rattle.step.specs.Step.{max_of}
use Rattle.plain.specs.Plain.{Plain, places_of}
use Rattle.strip.specs.Shape.{values_of, IsOrder, StandsFor, Bounds, plain_between}
use Rattle.strip.proofs.Values.{values_length, values_left, values_between, values_right}

value_is : (strip : List ℕ) (i : ℕ) → get_or (map value_of strip) i 0 ≡ value_at strip i
value_is strip i = get_or-map value_of strip i 0

-- From the words of document 01 to the boundaries.
module _ (strip : List ℕ) (p : Plain) (stands : StandsFor strip p) where
  pub strip_length : length strip ≡ places_of p + 2
  strip_length = sym (length-map strip value_of) ∙ ap length stands.values ∙ values_length p

  at : (i : ℕ) → value_at strip i ≡ get_or (values_of p) i 0
  at i = sym (value_is strip i) ∙ ap (λ (l : List ℕ). get_or l i 0) stands.values

  order_at : (i : ℕ) → p.left + 1 ≤ i → i < p.left + 1 + length p.orders → IsOrder (value_at strip i)
  order_at i l h =
      let within : i - (p.left + 1) < length p.orders = omega arith in
      rw (at i, values_between p i l h, get_or_default p.orders (i - (p.left + 1)) 0 3 within) (stands.orders _ within)

  pub stands_for_bounds : Bounds strip (p.left + 1) (p.left + 1 + length p.orders)
  stands_for_bounds =
      record {
        some_left = omega arith;
        in_order = omega arith;
        some_right = omega (arith, strip_length);
        lefts = λ i h. at i ∙ values_left p i h;
        orders = order_at;
        rights = λ i l h. at i ∙ values_right p i l (subst (λ (n : ℕ). i < n) strip_length h);
      }

  -- L + length + R is MAX
  pub places_are_max : places_of p ≡ max_of (length strip)
  places_are_max = omega (arith, strip_length)

-- From the boundaries to the words of document 01.
module _ (strip : List ℕ) (lo hi : ℕ) (b : Bounds strip lo hi) where
  abbrev values : List ℕ
  values = map value_of strip

  abbrev p : Plain
  p = plain_between strip lo hi

  held : length p.orders ≡ hi - lo
  held = simp (length-take, length-drop, length-map) (omega (arith, b.some_right))

  order_in : (i : ℕ) → i < hi - lo → get_or p.orders i 0 ≡ value_at strip (lo + i)
  order_in i h = get_or-take (hi - lo) (drop lo values) i 0 h ∙ get_or-drop lo values i 0 ∙ value_is strip (lo + i)

  word_in : (i : ℕ) → i < length strip → value_at strip i ≡ get_or (values_of p) i 0
  word_in i h = go (ltb i lo) (ltb i hi) refl refl
    where
      go : (left low : Bool) → ltb i lo ≡ left → ltb i hi ≡ low → value_at strip i ≡ get_or (values_of p) i 0
      go true low e f =
          let below = ltb-true i lo e in
          b.lefts i below ∙ sym (values_left p i (omega arith))
      go false true e f =
          let above = ltb-false i lo e in
          let below = ltb-true i hi f in
          let j = i - (lo - 1 + 1) in
          let back : i ≡ lo + j = omega arith in
          ap (value_at strip) back ∙ sym (order_in j (omega arith)) ∙ sym (values_between p i (omega arith) (omega (arith, held)))
      go false false e f =
          let above = ltb-false i hi f in
          b.rights i above h ∙ sym (values_right p i (omega (arith, held)) (omega (arith, held)))

  order_above : Every IsOrder 3 p.orders
  order_above i within =
      let inside : i < hi - lo = omega (arith, held) in
      rw (get_or_default p.orders i 3 0 within, order_in i inside) (b.orders (lo + i) (omega arith) (omega arith))

  same_length : length values ≡ length (values_of p)
  same_length = omega (arith, length-map strip value_of, values_length p, held)

  pub bounds_stand_for : StandsFor strip (plain_between strip lo hi)
  bounds_stand_for =
      record {
        values =
            ext_get_or 0 values (values_of p) same_length
            (λ i within. value_is strip i ∙ word_in i (omega (arith, length-map strip value_of)));
        orders = order_above;
      }

-- From lo on there is no LN, and below hi no RN.
module _ (strip : List ℕ) (lo hi : ℕ) (b : Bounds strip lo hi) where
  pub past_left : (i : ℕ) → lo ≤ i → i < length strip → value_at strip i ≡ LN → ⊥
  past_left i l h is = go (ltb i hi) refl
    where
      go : (low : Bool) → ltb i hi ≡ low → ⊥
      go true e = omega (arith, b.orders i l (ltb-true i hi e))
      go false e = omega (arith, b.rights i (ltb-false i hi e) h)

  pub before_right : (i : ℕ) → i < hi → value_at strip i ≡ RN → ⊥
  before_right i h is = go (ltb i lo) refl
    where
      go : (low : Bool) → ltb i lo ≡ low → ⊥
      go true e = omega (arith, b.lefts i (ltb-true i lo e))
      go false e = omega (arith, b.orders i (ltb-false i lo e) h)

-- The boundaries of a strip are its own.
module _ (strip : List ℕ) (lo hi lo' hi' : ℕ) (b : Bounds strip lo hi) (b' : Bounds strip lo' hi') where
  left_no_lower : lo < lo' → ⊥
  left_no_lower less = past_left strip lo hi b lo (omega arith) (omega arith) (b'.lefts lo less)

  right_no_lower : hi < hi' → ⊥
  right_no_lower less = before_right strip lo' hi' b' hi less (b.rights hi (omega arith) (omega arith))

pub bounds_are_one : (strip : List ℕ) (lo hi lo' hi' : ℕ) → Bounds strip lo hi → Bounds strip lo' hi' → (lo ≡ lo') × (hi ≡ hi')
bounds_are_one strip lo hi lo' hi' b b' = (
  omega (arith, left_no_lower strip lo hi lo' hi' b b', left_no_lower strip lo' hi' lo hi b' b),
  omega (arith, right_no_lower strip lo hi lo' hi' b b', right_no_lower strip lo' hi' lo hi b' b),
)

same_plain_lem : {p q : Plain} → p.left ≡ q.left → p.orders ≡ q.orders → p.right ≡ q.right → p ≡ q
same_plain_lem left orders right = λ i. record { left = left i; orders = orders i; right = right i }

-- What a strip stands for is what lies between its boundaries.
pub stands_for_between : (strip : List ℕ) (p : Plain) → StandsFor strip p
    → p ≡ plain_between strip (p.left + 1) (p.left + 1 + length p.orders)
stands_for_between strip p stands = same_plain_lem (omega arith) between (omega (arith, strip_length strip p stands))
  where
    between : p.orders ≡ take (p.left + 1 + length p.orders - (p.left + 1)) (drop (p.left + 1) (map value_of strip))
    between =
        let many : p.left + 1 + length p.orders - (p.left + 1) ≡ length p.orders = omega arith in
        let lefts = length-replicate {A = ℕ} (p.left + 1) LN in
        rw (many, stands.values, append_assoc, drop_at _ _ (p.left + 1) lefts, take_at _ _ (length p.orders) refl)

pub a_strip_stands_for_one_plain_strip : (strip : List ℕ) (p q : Plain) → StandsFor strip p → StandsFor strip q → p ≡ q
a_strip_stands_for_one_plain_strip strip p q for-p for-q =
    let one = bounds_are_one strip _ _ _ _ (stands_for_bounds strip p for-p) (stands_for_bounds strip q for-q) in
    stands_for_between strip p for-p ∙ ap₂ (plain_between strip) one.0 one.1 ∙ sym (stands_for_between strip q for-q)
