-- Measure's three numbers are those of the plain strip that the words stand for, and it is 12 exactly where there is none.
use Prim.Native.Nat.{ℕ, ◌+◌, ◌-◌, ◌≤◌, ◌<◌}
use mathlib.Core.Path.{◌≡◌, refl, sym, ap, subst, ◌∙◌}
use mathlib.Core.Bool.{Bool, true, false, ◌&&◌}
use mathlib.Core.List.{List}
use lib.ListN.{length, get_or, drop, length-drop}
use lib.Seq.{get_or-drop}
use lib.Dec.{eqb, leb}
use borrow.Author.Tests.{leb-true, le-leb, eqb-true, eq-eqb, ne_eqb, lt-leb}
use native.Mathlib.Omega.{arith}
use Rattle.std.proofs.lemmas.List.Sums.{prefix_len_is, prefix_len_passes}
use Rattle.std.specs.declared.result.Result.TheVariants.{Ok}
use Rattle.logic.proofs.Bools.{both}
use Rattle.word.specs.Word.{RN, value_at}
use Rattle.step.specs.Step.{strip_fits}
use Rattle.plain.specs.Plain.{Plain}
use Rattle.strip.specs.Shape.{StandsFor, Shaped, Bounds, plain_between}
use Rattle.strip.specs.Measure.{run_of, is_LN, is_order, is_RN, lefts, orders, rights, is_shaped, measure_of}
use Rattle.strip.specs.Measure.{measured_number, measured_left, measured_orders, measured_right}
use Rattle.strip.proofs.Measuring.{Counted, measure_refuses, measure_shaped, measure_unshaped}
use Rattle.strip.proofs.Shapes.{strip_length, stands_for_bounds, bounds_stand_for, past_left}

-- The runs of a strip end at its boundaries.
module _ (strip : List ℕ) (lo hi : ℕ) (b : Bounds strip lo hi) where
  on_left : lefts strip ≡ lo
  on_left =
      prefix_len_is is_LN strip lo 0 (omega arith) (λ i h. eq-eqb _ _ (b.lefts i h))
      (λ h. ne_eqb _ _ (past_left strip lo hi b lo (omega arith) h))

  between : run_of is_order (drop lo strip) ≡ hi - lo
  between =
      let back : lo + (hi - lo) ≡ hi = omega arith in
      let first : value_at strip hi ≡ RN = b.rights hi (omega arith) (omega arith) in
      prefix_len_is is_order (drop lo strip) (hi - lo) 0 (simp length-drop (omega arith))
      (λ i h. rw get_or-drop (le-leb _ _ (b.orders (lo + i) (omega arith) (omega arith))))
      (λ h. rw (get_or-drop, back) (lt-leb 3 (value_at strip hi) (omega arith)))

  on_right : run_of is_RN (drop hi strip) ≡ length strip - hi
  on_right =
      prefix_len_is is_RN (drop hi strip) (length strip - hi) 0 (simp length-drop (omega arith))
      (λ i h. rw get_or-drop (eq-eqb _ _ (b.rights (hi + i) (omega arith) (omega arith))))
      (λ h. absurd (omega (arith, simp length-drop at h)))

  counts : Counted strip lo (hi - lo) (length strip - hi)
  counts =
      let far : lo + (hi - lo) ≡ hi = omega arith in
      record { of_left = on_left; of_orders = rw on_left between; of_right = rw (on_left, between, far) on_right }

  bounds_shape : is_shaped strip ≡ true
  bounds_shape =
      let all : lo + (hi - lo) + (length strip - hi) ≡ length strip = omega arith in
      rw (counts.of_right, counts.of_orders, counts.of_left, le-leb 1 lo b.some_left, le-leb 1 (length strip - hi) (omega arith), eq-eqb _ _ all)

  pub bounds_measure : strip_fits (length strip) ≡ true → measure_of strip ≡ Ok (record { left = lo - 1; orders = hi - lo; right = length strip - hi - 1 })
  bounds_measure fits =
      measure_shaped strip fits bounds_shape ∙ rw (counts.of_right, counts.of_orders, counts.of_left)

-- A strip that measure finds shaped is shaped, with the boundaries that it counted.
module _ (strip : List ℕ) (shaped : is_shaped strip ≡ true) where
  abbrev l : ℕ
  l = lefts strip

  abbrev n : ℕ
  n = orders strip

  abbrev r : ℕ
  r = rights strip

  some : (1 ≤ l) × (1 ≤ r) × (l + n + r ≡ length strip)
  some =
      let each = both (leb 1 l && leb 1 r) (eqb (l + n + r) (length strip)) shaped in
      let ends = both (leb 1 l) (leb 1 r) each.0 in
      (leb-true 1 l ends.0, leb-true 1 r ends.1, eqb-true (l + n + r) (length strip) each.1)

  -- the word at a place that a run from another place on passes over passes its test
  passed_at : (test : ℕ → Bool) (from i : ℕ) → from ≤ i → i < from + run_of test (drop from strip) → test (get_or strip i 0) ≡ true
  passed_at test from i low high =
      let back : from + (i - from) ≡ i = omega arith in
      subst (λ (word : ℕ). test word ≡ true) (get_or-drop from strip (i - from) 0 ∙ ap (λ (j : ℕ). get_or strip j 0) back)
      (prefix_len_passes test (drop from strip) (i - from) 0 (omega arith))

  pub counted_bounds : Bounds strip l (l + n)
  counted_bounds =
      record {
        some_left = some.0;
        in_order = omega arith;
        some_right = omega (arith, some);
        lefts = λ i h. eqb-true _ _ (passed_at is_LN 0 i (omega arith) (omega arith));
        orders = λ i low h. leb-true _ _ (passed_at is_order l i low h);
        rights = λ i low h. eqb-true _ _ (passed_at is_RN (l + n) i low (omega (arith, some)));
      }

-- Measure's three numbers are those of the plain strip that the words stand for.
pub measure_gives_the_plain_strip : (strip : List ℕ) (p : Plain) → strip_fits (length strip) ≡ true → StandsFor strip p
    → measure_of strip ≡ Ok (record { left = p.left; orders = length p.orders; right = p.right })
measure_gives_the_plain_strip strip p fits stands =
    let b = stands_for_bounds strip p stands in
    let left : p.left + 1 - 1 ≡ p.left = omega arith in
    let held : p.left + 1 + length p.orders - (p.left + 1) ≡ length p.orders = omega arith in
    let right : length strip - (p.left + 1 + length p.orders) - 1 ≡ p.right = omega (arith, strip_length strip p stands) in
    bounds_measure strip _ _ b fits ∙ simp (left, held, right)

pub measured_is_shaped : (strip : List ℕ) (l n r : ℕ) → measure_of strip ≡ Ok (record { left = l; orders = n; right = r })
    → (p : Plain) × StandsFor strip p × (p.left ≡ l) × (length p.orders ≡ n) × (p.right ≡ r)
measured_is_shaped strip l n r e = go (strip_fits (length strip)) (is_shaped strip) refl refl
  where
    number : measured_number (measure_of strip) ≡ 0
    number = ap measured_number e

    go : (fits shaped : Bool) → strip_fits (length strip) ≡ fits → is_shaped strip ≡ shaped
        → (p : Plain) × StandsFor strip p × (p.left ≡ l) × (length p.orders ≡ n) × (p.right ≡ r)
    go false shaped f s = absurd (omega (arith, number, ap measured_number (measure_refuses strip f)))
    go true false f s = absurd (omega (arith, number, ap measured_number (measure_unshaped strip f s)))
    go true true f s =
        let stands = bounds_stand_for strip _ _ (counted_bounds strip s) in
        let p = plain_between strip (lefts strip) (lefts strip + orders strip) in
        let same = sym (measure_gives_the_plain_strip strip p f stands) ∙ e in
        (p, stands, ap measured_left same, ap measured_orders same, ap measured_right same)

-- Measure is 12 exactly where the strip is not shaped.
pub twelve_is_not_shaped : (strip : List ℕ) → measured_number (measure_of strip) ≡ 12 → Shaped strip → ⊥
twelve_is_not_shaped strip twelve shaped = go (strip_fits (length strip)) refl
  where
    go : (fits : Bool) → strip_fits (length strip) ≡ fits → ⊥
    go true f = omega (arith, twelve, ap measured_number (measure_gives_the_plain_strip strip shaped.0 f shaped.1))
    go false f = omega (arith, twelve, ap measured_number (measure_refuses strip f))

pub not_shaped_is_twelve : (strip : List ℕ) → strip_fits (length strip) ≡ true → (Shaped strip → ⊥) → measured_number (measure_of strip) ≡ 12
not_shaped_is_twelve strip fits none = go (is_shaped strip) refl
  where
    go : (shaped : Bool) → is_shaped strip ≡ shaped → measured_number (measure_of strip) ≡ 12
    go true s = absurd (none (_, bounds_stand_for strip _ _ (counted_bounds strip s)))
    go false s = ap measured_number (measure_unshaped strip fits s)
