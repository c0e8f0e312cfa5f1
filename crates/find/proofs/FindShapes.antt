-- On a shaped strip find right and find left give the one place each that document 01 describes.
use Prim.Native.Nat.{ℕ, zero, suc, ◌+◌, ◌-◌, ◌≤◌, ◌<◌}
use mathlib.Core.Path.{◌≡◌, refl, sym, ap, ◌∙◌}
use mathlib.Core.Bool.{Bool, true, false, not, ◌&&◌}
use mathlib.Core.List.{List}
use lib.ListN.{length}
use lib.Dec.{eqb, leb}
use borrow.Author.Tests.{eq-eqb, ne_eqb, eqb-true, eqb-false, leb-true, not-true}
use native.Mathlib.Omega.{arith}
use Rattle.std.specs.declared.result.Result.TheVariants.{Ok}
use Rattle.logic.specs.Pick.{pick}
use Rattle.logic.proofs.Bools.{both}
use Rattle.word.specs.Word.{LN, RN, value_at}
use Rattle.record.specs.Operation.{is_right, own_null, neighbour, in_range}
use Rattle.step.specs.Step.{strip_fits, max_of}
use Rattle.step.proofs.Cleared.{strip_within}
use Rattle.plain.specs.Plain.{Plain}
use Rattle.strip.specs.Shape.{StandsFor, Bounds}
use Rattle.find.specs.Find.{is_end, candidate, first_from, find_of}
use Rattle.find.proofs.Finding.{find_starts}
use Rattle.strip.proofs.Shapes.{stands_for_bounds, past_left, before_right}

-- The first candidate that passes, after `far` that do not.
first_is : (test : ℕ → Bool) (places : ℕ → ℕ) (far i at left : ℕ) → i + far ≡ at → far < left → test (places at) ≡ true
    → ((j : ℕ) → i ≤ j → j < at → test (places j) ≡ false) → first_from test places i left ≡ Ok (places at)
unfolding first_from
first_is test places far i at zero there inside end before = absurd (omega arith)
first_is test places zero i at (suc left) there inside end before =
    let here : i ≡ at = omega arith in
    rw (here, end)
first_is test places (suc far) i at (suc left) there inside end before =
    rw (before i (omega arith) (omega arith))
    (first_is test places far (i + 1) at left (omega arith) (omega arith) end (λ j low high. before j (omega arith) high))

module _ (strip : List ℕ) (lo hi : ℕ) (b : Bounds strip lo hi) (fits : strip_fits (length strip) ≡ true) where
  abbrev max : ℕ
  max = max_of (length strip)

  -- Both sides at once: own null, the candidates, the neighbour, and which candidate it is.
  module _ (right : Bool) where
    abbrev own : ℕ
    own = pick right RN LN

    abbrev place : ℕ → ℕ
    place i = pick right (1 + i) (max - i)

    abbrev near : ℕ → ℕ
    near k = pick right (k - 1) (k + 1)

    abbrev far : ℕ
    far = pick right (hi - 1) (max + 1 - lo)

  within : (3 ≤ length strip) × (length strip ≤ 4096)
  within = strip_within (length strip) fits

  far_inside : (right : Bool) → far right < max + 1
  far_inside true = omega arith
  far_inside false = omega (arith, within)

  far_place : (right : Bool) → place right (far right) ≡ pick right hi (lo - 1)
  far_place true = omega arith
  far_place false = omega (arith, within)

  far_own : (right : Bool) → value_at strip (place right (far right)) ≡ own right
  far_own true = b.rights (1 + (hi - 1)) (omega arith) (omega arith)
  far_own false = b.lefts (max - (max + 1 - lo)) (omega (arith, within))

  near_not_own : (right : Bool) → value_at strip (near right (place right (far right))) ≡ own right → ⊥
  near_not_own true = before_right strip lo hi b (1 + (hi - 1) - 1) (omega arith)
  near_not_own false =
      past_left strip lo hi b (max - (max + 1 - lo) + 1) (omega (arith, within)) (omega (arith, within))

  before_not_own : (right : Bool) (j : ℕ) → j < far right → value_at strip (place right j) ≡ own right → ⊥
  before_not_own true j h = before_right strip lo hi b (1 + j) (omega arith)
  before_not_own false j h = past_left strip lo hi b (max - j) (omega (arith, within)) (omega (arith, within))

  pub find_on_a_shape : (operation : ℕ) → find_of operation strip ≡ Ok (pick (is_right operation) hi (lo - 1))
  find_on_a_shape operation =
      let right = is_right operation in
      sym (find_starts operation strip (max + 1) refl fits)
      ∙ first_is (is_end operation strip) (candidate operation max) (far right) 0 (far right) (max + 1) (omega arith) (far_inside right)
      (rw (eq-eqb _ _ (far_own right), ne_eqb _ _ (near_not_own right)) refl)
      (λ j low high. rw (ne_eqb _ _ (before_not_own right j high)) refl)
      ∙ ap Ok (far_place right)

  pub find_right_on_a_shape : find_of 0 strip ≡ Ok hi
  find_right_on_a_shape = find_on_a_shape 0

  pub find_left_on_a_shape : find_of 2 strip ≡ Ok (lo - 1)
  find_left_on_a_shape = find_on_a_shape 2

  -- No other place in range holds own null beside a neighbour that does not.
  pub the_end_is_one : (operation k : ℕ) → in_range (max_of (length strip)) operation k ≡ true → is_end operation strip k ≡ true
      → k ≡ pick (is_right operation) hi (lo - 1)
  the_end_is_one operation k in_range_lem end = go (is_right operation) in_range_lem (eqb-true _ _ each.0) (eqb-false _ _ (not-true _ each.1))
    where
      each : (eqb (value_at strip k) (own_null operation) ≡ true)
          × (not (eqb (value_at strip (neighbour operation k)) (own_null operation)) ≡ true)
      each = both _ _ end

      go : (right : Bool) → pick right (leb 1 k && leb k (max + 1)) (leb k max) ≡ true → value_at strip k ≡ own right
          → (value_at strip (near right k) ≡ own right → ⊥) → k ≡ pick right hi (lo - 1)
      go true r mine other =
          let high : k ≤ max + 1 = leb-true _ _ (both (leb 1 k) (leb k (max + 1)) r).1 in
          let low : 1 ≤ k = leb-true _ _ (both (leb 1 k) (leb k (max + 1)) r).0 in
          let no_lower : k < hi → ⊥ = λ h. before_right strip lo hi b k h mine in
          let no-higher : hi < k → ⊥ = λ h. other (b.rights (k - 1) (omega arith) (omega (arith, within))) in
          omega arith
      go false r mine other =
          let high : k ≤ max = leb-true _ _ r in
          let no-higher : lo ≤ k → ⊥ = λ h. past_left strip lo hi b k h (omega (arith, within)) mine in
          let no_lower : k + 1 < lo → ⊥ = λ h. other (b.lefts (k + 1) h) in
          omega arith

-- The same by the plain strip that the words stand for: find right gives the place after the orders, find left the place before.
pub find_by_the_plain_strip : (strip : List ℕ) (p : Plain) → strip_fits (length strip) ≡ true → StandsFor strip p
    → (find_of 0 strip ≡ Ok (p.left + 1 + length p.orders)) × (find_of 2 strip ≡ Ok p.left)
find_by_the_plain_strip strip p fits stands =
    let b = stands_for_bounds strip p stands in
    let left : p.left + 1 - 1 ≡ p.left = omega arith in
    (find_right_on_a_shape strip _ _ b fits, find_left_on_a_shape strip _ _ b fits ∙ ap Ok left)
