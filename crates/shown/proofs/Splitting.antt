-- A text that is cut at a byte: where the byte does not stand, nothing is cut.
use Prim.Native.Nat.{ℕ, zero, suc, ◌+◌, ◌/◌, ◌%◌, ◌<◌}
use mathlib.Core.Path.{◌≡◌, refl, ◌∙◌}
use mathlib.Core.Bool.{Bool, true, false, not, ◌&&◌}
use mathlib.Core.List.{List, [], ◌∷◌, ◌++◌}
use lib.Dec.{eqb, ltb}
use borrow.Author.Tests.{eq-eqb, ne_eqb, not-true}
use native.Mathlib.Omega.{arith}
use Rattle.logic.proofs.Bools.{both, whichever}
use Rattle.text.specs.Text.{digits_of, decimal}
use Rattle.shown.specs.Shown.{split}

-- the byte stands nowhere in the text
unfoldable pub lacks : (at : ℕ) (text : List ℕ) → Bool
lacks at [] = true
lacks at (byte ∷ text) = not (eqb byte at) && lacks at text

all_three : (a b c : Bool) → a && (b && c) ≡ a && b && c
all_three true b c = refl
all_three false b c = refl

module _ (at : ℕ) where
  pub lacks_both : (a b : List ℕ) → lacks at (a ++ b) ≡ lacks at a && lacks at b
  unfolding lacks
  lacks_both [] b = refl
  lacks_both (x ∷ a) b = rw (lacks_both a b) (all_three (not (eqb x at)) (lacks at a) (lacks at b))

  -- a digit is 48 or more
  pub digits_lack : at < 48 → (most number : ℕ) → lacks at (digits_of most number) ≡ true
  unfolding digits_of lacks
  digits_lack below zero number = rw (ne_eqb (48 + number % 10) at (λ e. omega arith)) refl
  digits_lack below (suc most) number =
      whichever (λ (text : List ℕ). lacks at text ≡ true) (ltb number 10) (rw (ne_eqb (48 + number) at (λ e. omega arith)) refl)
      (lacks_both (digits_of most (number / 10)) ((48 + number % 10) ∷ [])
      ∙ rw (digits_lack below most (number / 10), ne_eqb (48 + number % 10) at (λ e. omega arith)) refl)

  -- What stands in front of the first byte `at` is the first piece.
  pub first_piece : (a b : List ℕ) → lacks at a ≡ true → split at (a ++ (at ∷ b)) ≡ a ∷ split at b
  unfolding split lacks
  first_piece [] b e = rw (eq-eqb at at refl) refl
  first_piece (x ∷ a) b e =
      let each = both (not (eqb x at)) (lacks at a) e in
      rw (not-true (eqb x at) each.0, first_piece a b each.1) refl

  -- A text without it is one piece.
  pub only_piece : (a : List ℕ) → lacks at a ≡ true → split at a ≡ a ∷ []
  unfolding split lacks
  only_piece [] e = refl
  only_piece (x ∷ a) e =
      let each = both (not (eqb x at)) (lacks at a) e in
      rw (not-true (eqb x at) each.0, only_piece a each.1) refl

  pub number_first : at < 48 → (number : ℕ) (rest : List ℕ) → split at (decimal number ++ (at ∷ rest)) ≡ decimal number ∷ split at rest
  number_first below number rest = first_piece (decimal number) rest (digits_lack below 9 number)
