-- A number for each of a list, summed.
use Rattle.std.specs.Prelude.{ℕ, ◌+◌, List, [], ◌∷◌}

module _ {A : Type 0} (weight : A → ℕ) where
  unfoldable pub total : List A → ℕ
  total [] = 0
  total (a ∷ l) = weight a + total l
