-- Which numbers of document 01's table are refusals.
use Rattle.std.specs.Prelude.{ℕ, List, [], ◌∷◌, ◌++◌, map}
use Rattle.logic.specs.Pick.{pick}
use Rattle.party.specs.Answer.{is_refusal}
use Rattle.conventions.specs.Case.{Case, ◌is◌}

abbrev pub as_flag : (number : ℕ) → ℕ
as_flag number = pick (is_refusal number) 1 0

abbrev pub numbers : List Case
numbers =
    map (λ (number : ℕ). as_flag number is 1) (1 ∷ 2 ∷ 11 ∷ 3 ∷ 4 ∷ 5 ∷ 6 ∷ 7 ∷ 8 ∷ 9 ∷ 10 ∷ 12 ∷ [])
    ++ map (λ (number : ℕ). as_flag number is 0) (0 ∷ 16 ∷ 17 ∷ 18 ∷ 19 ∷ [])
