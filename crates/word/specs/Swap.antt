-- The second access: a swap of one place from a whole word to a value.
use Rattle.std.specs.Prelude.{ℕ, ◌≡◌, List, get_or, set, eqb}
use Rattle.logic.specs.Pick.{pick}
use Rattle.word.specs.Word.{counter_of, last_counter, raised_to}
use Rattle.word.specs.declared.Swapped.{Swapped}
use Rattle.word.specs.declared.Swapped.TheVariants.{Won, Lost, Stuck}

-- A swap wins only if the whole word equals the one expected, and not if that one's counter is at its end.
abbrev pub swap_of : (met from : ℕ) → Swapped
swap_of met from = pick (eqb met from) (pick (eqb (counter_of from) last_counter) Stuck Won) (Lost met)

-- A swap that won met the word it expected, and that word's counter was not at its end.
pub record Took (met from : ℕ) : Type 0 where
  pub same : met ≡ from
  pub unended : counter_of from ≡ last_counter → ⊥

-- Only a swap that won writes.
abbrev pub words_after : Swapped → (strip : List ℕ) (place word : ℕ) → List ℕ
words_after Won strip place word = set strip place word
words_after (Lost met) strip place word = strip
words_after Stuck strip place word = strip

-- What swap promises: its answer, and every word of the strip it was lent.
pub record SwapPromise (strip : List ℕ) (place from to : ℕ) (answer : Swapped) (left : List ℕ) : Type 0 where
  pub answered : answer ≡ swap_of (get_or strip place 0) from
  pub words : left ≡ words_after (swap_of (get_or strip place 0) from) strip place (raised_to from to)
