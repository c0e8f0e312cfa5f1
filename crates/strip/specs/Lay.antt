-- Laying a fresh strip: LN in 0..d and RN in d+1..MAX+1, all counters 0.
use Rattle.std.specs.Prelude.{ℕ, ◌+◌, ◌-◌, ◌≡◌, not, List, ◌++◌, length, replicate, leb}
use Rattle.std.specs.declared.result.Result.TheVariants.{Err}
use Rattle.logic.specs.Pick.{pick}
use Rattle.refusal.specs.declared.Refusal.TheVariants.{WrongSize, Outside}
use Rattle.refusal.specs.Refusal.{Check, passes, check_number, if_passes}
use Rattle.word.specs.Word.{word_of, LN, RN}
use Rattle.step.specs.Step.{strip_fits, max_of}

abbrev pub lefts_of : (divide : ℕ) → List ℕ
lefts_of divide = replicate (divide + 1) (word_of 0 LN)

abbrev pub rights_of : (max divide : ℕ) → List ℕ
rights_of max divide = replicate (max - divide + 1) (word_of 0 RN)

abbrev pub fresh_strip : (max divide : ℕ) → List ℕ
fresh_strip max divide = lefts_of divide ++ rights_of max divide

-- the divide is from 0 to MAX
unfoldable pub lay_refusal : (words divide : ℕ) → Check
lay_refusal words divide =
    pick (not (strip_fits words)) (Err WrongSize) (pick (not (leb divide (max_of words))) (Err Outside) passes)

unfoldable pub lay_leaves : (strip : List ℕ) (divide : ℕ) → List ℕ
lay_leaves strip divide = if_passes (lay_refusal (length strip) divide) (fresh_strip (max_of (length strip)) divide) strip

abbrev pub laid_number : Check → ℕ
laid_number got = check_number got

-- What lay promises: the answer and every word of the strip it was lent.
pub record LayPromise (strip : List ℕ) (divide : ℕ) (got : Check) (left : List ℕ) : Type 0 where
  pub gives : got ≡ lay_refusal (length strip) divide
  pub words : left ≡ lay_leaves strip divide
