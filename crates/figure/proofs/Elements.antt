-- Words as the figure's elements: nothing of a word is lost, and reading and writing agree.
use Prim.Native.Nat.{ℕ, ◌+◌, ◌<◌}
use mathlib.Core.Path.{◌≡◌, refl, ap, ap₂}
use mathlib.Core.Bool.{Bool, true, false, ◌&&◌}
use mathlib.Core.List.{List, [], ◌∷◌}
use lib.ListN.{get_or, set, get_or-map}
use lib.Dec.{eqb}
use borrow.Author.Tests.{eqb-true, eqb-false}
use native.Mathlib.Omega.{arith}
use Prim.Native.Nat.{zero, suc}
use Rattle.word.specs.Word.{value_of, counter_of, raised_to}
use Rattle.figure.specs.Figure.{Element, element, same, ◌at◌}
use Rattle.figure.specs.Reading.{element_of, elements}

-- whole words are equal exactly where their elements are
pub same_is_whole : (met from : ℕ) → same (element_of met) (element_of from) ≡ eqb met from
same_is_whole met from = go (eqb met from) (eqb (value_of met) (value_of from)) (eqb (counter_of met) (counter_of from)) refl refl refl
  where
    go : (whole val ctr : Bool) → eqb met from ≡ whole → eqb (value_of met) (value_of from) ≡ val
        → eqb (counter_of met) (counter_of from) ≡ ctr → val && ctr ≡ whole
    go true true true w v c = refl
    go true true false w v c = absurd (eqb-false _ _ c (ap counter_of (eqb-true met from w)))
    go true false ctr w v c = absurd (eqb-false _ _ v (ap value_of (eqb-true met from w)))
    go false true true w v c = absurd (eqb-false met from w (omega (arith, eqb-true (value_of met) (value_of from) v, eqb-true (counter_of met) (counter_of from) c)))
    go false true false w v c = refl
    go false false ctr w v c = refl

-- A[i] is the element of the word there
pub element_at : (strip : List ℕ) (i : ℕ) → elements strip at i ≡ element_of (get_or strip i 0)
element_at strip i = get_or-map element_of strip i 0

-- what a swap that wins writes is <to, ctr+1>
pub element_raised : (word to : ℕ) → to < 4294967296 → element_of (raised_to word to) ≡ element to (counter_of word + 1)
element_raised word to fits = ap₂ element (omega arith) (omega arith)

pub elements_set : (strip : List ℕ) (i word : ℕ) → elements (set strip i word) ≡ set (elements strip) i (element_of word)
elements_set [] i word = refl
elements_set (w ∷ strip) zero word = refl
elements_set (w ∷ strip) (suc i) word = ap (λ (l : List Element). element_of w ∷ l) (elements_set strip i word)
