-- What the answer of a swap tells of the word it met, and what it wrote.
use Prim.Native.Nat.{ℕ, ◌<◌}
use mathlib.Core.Path.{◌≡◌, refl}
use mathlib.Core.Bool.{Bool, true, false}
use lib.Dec.{eqb}
use borrow.Author.Tests.{eqb-true, eqb-false}
use native.Mathlib.Omega.{arith}
use Rattle.word.specs.Word.{IsWord, value_of, counter_of, word_of, last_counter, raised_to}
use Rattle.word.specs.Swap.{swap_of, Took}
use Rattle.word.specs.declared.Swapped.TheVariants.{Won, Lost, Stuck}

-- The three ways a swap goes, each with what it tells.
pub data SwapGoes (met from : ℕ) : Type 0 where
  won : Took met from → swap_of met from ≡ Won → SwapGoes met from
  lost : (met ≡ from → ⊥) → swap_of met from ≡ Lost met → SwapGoes met from
  stuck : met ≡ from → counter_of from ≡ last_counter → swap_of met from ≡ Stuck → SwapGoes met from

pub swap_goes : (met from : ℕ) → SwapGoes met from
swap_goes met from = go (eqb met from) (eqb (counter_of from) last_counter) refl refl
  where
    go : (whole ended : Bool) → eqb met from ≡ whole → eqb (counter_of from) last_counter ≡ ended → SwapGoes met from
    go true true e f = stuck (eqb-true _ _ e) (eqb-true _ _ f) (simp (e, f))
    go true false e f = won (record { same = eqb-true _ _ e; unended = eqb-false _ _ f }) (simp (e, f))
    go false ended e f = lost (eqb-false _ _ e) (simp e)

pub won_tells : (met from : ℕ) → swap_of met from ≡ Won → Took met from
won_tells met from is = go (swap_goes met from)
  where
    go : SwapGoes met from → Took met from
    go (SwapGoes.won took e) = took
    go (SwapGoes.lost other e) = let z : ◌≡◌ {A = ℕ} 0 1 = cc in absurd (omega arith)
    go (SwapGoes.stuck same ended e) = let z : ◌≡◌ {A = ℕ} 0 1 = cc in absurd (omega arith)

-- A word is its counter and its value, and no more.
pub word_is_its_parts : (w : ℕ) → word_of (counter_of w) (value_of w) ≡ w
word_is_its_parts w = omega arith

-- What a swap writes has the value that it was to write, and is a word.
pub raised_value : (from to : ℕ) → to < 4294967296 → value_of (raised_to from to) ≡ to
raised_value from to fits = omega arith

pub raised_is_word : (met from to : ℕ) → Took met from → IsWord from → to < 4294967296 → IsWord (raised_to from to)
raised_is_word met from to took word fits = omega (arith, took.unended)
