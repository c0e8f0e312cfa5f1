-- The engine: a swap that wins raises the counter, so every word remembered of its place is stale from then on, for ever.
use Prim.Native.Nat.{ℕ, ◌≤◌, ◌<◌}
use mathlib.Core.Path.{◌≡◌, refl, sym, ◌∙◌}
use mathlib.Core.Bool.{Bool, true, false}
use mathlib.Core.List.{List}
use lib.ListN.{length, get_or, set}
use lib.Seq.{get_or-set_same, get_or-set_other}
use lib.Dec.{eqb}
use borrow.Author.Tests.{eqb-true, eqb-false}
use native.Mathlib.Omega.{arith}
use Rattle.logic.proofs.Lists.{at_set}
use Rattle.word.specs.Word.{counter_of, raised_to, value_at}
use Rattle.word.proofs.Laws.{raised_value}
use Rattle.swaps.specs.Remembered.{Remembered, Fresh, Known, Wins}

-- what a swap writes is above every word remembered of the one it takes the place of, and so none of them
raised_is_other : (word now to : ℕ) → Remembered word now → counter_of word < counter_of (raised_to now to)
raised_is_other word now to (Remembered.fresh e) = omega arith
raised_is_other word now to (Remembered.stale l) = omega arith

passed_is_other : (word now : ℕ) → counter_of word < counter_of now → now ≡ word → ⊥
passed_is_other word now l e = omega arith

-- a place after one word was set: that place, or another that is as it was
data After (words : List ℕ) (place word q : ℕ) : Type 0 where
  here : q ≡ place → get_or (set words place word) q 0 ≡ word → After words place word q
  there : (q ≡ place → ⊥) → get_or (set words place word) q 0 ≡ get_or words q 0 → After words place word q

after : (words : List ℕ) (place word q : ℕ) → place < length words → After words place word q
after words place word q within = go (eqb q place) refl
  where
    go : (same : Bool) → eqb q place ≡ same → After words place word q
    go true e = let at = eqb-true q place e in After.here at (rw at (get_or-set_same words place word 0 within))
    go false e = let off = eqb-false q place e in After.there off (get_or-set_other words place q word 0 off)

-- the value there after a swap
pub data ValueAfter (words : List ℕ) (place from to q : ℕ) : Type 0 where
  here : q ≡ place → value_at (set words place (raised_to from to)) q ≡ to → ValueAfter words place from to q
  there : (q ≡ place → ⊥) → value_at (set words place (raised_to from to)) q ≡ value_at words q → ValueAfter words place from to q

module _ {words : List ℕ} {place from : ℕ} (w : Wins words place from) (to : ℕ) where
  abbrev swapped : List ℕ
  swapped = set words place (raised_to from to)

  at : (q : ℕ) → After words place (raised_to from to) q
  at q = after words place (raised_to from to) q w.within

  -- a word remembered of the place is passed
  passes : (word q : ℕ) → q ≡ place → Known words q word → counter_of word < counter_of (raised_to from to)
  passes word q is known = raised_is_other word from to (rw (is, w.took.same) at known)

  -- Every remembered word stays remembered.
  pub remembered_kept : (word q : ℕ) → Known words q word → Known swapped q word
  remembered_kept word q known =
      at_set (Remembered word) 0 words place q (raised_to from to) (λ is. Remembered.stale (passes word q is known)) known

  -- One that is fresh after the swap is of another place, and was fresh before.
  pub fresh_elsewhere : (word q : ℕ) → Known words q word → Fresh swapped q word → (q ≡ place → ⊥) × Fresh words q word
  fresh_elsewhere word q known fresh = go (at q)
    where
      go : After words place (raised_to from to) q → (q ≡ place → ⊥) × Fresh words q word
      go (After.here is now) = absurd (passed_is_other word (raised_to from to) (passes word q is known) (sym now ∙ fresh))
      go (After.there off now) = (off, sym now ∙ fresh)

  -- The value at the place is the one written, and elsewhere what it was.
  pub value_after : to < 4294967296 → (q : ℕ) → ValueAfter words place from to q
  value_after fits q = go (at q)
    where
      go : After words place (raised_to from to) q → ValueAfter words place from to q
      go (After.here is now) = ValueAfter.here is (rw now (raised_value from to fits))
      go (After.there off now) = ValueAfter.there off (rw now refl)

  -- No counter falls.
  pub counter_kept : (q : ℕ) → counter_of (get_or words q 0) ≤ counter_of (get_or swapped q 0)
  counter_kept q =
      at_set (λ (now : ℕ). counter_of (get_or words q 0) ≤ counter_of now) 0 words place q (raised_to from to)
      (λ is. rw (is, w.took.same) (omega arith)) (omega arith)
