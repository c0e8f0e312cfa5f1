-- The mirror of a word: its counter is kept, its nulls are exchanged, and nothing of it is lost.
use Prim.Native.Nat.{ℕ, zero, suc, ◌+◌, ◌<◌, ◌≤◌}
use mathlib.Core.Path.{◌≡◌, refl, sym, ◌∙◌, ap, ap₂}
use mathlib.Core.Bool.{Bool, true, false}
use lib.Dec.{eqb}
use borrow.Author.Tests.{eqb-true, eqb-false, eq-eqb, ne_eqb, le-ltb}
use native.Mathlib.Omega.{arith}
use Rattle.logic.specs.Pick.{pick}
use Rattle.logic.proofs.Bools.{whichever}
use Rattle.word.specs.Word.{value_of, counter_of, word_of, raised_to, LN, RN}
use Rattle.mirror.specs.Mirror.{mirror_value, mirror_word, mirror_operation}

value_below : (value : ℕ) → value < 4294967296 → mirror_value value < 4294967296
value_below value below =
    whichever (λ (m : ℕ). m < 4294967296) (eqb value LN) (omega arith)
    (whichever (λ (m : ℕ). m < 4294967296) (eqb value RN) (omega arith) below)

value_back : (value : ℕ) → mirror_value (mirror_value value) ≡ value
value_back value = go (eqb value LN) (eqb value RN) refl refl
  where
    go : (left right : Bool) → eqb value LN ≡ left → eqb value RN ≡ right → mirror_value (pick left RN (pick right LN value)) ≡ value
    go true right l r = sym (eqb-true value LN l)
    go false true l r = sym (eqb-true value RN r)
    go false false l r = simp (l, r)

value_is_RN : (value : ℕ) → eqb (mirror_value value) RN ≡ eqb value LN
value_is_RN value = go (eqb value LN) (eqb value RN) refl
  where
    go : (left right : Bool) → eqb value RN ≡ right → eqb (pick left RN (pick right LN value)) RN ≡ left
    go true right r = refl
    go false true r = refl
    go false false r = r

-- an order is its own mirror
pub order_stays : (order : ℕ) → 3 ≤ order → mirror_value order ≡ order
order_stays order above = simp (ne_eqb order LN (λ (e : order ≡ 0). omega arith), ne_eqb order RN (λ (e : order ≡ 1). omega arith))

pub mirror_value_lem : (word : ℕ) → value_of (mirror_word word) ≡ mirror_value (value_of word)
mirror_value_lem word = omega (arith, value_below (value_of word) (omega arith))

pub mirror_counter : (word : ℕ) → counter_of (mirror_word word) ≡ counter_of word
mirror_counter word = omega (arith, value_below (value_of word) (omega arith))

-- The mirror of the mirror is the word.
pub mirror_back : (word : ℕ) → mirror_word (mirror_word word) ≡ word
mirror_back word =
    let value = ap mirror_value (mirror_value_lem word) ∙ value_back (value_of word) in
    omega (arith, value, mirror_counter word)

-- so two words are equal exactly where their mirrors are
pub mirror_same : (a b : ℕ) → eqb (mirror_word a) (mirror_word b) ≡ eqb a b
mirror_same a b = go (eqb a b) refl
  where
    go : (same : Bool) → eqb a b ≡ same → eqb (mirror_word a) (mirror_word b) ≡ same
    go true e = eq-eqb _ _ (ap mirror_word (eqb-true a b e))
    go false e =
        ne_eqb _ _ (λ (m : mirror_word a ≡ mirror_word b).
        eqb-false a b e (sym (mirror_back a) ∙ ap mirror_word m ∙ mirror_back b))

-- RN stands where LN stood, and LN where RN stood
pub mirror_is_RN : (word : ℕ) → eqb (value_of (mirror_word word)) RN ≡ eqb (value_of word) LN
mirror_is_RN word = ap (λ (x : ℕ). eqb x RN) (mirror_value_lem word) ∙ value_is_RN (value_of word)

pub mirror_is_LN : (word : ℕ) → eqb (value_of (mirror_word word)) LN ≡ eqb (value_of word) RN
mirror_is_LN word = sym (mirror_is_RN (mirror_word word)) ∙ ap (λ (x : ℕ). eqb (value_of x) RN) (mirror_back word)

-- what a swap writes in the mirror is the mirror of what it writes
pub mirror_raised : (word to : ℕ) → to < 4294967296 → raised_to (mirror_word word) (mirror_value to) ≡ mirror_word (raised_to word to)
mirror_raised word to below =
    let counter : counter_of (mirror_word word) + 1 ≡ counter_of (raised_to word to) = omega (arith, mirror_counter word) in
    let value : to ≡ value_of (raised_to word to) = omega arith in
    ap₂ word_of counter (ap mirror_value value)

-- The mirror of the mirror is the operation.
pub operation_back : (operation : ℕ) → mirror_operation (mirror_operation operation) ≡ operation
operation_back zero = refl
operation_back (suc zero) = refl
operation_back (suc (suc zero)) = refl
operation_back (suc (suc (suc zero))) = refl
operation_back (suc (suc (suc (suc more)))) =
    let operation = suc (suc (suc (suc more))) in
    simp (le-ltb operation 2 (omega arith), le-ltb operation 4 (omega arith))
