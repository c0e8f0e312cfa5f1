-- Lists after one element was set, put together or cut, and lists of one or of the same.
use Prim.Native.Nat.{ℕ, zero, suc, ◌+◌, ◌<◌}
use mathlib.Core.Path.{◌≡◌, refl, ap, subst}
use mathlib.Core.Bool.{Bool, true, false}
use mathlib.Core.List.{List, [], ◌∷◌, ◌++◌, map}
use lib.ListN.{length, get_or, set, take, drop, replicate, length-set, length-take, length-drop}
use lib.Seq.{get_or-set_same, get_or-set_other, set_out, get_or-take, get_or-drop}
use lib.Dec.{eqb, ltb}
use borrow.Author.Tests.{eqb-true, eqb-false, ltb-true, ltb-false}
use native.Mathlib.Omega.{arith}
use Rattle.logic.specs.Every.{Every, Pairs}
use Rattle.logic.specs.Total.{total}

-- An element after one was set is the new one, or what it was.
pub at_set : {A : Type 0} (P : A → Type 0) (past : A) (l : List A) (j i : ℕ) (a : A)
    → (i ≡ j → P a) → P (get_or l i past) → P (get_or (set l j a) i past)
at_set P past l j i a new old = go (eqb i j) (ltb j (length l)) refl refl
  where
    go : (same within : Bool) → eqb i j ≡ same → ltb j (length l) ≡ within → P (get_or (set l j a) i past)
    go true true e f = let at = eqb-true i j e in rw (at, get_or-set_same l j a past (ltb-true j (length l) f)) (new at)
    go true false e f = rw (set_out l j a (ltb-false j (length l) f)) old
    go false within e f = rw (get_or-set_other l j i a past (eqb-false i j e)) old

-- What held of every element, and holds of the one that was set, holds of every element.
pub every_set : {A : Type 0} (P : A → Type 0) (past : A) (l : List A) (j : ℕ) (a : A)
    → Every P past l → P a → Every P past (set l j a)
every_set P past l j a every new i within =
    at_set P past l j i a (λ at. new) (every i (subst (λ (n : ℕ). i < n) (length-set l j a) within))

-- What held of every two elements, and holds of the one that was set with itself and with each, both ways round, holds of every
-- two.
pub pairs_set : {A : Type 0} (R : A → A → Type 0) (past : A) (l : List A) (j : ℕ) (a : A)
    → Pairs R past l → R a a → Every (R a) past l → Every (λ b. R b a) past l → Pairs R past (set l j a)
pairs_set R past l j a pairs self from to x y x-in y-in =
    every_set (λ b. R b (get_or (set l j a) y past)) past l j a
    (λ i within. every_set (R (get_or l i past)) past l j a (λ k inside. pairs i k within inside) (to i within) y y-in)
    (every_set (R a) past l j a from self y y-in)
    x x-in

-- The images of a list with one element set.
pub map_set : {A B : Type 0} (f : A → B) (l : List A) (j : ℕ) (a : A) → map f (set l j a) ≡ set (map f l) j (f a)
map_set f [] j a = refl
map_set f (x ∷ l) zero a = refl
map_set {B = B} f (x ∷ l) (suc j) a = ap (λ (rest : List B). f x ∷ rest) (map_set f l j a)

-- A list of one, and a list of the same.
pub every_one : {A : Type 0} (P : A → Type 0) (past a : A) → P a → Every P past (a ∷ [])
every_one P past a holds zero within = holds
every_one P past a holds (suc i) within = absurd (omega arith)

pub all_the_same : {A : Type 0} (n i : ℕ) (a : A) → get_or (replicate n a) i a ≡ a
all_the_same zero i a = refl
all_the_same (suc n) zero a = refl
all_the_same (suc n) (suc i) a = all_the_same n i a

-- What holds of every element of two lists holds of every element of the two together, and of every part of one.
pub every_append : {A : Type 0} (P : A → Type 0) (past : A) (l m : List A) → Every P past l → Every P past m → Every P past (l ++ m)
every_append P past [] m first second i within = second i within
every_append P past (x ∷ l) m first second zero within = first zero (omega arith)
every_append P past (x ∷ l) m first second (suc i) within =
    every_append P past l m (λ j inside. first (suc j) (omega arith)) second i (omega arith)

pub every_take : {A : Type 0} (P : A → Type 0) (past : A) (n : ℕ) (l : List A) → Every P past l → Every P past (take n l)
every_take P past n l every i within =
    let short = length-take n l in
    rw (get_or-take n l i past (omega arith)) (every i (omega arith))

pub every_drop : {A : Type 0} (P : A → Type 0) (past : A) (n : ℕ) (l : List A) → Every P past l → Every P past (drop n l)
every_drop P past n l every i within =
    let short = length-drop n l in
    rw (get_or-drop n l i past) (every (n + i) (omega arith))

-- What is summed over two lists together is the sum of both.
pub total_of_both : {A : Type 0} (weight : A → ℕ) (l m : List A) → total weight (l ++ m) ≡ total weight l + total weight m
unfolding total
total_of_both weight [] m = omega arith
total_of_both weight (a ∷ l) m = omega (arith, total_of_both weight l m)
