-- The values of a plain strip with one of them set, at an end: an order that is added, or a null over the end order.
use Prim.Native.Nat.{ℕ, suc, ◌+◌, ◌-◌, ◌≤◌}
use mathlib.Core.Path.{◌≡◌, sym, ◌∙◌, ap}
use mathlib.Core.List.{List, [], ◌∷◌, ◌++◌, append_assoc}
use lib.ListN.{length, get_or, set, take, drop, replicate, length-append, length-replicate, length-take, replicate-append-replicate}
use lib.Seq.{set_at, take-suc, take_all, drop-cons}
use native.Mathlib.Numerals.{add-one}
use native.Mathlib.Omega.{arith}
use Rattle.word.specs.Word.{LN, RN}
use Rattle.plain.specs.Plain.{Plain}
use Rattle.strip.specs.Shape.{values_of}

-- nulls, one more at the back
more : (n null : ℕ) → replicate (n + 1) null ≡ replicate n null ++ (null ∷ [])
more n null = sym (replicate-append-replicate n 1 null)

-- one value set where it stands
set_one : {values : List ℕ} (front : List ℕ) (old : ℕ) (back : List ℕ) (new place : ℕ) → values ≡ front ++ old ∷ back
    → length front ≡ place → set values place new ≡ front ++ new ∷ back
set_one front old back new place split at = ap (λ (l : List ℕ). set l place new) split ∙ set_at front old back new place at

module _ (p : Plain) where
  abbrev lefts : ℕ → List ℕ
  lefts n = replicate n LN

  abbrev rights : ℕ → List ℕ
  rights n = replicate n RN

  abbrev held : List ℕ
  held = p.orders

  pub added_right : (order : ℕ) → 1 ≤ p.right
      → set (values_of p) (p.left + 1 + length held) order
      ≡ values_of (record { left = p.left; orders = held ++ (order ∷ []); right = p.right - 1 })
  added_right order some =
      let spare : p.right + 1 ≡ suc (p.right - 1 + 1) = omega arith in
      let split : values_of p ≡ lefts (p.left + 1) ++ held ++ RN ∷ rights (p.right - 1 + 1) = rw spare in
      let place : length (lefts (p.left + 1) ++ held) ≡ p.left + 1 + length held = simp (length-append, length-replicate) in
      set_one (lefts (p.left + 1) ++ held) RN (rights (p.right - 1 + 1)) order _ split place ∙ simp append_assoc

  pub added_left : (order : ℕ) → 1 ≤ p.left
      → set (values_of p) p.left order ≡ values_of (record { left = p.left - 1; orders = order ∷ held; right = p.right })
  added_left order some =
      let spare : p.left + 1 ≡ p.left - 1 + 1 + 1 = omega arith in
      let split : values_of p ≡ lefts (p.left - 1 + 1) ++ LN ∷ (held ++ rights (p.right + 1)) =
      rw (spare, more (p.left - 1 + 1) LN) (simp append_assoc) in
      let place : length (lefts (p.left - 1 + 1)) ≡ p.left = simp length-replicate (omega arith) in
      set_one (lefts (p.left - 1 + 1)) LN (held ++ rights (p.right + 1)) order _ split place ∙ simp append_assoc

  pub removed_right : 1 ≤ length held
      → set (values_of p) (p.left + length held) RN
      ≡ values_of (record { left = p.left; orders = take (length held - 1) held; right = p.right + 1 })
  removed_right some =
      let kept = take (length held - 1) held in
      let last = get_or held (length held - 1) 0 in
      let all : held ≡ kept ++ (last ∷ []) =
      sym (take_all (suc (length held - 1)) held (omega arith)) ∙ take-suc held (length held - 1) 0 (omega arith) in
      let split : values_of p ≡ lefts (p.left + 1) ++ kept ++ last ∷ rights (p.right + 1) =
      ap (λ (l : List ℕ). lefts (p.left + 1) ++ l ++ rights (p.right + 1)) all ∙ simp append_assoc in
      let place : length (lefts (p.left + 1) ++ kept) ≡ p.left + length held =
      simp (length-append, length-replicate, length-take) (omega arith) in
      set_one (lefts (p.left + 1) ++ kept) last (rights (p.right + 1)) RN _ split place
      ∙ ap (λ (n : ℕ). lefts (p.left + 1) ++ kept ++ rights n) (sym (add-one (p.right + 1)))

  pub removed_left : 1 ≤ length held
      → set (values_of p) (p.left + 1) LN ≡ values_of (record { left = p.left + 1; orders = drop 1 held; right = p.right })
  removed_left some =
      let kept = drop 1 held in
      let split : values_of p ≡ lefts (p.left + 1) ++ get_or held 0 0 ∷ (kept ++ rights (p.right + 1)) =
      ap (λ (l : List ℕ). lefts (p.left + 1) ++ l ++ rights (p.right + 1)) (drop-cons held 0 0 some) ∙ simp append_assoc in
      set_one (lefts (p.left + 1)) (get_or held 0 0) (kept ++ rights (p.right + 1)) LN _ split (length-replicate (p.left + 1) LN)
      ∙ rw (more (p.left + 1) LN) (simp append_assoc)
