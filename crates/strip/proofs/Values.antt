-- The values of a plain strip, place by place.
use Prim.Native.Nat.{ℕ, zero, suc, ◌+◌, ◌-◌, ◌≤◌, ◌<◌}
use mathlib.Core.Path.{◌≡◌, refl, ap, ◌∙◌}
use mathlib.Core.List.{List, ◌∷◌, ◌++◌, append-nil, map}
use lib.ListN.{length, get_or, replicate, length-append, length-replicate, get_or-replicate, get_or-append}
use lib.Seq.{get_or-append_right}
use native.Mathlib.Omega.{arith}
use Rattle.std.proofs.lemmas.List.{map-append}
use Rattle.word.specs.Word.{LN, RN}
use Rattle.plain.specs.Plain.{Plain, places_of, fresh_plain}
use Rattle.strip.specs.Shape.{values_of, StandsFor}
use Rattle.strip.specs.Lay.{fresh_strip}

module _ (p : Plain) where
  abbrev lo : ℕ
  lo = p.left + 1

  abbrev hi : ℕ
  hi = lo + length p.orders

  abbrev front : List ℕ
  front = replicate (p.left + 1) LN ++ p.orders

  front_length : length front ≡ hi
  front_length = simp (length-append, length-replicate)

  pub values_length : length (values_of p) ≡ places_of p + 2
  values_length = simp (length-append, length-replicate) (omega arith)

  pub values_left : (i : ℕ) → i < lo → get_or (values_of p) i 0 ≡ LN
  values_left i h =
      get_or-append front (replicate (p.right + 1) RN) 0 i (omega (arith, front_length))
      ∙ get_or-append (replicate lo LN) p.orders 0 i (omega (arith, length-replicate {A = ℕ} lo LN))
      ∙ get_or-replicate lo i LN 0 h

  pub values_between : (i : ℕ) → lo ≤ i → i < hi → get_or (values_of p) i 0 ≡ get_or p.orders (i - lo) 0
  values_between i l h =
      get_or-append front (replicate (p.right + 1) RN) 0 i (omega (arith, front_length))
      ∙ get_or-append_right (replicate lo LN) p.orders i 0 (omega (arith, length-replicate {A = ℕ} lo LN))
      ∙ ap (λ (n : ℕ). get_or p.orders (i - n) 0) (length-replicate lo LN)

  pub values_right : (i : ℕ) → hi ≤ i → i < places_of p + 2 → get_or (values_of p) i 0 ≡ RN
  values_right i l h =
      get_or-append_right front (replicate (p.right + 1) RN) i 0 (omega (arith, front_length))
      ∙ get_or-replicate (p.right + 1) (i - length front) RN 0 (omega (arith, front_length))

map_replicate : (f : ℕ → ℕ) (n a : ℕ) → map f (replicate n a) ≡ replicate n (f a)
map_replicate f zero a = refl
map_replicate f (suc n) a = ap (λ (rest : List ℕ). f a ∷ rest) (map_replicate f n a)

-- A fresh strip with divide d stands for L = d, no orders, R = MAX − d.
pub fresh_stands_for : (max divide : ℕ) → StandsFor (fresh_strip max divide) (fresh_plain max divide)
fresh_stands_for max divide =
    record { values = simp (map-append, map_replicate, append-nil); orders = λ i h. absurd (omega arith) }
