-- What is known of values stays known after a swap that won, if what it writes keeps it.
use Prim.Native.Nat.{ℕ, ◌<◌}
use mathlib.Core.Path.{◌≡◌, refl, sym, ◌∙◌, ap, subst}
use mathlib.Core.List.{List, map}
use lib.ListN.{set}
use lib.Seq.{map-set_same}
use Rattle.word.specs.Word.{value_of, raised_to, value_at}
use Rattle.word.proofs.Laws.{raised_value}
use Rattle.swaps.specs.Remembered.{Fresh, Known, Wins}
use Rattle.swaps.proofs.Stale.{ValueAfter, fresh_elsewhere, value_after}

-- what holds of the value at a place holds of the same value written there
pub spared : (words : List ℕ) (place to : ℕ) → value_at words place ≡ to → (P : ℕ → Type 0) (q : ℕ) → P (value_at words q)
    → q ≡ place → P to
spared words place to same P q old at = subst P (ap (value_at words) at ∙ same) old

module _ {words : List ℕ} {place from : ℕ} (w : Wins words place from) (to : ℕ) (fits : to < 4294967296) where
  abbrev swapped : List ℕ
  swapped = set words place (raised_to from to)

  -- a fact about the value at one place
  pub fact_kept : (P : ℕ → Type 0) (q : ℕ) → P (value_at words q) → (q ≡ place → P to) → P (value_at swapped q)
  fact_kept P q old new = go (value_after w to fits q)
    where
      go : ValueAfter words place from to q → P (value_at swapped q)
      go (ValueAfter.here at is) = subst P (sym is) (new at)
      go (ValueAfter.there off is) = subst P (sym is) old

  -- what a word, fresh in its place, gives of the value at another place
  pub given_kept : (P : ℕ → Type 0) (word t q : ℕ) → Known words t word → (Fresh words t word → P (value_at words q))
      → (Fresh words t word → q ≡ place → P to) → Fresh swapped t word → P (value_at swapped q)
  given_kept P word t q known given keeps fresh =
      let was = (fresh_elsewhere w to word t known fresh).1 in
      fact_kept P q (given was) (keeps was)

  -- A swap that writes the value that stood there alters no value, and so keeps whatever a fresh word gives.
  module _ (same : value_at words place ≡ to) where
    pub values_kept : map value_of swapped ≡ map value_of words
    values_kept = map-set_same value_of words place (raised_to from to) 0 (raised_value from to fits ∙ sym same)

    pub value_kept : (q : ℕ) → value_at swapped q ≡ value_at words q
    value_kept q =
        fact_kept (λ (v : ℕ). v ≡ value_at words q) q refl (spared words place to same (λ (v : ℕ). v ≡ value_at words q) q refl)

    pub given_kept_by_same_value : (P : ℕ → Type 0) (word t q : ℕ) → Known words t word → (Fresh words t word → P (value_at words q))
        → Fresh swapped t word → P (value_at swapped q)
    given_kept_by_same_value P word t q known given =
        given_kept P word t q known given (λ was. spared words place to same P q (given was))
