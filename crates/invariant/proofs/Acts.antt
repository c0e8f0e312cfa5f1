-- The last swap of an operation at the end of its side does on the strip what the operation does on the plain strip.
use Prim.Native.Nat.{ℕ, ◌+◌, ◌-◌, ◌≤◌}
use mathlib.Core.Path.{◌≡◌, refl, ◌∙◌, ap₂}
use mathlib.Core.List.{List, [], ◌∷◌, map}
use lib.ListN.{length, set}
use native.Mathlib.Omega.{arith}
use Rattle.logic.specs.Every.{Every}
use Rattle.logic.proofs.Lists.{map_set, every_one, every_append, every_take, every_drop}
use Rattle.word.specs.Word.{value_of, LN, RN}
use Rattle.record.specs.declared.Record.{Record}
use Rattle.stages.specs.Stages.{near, own}
use Rattle.plain.specs.Plain.{Plain}
use Rattle.strip.specs.Shape.{values_of, IsOrder, StandsFor}
use Rattle.plain.specs.Play.{room, added, removed}
use Rattle.invariant.proofs.Ends.{AtEnd}
use Rattle.invariant.proofs.Values.{added_right, added_left, removed_right, removed_left}

module _ (strip : List ℕ) (p : Plain) (r : Record) (stands : StandsFor strip p) (end : AtEnd p r) (word : ℕ) where
  -- the values after one word was set
  values_set : (place : ℕ) {value : ℕ} → value_of word ≡ value → map value_of (set strip place word) ≡ set (values_of p) place value
  values_set place is = map_set value_of strip place word ∙ ap₂ (λ (l : List ℕ) (v : ℕ). set l place v) stands.values is

  pub pushed_stands : value_of word ≡ r.v → 3 ≤ r.v → 1 ≤ room r.operation p
      → StandsFor (set strip r.k word) (added r.operation r.v p)
  pushed_stands is order some = go end
    where
      one : Every IsOrder 3 (r.v ∷ [])
      one = every_one IsOrder 3 r.v order

      go : AtEnd p r → StandsFor (set strip r.k word) (added r.operation r.v p)
      go (AtEnd.right e f k n) =
          rw (e, k)
          (record {
            values = values_set _ is ∙ added_right p r.v (rw e at some);
            orders = every_append IsOrder 3 p.orders (r.v ∷ []) stands.orders one;
          })
      go (AtEnd.left e f k n) =
          rw (e, k)
          (record {
            values = values_set _ is ∙ added_left p r.v (rw e at some);
            orders = every_append IsOrder 3 (r.v ∷ []) p.orders one stands.orders;
          })

  pub popped_stands : value_of word ≡ own r → 1 ≤ length p.orders
      → StandsFor (set strip (near r) word) (removed r.operation p)
  popped_stands is some = go end
    where
      go : AtEnd p r → StandsFor (set strip (near r) word) (removed r.operation p)
      go (AtEnd.right e f k n) =
          let place : near r ≡ p.left + length p.orders = omega arith in
          let null : value_of word ≡ RN = is ∙ rw e refl in
          rw (place, e)
          (record {
            values = values_set _ null ∙ removed_right p some;
            orders = every_take IsOrder 3 (length p.orders - 1) p.orders stands.orders;
          })
      go (AtEnd.left e f k n) =
          let place : near r ≡ p.left + 1 = omega arith in
          let null : value_of word ≡ LN = is ∙ rw e refl in
          rw (place, e)
          (record {
            values = values_set _ null ∙ removed_left p some;
            orders = every_drop IsOrder 3 1 p.orders stands.orders;
          })
