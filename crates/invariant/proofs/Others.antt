-- What a swap that wins leaves to every record: sound ones stay sound, and two that were clear of each other stay clear.
use Prim.Native.Nat.{ℕ, ◌<◌}
use mathlib.Core.Path.{◌≡◌, refl, ◌∙◌, ap}
use mathlib.Core.Bool.{Bool, true, false}
use mathlib.Core.List.{List}
use lib.ListN.{set, length-set}
use native.Mathlib.Omega.{arith}
use Rattle.word.specs.Word.{raised_to, value_at}
use Rattle.swaps.specs.Remembered.{Known, Wins}
use Rattle.swaps.proofs.Stale.{remembered_kept, fresh_elsewhere}
use Rattle.swaps.proofs.Facts.{given_kept, spared}
use Rattle.swaps.proofs.Claims.{apart_kept}
use Rattle.record.specs.Operation.{is_push}
use Rattle.record.specs.Valid.{valid_of}
use Rattle.record.specs.declared.Record.{Record}
use Rattle.stages.specs.Stages.{near, own}
use Rattle.step.specs.Step.{max_of}
use Rattle.invariant.specs.Invariant.{FreshFirst, FreshSecond, Sound, claim_of, Clear}

-- the claim of a record at stage 5 is on a word that it remembers
pub claim_known : {strip : List ℕ} {r : Record} → Sound strip r → r.stage ≡ 5 → Known strip (claim_of r).target (claim_of r).word
claim_known {strip} {r} sound s = go (is_push r.operation) refl
  where
    go : (push : Bool) → is_push r.operation ≡ push → Known strip (claim_of r).target (claim_of r).word
    go true e = rw e (sound.second_known (omega arith))
    go false e = rw e (sound.first_known (omega arith))

-- what a swap must not do to a record at stage 5: write own null behind a push, or anything else ahead of a pop
pub record Spares (strip : List ℕ) (place to : ℕ) (r : Record) : Type 0 where
  pub push : r.stage ≡ 5 → is_push r.operation ≡ true → FreshSecond strip r → near r ≡ place → to ≡ own r → ⊥
  pub pop : r.stage ≡ 5 → is_push r.operation ≡ false → FreshFirst strip r → r.k ≡ place → to ≡ own r

-- one that changes no value spares every sound record
pub same_value_spares : {strip : List ℕ} (place : ℕ) {to : ℕ} → value_at strip place ≡ to → {r : Record} → Sound strip r
    → Spares strip place to r
same_value_spares {strip} place {to} same {r} sound =
    record {
      push = λ s p fresh. spared strip place to same (λ (v : ℕ). v ≡ own r → ⊥) (near r) (sound.push_behind s p fresh);
      pop = λ s p fresh. spared strip place to same (λ (v : ℕ). v ≡ own r) r.k (sound.pop_ahead s p fresh);
    }

module _ {strip : List ℕ} {place from : ℕ} (w : Wins strip place from) (to : ℕ) where
  abbrev swapped : List ℕ
  swapped = set strip place (raised_to from to)

  pub stays_sound : to < 4294967296 → {r : Record} → Sound strip r → Spares strip place to r → Sound swapped r
  stays_sound fits {r} sound spares =
      record {
        valid = ap (λ (n : ℕ). valid_of (max_of n) r) (length-set strip place (raised_to from to)) ∙ sound.valid;
        order_fits = sound.order_fits;
        first_known = λ s. remembered_kept w to r.first (near r) (sound.first_known s);
        second_known = λ s. remembered_kept w to r.second r.k (sound.second_known s);
        first_not_own = sound.first_not_own;
        second_own = sound.second_own;
        pop_not_far = λ s pop fresh.
            sound.pop_not_far s pop (fresh_elsewhere w to r.first (near r) (sound.first_known (omega arith)) fresh).1;
        push_behind = λ s push.
            given_kept w to fits (λ (v : ℕ). v ≡ own r → ⊥) r.second r.k (near r) (sound.second_known (omega arith))
            (sound.push_behind s push) (spares.push s push);
        pop_ahead = λ s pop.
            given_kept w to fits (λ (v : ℕ). v ≡ own r) r.first (near r) r.k (sound.first_known (omega arith))
            (sound.pop_ahead s pop) (spares.pop s pop);
      }

  pub stay_clear : (a b : Record) → Sound strip a → Sound strip b → Clear strip a b → Clear swapped a b
  stay_clear a b one two clear s t =
      apart_kept w to (claim_of a) (claim_of b) (claim_known one s) (claim_known two t) (clear s t)
