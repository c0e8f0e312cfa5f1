-- A sane state after one swap, and after one record was set.
use Prim.Native.Nat.{ℕ, ◌≤◌, ◌<◌}
use mathlib.Core.List.{List}
use lib.ListN.{set}
use native.Mathlib.Omega.{arith}
use Rattle.logic.specs.Every.{Every}
use Rattle.logic.proofs.Lists.{every_set, pairs_set}
use Rattle.word.specs.Word.{raised_to}
use Rattle.swaps.specs.Remembered.{Wins}
use Rattle.record.specs.Record.{idle}
use Rattle.record.specs.declared.Record.{Record}
use Rattle.invariant.specs.Invariant.{Sound, Clear, Sane}
use Rattle.invariant.proofs.Others.{Spares, stays_sound, stay_clear}

module _ {strip : List ℕ} {table : List Record} (sane : Sane strip table) where
  -- one record set, that is clear of itself and of every other
  pub set_sane : (party : ℕ) {r : Record} → Sound strip r → Clear strip r r → Every (Clear strip r) idle table
      → Every (λ other. Clear strip other r) idle table → Sane strip (set table party r)
  set_sane party {r} sound self from to =
      record {
        sound = every_set (Sound strip) idle table party r sane.sound sound;
        apart = pairs_set (Clear strip) idle table party r sane.apart self from to;
      }

  -- one that is not at stage 5 has no claim
  pub set_early_sane : (party : ℕ) {r : Record} → Sound strip r → r.stage ≤ 4 → Sane strip (set table party r)
  set_early_sane party sound early =
      set_sane party sound (λ s. absurd (omega arith)) (λ i within s. absurd (omega arith)) (λ i within s t. absurd (omega arith))

  -- one swap won, that spares every record
  pub swap_sane : {place from : ℕ} (w : Wins strip place from) (to : ℕ) → to < 4294967296 → Every (Spares strip place to) idle table
      → Sane (set strip place (raised_to from to)) table
  swap_sane w to fits spares =
      record {
        sound = λ i within. stays_sound w to fits (sane.sound i within) (spares i within);
        apart = λ i j i-in j-in. stay_clear w to _ _ (sane.sound i i-in) (sane.sound j j-in) (sane.apart i j i-in j-in);
      }
