-- A strip with every party idle is sane.
use Prim.Native.Nat.{ℕ}
use mathlib.Core.Path.{◌≡◌, subst}
use mathlib.Core.List.{List}
use lib.ListN.{replicate}
use native.Mathlib.Omega.{arith}
use Rattle.logic.proofs.Lists.{all_the_same}
use Rattle.record.specs.Record.{idle}
use Rattle.record.specs.declared.Record.{Record}
use Rattle.invariant.specs.Invariant.{Sane}
use Rattle.invariant.proofs.Moves.{idle_sound}

pub idle_is_sane : (strip : List ℕ) (parties : ℕ) → Sane strip (replicate parties idle)
idle_is_sane strip parties =
    record {
      sound = λ i within. rw (all_the_same parties i idle) (idle_sound strip);
      apart = λ i j i-in j-in five.
          let s : idle.stage ≡ 5 = subst (λ (r : Record). r.stage ≡ 5) (all_the_same parties i idle) five in
          absurd (omega arith);
    }
