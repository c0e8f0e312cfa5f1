-- What the number of a step that was taken tells of its record: the operation goes on, to stage 2 from 1 alone and to stage 3 from 2
-- alone; or it ended, FULL from stage 2 and EMPTY from stage 3, and the record is idle.
use Prim.Native.Nat.{ℕ}
use mathlib.Core.Path.{◌≡◌, refl}
use mathlib.Core.Logic.{◌⊎◌, inl, inr}
use mathlib.Core.List.{List}
use native.Mathlib.Omega.{arith}
use Rattle.record.specs.Record.{idle}
use Rattle.party.specs.Answer.{number_of}
use Rattle.record.specs.declared.Record.{Record}
use Rattle.step.specs.Step.{step_of}
use Rattle.step.proofs.Went.{GoneOn}

pub data Stepped (r next : Record) (number : ℕ) : Type 0 where
  going_on : number ≡ 0 → next.operation ≡ r.operation → next.v ≡ r.v → (next.stage ≡ 2 → r.stage ≡ 1)
      → (next.stage ≡ 3 → r.stage ≡ 2) → Stepped r next number
  acting : (number ≡ 16) ⊎ (number ≡ 17) → next ≡ idle → Stepped r next number
  filling : number ≡ 18 → r.stage ≡ 2 → next ≡ idle → Stepped r next number
  emptying : number ≡ 19 → r.stage ≡ 3 → next ≡ idle → Stepped r next number

pub stepped : (strip : List ℕ) (r : Record) (hint : ℕ) → GoneOn strip r hint
    → Stepped r (step_of strip r hint).rec (number_of (step_of strip r hint).answer)
stepped strip r hint (GoneOn.remembers s gone) = rw gone.answered (going_on refl refl refl (λ to. omega arith) (λ to. omega arith))
stepped strip r hint (GoneOn.drops s d gone) = rw gone.answered (going_on refl refl refl (λ to. omega arith) (λ to. omega arith))
stepped strip r hint (GoneOn.fills s d w gone) = rw gone.answered (filling refl s refl)
stepped strip r hint (GoneOn.doubts s d f gone) = rw gone.answered (going_on refl refl refl (λ to. omega arith) (λ to. omega arith))
stepped strip r hint (GoneOn.readies s d w f gone) = rw gone.answered (going_on refl refl refl (λ to. omega arith) (λ to. omega arith))
stepped strip r hint (GoneOn.empties s e gone) = rw gone.answered (emptying refl s refl)
stepped strip r hint (GoneOn.rechecks s e gone) = rw gone.answered (going_on refl refl refl (λ to. omega arith) (λ to. omega arith))
stepped strip r hint (GoneOn.push_4 s p t gone) = rw gone.answered (going_on refl refl refl (λ to. omega arith) (λ to. omega arith))
stepped strip r hint (GoneOn.pop_4 s p t gone) = rw gone.answered (going_on refl refl refl (λ to. omega arith) (λ to. omega arith))
stepped strip r hint (GoneOn.push_5 s p t gone) = rw gone.answered (acting (inl refl) refl)
stepped strip r hint (GoneOn.pop_5 s p t gone) = rw gone.answered (acting (inr refl) refl)
stepped strip r hint (GoneOn.loses place from to then access other gone) = rw gone.answered (going_on refl refl refl (λ to. omega arith) (λ to. omega arith))
