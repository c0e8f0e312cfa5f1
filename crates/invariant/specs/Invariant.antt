-- No public promise speaks of this file, nor does demand 3's theorem: the proof goes by it. What every reachable state keeps, of each
-- record on its strip and of every two.
use Rattle.std.specs.Prelude.{ℕ, ◌≤◌, ◌<◌, ◌≡◌, true, false, List, length}
use Rattle.logic.specs.Pick.{pick}
use Rattle.logic.specs.Every.{Every, Pairs}
use Rattle.word.specs.Word.{value_of}
use Rattle.swaps.specs.Remembered.{Fresh, Known}
use Rattle.swaps.specs.Claims.{Claim, Apart}
use Rattle.record.specs.Operation.{is_push}
use Rattle.record.specs.Record.{idle}
use Rattle.record.specs.Valid.{valid_of}
use Rattle.record.specs.declared.Record.{Record}
use Rattle.stages.specs.Stages.{near, own, far, at_place, at_near}
use Rattle.step.specs.Step.{max_of}

abbrev pub FreshFirst : List ℕ → Record → Type 0
FreshFirst strip r = Fresh strip (near r) r.first

abbrev pub FreshSecond : List ℕ → Record → Type 0
FreshSecond strip r = Fresh strip r.k r.second

-- one record on its strip
pub record Sound (strip : List ℕ) (r : Record) : Type 0 where
  pub valid : valid_of (max_of (length strip)) r ≡ true
  pub order_fits : r.v < 4294967296
  pub first_known : 2 ≤ r.stage → Known strip (near r) r.first
  pub second_known : 3 ≤ r.stage → Known strip r.k r.second
  pub first_not_own : 3 ≤ r.stage → value_of r.first ≡ own r → ⊥
  pub second_own : 3 ≤ r.stage → value_of r.second ≡ own r
  pub pop_not_far : 4 ≤ r.stage → is_push r.operation ≡ false → FreshFirst strip r → value_of r.first ≡ far r → ⊥
  pub push_behind : r.stage ≡ 5 → is_push r.operation ≡ true → FreshSecond strip r → value_of (at_near strip r) ≡ own r → ⊥
  pub pop_ahead : r.stage ≡ 5 → is_push r.operation ≡ false → FreshFirst strip r → value_of (at_place strip r) ≡ own r

-- between its two swaps a push claims k with the neighbour as guard, a pop the neighbour with k as guard
abbrev pub claim_of : Record → Claim
claim_of r =
    pick (is_push r.operation) (record { target = r.k; word = r.second; guard = near r })
    (record { target = near r; word = r.first; guard = r.k })

-- of two at stage 5 whose claims cross, not both can win
abbrev pub Clear : List ℕ → Record → Record → Type 0
Clear strip a b = a.stage ≡ 5 → b.stage ≡ 5 → Apart strip (claim_of a) (claim_of b)

pub record Sane (strip : List ℕ) (table : List Record) : Type 0 where
  pub sound : Every (Sound strip) idle table
  pub apart : Pairs (Clear strip) idle table
