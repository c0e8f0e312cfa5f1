-- What is seen of each call of a run: its line, and the stage that its party is at after it.
use Rattle.std.specs.Prelude.{ℕ, suc, Bool, ◌&&◌, List, [], ◌∷◌, eqb}
use Rattle.logic.specs.Pick.{pick}
use Rattle.call.specs.Call.{Call, record_of}
use Rattle.history.specs.Run.{State, line_of, leaves}
use Rattle.history.specs.Finished.{is_result}

pub record Row : Type 0 where
  pub call : Call
  pub number : ℕ
  pub carried : ℕ
  pub effect : ℕ
  pub stage : ℕ

-- done, or the operation goes on, and the party is then at this stage
abbrev pub goes : Call → (stage : ℕ) → Row
goes call stage = record { call = call; number = 0; carried = 0; effect = 0; stage = stage }

abbrev pub refuses : Call → (number stage : ℕ) → Row
refuses call number stage = record { call = call; number = number; carried = 0; effect = 0; stage = stage }

-- a result, with the carried order and the entry where it took effect; the party is then idle
abbrev pub ends : Call → (number carried effect : ℕ) → Row
ends call number carried effect = record { call = call; number = number; carried = carried; effect = effect; stage = 0 }

abbrev pub same_row : Row → Row → Bool
same_row a b =
    eqb a.number b.number && eqb a.carried b.carried && eqb a.effect b.effect && eqb a.stage b.stage

abbrev pub seen_at : State → (entry : ℕ) → Call → Row
seen_at s entry call =
    let line = line_of s entry call in
    record {
      call = call;
      number = line.number;
      carried = line.carried;
      effect = pick (is_result line.number) line.effect 0;
      stage = (record_of (leaves s entry call).table call).stage;
    }

unfoldable pub seen_from : State → (entry : ℕ) → List Call → List Row
seen_from s entry [] = []
seen_from s entry (call ∷ calls) = seen_at s entry call ∷ seen_from (leaves s entry call) (suc entry) calls
