-- How large the numbers of a run's lines are: a number of document 01's table, an order of 32 bits, and an effect among the entries.
use Prim.Native.Nat.{ℕ, zero, suc, ◌+◌, ◌≤◌, ◌<◌}
use mathlib.Core.Path.{◌≡◌, refl}
use mathlib.Core.Bool.{Bool, true, false, ◌||◌}
use mathlib.Core.List.{List, [], ◌∷◌}
use lib.ListN.{length, get_or, set, get_or-eq_default}
use lib.Dec.{eqb, ltb}
use borrow.Author.Tests.{ltb-true, ltb-false}
use native.Mathlib.Omega.{arith}
use Rattle.logic.specs.Every.{Every}
use Rattle.logic.proofs.Bools.{whichever}
use Rattle.logic.proofs.Lists.{every_set, all_the_same}
use Rattle.call.specs.Call.{Call, party_of}
use Rattle.call.proofs.Bounds.{no_answer_is_above_19, every_carried_order_has_32_bits}
use Rattle.history.specs.Run.{State, Line, begin, looked, number_in, line_of, leaves, lines_from, no_line}

-- every look lies among the entries
abbrev Early : ℕ → Type 0
Early n = n < 2048

look_early : (looks : List ℕ) (i : ℕ) → Every Early 0 looks → Early (get_or looks i 0)
look_early looks i early = go (ltb i (length looks)) refl
  where
    go : (within : Bool) → ltb i (length looks) ≡ within → Early (get_or looks i 0)
    go true e = early i (ltb-true i (length looks) e)
    go false e = rw (get_or-eq_default looks 0 (ltb-false i (length looks) e)) (omega arith)

pub record Bounded (line : Line) : Type 0 where
  pub number_is : line.number ≤ 19
  pub carried_is : line.carried < 4294967296
  pub effect_is : line.effect < 2048

bounded_on : (calls : List Call) (entry : ℕ) (s : State) → Every Early 0 s.looks → entry + length calls ≤ 2048
    → Every Bounded no_line (lines_from s entry calls)
unfolding lines_from line_of leaves
bounded_on [] entry s early fits i within = absurd (omega arith)
bounded_on (call ∷ calls) entry s early fits zero within =
    let number = number_in s call in
    record {
      number_is = no_answer_is_above_19 s.strip s.table call;
      carried_is = every_carried_order_has_32_bits s.strip s.table call;
      effect_is = whichever Early (eqb number 18 || eqb number 19) (look_early s.looks (party_of call) early) (omega arith);
    }
bounded_on (call ∷ calls) entry s early fits (suc i) within =
    let later = whichever (Every Early 0) (looked s call (number_in s call)) {a = set s.looks (party_of call) entry} {b = s.looks}
    (every_set Early 0 s.looks (party_of call) entry early (omega arith)) early in
    bounded_on calls (suc entry) (leaves s entry call) later (omega arith) i (omega arith)

pub lines_are_bounded : (strip : List ℕ) (parties : ℕ) (calls : List Call) → length calls ≤ 2048
    → Every Bounded no_line (lines_from (begin strip parties) 0 calls)
lines_are_bounded strip parties calls few =
    bounded_on calls 0 (begin strip parties) (λ i within. rw (all_the_same {A = ℕ} parties i 0) (omega arith)) (omega arith)
