-- What is read as finished is no more and no less: each was asked by the call at its start, and each line with a result is one.
use Prim.Native.Nat.{ℕ, zero, suc, ◌+◌, ◌≤◌}
use mathlib.Core.Path.{◌≡◌, refl}
use mathlib.Core.Bool.{Bool, true, false}
use mathlib.Core.List.{List, [], ◌∷◌}
use lib.ListN.{length, get_or, replicate, length-append}
use native.Mathlib.Omega.{arith}
use Rattle.logic.specs.Pick.{pick}
use Rattle.logic.specs.Every.{Every}
use Rattle.logic.specs.Total.{total}
use Rattle.logic.proofs.Lists.{every_one, every_append}
use Rattle.record.specs.Record.{idle}
use Rattle.call.specs.Call.{Call, party_of}
use Rattle.placing.specs.Placing.{gathered}
use Rattle.history.specs.Run.{State, Line, begin, line_of, leaves, lines_from, number_in}
use Rattle.history.specs.Entries.{state_at, call_in}
use Rattle.history.specs.Finished.{Asked, Finished, nothing_yet, is_result, finish, asked_after, finished_at, finished_from, finished_of, WasAsked}
use Rattle.history.specs.Explained.{none}
use Rattle.history.proofs.Parties.{After, after_entry}
use Rattle.history.proofs.Results.{a_result_ends}
use Rattle.history.proofs.Entries.{asked_at, added_at, run_finishes}
use Rattle.history.proofs.Explaining.{booked_at}

module _ (strip : List ℕ) (parties : ℕ) (call : ℕ → Call) where
  abbrev at : ℕ → State
  at n = state_at (begin strip parties) call n

  abbrev asked : ℕ → List Asked
  asked n = asked_at (begin strip parties) call (replicate parties nothing_yet) n

  abbrev added : ℕ → List Finished
  added = added_at (begin strip parties) call (replicate parties nothing_yet)

  abbrev Began : ℕ → Asked → Type 0
  Began i a = call a.entry ≡ Call.start i a.operation a.order

  -- what a busy party was last asked
  began : (n i : ℕ) → 1 ≤ (get_or (at n).table i idle).stage → Began i (get_or (asked n) i nothing_yet)
  unfolding state_at asked_at
  began zero i on = absurd (let asks = (booked_at strip parties call 0).asked_so i on in omega (arith, asks.past))
  began (suc n) i on =
      go (after_entry (at n) n (asked n) (booked_at strip parties call n).asked_size (call n) i) (began n i)
    where
      go : After (at n) n (call n) i (get_or (asked n) i nothing_yet) (get_or (asked (suc n)) i nothing_yet) (get_or (at n).table i idle)
          (get_or (leaves (at n) n (call n)).table i idle)
          → (1 ≤ (get_or (at n).table i idle).stage → Began i (get_or (asked n) i nothing_yet)) → Began i (get_or (asked (suc n)) i nothing_yet)
      go (After.idles ended) before = absurd (let stage : 1 ≤ 0 = rw ended at on in omega arith)
      go (After.begins operation order start begun-is asked-is) before = rw asked-is start
      go (After.carries same operation v busy second) before = rw same (before (busy on))

  each_was_asked : (n : ℕ) → Every (WasAsked call) none (gathered added n)
  unfolding gathered line_of
  each_was_asked zero = λ i within. absurd (omega arith)
  each_was_asked (suc n) = every_append (WasAsked call) none (gathered added n) (added n) (each_was_asked n) (go (is_result (number_in (at n) (call n))) refl)
    where
      it : Finished
      it = finish (get_or (asked n) (party_of (call n)) nothing_yet) n (line_of (at n) n (call n))

      go : (result : Bool) → is_result (number_in (at n) (call n)) ≡ result → Every (WasAsked call) none (pick result (it ∷ []) [])
      go true e = every_one (WasAsked call) none it (began n (party_of (call n)) (a_result_ends (at n) n (call n) e).busy)
      go false e = λ i within. absurd (omega arith)

module _ (strip : List ℕ) (parties : ℕ) (calls : List Call) where
  -- Each finished operation was asked for.
  pub each_finished_was_asked : Every (WasAsked (call_in calls)) none (finished_of parties calls (lines_from (begin strip parties) 0 calls))
  each_finished_was_asked = rw (run_finishes strip parties calls) (each_was_asked strip parties (call_in calls) (length calls))

-- As many are finished as lines have a result.
pub each_result_is_finished : (asked : List Asked) (entry : ℕ) (calls : List Call) (lines : List Line) → length lines ≡ length calls
    → length (finished_from asked entry calls lines) ≡ total (λ (line : Line). pick (is_result line.number) 1 0) lines
unfolding finished_from total
each_result_is_finished asked entry [] [] same = refl
each_result_is_finished asked entry [] (line ∷ lines) same = absurd (omega arith)
each_result_is_finished asked entry (call ∷ calls) [] same = absurd (omega arith)
each_result_is_finished asked entry (call ∷ calls) (line ∷ lines) same =
    rw (
      length-append (finished_at asked entry call line) (finished_from (asked_after asked entry call line) (suc entry) calls lines),
      each_result_is_finished (asked_after asked entry call line) (suc entry) calls lines (omega arith),
    ) (go (is_result line.number))
  where
    by : Finished
    by = finish (get_or asked (party_of call) nothing_yet) entry line

    rest : ℕ
    rest = total (λ (l : Line). pick (is_result l.number) 1 0) lines

    go : (result : Bool) → length (pick result (by ∷ []) []) + rest ≡ pick result 1 0 + rest
    go true = refl
    go false = refl
