-- Demand 3 asks for something: with one effect moved, the run of a mark is not explained, whatever the last plain strip is.
use Prim.Native.Nat.{ℕ, zero, suc, ◌<◌}
use mathlib.Core.Path.{◌≡◌, refl, sym}
use mathlib.Core.Bool.{true, true≢false}
use mathlib.Core.List.{List, [], ◌∷◌}
use lib.ListN.{get_or}
use lib.Dec.{eqb}
use borrow.Author.Tests.{eq-eqb}
use native.Mathlib.Omega.{arith}
use Rattle.logic.specs.Every.{Every}
use Rattle.record.specs.Valid.{valid_of}
use Rattle.party.specs.Calls.{start_own, start_refusal, start_of}
use Rattle.stages.specs.Stages.{access_of}
use Rattle.stages.specs.Follow.{judge_of, recheck_of}
use Rattle.step.specs.Step.{step_own, step_refusal, step_of, step_leaves}
use Rattle.call.specs.Call.{Call, Fitting, gate, call_of}
use Rattle.plain.specs.Plain.{Plain, fresh_plain}
use Rattle.plain.specs.Play.{play}
use Rattle.placing.specs.Placing.{at_entry, in_order, Plays}
use Rattle.history.specs.Run.{no_call, line_of, leaves, lines_from}
use Rattle.history.specs.Finished.{Finished, finished_from}
use Rattle.history.specs.Explained.{Agrees, Explained, none}
use Rattle.history.proofs.EverySchedule.{every_schedule_on_a_fresh_strip_is_explained}
use Rattle.marks.specs.Replay.{all_same, plain_of, same_plain, replays}
use Rattle.marks.specs.Marks.{mark_calls, after_M1, m3}
use Rattle.marks.specs.Moved.{mark_lines, finished_by, empty_at_its_answer, pushed_at_its_start}

same_orders : (orders : List ℕ) → all_same eqb orders orders ≡ true
unfolding all_same
same_orders [] = refl
same_orders (order ∷ orders) = rw (eq-eqb order order refl) (same_orders orders)

same_plain_lem : (p : Plain) → same_plain p p ≡ true
same_plain_lem p = rw (eq-eqb p.left p.left refl, same_orders p.orders) (eq-eqb p.right p.right refl)

what_plays_replays : (p : Plain) (finished : List Finished) (q : Plain) → Plays Agrees p finished q → replays p finished q ≡ true
unfolding replays
what_plays_replays p [] q same = rw (← same) (same_plain_lem p)
what_plays_replays p (f ∷ fs) q (next, agrees, rest) =
    rw (eq-eqb _ _ agrees.number_is, eq-eqb _ _ agrees.carried_is, agrees.leaves) (what_plays_replays next fs q rest)

-- What is explained passes the test that computes; so what fails it is not explained.
pub what_is_explained_replays : {first last : Plain} {finished : List Finished} {entries : ℕ} → Explained first finished entries last
    → replays first (in_order (λ (f : Finished). f.effect) entries finished) last ≡ true
what_is_explained_replays {first} {last} {finished} {entries} explained =
    what_plays_replays first (in_order (λ (f : Finished). f.effect) entries finished) last explained.played

-- calls that fit one after the other, each fit
Fit : List Call → Type 0
Fit [] = Unit {0}
Fit (call ∷ calls) = Fitting call × Fit calls

each_fits : (calls : List Call) → Fit calls → Every Fitting no_call calls
unfolding Fit
each_fits [] fit i within = tt
each_fits (call ∷ calls) fit zero within = fit.0
each_fits (call ∷ calls) fit (suc i) within = each_fits calls fit.1 i (omega arith)

-- As it is, M3's run is explained, as every schedule on a fresh strip is.
pub m3_is_explained : (q : Plain) × Explained (fresh_plain 2 1) (finished_by m3 (mark_lines m3)) 9 q
unfolding Fit
m3_is_explained =
    let fits : Fit (mark_calls m3) = (omega arith, (omega arith, (tt, (tt, (tt, (tt, (tt, (tt, (tt, tt))))))))) in
    let so = every_schedule_on_a_fresh_strip_is_explained 2 1 2 (mark_calls m3) (omega arith) (omega arith) (omega arith)
    (each_fits (mark_calls m3) fits) in
    (so.0, so.2)

-- M3's EMPTY, moved to its answer, cannot have taken effect there: 7 is held by then.
pub it_is_moved_to_its_answer : (get_or empty_at_its_answer 1 none).effect ≡ (get_or empty_at_its_answer 1 none).answered
unfolding valid_of start_own start_refusal start_of access_of judge_of recheck_of step_own step_refusal step_of step_leaves gate call_of
    line_of leaves lines_from finished_from
it_is_moved_to_its_answer = refl

pub empty_at_its_answer_is_not_explained : (q : Plain) → Explained (fresh_plain 2 1) empty_at_its_answer 9 q → ⊥
unfolding valid_of start_own start_refusal start_of access_of judge_of recheck_of step_own step_refusal step_of step_leaves gate call_of
    play at_entry in_order line_of leaves lines_from finished_from replays
empty_at_its_answer_is_not_explained q explained = true≢false (sym (what_is_explained_replays explained))

-- M1's push, played at its start, gives its answer and the plain strip that is left;
pub pushed_at_its_start_replays :
    replays (fresh_plain 2 1) (in_order (λ (f : Finished). f.effect) 5 pushed_at_its_start) (plain_of after_M1) ≡ true
unfolding valid_of start_own start_refusal start_of access_of judge_of recheck_of step_own step_refusal step_of step_leaves gate call_of
    play at_entry in_order line_of leaves lines_from finished_from all_same replays
pushed_at_its_start_replays = refl

-- but an effect lies after the start.
pub pushed_at_its_start_is_not_explained : (q : Plain) → Explained (fresh_plain 2 1) pushed_at_its_start 5 q → ⊥
unfolding valid_of start_own start_refusal start_of access_of judge_of recheck_of step_own step_refusal step_of step_leaves gate call_of
    line_of leaves lines_from finished_from
pushed_at_its_start_is_not_explained q explained =
    let past : 0 < 0 = (explained.between 0 (omega arith)).past_start in
    omega arith
