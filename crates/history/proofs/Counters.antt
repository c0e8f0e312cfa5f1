-- What every run keeps: the strip's length, its counters, which never fall, and its words, whose counters never come round.
use Prim.Native.Nat.{ℕ, suc, ◌≤◌}
use mathlib.Core.Path.{◌≡◌, refl, ◌∙◌}
use mathlib.Core.Bool.{true}
use mathlib.Core.List.{List, [], ◌∷◌}
use lib.ListN.{length, get_or}
use native.Mathlib.Omega.{arith}
use Rattle.logic.specs.Every.{Every}
use Rattle.word.specs.Word.{IsWord, counter_of}
use Rattle.step.specs.Step.{strip_fits}
use Rattle.call.specs.Call.{Call, Fitting}
use Rattle.invariant.specs.Invariant.{Sane}
use Rattle.invariant.proofs.Kept.{sane_kept}
use Rattle.invariant.proofs.Writes.{strip_stays_as_long, no_counter_falls, no_counter_comes_round}
use Rattle.history.specs.Run.{State, leaves, end_from, no_call}

pub the_strip_stays_as_long : (s : State) (entry : ℕ) (calls : List Call)
    → length (end_from s entry calls).strip ≡ length s.strip
unfolding end_from leaves
the_strip_stays_as_long s entry [] = refl
the_strip_stays_as_long s entry (c ∷ cs) =
    the_strip_stays_as_long (leaves s entry c) (suc entry) cs ∙ strip_stays_as_long s.strip s.table c

-- No counter ever falls, whatever the state and the calls.
pub no_counter_ever_falls : (s : State) (entry : ℕ) (calls : List Call) (place : ℕ)
    → counter_of (get_or s.strip place 0) ≤ counter_of (get_or (end_from s entry calls).strip place 0)
unfolding end_from leaves
no_counter_ever_falls s entry [] place = omega arith
no_counter_ever_falls s entry (c ∷ cs) place =
    omega (arith, no_counter_falls s.strip s.table c place, no_counter_ever_falls (leaves s entry c) (suc entry) cs place)

-- None comes round: 9 refuses first, so every word stays a word.
pub no_counter_ever_comes_round : (s : State) (entry : ℕ) (calls : List Call) → strip_fits (length s.strip) ≡ true
    → Sane s.strip s.table → Every Fitting no_call calls → Every IsWord 0 s.strip
    → Every IsWord 0 (end_from s entry calls).strip
unfolding end_from leaves
no_counter_ever_comes_round s entry [] fits sane fitting words = words
no_counter_ever_comes_round s entry (c ∷ cs) fits sane fitting words =
    no_counter_ever_comes_round (leaves s entry c) (suc entry) cs
    (rw (strip_stays_as_long s.strip s.table c) fits)
    (sane_kept s.strip s.table c fits (fitting 0 (omega arith)) sane)
    (λ i within. fitting (suc i) (omega arith))
    (no_counter_comes_round s.strip s.table c sane words)
