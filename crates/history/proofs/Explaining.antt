-- Demand 3 over a machine: every schedule is explained by the plain strip.
use Prim.Native.Nat.{ℕ, zero, suc, ◌≤◌}
use mathlib.Core.Path.{◌≡◌, refl, sym, ◌∙◌, ap}
use mathlib.Core.Bool.{Bool, true, false}
use mathlib.Core.List.{List}
use lib.ListN.{length, get_or, replicate, get_or-eq_default}
use lib.Dec.{ltb}
use borrow.Author.Tests.{ltb-true, ltb-false}
use native.Mathlib.Omega.{arith}
use Rattle.logic.specs.Pick.{pick}
use Rattle.logic.specs.Every.{Every}
use Rattle.logic.proofs.Bools.{both}
use Rattle.record.specs.Record.{idle}
use Rattle.step.specs.Step.{strip_fits}
use Rattle.call.specs.Call.{Call, Fitting}
use Rattle.plain.specs.Plain.{Plain}
use Rattle.strip.specs.Shape.{StandsFor}
use Rattle.placing.specs.Placing.{gathered, Adds}
use Rattle.placing.proofs.Explains.{all_that_was_added_plays}
use Rattle.history.specs.Run.{State, begin, leaves, lines_from, end_from, no_call}
use Rattle.history.specs.Entries.{state_at, call_in}
use Rattle.history.specs.Finished.{Asked, Finished, nothing_yet}
use Rattle.history.specs.Explained.{Agrees, Explained, ExplainedRun}
use Rattle.history.proofs.Booked.{Booked, booked_first, booked_next, LastLook, last_look}
use Rattle.history.proofs.Claimed.{Claimed, claimed_next}
use Rattle.history.proofs.Entries.{asked_at, added_at, run_ends_at, run_finishes}
use Rattle.history.specs.Machine.{Says, thens_after, Machine}
use Rattle.history.proofs.Tracing.{look_is_quiet, adds}

-- what is booked and claimed before each entry, whatever the machine
module _ (strip : List ℕ) (parties : ℕ) (call : ℕ → Call) where
  abbrev first : State
  first = begin strip parties

  abbrev unasked : List Asked
  unasked = replicate parties nothing_yet

  pub booked_at : (n : ℕ) → Booked n (state_at first call n) (asked_at first call unasked n)
  unfolding state_at asked_at
  booked_at zero = booked_first strip parties
  booked_at (suc n) = booked_next n (state_at first call n) (asked_at first call unasked n) (booked_at n) (call n)

  pub claimed_at : (n : ℕ) → Claimed n (state_at first call n) (gathered (added_at first call unasked) n)
  unfolding state_at gathered
  claimed_at zero =
      record {
        between = λ i within. absurd (omega arith);
        apart = λ i j before within. absurd (omega arith);
        answered = λ i within. absurd (omega arith);
        looks_apart = λ i j other on. absurd (let seen = (booked_first strip parties).looked_so i on in omega arith);
        looks_free = λ i on m within. absurd (omega arith);
      }
  claimed_at (suc n) =
      claimed_next n (state_at first call n) (asked_at first call unasked n) (booked_at n) (call n)
      (gathered (added_at first call unasked) n) (claimed_at n)

module _ (Inv : State → Plain → (ℕ → Plain) → Type 0) (machine : Machine Inv) (strip : List ℕ) (p : Plain) (parties : ℕ)
    (length_fits : strip_fits (length strip) ≡ true) (stands : StandsFor strip p)
    (call : ℕ → Call) (fitting : (n : ℕ) → Fitting (call n)) where
  abbrev Known : State → Type 0
  Known s = (q : Plain) × (thens : ℕ → Plain) × Inv s q thens

  abbrev at : ℕ → State
  at n = state_at (begin strip parties) call n

  -- the plain strip before entry n and at each party's last look, by what the machine says entry by entry
  pub known : (n : ℕ) → Known (at n)
  unfolding state_at
  known zero = (p, λ i. p, machine.begins strip p parties length_fits stands)
  known (suc n) =
      let k = known n in
      let goes = machine.goes (at n) k.0 k.1 k.2 (call n) (fitting n) in
      (goes.next, thens_after (at n) k.0 k.1 (call n), goes.kept n)

  abbrev plain_at : ℕ → Plain
  plain_at n = (known n).0

  says_at : (n : ℕ) → Says (at n) (plain_at n) (known n).1 (call n) (plain_at (suc n))
  unfolding known
  says_at n = (machine.goes (at n) (known n).0 (known n).1 (known n).2 (call n) (fitting n)).says

  -- what a party remembers is the plain strip at its last look
  remembers_at : (n i : ℕ) → 2 ≤ (get_or (at n).table i idle).stage → (known n).1 i ≡ plain_at (suc (get_or (at n).looks i 0))
  unfolding known state_at
  remembers_at zero i on = absurd (let seen = (booked_at strip parties call 0).looked_so i on in omega arith)
  remembers_at (suc n) i on =
      go (last_look n (at n) (asked_at (begin strip parties) call (replicate parties nothing_yet) n) (booked_at strip parties call n) (call n) i on)
      (remembers_at n i)
    where
      Then : ℕ → Plain
      Then e = plain_at (suc e)

      go : LastLook (at n) n (call n) i → (2 ≤ (get_or (at n).table i idle).stage → (known n).1 i ≡ Then (get_or (at n).looks i 0))
          → thens_after (at n) (plain_at n) (known n).1 (call n) i ≡ Then (get_or (leaves (at n) n (call n)).looks i 0)
      go (LastLook.new now here look) before =
          ap (λ (t : Bool). pick t (plain_at n) ((known n).1 i)) now
          ∙ sym (look_is_quiet (at n) (plain_at n) (known n).1 (call n) (plain_at (suc n)) (both _ _ now).0 (says_at n))
          ∙ ap Then (sym look)
      go (LastLook.old now look stage) before =
          ap (λ (t : Bool). pick t (plain_at n) ((known n).1 i)) now ∙ before stage ∙ ap Then (sym look)

  abbrev added : ℕ → List Finished
  added = added_at (begin strip parties) call (replicate parties nothing_yet)

  entry_adds : (n : ℕ) → Adds (λ (f : Finished). f.effect) Agrees plain_at n (added n)
  entry_adds n =
      adds plain_at n (at n) (asked_at (begin strip parties) call (replicate parties nothing_yet) n) (booked_at strip parties call n) (call n)
      (known n).1 (remembers_at n) (says_at n)

  pub stands_at : (n : ℕ) → StandsFor (at n).strip (plain_at n)
  stands_at n = machine.stands (at n) (known n).0 (known n).1 (known n).2

  pub explained_at : (n : ℕ) → Explained p (gathered added n) n (plain_at n)
  unfolding known
  explained_at n =
      let claimed = claimed_at strip parties call n in
      record {
        answered = claimed.answered;
        between = claimed.between;
        apart = claimed.apart;
        played = all_that_was_added_plays (λ (f : Finished). f.effect) Agrees plain_at added n (λ m within. entry_adds m);
      }

-- every call of a list fits, and so does the one past its end
every_fits : (calls : List Call) → Every Fitting no_call calls → (n : ℕ) → Fitting (call_in calls n)
every_fits calls fitting n = go (ltb n (length calls)) refl
  where
    go : (within : Bool) → ltb n (length calls) ≡ within → Fitting (call_in calls n)
    go true e = fitting n (ltb-true n (length calls) e)
    go false e = rw (get_or-eq_default calls no_call (ltb-false n (length calls) e)) tt

-- From any strip that stands for a plain strip, with every party idle, any list of calls is explained, and the strip at the end
-- stands for the plain strip at the end.
pub machine_explains : (Inv : State → Plain → (ℕ → Plain) → Type 0) → Machine Inv
    → (strip : List ℕ) (p : Plain) (parties : ℕ) (calls : List Call) → strip_fits (length strip) ≡ true → StandsFor strip p
    → Every Fitting no_call calls
    → ExplainedRun p parties calls (lines_from (begin strip parties) 0 calls) (end_from (begin strip parties) 0 calls).strip
machine_explains Inv machine strip p parties calls length_fits stands fitting =
    let fits = every_fits calls fitting in
    let n = length calls in (
      (known Inv machine strip p parties length_fits stands (call_in calls) fits n).0,
      rw (run_ends_at strip parties calls)
          (stands_at Inv machine strip p parties length_fits stands (call_in calls) fits n),
      rw (run_finishes strip parties calls)
          (explained_at Inv machine strip p parties length_fits stands (call_in calls) fits n),
    )
