-- One entry on the run's array of 16 parties is that entry on the state of demand 3's run.
use Prim.Native.Nat.{ℕ, ◌≤◌}
use mathlib.Core.Path.{◌≡◌, refl, sym, ◌∙◌, ap, subst}
use mathlib.Core.Bool.{Bool, true, false, ◌||◌, and-false}
use mathlib.Core.List.{List, map}
use lib.ListN.{length, get_or, set, take, get_or-map, length-map}
use lib.Seq.{length-take-le, get_or-take, take-set-lt, set-get_or, map-set}
use lib.Dec.{eqb}
use borrow.Author.Tests.{ne_eqb, lt-leb}
use native.Mathlib.Omega.{arith}
use Rattle.std.specs.Prelude.{Some, None}
use Rattle.std.specs.declared.result.Result.{Result}
use Rattle.std.specs.declared.result.Result.TheVariants.{Ok, Err}
use Rattle.logic.specs.Pick.{pick}
use Rattle.refusal.specs.declared.Refusal.{Refusal}
use Rattle.refusal.specs.Refusal.{refusal_number, passes}
use Rattle.refusal.proofs.Checks.{Decided, decided, refusal_is_small, refusal_is_not_0}
use Rattle.record.specs.Record.{idle}
use Rattle.record.specs.declared.Record.{Record}
use Rattle.party.specs.Answer.{number_of, carried_of}
use Rattle.party.specs.declared.Answer.{Answer}
use Rattle.party.specs.declared.Answer.TheVariants.{GoesOn, Pushed, Popped, Full, Empty}
use Rattle.call.specs.Call.{Call, party_of, gate}
use Rattle.call.proofs.Called.{past_gate, call_through, call_away}
use Rattle.entry.specs.OnRecord.{on_record_leaves}
use Rattle.entry.proofs.OnRecord.{turned_away_lem, let_through}
use Rattle.history.specs.Run.{State, Line, goes_on, line_of, leaves}
use Rattle.history.specs.Finished.{is_result}
use Rattle.run.specs.Turn.{effect_of, is_going_on, turn_of, party_in_16}
use Rattle.run.specs.declared.Party.{Party}
use Rattle.run.specs.declared.Turn.{Turn}

abbrev pub records : List Party → List Record
records run = map (λ (p : Party). p.rec) run

abbrev pub looks_of : List Party → List ℕ
looks_of run = map (λ (p : Party). p.look) run

-- a party that has done nothing yet
abbrev pub no_party : Party
no_party = record { rec = idle; look = 0 }

-- the state of the run, of which the array holds the first `parties`
abbrev pub state_of : (parties : ℕ) (strip : List ℕ) → List Party → State
state_of parties strip run = record { strip = strip; table = take parties (records run); looks = take parties (looks_of run) }

-- What a turn tells is the line, whose effect counts where its number is a result.
pub record Tells (line : Line) (turn : Turn) : Type 0 where
  pub number : line.number ≡ number_of turn.answer
  pub carried : line.carried ≡ carried_of turn.answer
  pub effect : pick (is_result line.number) (Some line.effect) None ≡ turn.effect

-- What a turn tells and leaves on the array are those of the run.
pub record Enters (s : State) (entry : ℕ) (call : Call) (got : Turn) (next : State) : Type 0 where
  pub line : Tells (line_of s entry call) got
  pub state : leaves s entry call ≡ next

effect_is : (answer : Result Answer Refusal) (look entry : ℕ)
    → pick (is_result (number_of answer)) (Some (pick (eqb (number_of answer) 18 || eqb (number_of answer) 19) look entry)) None
    ≡ effect_of answer look entry
effect_is (Ok GoesOn) look entry = refl
effect_is (Ok Pushed) look entry = refl
effect_is (Ok (Popped order)) look entry = refl
effect_is (Ok Full) look entry = refl
effect_is (Ok Empty) look entry = refl
effect_is (Err refusal) look entry =
    rw (lt-leb 16 (refusal_number refusal) (omega (arith, refusal_is_small refusal)))

going_on_is : (answer : Result Answer Refusal) → goes_on (number_of answer) ≡ is_going_on answer
going_on_is (Ok GoesOn) = refl
going_on_is (Ok Pushed) = refl
going_on_is (Ok (Popped order)) = refl
going_on_is (Ok Full) = refl
going_on_is (Ok Empty) = refl
going_on_is (Err refusal) = ne_eqb (refusal_number refusal) 0 (refusal_is_not_0 refusal)

-- either is set or neither
pick_set : (test : Bool) (l : List ℕ) (i a : ℕ) → pick test (set l i a) l ≡ set l i (pick test a (get_or l i 0))
pick_set true l i a = refl
pick_set false l i a = sym (set-get_or l i 0)

module _ (parties : ℕ) (strip : List ℕ) (run : List Party) (entry : ℕ) (call : Call) (few : parties ≤ 16) (all_16 : length run ≡ 16) where
  abbrev table : List Record
  table = records run

  abbrev looks : List ℕ
  looks = looks_of run

  same_gate : gate (length strip) (length (take parties table)) call ≡ gate (length strip) parties call
  same_gate = ap (λ (n : ℕ). gate (length strip) n call) (length-take-le parties table (omega (arith, length-map run (λ (p : Party). p.rec))))

  -- what the entry comes to with place j of the array, and what it leaves of it
  abbrev pub turn_at : (j : ℕ) → Turn
  turn_at j = turn_of strip parties (get_or run j no_party) entry call

  abbrev pub EntersAt : (j : ℕ) → Type 0
  EntersAt j =
      Enters (state_of parties strip run) entry call (turn_at j)
      (state_of parties (on_record_leaves strip parties (get_or run j no_party).rec call) (set run j (turn_at j).party))

  -- let through, with the party's place
  enters_through : gate (length strip) parties call ≡ passes → EntersAt (party_of call)
  unfolding line_of leaves
  enters_through clear =
      let p = party_of call in
      let at = (past_gate (length strip) parties call clear).party_known in
      let own = let_through strip parties (get_or run p no_party).rec call clear in
      let calls = call_through strip (take parties table) call (same_gate ∙ clear) in
      let rec-is = get_or-take parties table p idle at ∙ get_or-map (λ (p : Party). p.rec) run p no_party in
      let look_is = get_or-take parties looks p 0 at ∙ get_or-map (λ (p : Party). p.look) run p no_party in
      record {
        line =
            record {
              number = rw (calls, rec-is, own.0);
              carried = rw (calls, rec-is, own.0);
              effect = rw (calls, rec-is, look_is, own.0) (effect_is _ _ _);
            };
        state = rw (calls, rec-is, going_on_is, pick_set, look_is, own.0, own.1, map-set, map-set, take-set-lt, take-set-lt);
      }

  kept : {A : Type 0} (of : Party → A) (j : ℕ) → set (map of run) j (of (get_or run j no_party)) ≡ map of run
  kept of j = ap (set (map of run) j) (sym (get_or-map of run j no_party)) ∙ set-get_or (map of run) j (of no_party)

  -- turned away, with any place
  enters_away : (refusal : Refusal) → gate (length strip) parties call ≡ Err refusal → (j : ℕ) → EntersAt j
  unfolding line_of leaves
  enters_away refusal barred j =
      let away = turned_away_lem strip parties (get_or run j no_party).rec call refusal barred in
      let calls = call_away strip (take parties table) call refusal (same_gate ∙ barred) in
      record {
        line =
            record {
              number = rw (calls, away.0);
              carried = rw (calls, away.0);
              effect = rw (calls, away.0) (effect_is (Err refusal) _ _);
            };
        state = rw (calls, away.0, away.1, going_on_is, and-false, map-set, map-set, kept (λ (p : Party). p.rec) j, kept (λ (p : Party). p.look) j);
      }

  pub enters : EntersAt (party_in_16 call)
  enters = go (decided (gate (length strip) parties call))
    where
      go : Decided (gate (length strip) parties call) → EntersAt (party_in_16 call)
      go (Decided.none clear) =
          let at = (past_gate (length strip) parties call clear).party_known in
          let place : party_of call ≡ party_in_16 call = omega arith in
          subst EntersAt place (enters_through clear)
      go (Decided.some refusal barred) = enters_away refusal barred (party_in_16 call)
