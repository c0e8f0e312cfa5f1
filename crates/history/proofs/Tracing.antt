-- The plain strip before each entry, and what each entry adds to the finished operations.
use Prim.Native.Nat.{ℕ, suc, ◌≤◌}
use mathlib.Core.Path.{◌≡◌, refl, sym, ◌∙◌, ap}
use mathlib.Core.Bool.{Bool, true, false, ◌||◌}
use mathlib.Core.Logic.{◌⊎◌, inl, inr}
use mathlib.Core.List.{List, [], ◌∷◌}
use lib.ListN.{get_or}
use lib.Dec.{eqb}
use native.Mathlib.Omega.{arith}
use Rattle.logic.specs.Pick.{pick}
use Rattle.record.specs.Record.{idle}
use Rattle.call.specs.Call.{Call, party_of, call_of, record_of}
use Rattle.plain.specs.Plain.{Plain}
use Rattle.invariant.specs.Remembered.{RecordYields}
use Rattle.placing.specs.Placing.{Adds}
use Rattle.history.specs.Run.{State, line_of, looked, number_in}
use Rattle.history.specs.Finished.{Asked, Finished, nothing_yet, is_result, finish, finished_at}
use Rattle.history.specs.Explained.{Agrees}
use Rattle.history.proofs.Parties.{look_is_a_step}
use Rattle.history.proofs.Results.{looked_before, a_result_ends}
use Rattle.history.proofs.Booked.{Booked, Asks}
use Rattle.history.specs.Machine.{Says}

-- who looks goes on, so the plain strip stays as it was
pub look_is_quiet : (s : State) (p : Plain) (thens : ℕ → Plain) (call : Call) (next : Plain) → looked s call (number_in s call) ≡ true
    → Says s p thens call next → next ≡ p
look_is_quiet s p thens call next looks (Says.quiet other same) = same
look_is_quiet s p thens call next looks (Says.acts (inl e) plays) = absurd (let none = (look_is_a_step s call looks).2 in omega arith)
look_is_quiet s p thens call next looks (Says.acts (inr e) plays) = absurd (let none = (look_is_a_step s call looks).2 in omega arith)
look_is_quiet s p thens call next looks (Says.recalls number same plays) = same

-- what the record's operation gives, the finished operation gives: it was asked the same
gives_as_asked : (n : ℕ) (s : State) (asked : List Asked) (call : Call) (p q : Plain)
    → Asks n (get_or asked (party_of call) nothing_yet) (record_of s.table call)
    → RecordYields (record_of s.table call) p (call_of s.strip s.table call).answer q
    → Agrees (finish (get_or asked (party_of call) nothing_yet) n (line_of s n call)) p q
unfolding line_of
gives_as_asked n s asked call p q asks plays =
    rw (asks.operation, asks.order) plays

act_is : (number : ℕ) → (number ≡ 16) ⊎ (number ≡ 17) → (is_result number ≡ true) × ((eqb number 18 || eqb number 19) ≡ false)
act_is number (inl e) = rw e (refl, refl)
act_is number (inr e) = rw e (refl, refl)

recall_is : (number : ℕ) → (number ≡ 18) ⊎ (number ≡ 19) → (is_result number ≡ true) × ((eqb number 18 || eqb number 19) ≡ true)
recall_is number (inl e) = rw e (refl, refl)
recall_is number (inr e) = rw e (refl, refl)

-- One entry: what it adds, from what the machine says, what is booked, and what each party remembers.
module _ (trace : ℕ → Plain) (n : ℕ) (s : State) (asked : List Asked) (booked : Booked n s asked) (call : Call)
    (thens : ℕ → Plain) where
  abbrev finishes : Finished
  finishes = finish (get_or asked (party_of call) nothing_yet) n (line_of s n call)

  pub adds : ((i : ℕ) → 2 ≤ (get_or s.table i idle).stage → thens i ≡ trace (suc (get_or s.looks i 0)))
      → Says s (trace n) thens call (trace (suc n))
      → Adds (λ (f : Finished). f.effect) Agrees trace n (finished_at asked n call (line_of s n call))
  unfolding line_of
  adds remembered (Says.quiet other same) = Adds.nothing (ap (λ (t : Bool). pick t (finishes ∷ []) []) other) same
  adds remembered (Says.acts number plays) =
      let is = act_is (number_in s call) number in
      let ended = a_result_ends s n call is.0 in
      Adds.now finishes (ap (λ (t : Bool). pick t (finishes ∷ []) []) is.0)
      (ap (λ (t : Bool). pick t (get_or s.looks (party_of call) 0) n) is.1)
      (gives_as_asked n s asked call (trace n) (trace (suc n)) (booked.asked_so (party_of call) ended.busy) plays)
  adds remembered (Says.recalls number same plays) =
      let is = recall_is (number_in s call) number in
      let ended = a_result_ends s n call is.0 in
      let second = looked_before s n call ended number in
      let look = ap (λ (t : Bool). pick t (get_or s.looks (party_of call) 0) n) is.1 in
      let then = remembered (party_of call) second ∙ ap (λ (e : ℕ). trace (suc e)) (sym look) in
      Adds.earlier finishes (ap (λ (t : Bool). pick t (finishes ∷ []) []) is.0)
      (rw look (booked.looked_so (party_of call) second).1) same
      (gives_as_asked n s asked call (trace (suc finishes.effect)) (trace (suc finishes.effect))
      (booked.asked_so (party_of call) ended.busy) (rw then at plays))
