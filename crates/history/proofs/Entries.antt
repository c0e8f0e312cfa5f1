-- A run entry by entry: what each party was last asked before it, and what it finishes.
use Prim.Native.Nat.{ℕ, zero, suc, ◌+◌, ◌<◌}
use mathlib.Core.Path.{◌≡◌, sym, ◌∙◌, ap}
use mathlib.Core.List.{List, [], ◌∷◌, ◌++◌, append_assoc, append-nil}
use native.Mathlib.Nat.{add-zero, add-suc, suc-add, zero-add}
use lib.ListN.{length, get_or, replicate}
use native.Mathlib.Omega.{arith}
use Rattle.call.specs.Call.{Call}
use Rattle.placing.specs.Placing.{gathered}
use Rattle.history.specs.Run.{State, no_line, line_of, leaves, lines_from, end_from, begin, no_call}
use Rattle.history.specs.Entries.{state_at, call_in}
use Rattle.history.specs.Finished.{Asked, Finished, nothing_yet, asked_after, finished_at, finished_from, finished_of}

module _ (first : State) (call : ℕ → Call) where
  abbrev at : (n : ℕ) → State
  at n = state_at first call n

  -- the rest of the calls from entry n on
  abbrev Rest : (n : ℕ) → List Call → Type 0
  Rest n rest = (i : ℕ) → get_or rest i no_call ≡ call (n + i)

  next_rest : (n : ℕ) (c : Call) (cs : List Call) → Rest n (c ∷ cs) → (c ≡ call n) × Rest (suc n) cs
  next_rest n c cs same =
      (same 0 ∙ ap call (add-zero n), λ i. same (suc i) ∙ ap call (add-suc n i ∙ sym (suc-add n i)))

  past_next : (n : ℕ) (cs : List Call) → suc n + length cs ≡ n + suc (length cs)
  past_next n cs = suc-add n (length cs) ∙ sym (add-suc n (length cs))

  pub ends_at : (n : ℕ) (rest : List Call) → Rest n rest → end_from (at n) n rest ≡ at (n + length rest)
  unfolding state_at end_from
  ends_at n [] same = ap at (sym (add-zero n))
  ends_at n (c ∷ cs) same =
      let next = next_rest n c cs same in
      ap (λ (x : Call). end_from (leaves (at n) n x) (suc n) cs) next.0
      ∙ ends_at (suc n) cs next.1
      ∙ ap at (past_next n cs)

  line_at : (n : ℕ) (rest : List Call) → Rest n rest → (i : ℕ) → i < length rest
      → get_or (lines_from (at n) n rest) i no_line ≡ line_of (at (n + i)) (n + i) (call (n + i))
  unfolding lines_from state_at
  line_at n [] same i within = absurd (omega arith)
  line_at n (c ∷ cs) same zero within =
      rw (add-zero n) (ap (line_of (at n) n) (next_rest n c cs same).0)
  line_at n (c ∷ cs) same (suc i) within =
      let next = next_rest n c cs same in
      let later : suc n + i ≡ n + suc i = omega arith in
      ap (λ (x : Call). get_or (lines_from (leaves (at n) n x) (suc n) cs) i no_line) next.0
      ∙ line_at (suc n) cs next.1 i (omega arith)
      ∙ ap (λ (m : ℕ). line_of (at m) m (call m)) later

  module _ (unasked : List Asked) where
    unfoldable pub asked_at : (n : ℕ) → List Asked
    asked_at zero = unasked
    asked_at (suc n) = asked_after (asked_at n) n (call n) (line_of (at n) n (call n))

    abbrev pub added_at : (n : ℕ) → List Finished
    added_at n = finished_at (asked_at n) n (call n) (line_of (at n) n (call n))

    pub finished_by_lem : (n : ℕ) (rest : List Call) → Rest n rest
        → gathered added_at n ++ finished_from (asked_at n) n rest (lines_from (at n) n rest) ≡ gathered added_at (n + length rest)
    unfolding state_at asked_at lines_from finished_from gathered
    finished_by_lem n [] same = append-nil (gathered added_at n) ∙ ap (gathered added_at) (sym (add-zero n))
    finished_by_lem n (c ∷ cs) same =
        let next = next_rest n c cs same in
        ap (λ (x : Call). gathered added_at n ++ finished_from (asked_at n) n (x ∷ cs) (lines_from (at n) n (x ∷ cs))) next.0
        ∙ sym (append_assoc (gathered added_at n) (added_at n) (finished_from (asked_at (suc n)) (suc n) cs (lines_from (at (suc n)) (suc n) cs)))
        ∙ finished_by_lem (suc n) cs next.1
        ∙ ap (gathered added_at) (past_next n cs)

-- A run of a list of calls, entry by entry: its end, and the finished operations of its lines.
module _ (strip : List ℕ) (parties : ℕ) (calls : List Call) where
  pub run_ends_at : end_from (begin strip parties) 0 calls ≡ state_at (begin strip parties) (call_in calls) (length calls)
  unfolding state_at
  run_ends_at =
      ends_at (begin strip parties) (call_in calls) 0 calls (λ i. ap (call_in calls) (sym (zero-add i)))
      ∙ ap (state_at (begin strip parties) (call_in calls)) (zero-add (length calls))

  pub run_finishes : finished_of parties calls (lines_from (begin strip parties) 0 calls)
      ≡ gathered (added_at (begin strip parties) (call_in calls) (replicate parties nothing_yet)) (length calls)
  unfolding state_at asked_at gathered
  run_finishes =
      finished_by_lem (begin strip parties) (call_in calls) (replicate parties nothing_yet) 0 calls (λ i. ap (call_in calls) (sym (zero-add i)))
      ∙ ap (gathered (added_at (begin strip parties) (call_in calls) (replicate parties nothing_yet))) (zero-add (length calls))

  pub the_line_of_an_entry : (n : ℕ) → n < length calls
      → get_or (lines_from (begin strip parties) 0 calls) n no_line ≡ line_of (state_at (begin strip parties) (call_in calls) n) n (call_in calls n)
  unfolding state_at
  the_line_of_an_entry n within =
      line_at (begin strip parties) (call_in calls) 0 calls (λ i. ap (call_in calls) (sym (zero-add i))) n within
      ∙ ap (λ (m : ℕ). line_of (state_at (begin strip parties) (call_in calls) m) m (call_in calls m)) (zero-add n)
