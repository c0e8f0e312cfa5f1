-- No public promise speaks of this file, nor does demand 3's theorem: proofs go by it. What is asked of a machine, one call at a time:
-- an invariant of a state, of the plain strip p that its strip stands for, and of `thens`, the plain strip at each party's last look.
use Rattle.std.specs.Prelude.{ℕ, ◌≡◌, true, false, ◌⊎◌, List, length}
use Rattle.logic.specs.Pick.{pick}
use Rattle.step.specs.Step.{strip_fits}
use Rattle.call.specs.Call.{Call, Fitting, party_of, record_of, call_of}
use Rattle.plain.specs.Plain.{Plain}
use Rattle.strip.specs.Shape.{StandsFor}
use Rattle.invariant.specs.Remembered.{RecordYields}
use Rattle.history.specs.Run.{State, begin, leaves, number_in, looks_now}
use Rattle.history.specs.Finished.{is_result}

-- A call that ends no operation leaves the plain strip. PUSHED and POPPED are what the record's operation gives on it now; FULL and
-- EMPTY what it gave, and left, at the party's last look.
pub data Says (s : State) (p : Plain) (thens : ℕ → Plain) (call : Call) (next : Plain) : Type 0 where
  quiet : is_result (number_in s call) ≡ false → next ≡ p → Says s p thens call next
  acts : (number_in s call ≡ 16) ⊎ (number_in s call ≡ 17)
      → RecordYields (record_of s.table call) p (call_of s.strip s.table call).answer next → Says s p thens call next
  recalls : (number_in s call ≡ 18) ⊎ (number_in s call ≡ 19) → next ≡ p
      → RecordYields (record_of s.table call) (thens (party_of call)) (call_of s.strip s.table call).answer (thens (party_of call))
      → Says s p thens call next

-- a party that looks now remembers the plain strip of now
abbrev pub thens_after : State → Plain → (ℕ → Plain) → Call → ℕ → Plain
thens_after s p thens call i = pick (looks_now s call i) p (thens i)

pub record Goes (Inv : State → Plain → (ℕ → Plain) → Type 0) (s : State) (p : Plain) (thens : ℕ → Plain) (call : Call) : Type 0 where
  pub next : Plain
  pub says : Says s p thens call next
  pub kept : (entry : ℕ) → Inv (leaves s entry call) next (thens_after s p thens call)

pub record Machine (Inv : State → Plain → (ℕ → Plain) → Type 0) : Type 0 where
  pub begins : (strip : List ℕ) (p : Plain) (parties : ℕ) → strip_fits (length strip) ≡ true → StandsFor strip p
      → Inv (begin strip parties) p (λ i. p)
  pub stands : (s : State) (p : Plain) (thens : ℕ → Plain) → Inv s p thens → StandsFor s.strip p
  pub goes : (s : State) (p : Plain) (thens : ℕ → Plain) → Inv s p thens → (call : Call) → Fitting call → Goes Inv s p thens call
