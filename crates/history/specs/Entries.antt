-- A run entry by entry: the state before each entry, and where a party last looked.
use Rattle.std.specs.Prelude.{ℕ, zero, suc, ◌<◌, ◌≡◌, true, List, get_or}
use Rattle.record.specs.Record.{idle}
use Rattle.party.specs.Answer.{is_refusal}
use Rattle.record.specs.declared.Record.{Record}
use Rattle.call.specs.Call.{Call, party_of}
use Rattle.history.specs.Run.{State, no_call, is_step, leaves, number_in}

-- the calls of a list by their numbers
abbrev pub call_in : List Call → ℕ → Call
call_in calls n = get_or calls n no_call

module _ (first : State) (call : ℕ → Call) where
  unfoldable pub state_at : (n : ℕ) → State
  state_at zero = first
  state_at (suc n) = leaves (state_at n) n (call n)

  -- a party's record before entry n
  abbrev pub record_before : (n party : ℕ) → Record
  record_before n party = get_or (state_at n).table party idle

  -- e is the entry of a look of a party before entry n: a step of its own, at this stage, which is the one before the stage where it is
  -- now; and what else it was called for since was refused
  pub record LookedAt (n party e stage : ℕ) : Type 0 where
    pub before : e < n
    pub own : party_of (call e) ≡ party
    pub steps : is_step (call e) ≡ true
    pub at_stage : (record_before e party).stage ≡ stage
    pub now_stage : (record_before n party).stage ≡ suc stage
    pub refused_since : (m : ℕ) → e < m → m < n → party_of (call m) ≡ party → is_refusal (number_in (state_at m) (call m)) ≡ true
