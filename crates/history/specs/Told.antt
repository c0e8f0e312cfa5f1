-- Where each operation took effect, read from the calls and the numbers that they were answered, and from nothing else.
use Rattle.std.specs.Prelude.{ℕ, suc, List, [], ◌∷◌, set, replicate}
use Rattle.logic.specs.Pick.{pick}
use Rattle.party.specs.Answer.{is_refusal}
use Rattle.call.specs.Call.{Call, party_of}
use Rattle.history.specs.Run.{effect_by}

-- for each party the entry of its last call that was not refused, after one more
abbrev pub last_after : (last : List ℕ) (entry : ℕ) → Call → (number : ℕ) → List ℕ
last_after last entry call number = pick (is_refusal number) last (set last (party_of call) entry)

-- FULL and EMPTY took effect at the party's last call before them that was not refused
unfoldable pub effects_from : (last : List ℕ) (entry : ℕ) → List Call → (numbers : List ℕ) → List ℕ
effects_from last entry [] numbers = []
effects_from last entry (call ∷ calls) [] = []
effects_from last entry (call ∷ calls) (number ∷ numbers) =
    effect_by last entry call number ∷ effects_from (last_after last entry call number) (suc entry) calls numbers

-- of a whole schedule, with this many parties
abbrev pub effects_of : (parties : ℕ) → List Call → (numbers : List ℕ) → List ℕ
effects_of parties calls numbers = effects_from (replicate parties 0) 0 calls numbers
