-- The line of what is shown of a turn: the listing's line of that entry. No public promise and no theorem about schedules rests on this
-- file: it is what the functions that write say of themselves.
use Rattle.std.specs.Prelude.{ℕ, List, [], ◌∷◌, ◌++◌, Option, Some, None}
use Rattle.party.specs.Answer.{number_of, carried_of}
use Rattle.call.specs.Call.{Call, party_of}
use Rattle.text.specs.Text.{decimal, spaced}
use Rattle.run.specs.declared.Turn.{Turn}
use Rattle.listing.specs.declared.Shown.{Shown}

-- the entry where an operation took effect, or "-"
abbrev pub shown_effect : Option ℕ → List ℕ
shown_effect None = 45 ∷ []
shown_effect (Some entry) = decimal entry

-- entry, party, number, carried order, effect
abbrev pub shown_text : (entry : ℕ) → Call → Shown → List ℕ
shown_text entry call shown =
    decimal entry
    ++ (spaced (party_of call) ++ (spaced shown.number ++ (spaced shown.carried ++ (32 ∷ (shown_effect shown.effect ++ (10 ∷ []))))))

-- what a line shows of a turn, and its line
abbrev pub shown_of : Turn → Shown
shown_of turn = record { number = number_of turn.answer; carried = carried_of turn.answer; effect = turn.effect }

abbrev pub turn_text : (entry : ℕ) → Call → Turn → List ℕ
turn_text entry call turn = shown_text entry call (shown_of turn)
