-- An entry of a schedule on its party's record: act, party, operation, a zero byte, a 32-bit number.
use Rattle.std.specs.Prelude.{ℕ, List, [], ◌∷◌}
use Rattle.record.specs.declared.Record.{Record}
use Rattle.record.specs.Record.{idle}
use Rattle.party.specs.Answer.{number_of}
use Rattle.entry.specs.Entry.{call_at}
use Rattle.entry.specs.OnRecord.{on_record_of}
use Rattle.conventions.specs.Case.{Case, ◌is◌}
use Rattle.conventions.specs.Given.{fresh, two_words, busy, spoilt, soiled}

-- of two parties; the number is below 256
abbrev pub entered : List ℕ → Record → (act party operation blank number : ℕ) → ℕ
entered strip r act party operation blank number =
    number_of (on_record_of strip 2 r (call_at (act ∷ party ∷ operation ∷ blank ∷ number ∷ 0 ∷ 0 ∷ 0 ∷ []) 0)).answer

-- 11: an act above 2, an operation above 3, an operation unless start, the zero byte, a withdrawal's number
abbrev pub fields : List Case
fields =
    entered fresh idle 0 0 0 0 3 is 0
    ∷ entered fresh idle 0 0 4 0 3 is 11
    ∷ entered fresh idle 0 0 0 1 3 is 11
    ∷ entered fresh busy 1 0 0 0 2 is 0
    ∷ entered fresh busy 1 0 1 0 2 is 11
    ∷ entered fresh busy 1 0 0 1 2 is 11
    ∷ entered fresh busy 2 0 0 0 0 is 0
    ∷ entered fresh busy 2 0 1 0 0 is 11
    ∷ entered fresh busy 2 0 0 1 0 is 11
    ∷ entered fresh busy 2 0 0 0 1 is 11
    ∷ entered fresh busy 3 0 0 0 0 is 11
    ∷ []

-- the number is compared whole: 2 and 2^24 more is no hint
abbrev pub wide_number : List Case
wide_number = number_of (on_record_of fresh 2 busy (call_at (1 ∷ 0 ∷ 0 ∷ 0 ∷ 2 ∷ 0 ∷ 0 ∷ 1 ∷ []) 0)).answer is 8 ∷ []

-- 1, 11, 3, and then those by value
abbrev pub entry_order : List Case
entry_order =
    entered two_words spoilt 3 2 4 1 2 is 1
    ∷ entered fresh spoilt 3 2 4 1 2 is 11
    ∷ entered fresh spoilt 0 2 0 0 2 is 3
    ∷ entered fresh spoilt 0 1 0 0 2 is 4
    ∷ entered fresh busy 0 1 0 0 2 is 5
    ∷ entered fresh idle 0 1 0 0 2 is 7
    ∷ entered fresh idle 0 1 1 0 2 is 7
    ∷ entered fresh soiled 1 2 0 0 0 is 3
    ∷ entered fresh soiled 1 1 0 0 0 is 4
    ∷ entered fresh idle 1 1 0 0 0 is 6
    ∷ entered fresh busy 1 1 0 0 0 is 8
    ∷ entered fresh soiled 2 2 0 0 0 is 3
    ∷ entered fresh soiled 2 1 0 0 0 is 4
    ∷ entered fresh idle 2 1 0 0 0 is 6
    ∷ []
