-- An entry of a schedule: 8 bytes, act (0 start, 1 step, 2 withdraw), party, operation, a zero byte, a 32-bit number.
use Rattle.std.specs.Prelude.{ℕ, ◌+◌, Bool, ◌&&◌, ◌||◌, List, get_or, eqb, leb}
use Rattle.logic.specs.Pick.{pick}
use Rattle.little.specs.Bytes.{number_at}
use Rattle.call.specs.Call.{Call}
use Rattle.entry.specs.declared.Entry.{Entry}
use Rattle.entry.specs.declared.Entry.TheVariants.{Start, Step, Withdraw}

abbrev pub act_at : (bytes : List ℕ) (at : ℕ) → ℕ
act_at bytes at = get_or bytes at 0

abbrev pub party_at : (bytes : List ℕ) (at : ℕ) → ℕ
party_at bytes at = get_or bytes (at + 1) 0

abbrev pub operation_at : (bytes : List ℕ) (at : ℕ) → ℕ
operation_at bytes at = get_or bytes (at + 2) 0

abbrev pub zero_at : (bytes : List ℕ) (at : ℕ) → ℕ
zero_at bytes at = get_or bytes (at + 3) 0

-- v or the hint
abbrev pub word_at : (bytes : List ℕ) (at : ℕ) → ℕ
word_at bytes at = number_at 4 bytes (at + 4)

-- the act is known, the byte that must be 0 is, the operation is 0 unless start, and the number is 0 for withdraw
abbrev pub is_known : (act operation blank number : ℕ) → Bool
is_known act operation blank number =
    leb act 2 && eqb blank 0 && (eqb act 0 || eqb operation 0) && (leb act 1 || eqb number 0)

-- An entry that asks for nothing known is 11 and does nothing, as a start of operation 4 is.
abbrev pub unknown : (party : ℕ) → Call
unknown party = Call.start party 4 0

unfoldable pub call_at : (bytes : List ℕ) (at : ℕ) → Call
call_at bytes at =
    pick (is_known (act_at bytes at) (operation_at bytes at) (zero_at bytes at) (word_at bytes at))
    (pick (eqb (act_at bytes at) 0) (Call.start (party_at bytes at) (operation_at bytes at) (word_at bytes at))
    (pick (eqb (act_at bytes at) 1) (Call.step (party_at bytes at) (word_at bytes at))
    (Call.withdraw (party_at bytes at))))
    (unknown (party_at bytes at))

-- the call that an entry asks for
abbrev pub asked_of : Entry → Call
asked_of (Start party operation order) = Call.start party operation order
asked_of (Step party hint) = Call.step party hint
asked_of (Withdraw party) = Call.withdraw party
