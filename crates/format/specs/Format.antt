-- The image: where each thing stands, and when a header is taken. What a version decides takes it; 1 is the only one known.
use Rattle.std.specs.Prelude.{ℕ, ◌+◌, ◌*◌, Bool, not, ◌&&◌, List, length, eqb, ltb}
use Rattle.std.specs.declared.result.Result.TheVariants.{Err}
use Rattle.logic.specs.Pick.{pick}
use Rattle.refusal.specs.declared.Refusal.TheVariants.{WrongSize, WrongMark}
use Rattle.refusal.specs.Refusal.{Check, passes}
use Rattle.header.specs.Header.{is_marked, version_at, parties_at, max_at, counts_fit}

abbrev pub is_known : (version : ℕ) → Bool
is_known version = eqb version 1

-- a word is 8 bytes of a strip that begins at a base, a record 32 bytes of a table that begins at one
abbrev pub word_place : (base place : ℕ) → ℕ
word_place base place = base + 8 * place

abbrev pub record_place : (base party : ℕ) → ℕ
record_place base party = base + 32 * party

-- the words stand after a header of 8 bytes, the records after the words
abbrev pub words_base : ℕ
words_base = 8

abbrev pub records_base : (version max : ℕ) → ℕ
records_base version max = word_place words_base (max + 2)

abbrev pub length_of : (version max parties : ℕ) → ℕ
length_of version max parties = record_place (records_base version max) parties

-- MAX, the party count and the exact length
abbrev pub sizes_fit : (version bytes max parties : ℕ) → Bool
sizes_fit version bytes max parties = counts_fit max parties && eqb bytes (length_of version max parties)

-- what is too short to have a header, then the mark "PDS" and the version, then what the header says
unfoldable pub header_refusal : List ℕ → Check
header_refusal image =
    pick (ltb (length image) 8) (Err WrongSize)
    (pick (not (is_marked 83 image && is_known (version_at image))) (Err WrongMark)
    (pick (not (sizes_fit (version_at image) (length image) (max_at image) (parties_at image))) (Err WrongSize) passes))

-- where the records stand, and a party's record, as the image's own header has it
abbrev pub records_in : List ℕ → ℕ
records_in image = records_base (version_at image) (max_at image)

abbrev pub party_place : List ℕ → (party : ℕ) → ℕ
party_place image party = record_place (records_in image) party
