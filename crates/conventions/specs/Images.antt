-- Calls on an image, and whole images: their refusals in document 01's order, and what is not looked at.
use Rattle.std.specs.Prelude.{ℕ, ◌+◌, List, [], ◌∷◌, ◌++◌, take, set, replicate}
use Rattle.record.specs.declared.Record.{Record}
use Rattle.record.specs.Record.{idle}
use Rattle.party.specs.Answer.{number_of}
use Rattle.call.specs.Call.{Call}
use Rattle.call.specs.Call.Call.{start, step, withdraw}
use Rattle.format.specs.Format.{party_place}
use Rattle.image.specs.Calls.{image_of, lay_of}
use Rattle.refusal.specs.Refusal.{check_number}
use Rattle.pieces.specs.Pieces.{read_refusal}
use Rattle.whole.specs.Whole.{written_of, write_refusal}
use Rattle.conventions.specs.Case.{Case, ◌is◌}
use Rattle.conventions.specs.Given.{fresh, two_words, busy, soiled, table}

-- the fresh strip and the four records: 168 bytes
abbrev pub image : List ℕ
image = written_of fresh table

-- damaged in one byte: the mark, the version, a party's byte 24
abbrev pub unmarked : List ℕ
unmarked = set image 2 79

abbrev pub of_version_2 : List ℕ
of_version_2 = set image 3 2

abbrev pub with_spare : (party : ℕ) → List ℕ
with_spare party = set image (party_place image party + 24) 1

abbrev pub answered : List ℕ → Call → ℕ
answered bytes call = number_of (image_of bytes call).answer

-- 1, 2 and 1 of the header come before all else, here a start that is wrong in every way
abbrev pub headers : List Case
headers =
    answered (take 7 unmarked) (start 256 4 2) is 1
    ∷ answered (take 8 unmarked) (start 256 4 2) is 2
    ∷ answered (set (written_of fresh []) 2 79) (start 256 4 2) is 2
    ∷ answered (take 63 of_version_2) (start 256 4 2) is 2
    ∷ answered (set (written_of two_words table) 3 2) (start 256 4 2) is 2
    ∷ answered (take 63 image) (start 256 4 2) is 1
    ∷ answered (written_of fresh []) (start 256 4 2) is 1
    ∷ answered (written_of fresh (replicate 17 busy)) (start 256 4 2) is 1
    ∷ answered (written_of two_words table) (start 256 4 2) is 1
    ∷ answered (take 167 image) (start 256 4 2) is 1
    ∷ answered (image ++ (0 ∷ [])) (start 256 4 2) is 1
    ∷ []

-- 11, 3, 4, 5 or 6, 7, 8; a byte that must be zero is 4, after 11 and before 5, 6, 7 and 8
abbrev pub named : List Case
named =
    answered image (start 256 4 2) is 11
    ∷ answered (with_spare 2) (start 2 4 2) is 11
    ∷ answered image (start 256 0 2) is 3
    ∷ answered image (start 0 0 2) is 4
    ∷ answered (with_spare 2) (start 2 0 2) is 4
    ∷ answered image (start 2 0 2) is 5
    ∷ answered (with_spare 3) (start 3 0 2) is 4
    ∷ answered image (start 3 0 2) is 7
    ∷ answered image (start 3 0 3) is 0
    ∷ answered (with_spare 2) (start 3 0 3) is 0
    ∷ answered image (step 256 0) is 3
    ∷ answered image (step 1 0) is 4
    ∷ answered (with_spare 3) (step 3 0) is 4
    ∷ answered image (step 3 0) is 6
    ∷ answered (with_spare 2) (step 2 0) is 4
    ∷ answered image (step 2 0) is 8
    ∷ answered image (step 2 2) is 0
    ∷ answered image (withdraw 256) is 3
    ∷ answered image (withdraw 1) is 4
    ∷ answered (with_spare 3) (withdraw 3) is 4
    ∷ answered image (withdraw 3) is 6
    ∷ answered image (withdraw 2) is 0
    ∷ []

abbrev pub laid : (bytes max parties divide : ℕ) → ℕ
laid bytes max parties divide = number_of (lay_of (replicate bytes 0) max parties divide).answer

-- laying: 1 before 8, and never 2; the smallest image has 64 bytes
abbrev pub lays : List Case
lays =
    laid 7 2 4 3 is 1
    ∷ laid 167 2 4 3 is 1
    ∷ laid 40 2 0 3 is 1
    ∷ laid 56 0 1 1 is 1
    ∷ laid 584 2 17 3 is 1
    ∷ laid 168 2 4 3 is 8
    ∷ laid 168 2 4 2 is 0
    ∷ laid 64 1 1 0 is 0
    ∷ []

-- four records that are all valid, and all but the last
abbrev pub valid : List Record
valid = idle ∷ busy ∷ busy ∷ idle ∷ []

abbrev pub last_soiled : List Record
last_soiled = idle ∷ busy ∷ busy ∷ soiled ∷ []

abbrev pub read_number : List ℕ → (words parties : ℕ) → ℕ
read_number bytes words parties = check_number (read_refusal bytes words parties)

-- reading: 1 for what is lent, 1, 2 and 1 of the header, 1 for what does not agree, 4 for any record
abbrev pub reads : List Case
reads =
    read_number unmarked 2 4 is 1
    ∷ read_number unmarked 4 17 is 1
    ∷ read_number (take 7 unmarked) 5 3 is 1
    ∷ read_number (take 8 unmarked) 5 3 is 2
    ∷ read_number (take 63 of_version_2) 5 3 is 2
    ∷ read_number (take 167 image) 4 4 is 1
    ∷ read_number image 5 4 is 1
    ∷ read_number image 4 3 is 1
    ∷ read_number image 4 5 is 1
    ∷ read_number image 4 4 is 4
    ∷ read_number (written_of fresh last_soiled) 4 4 is 4
    ∷ read_number (set (written_of fresh valid) 167 1) 4 4 is 4
    ∷ read_number (written_of fresh valid) 4 4 is 0
    ∷ []

abbrev pub write_number : (bytes words : ℕ) → List Record → ℕ
write_number bytes words records = check_number (write_refusal bytes words records)

-- writing: 1 for the lengths, 4 for any record
abbrev pub writes : List Case
writes =
    write_number 168 2 table is 1
    ∷ write_number 40 4 [] is 1
    ∷ write_number 167 4 table is 1
    ∷ write_number 169 4 table is 1
    ∷ write_number 168 4 table is 4
    ∷ write_number 168 4 last_soiled is 4
    ∷ write_number 168 4 valid is 0
    ∷ []
