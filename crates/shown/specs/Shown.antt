-- What a listing shows, read back from its text alone; its schedule file has the entries.
use Rattle.std.specs.Prelude.{ℕ, ◌+◌, ◌*◌, ◌-◌, List, [], ◌∷◌, map, get_or, take, drop, eqb}
use Rattle.logic.specs.Pick.{pick}
use Rattle.word.specs.Word.{word_of}
use Rattle.history.specs.Run.{Line}
use Rattle.schedule.specs.File.{entries_of}

-- the byte goes in front of the first piece
abbrev pub in_front : (byte : ℕ) (pieces : List (List ℕ)) → List (List ℕ)
in_front byte [] = (byte ∷ []) ∷ []
in_front byte (piece ∷ pieces) = (byte ∷ piece) ∷ pieces

-- the pieces of a text, cut at every byte `at`
unfoldable pub split : (at : ℕ) (text : List ℕ) → List (List ℕ)
split at [] = [] ∷ []
split at (byte ∷ text) = pick (eqb byte at) ([] ∷ split at text) (in_front byte (split at text))

-- the number that digits spell behind the digits of `number`
unfoldable pub decimal_from : (number : ℕ) (digits : List ℕ) → ℕ
decimal_from number [] = number
decimal_from number (digit ∷ digits) = decimal_from (10 * number + (digit - 48)) digits

-- the number that decimal digits spell, most first
abbrev pub decimal_in : (digits : List ℕ) → ℕ
decimal_in digits = decimal_from 0 digits

-- the rows of a text
abbrev pub rows : (text : List ℕ) → List (List ℕ)
rows text = split 10 text

-- the number in field i of a row, from field 0 on, with a space between each two
abbrev pub shown_field : (row : List ℕ) (i : ℕ) → ℕ
shown_field row i = decimal_in (get_or (split 32 row) i [])

-- the line that a row shows: behind entry and party the number, the carried order and the effect; "-" reads as 0
abbrev pub shown_line : (row : List ℕ) → Line
shown_line row =
    record {
      number = shown_field row 2;
      carried = shown_field row 3;
      effect = shown_field row 4;
    }

-- the lines of a listing: a row for each entry, behind the header's
abbrev pub lines_in : (file text : List ℕ) → List Line
lines_in file text = map shown_line (take (entries_of file) (drop 1 (rows text)))

-- the word that "value.counter" shows
abbrev pub shown_word : (text : List ℕ) → ℕ
shown_word text = word_of (decimal_in (get_or (split 46 text) 1 [])) (decimal_in (get_or (split 46 text) 0 []))

-- the words that the row behind the entries' rows shows, behind its first field "cells"
abbrev pub cells_in : (file text : List ℕ) → List ℕ
cells_in file text = map shown_word (drop 1 (split 32 (get_or (rows text) (entries_of file + 1) [])))
