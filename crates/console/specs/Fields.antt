-- The fields of a text: bytes that are no blank, with blanks between.
use Rattle.std.specs.Prelude.{ℕ, Bool, not, ◌||◌, ◌&&◌, List, take, drop, eqb, leb}
use Rattle.std.specs.List.{position_or_len}

-- a space, or one of the five from a tab to a carriage return
abbrev pub is_blank : ℕ → Bool
is_blank b = eqb b 32 || (leb 9 b && leb b 13)

abbrev pub is_ink : ℕ → Bool
is_ink b = not (is_blank b)

-- how many blanks a text begins with; how many bytes of a field
abbrev pub blanks : List ℕ → ℕ
blanks text = position_or_len is_ink text

abbrev pub field_length : List ℕ → ℕ
field_length text = position_or_len is_blank text

-- the first field, which is empty where there is none, and the text after it
unfoldable pub field_of : List ℕ → List ℕ
field_of text = let from = drop (blanks text) text in take (field_length from) from

unfoldable pub rest_of : List ℕ → List ℕ
rest_of text = let from = drop (blanks text) text in drop (field_length from) from
