-- The cells that a listing shows are the strip's words.
use Prim.Native.Nat.{ℕ, suc, ◌<◌}
use mathlib.Core.Path.{◌≡◌, refl, sym, ◌∙◌, ap}
use mathlib.Core.Bool.{true}
use mathlib.Core.List.{List, [], ◌∷◌, ◌++◌, map, append_assoc, append-nil}
use lib.ListN.{drop}
use borrow.Author.Tests.{ne_eqb}
use native.Mathlib.Omega.{arith}
use Rattle.logic.specs.Every.{Every}
use Rattle.word.specs.Word.{IsWord, value_of, counter_of}
use Rattle.word.proofs.Laws.{word_is_its_parts}
use Rattle.text.specs.Text.{decimal}
use Rattle.listing.specs.Listing.{word_text, words_text, cells_text}
use Rattle.shown.specs.Shown.{split, rows, shown_word}
use Rattle.shown.proofs.Splitting.{lacks, lacks_both, digits_lack, first_piece, only_piece, number_first}
use Rattle.shown.proofs.Numbers.{digits_spell_the_number}

-- value.counter, without the space
abbrev field_of : (word : ℕ) → List ℕ
field_of word = decimal (value_of word) ++ (46 ∷ decimal (counter_of word))

field_shows_the_word : (word : ℕ) → IsWord word → shown_word (field_of word) ≡ word
field_shows_the_word word fits =
    let counter = decimal (counter_of word) in
    rw (
      number_first 46 (omega arith) (value_of word) counter,
      only_piece 46 counter (digits_lack 46 (omega arith) 9 (counter_of word)),
      digits_spell_the_number 9 (value_of word) (omega arith),
      digits_spell_the_number 9 (counter_of word) (omega arith),
    ) (word_is_its_parts word)

fields_show_the_words : (words : List ℕ) → Every IsWord 0 words → map shown_word (map field_of words) ≡ words
fields_show_the_words [] fit = refl
fields_show_the_words (word ∷ words) fit =
    rw (field_shows_the_word word (fit 0 (omega arith)), fields_show_the_words words (λ i within. fit (suc i) (omega arith))) refl

-- the words' text without the end of its row
unfoldable words_row : (words : List ℕ) → List ℕ
words_row [] = []
words_row (word ∷ words) = word_text word ++ words_row words

words_end : (words : List ℕ) → words_text words ≡ words_row words ++ (10 ∷ [])
unfolding words_row words_text
words_end [] = refl
words_end (word ∷ words) = rw (words_end words) (sym (append_assoc (word_text word) (words_row words) (10 ∷ [])))

field_lacks : (at word : ℕ) → at < 46 → lacks at (field_of word) ≡ true
unfolding lacks
field_lacks at word below =
    simp (lacks_both at, digits_lack at (omega arith), ne_eqb 46 at (λ e. omega arith))

words_go_on : (words : List ℕ) → lacks 10 (words_row words) ≡ true
unfolding words_row lacks
words_go_on [] = refl
words_go_on (word ∷ words) = rw (lacks_both 10 (field_of word) (words_row words), field_lacks 10 word (omega arith), words_go_on words) refl

-- a space stands in front of each word
words_are_cut : (front words : List ℕ) → lacks 32 front ≡ true → split 32 (front ++ words_row words) ≡ front ∷ map field_of words
unfolding words_row
words_are_cut front [] e = rw (append-nil front) (only_piece 32 front e)
words_are_cut front (word ∷ words) e =
    first_piece 32 front (field_of word ++ words_row words) e
    ∙ ap (λ (rest : List (List ℕ)). front ∷ rest) (words_are_cut (field_of word) words (field_lacks 32 word (omega arith)))

module _ (strip : List ℕ) where
  abbrev cells : List ℕ
  cells = 99 ∷ 101 ∷ 108 ∷ 108 ∷ 115 ∷ []

  pub cells_row : List ℕ
  cells_row = cells ++ words_row strip

  -- behind the last end of a row stands an empty one
  pub cells_are_a_row : rows (cells_text strip) ≡ cells_row ∷ ([] ∷ [])
  unfolding cells_row lacks split
  cells_are_a_row = rw (words_end strip) (first_piece 10 cells_row [] (words_go_on strip))

  pub cells_are_shown : Every IsWord 0 strip → map shown_word (drop 1 (split 32 cells_row)) ≡ strip
  unfolding cells_row lacks
  cells_are_shown fit = rw (words_are_cut cells strip refl) (fields_show_the_words strip fit)
