-- What else a listing shows: MAX, divide and parties in its first row, and in each entry's row the entry and its party.
use Prim.Native.Nat.{ℕ, zero, suc, ◌+◌, ◌<◌}
use mathlib.Core.Path.{◌≡◌, refl, ◌∙◌, ap}
use mathlib.Core.List.{List, [], ◌∷◌}
use lib.ListN.{length, get_or, get_or-append}
use native.Mathlib.Nat.{zero-add}
use native.Mathlib.Numerals.{add-one}
use native.Mathlib.Omega.{arith}
use Rattle.refusal.specs.Refusal.{passes}
use Rattle.little.specs.Bytes.{AreBytes}
use Rattle.call.specs.Call.{Call, party_of}
use Rattle.header.specs.Header.{parties_at, max_at}
use Rattle.text.specs.Text.{decimal}
use Rattle.history.specs.Run.{State, no_call, no_line, leaves, lines_from}
use Rattle.schedule.specs.File.{divide_at, entries_of, file_refusal, calls_of}
use Rattle.schedule.specs.List.{listing_of, first_of}
use Rattle.schedule.proofs.Files.{Listable, listable, calls_count, calls_narrow}
use Rattle.shown.specs.Shown.{split, rows, shown_field}
use Rattle.shown.proofs.Splitting.{lacks, digits_lack, first_piece, only_piece, number_first}
use Rattle.shown.proofs.Numbers.{digits_spell_the_number}
use Rattle.shown.proofs.Lines.{line_row, line_is_cut, rows_from, each_entry_has_a_row}
use Rattle.shown.proofs.Rows.{header_row, rows_of_a_listing}

row_at : (calls : List Call) (s : State) (entry n : ℕ) → n < length calls
    → get_or (rows_from s entry calls) n [] ≡ line_row (entry + n) (get_or calls n no_call) (get_or (lines_from s entry calls) n no_line)
unfolding rows_from lines_from
row_at [] s entry n within = absurd (omega arith)
row_at (call ∷ calls) s entry zero within = let same : entry + 0 ≡ entry = omega arith in rw same refl
row_at (call ∷ calls) s entry (suc n) within =
    let same : entry + suc n ≡ suc entry + n = omega arith in
    rw same (row_at calls (leaves s entry call) (suc entry) n (omega arith))

-- "strip" and "parties"
abbrev strip : List ℕ
strip = 115 ∷ 116 ∷ 114 ∷ 105 ∷ 112 ∷ []

abbrev parties_word : List ℕ
parties_word = 112 ∷ 97 ∷ 114 ∷ 116 ∷ 105 ∷ 101 ∷ 115 ∷ []

header_is_cut : (max divide parties : ℕ)
    → split 32 (header_row max divide parties) ≡ strip ∷ decimal max ∷ decimal divide ∷ parties_word ∷ decimal parties ∷ []
unfolding lacks
header_is_cut max divide parties =
    first_piece 32 strip _ refl
    ∙ simp (
      number_first 32 (omega arith),
      first_piece 32 parties_word,
      only_piece 32 (decimal parties) (digits_lack 32 (omega arith) 9 parties),
    )

module _ (file : List ℕ) (are : AreBytes file) (taken : file_refusal file ≡ passes) where
  known : Listable file
  known = listable file taken

  abbrev row_of : (n : ℕ) → List ℕ
  row_of n = get_or (rows (listing_of file)) n []

  header_is : row_of 0 ≡ header_row (max_at file) (divide_at file) (parties_at file)
  header_is = rw (rows_of_a_listing (max_at file) (divide_at file) (parties_at file) (calls_of file)) refl

  pub the_first_row_shows_the_file : (shown_field (row_of 0) 1 ≡ max_at file) × (shown_field (row_of 0) 2 ≡ divide_at file)
      × (shown_field (row_of 0) 4 ≡ parties_at file)
  the_first_row_shows_the_file =
      rw (header_is, header_is_cut (max_at file) (divide_at file) (parties_at file)) (
        digits_spell_the_number 9 (max_at file) (omega (arith, known.max_high)),
        digits_spell_the_number 9 (divide_at file) (omega (arith, known.max_high, known.inside)),
        digits_spell_the_number 9 (parties_at file) (omega (arith, known.parties_high)),
      )

  count : length (calls_of file) ≡ entries_of file
  count = calls_count file 10 (entries_of file)

  -- the row of an entry
  entry_row : (n : ℕ) → n < length (calls_of file)
      → row_of (n + 1) ≡ line_row n (get_or (calls_of file) n no_call) (get_or (lines_from (first_of file) 0 (calls_of file)) n no_line)
  entry_row n within =
      let many = each_entry_has_a_row (first_of file) 0 (calls_of file) in
      rw (rows_of_a_listing (max_at file) (divide_at file) (parties_at file) (calls_of file), add-one n)
      (get_or-append (rows_from (first_of file) 0 (calls_of file)) _ [] n (omega arith)
      ∙ row_at (calls_of file) (first_of file) 0 n within
      ∙ ap (λ (entry : ℕ). line_row entry (get_or (calls_of file) n no_call) (get_or (lines_from (first_of file) 0 (calls_of file)) n no_line)) (zero-add n))

  pub each_row_shows_its_entry_and_party : (n : ℕ) → n < entries_of file
      → (shown_field (row_of (n + 1)) 0 ≡ n) × (shown_field (row_of (n + 1)) 1 ≡ party_of (get_or (calls_of file) n no_call))
  each_row_shows_its_entry_and_party n within =
      let inside : n < length (calls_of file) = rw count within in
      rw (entry_row n inside, line_is_cut n (get_or (calls_of file) n no_call) (get_or (lines_from (first_of file) 0 (calls_of file)) n no_line)) (
        digits_spell_the_number 9 n (omega (arith, known.few)),
        digits_spell_the_number 9 (party_of (get_or (calls_of file) n no_call)) (omega (arith, calls_narrow file are n inside)),
      )
