-- The rows of a listing: the header's, one for each entry, the cells'.
use Prim.Native.Nat.{ℕ}
use mathlib.Core.Path.{◌≡◌, refl, ◌∙◌, ap}
use mathlib.Core.List.{List, [], ◌∷◌, ◌++◌, append_assoc}
use native.Mathlib.Omega.{arith}
use Rattle.call.specs.Call.{Call}
use Rattle.text.specs.Text.{spaced}
use Rattle.history.specs.Run.{State, end_from}
use Rattle.listing.specs.Listing.{header_text, run_text, cells_text, first_state, listing_text}
use Rattle.shown.specs.Shown.{rows}
use Rattle.shown.proofs.Splitting.{lacks, lacks_both, digits_lack, first_piece}
use Rattle.shown.proofs.Cells.{cells_row, cells_are_a_row}
use Rattle.shown.proofs.Lines.{rows_from, run_is_rows}

module _ (max divide parties : ℕ) where
  -- the header's text without the end of its row
  abbrev pub header_row : List ℕ
  header_row =
      (115 ∷ 116 ∷ 114 ∷ 105 ∷ 112 ∷ [])
      ++ (spaced max ++ (spaced divide ++ ((32 ∷ 112 ∷ 97 ∷ 114 ∷ 116 ∷ 105 ∷ 101 ∷ 115 ∷ []) ++ spaced parties)))

  header_is_a_row : (rest : List ℕ) → rows (header_text max divide parties ++ rest) ≡ header_row ∷ rows rest
  unfolding lacks
  header_is_a_row rest =
      let ends : header_text max divide parties ++ rest ≡ header_row ++ (10 ∷ rest) = simp append_assoc in
      ap rows ends ∙ first_piece 10 header_row rest (simp (lacks_both 10, digits_lack 10 (omega arith)))

  abbrev first : State
  first = first_state max divide parties

  pub rows_of_a_listing : (calls : List Call) → rows (listing_text max divide parties calls)
      ≡ header_row ∷ (rows_from first 0 calls ++ (cells_row (end_from first 0 calls).strip ∷ ([] ∷ [])))
  unfolding listing_text
  rows_of_a_listing calls =
      let cells = cells_text (end_from first 0 calls).strip in
      header_is_a_row (run_text first 0 calls ++ cells)
      ∙ rw (run_is_rows first 0 calls cells, cells_are_a_row (end_from first 0 calls).strip) refl
