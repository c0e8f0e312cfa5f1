-- The lines that a listing shows are the run's, each with its effect where it is a result.
use Prim.Native.Nat.{ℕ, suc, ◌≤◌, ◌<◌}
use mathlib.Core.Path.{◌≡◌, refl, ap, ap₂}
use mathlib.Core.Bool.{Bool, true, false}
use mathlib.Core.List.{List, [], ◌∷◌, ◌++◌, map, append_assoc}
use lib.ListN.{length}
use borrow.Author.Tests.{ne_eqb}
use native.Mathlib.Omega.{arith}
use Rattle.logic.specs.Pick.{pick}
use Rattle.logic.specs.Every.{Every}
use Rattle.logic.proofs.Bools.{whichever}
use Rattle.call.specs.Call.{Call, party_of}
use Rattle.text.specs.Text.{decimal, spaced}
use Rattle.history.specs.Run.{State, Line, line_of, leaves, lines_from, no_line}
use Rattle.history.specs.Finished.{is_result}
use Rattle.listing.specs.Listing.{effect_text, line_text, lines_text, run_text}
use Rattle.listing.proofs.Bounds.{Bounded}
use Rattle.shown.specs.Shown.{split, decimal_from, decimal_in, rows, shown_line}
use Rattle.shown.proofs.Splitting.{lacks, lacks_both, digits_lack, first_piece, only_piece, number_first}
use Rattle.shown.proofs.Numbers.{digits_spell_the_number}

-- a line as it is shown: without a result its effect is 0
abbrev pub as_shown : Line → Line
as_shown line =
    record {
      number = line.number;
      carried = line.carried;
      effect = pick (is_result line.number) line.effect 0;
    }

effect_lacks : (at : ℕ) (line : Line) → at < 45 → lacks at (effect_text line) ≡ true
unfolding lacks
effect_lacks at line below =
    whichever (λ (text : List ℕ). lacks at text ≡ true) (is_result line.number) (digits_lack at (omega arith) 9 line.effect)
    (rw (ne_eqb 45 at (λ e. omega arith)) refl)

effect_is_read : (line : Line) → line.effect < 2048 → decimal_in (effect_text line) ≡ (as_shown line).effect
unfolding decimal_from
effect_is_read line small = go (is_result line.number)
  where
    go : (result : Bool) → decimal_in (pick result (decimal line.effect) (45 ∷ [])) ≡ pick result line.effect 0
    go true = digits_spell_the_number 9 line.effect (omega arith)
    go false = refl

module _ (entry : ℕ) (call : Call) (line : Line) where
  -- a line's text without the end of its row
  abbrev pub line_row : List ℕ
  line_row = decimal entry ++ (spaced (party_of call) ++ (spaced line.number ++ (spaced line.carried ++ (32 ∷ effect_text line))))

  line_ends : (rest : List ℕ) → line_text entry call line ++ rest ≡ line_row ++ (10 ∷ rest)
  line_ends rest = simp append_assoc

  line_goes_on : lacks 10 line_row ≡ true
  unfolding lacks
  line_goes_on = simp (lacks_both 10, digits_lack 10 (omega arith), effect_lacks 10 line (omega arith))

  pub line_is_cut : split 32 line_row
      ≡ decimal entry ∷ decimal (party_of call) ∷ decimal line.number ∷ decimal line.carried ∷ effect_text line ∷ []
  line_is_cut =
      simp (number_first 32 (omega arith), only_piece 32 (effect_text line) (effect_lacks 32 line (omega arith)))

  number_is_shown : line.number ≤ 19 → (shown_line line_row).number ≡ line.number
  number_is_shown small = rw line_is_cut (digits_spell_the_number 9 line.number (omega arith))

  carried_is_shown : line.carried < 4294967296 → (shown_line line_row).carried ≡ line.carried
  carried_is_shown small = rw line_is_cut (digits_spell_the_number 9 line.carried (omega arith))

  effect_is_shown : line.effect < 2048 → (shown_line line_row).effect ≡ (as_shown line).effect
  effect_is_shown small = rw line_is_cut (effect_is_read line small)

  line_is_shown : Bounded line → shown_line line_row ≡ as_shown line
  line_is_shown bounded =
      rw (number_is_shown bounded.number_is, carried_is_shown bounded.carried_is, effect_is_shown bounded.effect_is) refl

-- a row for each entry of a run
unfoldable pub rows_from : State → (entry : ℕ) → List Call → List (List ℕ)
rows_from s entry [] = []
rows_from s entry (call ∷ calls) = line_row entry call (line_of s entry call) ∷ rows_from (leaves s entry call) (suc entry) calls

pub each_entry_has_a_row : (s : State) (entry : ℕ) (calls : List Call) → length (rows_from s entry calls) ≡ length calls
unfolding rows_from
each_entry_has_a_row s entry [] = refl
each_entry_has_a_row s entry (call ∷ calls) = ap suc (each_entry_has_a_row (leaves s entry call) (suc entry) calls)

pub run_is_rows : (s : State) (entry : ℕ) (calls : List Call) (rest : List ℕ)
    → rows (run_text s entry calls ++ rest) ≡ rows_from s entry calls ++ rows rest
unfolding rows_from lines_from lines_text
run_is_rows s entry [] rest = refl
run_is_rows s entry (call ∷ calls) rest =
    let line = line_of s entry call in
    let later = run_text (leaves s entry call) (suc entry) calls in
    rw (
      append_assoc (line_text entry call line) later rest,
      line_ends entry call line (later ++ rest),
      first_piece 10 (line_row entry call line) (later ++ rest) (line_goes_on entry call line),
      run_is_rows (leaves s entry call) (suc entry) calls rest,
    ) refl

pub lines_are_shown : (s : State) (entry : ℕ) (calls : List Call) → Every Bounded no_line (lines_from s entry calls)
    → map shown_line (rows_from s entry calls) ≡ map as_shown (lines_from s entry calls)
unfolding rows_from lines_from
lines_are_shown s entry [] bounded = refl
lines_are_shown s entry (call ∷ calls) bounded =
    ap₂ ◌∷◌ (line_is_shown entry call (line_of s entry call) (bounded 0 (omega arith)))
    (lines_are_shown (leaves s entry call) (suc entry) calls (λ i within. bounded (suc i) (omega arith)))
