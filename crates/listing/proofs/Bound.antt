-- No listing is longer than 147,489 bytes: a header of 27, 2,048 lines of 28, and 6 and 4,096 times 22 for the cells.
use Prim.Native.Nat.{ℕ, suc, ◌+◌, ◌*◌, ◌≤◌, ◌<◌}
use mathlib.Core.List.{List, [], ◌∷◌, ◌++◌}
use lib.ListN.{length, length-append}
use native.Mathlib.Omega.{arith}
use Rattle.logic.specs.Every.{Every}
use Rattle.logic.proofs.Bools.{whichever}
use Rattle.text.specs.Text.{decimal}
use Rattle.text.proofs.Digits.{decimal_is_short}
use Rattle.text.proofs.Lengths.{digits_most}
use Rattle.word.specs.Word.{value_of, counter_of}
use Rattle.call.specs.Call.{Call, party_of}
use Rattle.strip.specs.Lay.{fresh_strip}
use Rattle.strip.proofs.Laying.{fresh_length}
use Rattle.history.specs.Run.{Line, no_call, lines_from, end_from, no_line}
use Rattle.history.specs.Finished.{is_result}
use Rattle.history.proofs.Counters.{the_strip_stays_as_long}
use Rattle.listing.specs.Listing.{effect_text, line_text, lines_text, run_text, header_text, words_text, cells_text, first_state, listing_text, listing_bound, Narrow}
use Rattle.listing.proofs.Bounds.{Bounded, lines_are_bounded}

effect_length : (line : Line) → line.effect < 2048 → length (effect_text line) ≤ 4
effect_length line h =
    whichever (λ (l : List ℕ). length l ≤ 4) (is_result line.number) {a = decimal line.effect} {b = 45 ∷ []}
    (decimal_is_short 4 line.effect (omega arith) (omega arith) (omega arith)) (omega arith)

line_length : (entry : ℕ) (call : Call) (line : Line)
    → entry < 2048 → party_of call < 256 → Bounded line → length (line_text entry call line) ≤ 28
line_length entry call line e p bounded =
    let d1 = decimal_is_short 4 entry (omega arith) (omega arith) (omega arith) in
    let d2 = decimal_is_short 3 (party_of call) (omega arith) (omega arith) (omega arith) in
    let d3 = decimal_is_short 2 line.number (omega arith) (omega (arith, bounded.number_is)) (omega (arith, bounded.number_is)) in
    let d4 = digits_most 9 line.carried in
    let d5 = effect_length line bounded.effect_is in
    simp length-append (omega arith)

header_length : (max divide parties : ℕ) → max ≤ 4094 → divide ≤ 4094 → parties ≤ 16 → length (header_text max divide parties) ≤ 27
header_length max divide parties m d p =
    let d1 = decimal_is_short 4 max (omega arith) (omega arith) (omega arith) in
    let d2 = decimal_is_short 4 divide (omega arith) (omega arith) (omega arith) in
    let d3 = decimal_is_short 2 parties (omega arith) (omega arith) (omega arith) in
    simp length-append (omega arith)

words_length : (words : List ℕ) → length (words_text words) ≤ 22 * length words + 1
unfolding words_text
words_length [] = omega arith
words_length (word ∷ words) =
    let rest = words_length words in
    let d1 = digits_most 9 (value_of word) in
    let d2 = digits_most 9 (counter_of word) in
    simp length-append (omega arith)

lines_length : (calls : List Call) (lines : List Line) (entry : ℕ) → Every Narrow no_call calls → Every Bounded no_line lines
    → entry + length calls ≤ 2048 → length (lines_text entry calls lines) ≤ 28 * length calls
unfolding lines_text
lines_length [] lines entry narrow bounded fits = omega arith
lines_length (call ∷ calls) [] entry narrow bounded fits = omega arith
lines_length (call ∷ calls) (line ∷ lines) entry narrow bounded fits =
    let here = line_length entry call line (omega arith) (narrow 0 (omega arith)) (bounded 0 (omega arith)) in
    let rest = lines_length calls lines (suc entry) (λ i within. narrow (suc i) (omega arith)) (λ i within. bounded (suc i) (omega arith))
    (omega arith) in
    omega (arith, length-append (line_text entry call line) (lines_text (suc entry) calls lines))

pub no_listing_is_longer : (max divide parties : ℕ) (calls : List Call) → max ≤ 4094 → divide ≤ max → parties ≤ 16 → length calls ≤ 2048
    → Every Narrow no_call calls → length (listing_text max divide parties calls) ≤ listing_bound
unfolding listing_text
no_listing_is_longer max divide parties calls max_fits inside parties_fit few narrow =
    let first = first_state max divide parties in
    let header = header_length max divide parties max_fits (omega arith) parties_fit in
    let bounded = lines_are_bounded (fresh_strip max divide) parties calls few in
    let run = lines_length calls (lines_from first 0 calls) 0 narrow bounded (omega arith) in
    let long = the_strip_stays_as_long first 0 calls in
    let fresh = fresh_length max divide inside in
    let end = (end_from first 0 calls).strip in
    let words = words_length end in
    let lines = run_text first 0 calls in
    omega (arith, length-append (header_text max divide parties) (lines ++ cells_text end), length-append lines (cells_text end))
