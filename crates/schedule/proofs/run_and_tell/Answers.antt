-- The listing's three pieces, each with its room: the header, the lines of the run, the cells.
use Rattle.std.proofs.Common.{◌≡◌, ◌+◌, ◌∙◌, ◌++◌, ap, arith}
use Rattle.std.proofs.Math.ListN.{length-drop}
use Rattle.text.specs.Writing.{Room, Puts}
use Rattle.text.proofs.Puts.{room_left, room_right, puts_then}
use Rattle.listing.specs.Listing.{listing_text}
use Rattle.schedule.specs.List.{first_of, words_at_end}
use Rattle.schedule.proofs.Files.{Says, said, header_piece, lines_piece, cells_piece, laid_fresh}
use Rattle.schedule.specs.File.{calls_of}
use Rattle.schedule.specs.Inside.{calls_in}
use Rattle.schedule.proofs.Chunks.{calls_in_chunks}
use Rattle.schedule.proofs.run_and_tell.Goals as goal
use Rattle.schedule.proofs.run_and_tell.Goals.{After-put_header, After-as_chunks}

-- after the header was put: what it says, the strip is laid, and the run and the cells have room behind the header
says : (c : After-put_header) → Says c.args.file.now c.args.h
says c = said c.args.file.now c.args.h c.requires.0

fresh : (c : After-put_header) → c.lay.new.strip ≡ (first_of c.args.file.now).strip
fresh c =
    laid_fresh c.args.file.now c.args.strip.now c.args.h.divide (says c).known (c.requires.1 ∙ ap (◌+ 2) (says c).max_is)
    (says c).divide_is c.lay.ensures

puts_header : (c : After-put_header) → Puts (header_piece c.args.file.now) c.args.text.now c.put_header.new.text
puts_header c = rw ((says c).max_is, (says c).divide_is, (says c).parties_are) at c.put_header.ensures

rest_fits : (c : After-put_header) → Room (lines_piece c.args.file.now ++ cells_piece c.args.file.now) c.put_header.new.text
unfolding listing_text
rest_fits c = room_right (header_piece c.args.file.now) _ c.requires.2 (puts_header c)

-- the calls of the entries that were cut out are the file's
cut : (c : After-as_chunks) → calls_in c.as_chunks.result.0.now ≡ calls_of c.args.file.now
cut c = calls_in_chunks c.args.file.now _ c.as_chunks.ensures.front

pub put_header-requires : goal.put_header-requires
unfolding listing_text
put_header-requires c =
    let h = said c.args.file.now c.args.h c.requires.0 in
    rw (h.max_is, h.divide_is, h.parties_are) (room_left (header_piece c.args.file.now) _ c.requires.2)

pub run_entries-requires : goal.run_entries-requires
run_entries-requires c =
    let file = c.args.file.now in
    let header = (goal.at.run_entries-requires c).After-put_header in
    let h = says header in (
      omega (arith, c.as_chunks.ensures.front_len, length-drop 10 file, h.known.few),
      omega (arith, h.parties_are, h.known.parties_high),
      rw (fresh header, h.parties_are, cut (goal.at.run_entries-requires c).After-as_chunks) (room_left (lines_piece file) (cells_piece file) (rest_fits header)),
    )

pub put_cells-requires : goal.put_cells-requires
put_cells-requires c =
    let file = c.args.file.now in
    let path = goal.at.put_cells-requires c in
    let h = says path.After-put_header in
    rw (rw (fresh path.After-put_header, h.parties_are, cut path.After-as_chunks) at c.run_entries.ensures.words)
    (room_right (lines_piece file) (cells_piece file) (rest_fits path.After-put_header) (rw (fresh path.After-put_header, h.parties_are, cut path.After-as_chunks) at c.run_entries.ensures.lines))

pub returns-clause-lines : goal.returns-clause-lines
unfolding listing_text words_at_end
returns-clause-lines c =
    let file = c.args.file.now in
    let path = goal.at.returns-clause-lines c in
    let h = says path.After-put_header in
    let puts-run = rw (fresh path.After-put_header, h.parties_are, cut path.After-as_chunks) at c.run_entries.ensures.lines in
    let words = rw (fresh path.After-put_header, h.parties_are, cut path.After-as_chunks) at c.run_entries.ensures.words in
    puts_then (header_piece file) _ (puts_header path.After-put_header) (puts_then (lines_piece file) (cells_piece file) puts-run (rw words at c.put_cells.ensures))

pub returns-clause-words : goal.returns-clause-words
unfolding words_at_end
returns-clause-words c =
    let path = goal.at.returns-clause-words c in
    rw (fresh path.After-put_header, (says path.After-put_header).parties_are, cut path.After-as_chunks) at c.run_entries.ensures.words
