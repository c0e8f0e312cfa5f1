use Rattle.std.proofs.Common.{◌≡◌, length, arith}
use Rattle.std.proofs.lemmas.Result.{err_from_is_err_and}
use Rattle.whole.proofs.Promised.{read_refused, words_inside, records_inside, read_done}
use Rattle.whole.proofs.read.Goals as goal

pub returns-in_err-read_refusal : goal.returns-in_err-read_refusal
returns-in_err-read_refusal c =
    let a = c.args in
    let refused = err_from_is_err_and c.from_residual.result c.from_residual.ensures.1 in
    rw (refused.1, refused.2)
    (read_refused a.image.now a.strip.now a.table.now _ c.read_refusal.ensures c.in_err-read_refusal.field-0.0 c.in_err-read_refusal.was)

pub read_strip-requires : goal.read_strip-requires
read_strip-requires c =
    let a = c.args in
    words_inside a.image.now a.strip.now a.table.now _ c.read_refusal.ensures c.in_ok-read_refusal.was

-- The strip that was read is as long as the one that was lent.
pub read_table-requires : goal.read_table-requires
read_table-requires c =
    let a = c.args in
    let inside = records_inside a.image.now a.strip.now a.table.now _ c.read_refusal.ensures c.in_ok-read_refusal.was in
    omega arith

pub returns : goal.returns
returns c =
    let a = c.args in
    let long : length c.read_strip.new.strip ≡ length a.strip.now = omega arith in
    read_done a.image.now a.strip.now a.table.now _ c.read_refusal.ensures c.in_ok-read_refusal.was _ _ c.read_strip.ensures (rw long at c.read_table.ensures)
