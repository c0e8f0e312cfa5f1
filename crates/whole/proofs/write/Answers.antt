use Rattle.std.proofs.lemmas.Result.{err_from_is_err_and}
use Rattle.whole.proofs.Promised.{sizes_refused, records_refused, write_done}
use Rattle.whole.proofs.write.Goals as goal

pub returns-in_err-sizes_refusal : goal.returns-in_err-sizes_refusal
returns-in_err-sizes_refusal c =
    let a = c.args in
    let refused = err_from_is_err_and c.from_residual.result c.from_residual.ensures.1 in
    rw (refused.1, refused.2)
    (sizes_refused a.image.now a.strip.now a.table.now _ c.sizes_refusal.ensures c.in_err-sizes_refusal.field-0.0 c.in_err-sizes_refusal.was)

pub returns-in_err-table_refusal : goal.returns-in_err-table_refusal
returns-in_err-table_refusal c =
    let a = c.args in
    let refused = err_from_is_err_and c.from_residual-in_err-table_refusal.result c.from_residual-in_err-table_refusal.ensures.1 in
    rw (refused.1, refused.2)
    (records_refused a.image.now a.strip.now a.table.now _ c.sizes_refusal.ensures c.in_ok-sizes_refusal.was _ c.table_refusal.ensures
    c.in_err-table_refusal.field-0.0 c.in_err-table_refusal.was)

pub returns : goal.returns
returns c =
    let a = c.args in
    write_done a.image.now a.strip.now a.table.now _ c.sizes_refusal.ensures c.in_ok-sizes_refusal.was _ c.table_refusal.ensures c.in_ok-table_refusal.was
    _ _ c.write_front.ensures c.write_table.ensures
