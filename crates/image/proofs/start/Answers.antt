use Rattle.std.proofs.Common.{◌+◌, ◌≤◌, ◌∙◌, length, ltb, sym, ap, arith, rules}
use Rattle.std.proofs.lemmas.Result.{err_from_is_err_and}
use borrow.Author.Tests.{ltb-false}
use Rattle.std.proofs.lemmas.List.Edits.{sets}
use Rattle.record.specs.declared.Record.{Record}
use Rattle.little.specs.Bytes.{AreBytes}
use Rattle.call.specs.Call.{Call}
use Rattle.header.specs.Header.{version_at}
use Rattle.format.specs.Spelling.{record_bytes}
use Rattle.format.proofs.Gated.{named_fits}
use Rattle.image.proofs.Promised.{keeps_stopped, clear, room, keeps_start_refused, keeps_start_done}
use Rattle.image.proofs.start.Goals as goal
use Rattle.image.proofs.start.Goals.{In_ok-found}

-- where the checks before the record's own passed: its bytes lie inside, and the operation is known
roomy : (c : In_ok-found) → c.in_ok-found.found.at + 32 ≤ length c.args.image.now
roomy c =
    let a = c.args in
    let are : AreBytes a.image.now = λ i. search rules in
    room a.image.now (Call.start a.party a.operation a.order) are c.in_ok-found.found (sym c.read_named.ensures ∙ c.in_ok-found.was)

known : (c : In_ok-found) → c.args.operation ≤ 3
known c =
    let a = c.args in
    let are : AreBytes a.image.now = λ i. search rules in
    let named = clear a.image.now (Call.start a.party a.operation a.order) are c.in_ok-found.found (sym c.read_named.ensures ∙ c.in_ok-found.was) in
    ltb-false 3 a.operation (named_fits a.image.now (ltb 3 a.operation) a.party named).known

pub returns-in_err-found : goal.returns-in_err-found
returns-in_err-found c =
    let a = c.args in
    let are : AreBytes a.image.now = λ i. search rules in
    let refused = err_from_is_err_and c.from_residual.result c.from_residual.ensures.1 in
    rw (refused.1, refused.2)
    (keeps_stopped a.image.now (Call.start a.party a.operation a.order) are c.in_err-found.field-0.0 (sym c.read_named.ensures ∙ c.in_err-found.was))

pub read_record-r-requires : goal.read_record-r-requires
read_record-r-requires c = roomy (goal.at.read_record-r-requires c).In_ok-found

pub overflow_cast-operation : goal.overflow_cast-operation
overflow_cast-operation c = omega (arith, known (goal.at.overflow_cast-operation c).In_ok-found)

pub returns-in_err-start_own : goal.returns-in_err-start_own
returns-in_err-start_own c =
    let are : AreBytes c.args.image.now = λ i. search rules in
    let refused = err_from_is_err_and c.from_residual-in_err-start_own.result c.from_residual-in_err-start_own.ensures.1 in
    rw (refused.1, refused.2)
    (keeps_start_refused _ _ _ _ are c.in_ok-found.found (sym c.read_named.ensures ∙ c.in_ok-found.was) _ c.read_record-r.ensures _ c.start_own.ensures
    c.in_err-start_own.field-0.0 c.in_err-start_own.was)

pub overflow_cast-operation-2 : goal.overflow_cast-operation-2
overflow_cast-operation-2 c = omega (arith, known (goal.at.overflow_cast-operation-2 c).In_ok-found)

pub write_record-requires : goal.write_record-requires
write_record-requires c = roomy (goal.at.write_record-requires c).In_ok-found

pub returns : goal.returns
returns c =
    let a = c.args in
    let image = a.image.now in
    let are : AreBytes image = λ i. search rules in
    let found = c.in_ok-found.found in
    keeps_start_done _ _ _ a.order are found (sym c.read_named.ensures ∙ c.in_ok-found.was) _ c.read_record-r.ensures _ c.start_own.ensures c.in_ok-start_own.was
    (omega arith) _
    (c.write_record.ensures ∙ ap (λ (r : Record). sets image found.at (record_bytes (version_at image) r)) c.begun.ensures)
