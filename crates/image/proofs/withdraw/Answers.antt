use Rattle.std.proofs.Common.{◌+◌, ◌≤◌, ◌∙◌, length, sym, ap, rules}
use Rattle.std.proofs.lemmas.Result.{err_from_is_err_and}
use Rattle.std.proofs.lemmas.List.Edits.{sets}
use Rattle.record.specs.declared.Record.{Record}
use Rattle.little.specs.Bytes.{AreBytes}
use Rattle.call.specs.Call.{Call}
use Rattle.header.specs.Header.{version_at}
use Rattle.format.specs.Spelling.{record_bytes}
use Rattle.image.proofs.Promised.{keeps_stopped, room, keeps_withdraw_refused, keeps_withdraw_done}
use Rattle.image.proofs.withdraw.Goals as goal
use Rattle.image.proofs.withdraw.Goals.{In_ok-found}

-- where the checks before the record's own passed its bytes lie inside
roomy : (c : In_ok-found) → c.in_ok-found.found.at + 32 ≤ length c.args.image.now
roomy c =
    let are : AreBytes c.args.image.now = λ i. search rules in
    room _ (Call.withdraw _) are c.in_ok-found.found (sym c.read_named.ensures ∙ c.in_ok-found.was)

pub returns-in_err-found : goal.returns-in_err-found
returns-in_err-found c =
    let are : AreBytes c.args.image.now = λ i. search rules in
    let refused = err_from_is_err_and c.from_residual.result c.from_residual.ensures.1 in
    rw (refused.1, refused.2)
    (keeps_stopped _ (Call.withdraw c.args.party) are c.in_err-found.field-0.0 (sym c.read_named.ensures ∙ c.in_err-found.was))

pub read_record-r-requires : goal.read_record-r-requires
read_record-r-requires c = roomy (goal.at.read_record-r-requires c).In_ok-found

pub returns-in_err-withdraw_own : goal.returns-in_err-withdraw_own
returns-in_err-withdraw_own c =
    let are : AreBytes c.args.image.now = λ i. search rules in
    let refused = err_from_is_err_and c.from_residual-in_err-withdraw_own.result c.from_residual-in_err-withdraw_own.ensures.1 in
    rw (refused.1, refused.2)
    (keeps_withdraw_refused _ _ are c.in_ok-found.found (sym c.read_named.ensures ∙ c.in_ok-found.was) _ c.read_record-r.ensures _ c.withdraw_own.ensures
    c.in_err-withdraw_own.field-0.0 c.in_err-withdraw_own.was)

pub write_record-requires : goal.write_record-requires
write_record-requires c = roomy (goal.at.write_record-requires c).In_ok-found

pub returns : goal.returns
returns c =
    let image = c.args.image.now in
    let are : AreBytes image = λ i. search rules in
    let found = c.in_ok-found.found in
    keeps_withdraw_done _ _ are found (sym c.read_named.ensures ∙ c.in_ok-found.was) _ c.read_record-r.ensures _ c.withdraw_own.ensures c.in_ok-withdraw_own.was _
    (c.write_record.ensures ∙ ap (λ (r : Record). sets image found.at (record_bytes (version_at image) r)) c.idle.ensures)
