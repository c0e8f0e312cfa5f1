-- The checks, and what is promised of the record alone, say it of the record in the table.
use Rattle.std.proofs.Common.{length}
use Rattle.call.specs.Call.{Call}
use Rattle.table.specs.Lent.{blank}
use Rattle.table.proofs.Promised.{withdraw_gates, turned_away_lem, in_place}
use Rattle.table.proofs.withdraw_in.Goals as goal

pub returns-in-Err : goal.returns-in-Err
returns-in-Err c =
    turned_away_lem (blank c.args.max) c.args.table.now (Call.withdraw c.args.party) c.gated.result
    (withdraw_gates (length c.args.table.now) c.args.party c.args.max c.gated.ensures) c.in-Err.refusal c.in-Err.is

pub returns-in-Ok : goal.returns-in-Ok
returns-in-Ok c =
    in_place (blank c.args.max) c.args.table.now (Call.withdraw c.args.party) c.gated.result
    (withdraw_gates (length c.args.table.now) c.args.party c.args.max c.gated.ensures) c.in-Ok.is
    c.withdraw_record.result.answer (blank c.args.max) c.withdraw_record.new.r c.withdraw_record.ensures
