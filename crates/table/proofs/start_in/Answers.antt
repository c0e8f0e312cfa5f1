-- The checks, and what is promised of the record alone, say it of the record in the table.
use Rattle.std.proofs.Common.{length}
use Rattle.call.specs.Call.{Call}
use Rattle.table.specs.Lent.{blank}
use Rattle.table.proofs.Promised.{start_gates, turned_away_lem, in_place}
use Rattle.table.proofs.start_in.Goals as goal

pub returns-in-Err : goal.returns-in-Err
returns-in-Err c =
    turned_away_lem (blank c.args.max) c.args.table.now (Call.start c.args.party c.args.operation c.args.order) c.gated.result
    (start_gates (length c.args.table.now) c.args.party c.args.max c.args.operation c.args.order c.gated.ensures) c.in-Err.refusal c.in-Err.is

pub returns-in-Ok : goal.returns-in-Ok
returns-in-Ok c =
    in_place (blank c.args.max) c.args.table.now (Call.start c.args.party c.args.operation c.args.order) c.gated.result
    (start_gates (length c.args.table.now) c.args.party c.args.max c.args.operation c.args.order c.gated.ensures) c.in-Ok.is
    c.start_record.result.answer (blank c.args.max) c.start_record.new.r c.start_record.ensures
