-- The checks, and what is promised of the record alone, say it of the record in the table.
use Rattle.std.proofs.Common.{length}
use Rattle.call.specs.Call.{Call}
use Rattle.table.proofs.Promised.{step_gates, turned_away_lem, in_place}
use Rattle.table.proofs.step_in.Goals as goal

pub returns-in-Err : goal.returns-in-Err
returns-in-Err c =
    turned_away_lem c.args.strip.now c.args.table.now (Call.step c.args.party c.args.hint) c.gated.result
    (step_gates (length c.args.table.now) c.args.party (length c.args.strip.now) c.args.hint c.gated.ensures) c.in-Err.refusal c.in-Err.is

pub returns-in-Ok : goal.returns-in-Ok
returns-in-Ok c =
    in_place c.args.strip.now c.args.table.now (Call.step c.args.party c.args.hint) c.gated.result
    (step_gates (length c.args.table.now) c.args.party (length c.args.strip.now) c.args.hint c.gated.ensures) c.in-Ok.is
    c.step_record.result.answer c.step_record.new.strip c.step_record.new.r c.step_record.ensures
