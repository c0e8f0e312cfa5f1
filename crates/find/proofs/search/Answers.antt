use Rattle.std.proofs.Common.{◌+◌, ◌-◌, length, sym, arith}
use Rattle.find.proofs.Finding.{find_goes_on}
use Rattle.find.proofs.search.Goals as goal

pub loop-i-preserved : goal.loop-i-preserved
loop-i-preserved c =
    record {
      none = c.loop-i.invariant.none;
      searching = find_goes_on c.args.operation c.args.strip.now _ _ c.loop-i.invariant.searching c.candidate-place.result
          (length c.args.strip.now - 2 + 1 - (c.loop-i.i + 1)) (sym c.candidate-place.ensures) (omega arith) _ c.is_end.ensures c.if-is_end.false;
    }
