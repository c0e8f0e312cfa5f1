use Rattle.std.proofs.Common.{◌≡◌, ◌+◌, ◌-◌, ◌*◌, ◌↔◌, length, take}
use Rattle.std.specs.List.{flat_map}
use Rattle.console.specs.Numbers.{AreBelowNext, Reads}
use Rattle.console.specs.Records.{numbers_of, table_bounds}
use Rattle.console.proofs.line.Line.records.Given as goal

abbrev pub invariant-loop-rec : goal.invariant-loop-rec
invariant-loop-rec l = record {
  counted : l.self.numbers + 6 * l.rec-index ≡ l.fn.self.numbers;
  reads : Reads l.fn.self.text.now (flat_map numbers_of (take l.rec-index l.room)) l.self.text.now;
  next : AreBelowNext (table_bounds (length l.fn.room)) l.fn.self.numbers l.fn.self.text.now ↔ AreBelowNext (table_bounds (length l.fn.room - l.rec-index)) l.self.numbers l.self.text.now;
}
