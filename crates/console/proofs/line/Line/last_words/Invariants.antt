use Rattle.std.proofs.Common.{◌≡◌, ◌+◌, ◌-◌, ◌^◌, ◌↔◌, min, length, take, replicate}
use Rattle.console.specs.Numbers.{AreBelowNext, AreNumbers, Reads}
use Rattle.console.proofs.line.Line.last_words.Given as goal

abbrev pub invariant-loop-taken : goal.invariant-loop-taken
invariant-loop-taken l = record {
  counted : l.self.numbers + l.taken ≡ l.fn.self.numbers;
  reads : Reads l.fn.self.text.now (take l.taken l.room) l.self.text.now;
  words : AreBelowNext (replicate l.taken (2 ^ 64)) l.fn.self.numbers l.fn.self.text.now;
  next : AreNumbers (min l.fn.self.numbers (length l.fn.room)) l.fn.self.text.now ↔ AreNumbers (min l.self.numbers (length l.fn.room - l.taken)) l.self.text.now;
}
