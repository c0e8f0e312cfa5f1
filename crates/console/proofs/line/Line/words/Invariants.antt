use Rattle.std.proofs.Common.{◌≡◌, ◌+◌, ◌-◌, ◌^◌, ◌↔◌, length, take, replicate}
use Rattle.console.specs.Numbers.{AreBelowNext, Reads}
use Rattle.console.proofs.line.Line.words.Given as goal

abbrev pub invariant-loop-word : goal.invariant-loop-word
invariant-loop-word l = record {
  counted : l.self.numbers + l.word-index ≡ l.fn.self.numbers;
  reads : Reads l.fn.self.text.now (take l.word-index l.room) l.self.text.now;
  next : AreBelowNext (replicate (length l.fn.room) (2 ^ 64)) l.fn.self.numbers l.fn.self.text.now ↔ AreBelowNext (replicate (length l.fn.room - l.word-index) (2 ^ 64)) l.self.numbers l.self.text.now;
}
