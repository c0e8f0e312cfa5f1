use Rattle.std.proofs.Common.{rules, ◌≡◌, ◌+◌, ◌<◌, false, true, length, arith, refl}
use Rattle.console.proofs.Next.{one_on, no_one}
use Rattle.console.proofs.Reading.{word_read}
use Rattle.console.proofs.line.Line.words.Goals as goal

pub returns-in_err-word-clause-given : goal.returns-in_err-word-clause-given
returns-in_err-word-clause-given c = (
  λ h. let no : ⊥ = search rules in absurd no,
  λ h. absurd (no_one (length c.args.room.now) c.loop-word.word-index c.loop-word.self.numbers c.loop-word.self.text.now c.loop-word-test.true c.loop-word.invariant.next (λ next. let no : false ≡ true = c.in_err-word.ensures.given.1 next in cc) h),
)

pub loop-word-preserved : goal.loop-word-preserved
loop-word-preserved c =
    let inside : c.loop-word.word-index < length c.loop-word.room = omega arith in
    let left : c.number.new.self.numbers + 1 ≡ c.loop-word.self.numbers = c.in_ok-word.ensures.left in
    record {
      counted = omega arith;
      reads = word_read c.args.self.now.text.now c.loop-word.self.text.now c.number.new.self.text.now c.loop-word.room c.loop-word.word-index c.in_ok-word.field-0 inside c.loop-word.invariant.reads c.in_ok-word.ensures.value c.in_ok-word.ensures.rest;
      next = one_on (length c.args.room.now) c.loop-word.word-index c.loop-word.self.numbers c.number.new.self.numbers c.loop-word.self.text.now c.number.new.self.text.now c.loop-word-test.true left c.in_ok-word.ensures.rest (c.in_ok-word.ensures.given.0 refl) c.loop-word.invariant.next;
    }
