use Rattle.std.proofs.Common.{rules, ◌≡◌, ◌+◌, ◌<◌, false, true, length, arith, refl}
use Rattle.console.proofs.Next.{record_on, no_record}
use Rattle.console.proofs.Reading.{record_read}
use Rattle.console.proofs.line.Line.records.Goals as goal

pub returns-in_err-rec-clause-given : goal.returns-in_err-rec-clause-given
returns-in_err-rec-clause-given c = (
  λ h. let no : ⊥ = search rules in absurd no,
  λ h. absurd (no_record (length c.args.room.now) c.loop-rec.rec-index c.loop-rec.self.numbers c.loop-rec.self.text.now c.loop-rec-test.true c.loop-rec.invariant.next (λ next. let no : false ≡ true = c.in_err-rec.ensures.given.1 next in cc) h),
)

pub loop-rec-preserved : goal.loop-rec-preserved
loop-rec-preserved c =
    let inside : c.loop-rec.rec-index < length c.loop-rec.room = omega arith in
    let left : c.record.new.self.numbers + 6 ≡ c.loop-rec.self.numbers = c.in_ok-rec.ensures.left in
    record {
      counted = omega arith;
      reads = record_read c.args.self.now.text.now c.loop-rec.self.text.now c.record.new.self.text.now c.loop-rec.room c.loop-rec.rec-index c.in_ok-rec.field-0 inside c.loop-rec.invariant.reads c.in_ok-rec.ensures.value;
      next = record_on (length c.args.room.now) c.loop-rec.rec-index c.loop-rec.self.numbers c.record.new.self.numbers c.loop-rec.self.text.now c.record.new.self.text.now c.in_ok-rec.field-0 c.loop-rec-test.true left c.in_ok-rec.ensures.value (c.in_ok-rec.ensures.given.0 refl) c.loop-rec.invariant.next;
    }
