use Rattle.std.proofs.Common.{rules, ◌≡◌, ◌≢◌, ◌+◌, ◌-◌, ◌<◌, ◌≤◌, min, false, true, length, take, length-take-le, arith, refl, sym, ◌∙◌}
use Rattle.std.specs.List.{list_all}
use Rattle.console.specs.Fields.{is_blank}
use Rattle.console.proofs.Next.{word_after, last_on, no_last, last_blank}
use Rattle.console.proofs.Reading.{word_read}
use Rattle.console.proofs.line.Line.last_words.Goals as goal

pub returns-then-is_done-clause-given : goal.returns-then-is_done-clause-given
returns-then-is_done-clause-given c =
    let blank : list_all is_blank c.loop-taken.self.text.now ≡ true = sym c.is_done.ensures ∙ c.if-is_done.true in
    (λ h. last_blank (min c.loop-taken.self.numbers (length c.args.room.now - c.loop-taken.taken)) c.loop-taken.self.text.now c.loop-taken.invariant.next blank, λ h. refl)

pub returns-in_err-word-clause-given : goal.returns-in_err-word-clause-given
returns-in_err-word-clause-given c =
    let inked : list_all is_blank c.loop-taken.self.text.now ≢ true = λ h. cc (c.is_done.ensures, c.if-is_done.false, h) in (
      λ h. let no : ⊥ = search rules in absurd no,
      λ h. absurd (no_last (length c.args.room.now) c.loop-taken.taken c.loop-taken.self.numbers c.loop-taken.self.text.now inked c.loop-taken.invariant.next (λ next. let no : false ≡ true = c.in_err-word.ensures.given.1 next in cc) h),
    )

pub loop-taken-preserved : goal.loop-taken-preserved
loop-taken-preserved c =
    let inside : c.loop-taken.taken < length c.loop-taken.room = omega arith in
    let within : c.loop-taken.taken ≤ length c.loop-taken.room = omega arith in
    let left : c.number.new.self.numbers + 1 ≡ c.loop-taken.self.numbers = c.in_ok-word.ensures.left in
    let inked : list_all is_blank c.loop-taken.self.text.now ≢ true = λ h. cc (c.is_done.ensures, c.if-is_done.false, h) in
    record {
      counted = omega arith;
      reads = word_read c.args.self.now.text.now c.loop-taken.self.text.now c.number.new.self.text.now c.loop-taken.room c.loop-taken.taken c.in_ok-word.field-0 inside c.loop-taken.invariant.reads c.in_ok-word.ensures.value c.in_ok-word.ensures.rest;
      words = word_after c.loop-taken.taken c.args.self.now.numbers c.loop-taken.self.numbers c.args.self.now.text.now c.loop-taken.self.text.now (take c.loop-taken.taken c.loop-taken.room) (length-take-le c.loop-taken.taken c.loop-taken.room within) (c.loop-taken.invariant.counted) c.loop-taken.invariant.reads c.loop-taken.invariant.words (c.in_ok-word.ensures.given.0 refl);
      next = last_on (length c.args.room.now) c.loop-taken.taken c.loop-taken.self.numbers c.number.new.self.numbers c.loop-taken.self.text.now c.number.new.self.text.now c.loop-taken-test.true left c.in_ok-word.ensures.rest inked (c.in_ok-word.ensures.given.0 refl) c.loop-taken.invariant.next;
    }
