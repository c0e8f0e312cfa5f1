use Rattle.std.proofs.Common.{length, refl, sym, ◌∙◌, rules, arith}
use Rattle.std.proofs.Math.ListN.{length-take}
use Rattle.little.specs.Bytes.{AreBytes}
use Rattle.schedule.proofs.Files.{the_listing_fits, room_to_list}
use Rattle.schedule.proofs.Refusing.{Listed, is_listed, when_listed}
use Rattle.schedule.proofs.list.Goals as goal
use Rattle.schedule.proofs.list.Goals.{In_ok-h}

-- where no check refused
listed : (c : In_ok-h) → Listed c.args.file.now (length c.args.strip.now) (length c.args.out.now) c.in_ok-h.h
listed c = is_listed _ _ _ _ (sym c.read_listed.ensures ∙ c.in_ok-h.was)

pub slice_bounds-run_and_tell-end : goal.slice_bounds-run_and_tell-end
slice_bounds-run_and_tell-end c =
    let at = listed (goal.at.slice_bounds-run_and_tell-end c).In_ok-h in
    omega (arith, at.says.max_is, at.says.known.max_high, at.cleared.whole)

pub slice_bounds-run_and_tell-end-2 : goal.slice_bounds-run_and_tell-end-2
slice_bounds-run_and_tell-end-2 c =
    let at = listed (goal.at.slice_bounds-run_and_tell-end-2 c).In_ok-h in
    simp length-take (omega (arith, at.says.max_is, at.says.known.max_high, at.cleared.whole))

pub run_and_tell-requires : goal.run_and_tell-requires
run_and_tell-requires c =
    let at = listed (goal.at.run_and_tell-requires c).In_ok-h in
    let are : AreBytes c.args.file.now = λ i. search rules in (
      at.read,
      simp length-take (omega (arith, at.says.max_is, at.says.known.max_high, at.cleared.whole)),
      room_to_list _ at.says.taken are _ refl at.cleared.wide,
    )

pub returns : goal.returns
returns c =
    let at = listed (goal.at.returns c).In_ok-h in
    let are : AreBytes c.args.file.now = λ i. search rules in
    let short = the_listing_fits c.args.file.now at.says.taken are in
    let same = sym c.run_and_tell.ensures.lines.same in
    rw (c.run_and_tell.ensures.words, at.says.max_is)
    (when_listed c.args.file.now _ _ at.none short refl refl c.run_and_tell.ensures.lines (search rules))
