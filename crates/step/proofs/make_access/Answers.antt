-- No check has refused, so the place of the access is inside the strip.
use Rattle.std.proofs.Common.{◌≡◌, length, arith}
use Rattle.stages.specs.Stages.{access_of}
use Rattle.stages.specs.declared.Access.TheVariants.{Look, Swap}
use Rattle.step.specs.Step.{aimed}
use Rattle.step.proofs.Cleared.{steppable, strip_within, place_inside, hint_fits_k}
use Rattle.step.proofs.make_access.Goals as goal

pub overflow_sub-max : goal.overflow_sub-max
overflow_sub-max c = omega (arith, strip_within (length c.args.strip.now) (steppable _ _ _ c.requires).strip_fits)

pub overflow_cast-max : goal.overflow_cast-max
overflow_cast-max c = omega (arith, strip_within (length c.args.strip.now) (steppable _ _ _ c.requires).strip_fits)

pub aim-at-requires : goal.aim-at-requires
aim-at-requires c = hint_fits_k _ _ _ (steppable _ _ _ c.requires)

pub look-requires : goal.look-requires
look-requires c =
    let access : access_of (aimed c.args.r c.args.hint) ≡ Look c.in-Look.place c.in-Look.then = cc in
    rw access at (place_inside _ _ _ (steppable _ _ _ c.requires))

pub swap-requires : goal.swap-requires
swap-requires c =
    let access : access_of (aimed c.args.r c.args.hint) ≡ Swap c.in-Swap.place c.in-Swap.from c.in-Swap.to c.in-Swap.then = cc in
    rw access at (place_inside _ _ _ (steppable _ _ _ c.requires))
