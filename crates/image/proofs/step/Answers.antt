use Rattle.std.proofs.Common.{◌∙◌, sym, rules}
use Rattle.std.proofs.lemmas.Result.{err_from_is_err_and}
use Rattle.little.specs.Bytes.{AreBytes}
use Rattle.call.specs.Call.{Call}
use Rattle.image.proofs.Promised.{keeps_stopped, room, Weighed, keeps_step_refused, hint_fits_k, access_room, keeps_look, keeps_swap}
use Rattle.image.proofs.step.Goals as goal
use Rattle.image.proofs.step.Goals.{After-step_own}

-- the record's own checks were made, whatever they said
weighed : (c : After-step_own)
    → Weighed c.args.image.now c.args.party c.args.hint c.in_ok-found.found c.read_record-r.result c.step_own.result
weighed c =
    let are : AreBytes c.args.image.now = λ i. search rules in
    record { are = are; read = sym c.read_named.ensures ∙ c.in_ok-found.was; record_is = c.read_record-r.ensures; check_is = c.step_own.ensures }

pub returns-in_err-found : goal.returns-in_err-found
returns-in_err-found c =
    let are : AreBytes c.args.image.now = λ i. search rules in
    let refused = err_from_is_err_and c.from_residual.result c.from_residual.ensures.1 in
    rw (refused.1, refused.2)
    (keeps_stopped _ (Call.step c.args.party c.args.hint) are c.in_err-found.field-0.0 (sym c.read_named.ensures ∙ c.in_err-found.was))

pub read_record-r-requires : goal.read_record-r-requires
read_record-r-requires c =
    let are : AreBytes c.args.image.now = λ i. search rules in
    room _ (Call.step c.args.party c.args.hint) are c.in_ok-found.found (sym c.read_named.ensures ∙ c.in_ok-found.was)

pub returns-in_err-step_own : goal.returns-in_err-step_own
returns-in_err-step_own c =
    let refused = err_from_is_err_and c.from_residual-in_err-step_own.result c.from_residual-in_err-step_own.ensures.1 in
    rw (refused.1, refused.2)
    (keeps_step_refused _ _ _ _ _ _ (weighed (goal.at.returns-in_err-step_own c).After-step_own) c.in_err-step_own.field-0.0 c.in_err-step_own.was)

pub aim-aimed-requires : goal.aim-aimed-requires
aim-aimed-requires c = hint_fits_k _ _ _ _ _ _ (weighed (goal.at.aim-aimed-requires c).After-step_own) c.in_ok-step_own.was

pub look-requires : goal.look-requires
look-requires c =
    let w = weighed (goal.at.look-requires c).After-step_own in
    (room _ (Call.step _ c.args.hint) w.are _ w.read, access_room _ _ _ _ _ _ w c.in_ok-step_own.was _ c.aim-aimed.ensures _ (sym c.access_of.ensures ∙ c.in-Look.is))

pub swap-requires : goal.swap-requires
swap-requires c =
    let w = weighed (goal.at.swap-requires c).After-step_own in
    (room _ (Call.step _ c.args.hint) w.are _ w.read, access_room _ _ _ _ _ _ w c.in_ok-step_own.was _ c.aim-aimed.ensures _ (sym c.access_of.ensures ∙ c.in-Swap.is))

pub returns-in-Look : goal.returns-in-Look
returns-in-Look c =
    let w = weighed (goal.at.returns-in-Look c).After-step_own in
    keeps_look _ _ _ _ _ _ w c.in_ok-step_own.was _ c.aim-aimed.ensures _ _ (sym c.access_of.ensures ∙ c.in-Look.is) c.look.ensures

pub returns-in-Swap : goal.returns-in-Swap
returns-in-Swap c =
    let w = weighed (goal.at.returns-in-Swap c).After-step_own in
    keeps_swap _ _ _ _ _ _ w c.in_ok-step_own.was _ c.aim-aimed.ensures _ _ _ _ (sym c.access_of.ensures ∙ c.in-Swap.is) c.swap.ensures
