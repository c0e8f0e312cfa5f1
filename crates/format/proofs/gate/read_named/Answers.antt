use Rattle.std.proofs.Common.{◌≡◌, ◌+◌, ◌*◌, ◌<◌, ◌∙◌, sym, ap, arith}
use Rattle.std.proofs.lemmas.Result.{err_from_is_err_and}
use Rattle.header.specs.Header.{version_at, parties_at}
use Rattle.format.specs.Format.{party_place}
use Rattle.format.specs.Spelling.{is_spare}
use Rattle.format.proofs.Sizes.{header_sized}
use Rattle.format.proofs.Gated.{Says, says, header_refuses, refused_by_header, refused_by_operation, refused_by_party, refused_by_spare, refused_by_none}
use Rattle.format.proofs.gate.read_named.Goals as goal
use Rattle.format.proofs.gate.read_named.Goals.{In_ok-h, After-is_spare}

-- what the header was found to say is what the image has
said : (c : In_ok-h) → Says c.args.image.now c.in_ok-h.h
said c = says c.args.image.now c.in_ok-h.h (sym c.read_header.ensures ∙ c.in_ok-h.was)

-- the party's record, where it is one of the image's: its place, and what was found of its spare bytes
inside : (c : After-is_spare) → c.args.party < parties_at c.args.image.now
inside c =
    let header = says c.args.image.now c.in_ok-h.h (sym c.read_header.ensures ∙ c.in_ok-h.was) in
    omega (arith, c.if-h-party.false, header.parties_are)

at_is : (c : After-is_spare) → c.records_base.result + 32 * c.args.party ≡ party_place c.args.image.now c.args.party
at_is c =
    let header = says c.args.image.now c.in_ok-h.h (sym c.read_header.ensures ∙ c.in_ok-h.was) in
    omega (arith, c.records_base.ensures, header.max_is)

spare : (c : After-is_spare) → c.is_spare.result ≡ is_spare (version_at c.args.image.now) c.args.image.now (party_place c.args.image.now c.args.party)
spare c = c.is_spare.ensures ∙ ap (is_spare (version_at c.args.image.now) c.args.image.now) (at_is c)

pub returns-in_err-h : goal.returns-in_err-h
returns-in_err-h c =
    let a = c.args in
    let refused = err_from_is_err_and c.from_residual.result c.from_residual.ensures.1 in
    let header = header_refuses a.image.now c.in_err-h.field-0.0 (sym c.read_header.ensures ∙ c.in_err-h.was) in
    rw (refused.1, refused.2) (sym (refused_by_header a.image.now a.unknown a.party c.in_err-h.field-0.0 header))

pub returns-then-unknown : goal.returns-then-unknown
returns-then-unknown c =
    let header = said (goal.at.returns-then-unknown c).In_ok-h in
    sym (refused_by_operation _ _ c.args.party header.taken c.if-unknown.true)

pub returns-then-h-party : goal.returns-then-h-party
returns-then-h-party c =
    let header = said (goal.at.returns-then-h-party c).In_ok-h in
    sym (refused_by_party _ _ c.args.party header.taken c.if-unknown.false (omega (arith, header.parties_are, c.if-h-party.true)))

pub is_spare-requires : goal.is_spare-requires
is_spare-requires c =
    let header = said (goal.at.is_spare-requires c).In_ok-h in
    omega (arith, (header_sized c.args.image.now header.taken).exact, header.max_is, header.parties_are, c.records_base.ensures, c.if-h-party.false)

pub returns-then-not-is_spare : goal.returns-then-not-is_spare
returns-then-not-is_spare c =
    let path = goal.at.returns-then-not-is_spare c in
    sym
    (refused_by_spare _ _ c.args.party (said path.In_ok-h).taken c.if-unknown.false (inside path.After-is_spare)
    (sym (spare path.After-is_spare) ∙ c.if-not-is_spare.true))

pub returns : goal.returns
returns c =
    let path = goal.at.returns c in
    let header = said path.In_ok-h in
    rw (header.max_is, at_is path.After-is_spare)
    (sym
    (refused_by_none _ _ c.args.party header.taken c.if-unknown.false (inside path.After-is_spare)
    (sym (spare path.After-is_spare) ∙ c.if-not-is_spare.false)))
