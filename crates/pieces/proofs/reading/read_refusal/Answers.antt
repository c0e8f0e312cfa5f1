use Rattle.std.proofs.Common.{◌≡◌, ◌+◌, ◌∙◌, ℕ, ◌&&◌, eqb, sym, ap, arith}
use Rattle.std.proofs.lemmas.Result.{err_from_is_err_and}
use Rattle.header.specs.Header.{max_at, parties_at}
use Rattle.format.proofs.Sizes.{header_sized}
use Rattle.format.proofs.Gated.{Says, says, header_refuses}
use Rattle.pieces.specs.Pieces.{all_below, is_sound}
use Rattle.pieces.proofs.Checked.{refused_by_lent, refused_by_header, refused_by_lengths, refused_by_records, refused_by_none}
use Rattle.pieces.proofs.reading.read_refusal.Goals as goal
use Rattle.pieces.proofs.reading.read_refusal.Goals.{In_ok-h, After-are_sound}

-- what the header was found to say is what the image has
said : (c : In_ok-h) → Says c.args.image.now c.in_ok-h.h
said c = says c.args.image.now c.in_ok-h.h (sym c.read_header.ensures ∙ c.in_ok-h.was)

agree : (c : In_ok-h)
    → eqb c.args.words (c.in_ok-h.h.max + 2) && eqb c.args.parties c.in_ok-h.h.parties
    ≡ eqb c.args.words (max_at c.args.image.now + 2) && eqb c.args.parties (parties_at c.args.image.now)
agree c =
    ap (λ (max : ℕ). eqb c.args.words (max + 2) && eqb c.args.parties c.in_ok-h.h.parties) (said c).max_is
    ∙ ap (λ (count : ℕ). eqb c.args.words (max_at c.args.image.now + 2) && eqb c.args.parties count) (said c).parties_are

sound_is : (c : After-are_sound)
    → c.are_sound.result ≡ all_below (is_sound c.args.image.now (max_at c.args.image.now)) (parties_at c.args.image.now)
sound_is c =
    let image = c.args.image.now in
    let says_so = says image c.in_ok-h.h (sym c.read_header.ensures ∙ c.in_ok-h.was) in
    c.are_sound.ensures ∙ ap (λ (max : ℕ). all_below (is_sound image max) c.in_ok-h.h.parties) says_so.max_is
    ∙ ap (all_below (is_sound image (max_at image))) says_so.parties_are

pub returns-then-not-lent_fits : goal.returns-then-not-lent_fits
returns-then-not-lent_fits c =
    let a = c.args in
    sym (refused_by_lent a.image.now a.words a.parties (sym c.lent_fits.ensures ∙ c.if-not-lent_fits.true))

pub returns-in_err-h : goal.returns-in_err-h
returns-in_err-h c =
    let a = c.args in
    let refused = err_from_is_err_and c.from_residual.result c.from_residual.ensures.1 in
    let header = header_refuses a.image.now c.in_err-h.field-0.0 (sym c.read_header.ensures ∙ c.in_err-h.was) in
    rw (refused.1, refused.2)
    (sym (refused_by_header a.image.now a.words a.parties (sym c.lent_fits.ensures ∙ c.if-not-lent_fits.false) c.in_err-h.field-0.0 header))

pub returns-then-not-words-h : goal.returns-then-not-words-h
returns-then-not-words-h c =
    let a = c.args in
    let at = (goal.at.returns-then-not-words-h c).In_ok-h in
    sym (refused_by_lengths a.image.now a.words a.parties (sym c.lent_fits.ensures ∙ c.if-not-lent_fits.false) (said at).taken (sym (agree at) ∙ c.if-not-words-h.true))

pub are_sound-requires : goal.are_sound-requires
are_sound-requires c =
    let h = said (goal.at.are_sound-requires c).In_ok-h in
    omega (arith, h.max_is, h.parties_are, (header_sized c.args.image.now h.taken).exact)

pub returns-then-not-are_sound : goal.returns-then-not-are_sound
returns-then-not-are_sound c =
    let a = c.args in
    let path = goal.at.returns-then-not-are_sound c in
    sym
    (refused_by_records a.image.now a.words a.parties (sym c.lent_fits.ensures ∙ c.if-not-lent_fits.false) (said path.In_ok-h).taken
    (sym (agree path.In_ok-h) ∙ c.if-not-words-h.false) (sym (sound_is path.After-are_sound) ∙ c.if-not-are_sound.true))

pub returns : goal.returns
returns c =
    let a = c.args in
    let path = goal.at.returns c in
    sym
    (refused_by_none a.image.now a.words a.parties (sym c.lent_fits.ensures ∙ c.if-not-lent_fits.false) (said path.In_ok-h).taken
    (sym (agree path.In_ok-h) ∙ c.if-not-words-h.false) (sym (sound_is path.After-are_sound) ∙ c.if-not-are_sound.false))
