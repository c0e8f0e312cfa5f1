use Rattle.std.proofs.Common.{tests, rules, ◌≡◌, ◌+◌, length, drop, true, false, sym, ◌∙◌}
use Rattle.std.specs.List.{prefix_len}
use Rattle.std.proofs.lemmas.Iterator.{YieldsList-from_slice}
use Rattle.std.proofs.lemmas.Iterator.Search.{YieldsList-from_take_while}
use Rattle.std.proofs.lemmas.Iterator.Consumers.{count_from_yields_List}
use Rattle.std.proofs.lemmas.List.{take_rest}
use Rattle.std.proofs.lemmas.List.Folds.{length-prefix_len}
use Rattle.step.specs.Step.{strip_fits}
use Rattle.strip.specs.Measure.{is_LN, is_order, is_RN, is_shaped}
use Rattle.strip.proofs.Measuring.{Counted, measure_shaped, measure_unshaped}
use Rattle.strip.proofs.measure.Goals as goal
use Rattle.strip.proofs.measure.Goals.{After-count-rights}

-- the three runs that the chains count are those of the definition
counted : (c : After-count-rights) → Counted c.args.strip.now c.count-lefts.result c.count-orders.result c.count-rights.result
counted c =
    let strip = c.args.strip.now in
    let middle = drop c.count-lefts.result strip in
    let end = drop (c.count-lefts.result + c.count-orders.result) strip in
    let l : c.count-lefts.result ≡ prefix_len is_LN strip =
    count_from_yields_List _ _ c.count-lefts.ensures.ran
    (YieldsList-from_take_while _ is_LN (YieldsList-from_slice strip cc) c.take_while.ensures.closure c.take_while.ensures.done (λ x b q k. search (rules, tests)))
    ∙ length-prefix_len is_LN strip in
    let n : c.count-orders.result ≡ prefix_len is_order middle =
    count_from_yields_List _ _ c.count-orders.ensures.ran
    (YieldsList-from_take_while _ is_order (YieldsList-from_slice middle (cc (take_rest strip c.count-lefts.result))) c.take_while-2.ensures.closure c.take_while-2.ensures.done (λ x b q k. search (rules, tests)))
    ∙ length-prefix_len is_order middle in
    let r : c.count-rights.result ≡ prefix_len is_RN end =
    count_from_yields_List _ _ c.count-rights.ensures.ran
    (YieldsList-from_take_while _ is_RN (YieldsList-from_slice end (cc (take_rest strip (c.count-lefts.result + c.count-orders.result)))) c.take_while-3.ensures.closure c.take_while-3.ensures.done (λ x b q k. search (rules, tests)))
    ∙ length-prefix_len is_RN end in
    record { of_left = sym l; of_orders = rw (← l) (sym n); of_right = rw (← l, ← n) (sym r) }

pub returns-then-not-shaped : goal.returns-then-not-shaped
returns-then-not-shaped c =
    let k = counted (goal.at.returns-then-not-shaped c).After-count-rights in
    let fits : strip_fits (length c.args.strip.now) ≡ true = sym c.strip_fits.ensures ∙ c.if-not-strip_fits.false in
    let unshaped : is_shaped c.args.strip.now ≡ false = rw (k.of_right, k.of_orders, k.of_left) c.if-not-shaped.true in
    sym (measure_unshaped c.args.strip.now fits unshaped)

pub returns : goal.returns
returns c =
    let k = counted (goal.at.returns c).After-count-rights in
    let fits : strip_fits (length c.args.strip.now) ≡ true = sym c.strip_fits.ensures ∙ c.if-not-strip_fits.false in
    let shaped : is_shaped c.args.strip.now ≡ true = rw (k.of_right, k.of_orders, k.of_left) c.if-not-shaped.false in
    sym (measure_shaped c.args.strip.now fits shaped ∙ rw (k.of_right, k.of_orders, k.of_left))
