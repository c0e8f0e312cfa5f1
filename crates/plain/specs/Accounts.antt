-- How often an order is held, and whether an answer accepts it or takes it.
use Rattle.std.specs.Prelude.{ℕ, Bool, ◌&&◌, eqb}
use Rattle.logic.specs.Pick.{pick}
use Rattle.logic.specs.Total.{total}
use Rattle.plain.specs.Plain.{Plain}

-- once where the test holds
abbrev pub once : Bool → ℕ
once test = pick test 1 0

abbrev pub held : (order : ℕ) → Plain → ℕ
held order p = total (λ (o : ℕ). once (eqb o order)) p.orders

-- PUSHED, of a push that was asked with this order
abbrev pub accepts : (order asked number : ℕ) → ℕ
accepts order asked number = once (eqb number 16 && eqb asked order)

-- POPPED that carries this order
abbrev pub takes : (order number carried : ℕ) → ℕ
takes order number carried = once (eqb number 17 && eqb carried order)
