-- Demand 3 as a test that computes: the finished operations of a run, played on the plain strip in the order of their effects.
use Rattle.std.specs.Prelude.{ℕ, ◌+◌, Bool, true, false, ◌&&◌, List, [], ◌∷◌, length, eqb}
use Rattle.std.specs.declared.result.Result.TheVariants.{Ok}
use Rattle.party.specs.Answer.{number_of, carried_of}
use Rattle.call.specs.Call.{Call}
use Rattle.plain.specs.Plain.{Plain}
use Rattle.plain.specs.Play.{play}
use Rattle.strip.specs.Shape.{plain_between}
use Rattle.strip.specs.Measure.{lefts, orders}
use Rattle.placing.specs.Placing.{in_order}
use Rattle.history.specs.Run.{Line}
use Rattle.history.specs.Finished.{Finished, finished_of}

-- as many elements, each the same
unfoldable pub all_same : {A : Type 0} → (A → A → Bool) → List A → List A → Bool
all_same same [] [] = true
all_same same [] (b ∷ l) = false
all_same same (a ∷ k) [] = false
all_same same (a ∷ k) (b ∷ l) = same a b && all_same same k l

-- the plain strip that a shaped strip stands for
abbrev pub plain_of : List ℕ → Plain
plain_of strip = plain_between strip (lefts strip) (lefts strip + orders strip)

abbrev pub same_plain : Plain → Plain → Bool
same_plain p q = eqb p.left q.left && all_same eqb p.orders q.orders && eqb p.right q.right

-- each gives its number and carried order, and the end is the last plain strip
unfoldable pub replays : Plain → List Finished → Plain → Bool
replays p [] last = same_plain p last
replays p (f ∷ fs) last =
    let played = play f.operation f.order p in
    eqb (number_of (Ok played.answer)) f.number
    && eqb (carried_of (Ok played.answer)) f.carried
    && replays played.plain fs last

abbrev pub is_explained : (first : List ℕ) (parties : ℕ) → List Call → List Line → (last : List ℕ) → Bool
is_explained first parties calls lines last =
    replays (plain_of first)
    (in_order (λ (f : Finished). f.effect) (length calls) (finished_of parties calls lines))
    (plain_of last)
