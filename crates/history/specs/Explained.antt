-- Demand 3: a schedule is explained by the plain strip.
use Rattle.std.specs.Prelude.{ℕ, ◌<◌, ◌≤◌, ◌≡◌, List, length, get_or}
use Rattle.plain.specs.Plain.{Plain}
use Rattle.plain.specs.Play.{Yields}
use Rattle.call.specs.Call.{Call}
use Rattle.strip.specs.Shape.{StandsFor}
use Rattle.placing.specs.Placing.{in_order, Plays}
use Rattle.history.specs.Run.{Line}
use Rattle.history.specs.Finished.{Finished, finished_of}

-- f, played on the plain strip p, gives f's number and carried order and leaves q
abbrev pub Agrees : Finished → Plain → Plain → Type 0
Agrees f p q = Yields f.operation f.order p f.number f.carried q

-- the effect lies between the operation's start and its answer
pub record Between (f : Finished) : Type 0 where
  pub past_start : f.started < f.effect
  pub by_answer : f.effect ≤ f.answered

-- p is the plain strip before the effect of f: what those with earlier effects leave of the first
abbrev pub AtItsEffect : (first : Plain) → List Finished → Finished → Plain → Type 0
AtItsEffect first finished f p = Plays Agrees first (in_order (λ (g : Finished). g.effect) f.effect finished) p

abbrev pub none : Finished
none = record { operation = 0; order = 0; number = 0; carried = 0; started = 0; effect = 0; answered = 0 }

-- The finished operations, each answered by one of the entries and each with an effect of its own, played on the first plain strip
-- in the order of their effects, give every answer and end at the last plain strip.
pub record Explained (first : Plain) (finished : List Finished) (entries : ℕ) (last : Plain) : Type 0 where
  pub answered : (i : ℕ) → i < length finished → (get_or finished i none).answered < entries
  pub between : (i : ℕ) → i < length finished → Between (get_or finished i none)
  pub apart : (i j : ℕ) → i < j → j < length finished → (get_or finished i none).effect ≡ (get_or finished j none).effect → ⊥
  pub played : Plays Agrees first (in_order (λ (f : Finished). f.effect) entries finished) last

-- A run from the plain strip p on is explained: the finished operations, read from its calls and their lines, are, and the strip that
-- is left stands for the plain strip at the end.
abbrev pub ExplainedRun : (p : Plain) (parties : ℕ) → List Call → List Line → (left : List ℕ) → Type 0
ExplainedRun p parties calls lines left =
    (q : Plain) × StandsFor left q × Explained p (finished_of parties calls lines) (length calls) q
