-- The finished operations of a schedule, read from its entries and their lines alone.
use Rattle.std.specs.Prelude.{ℕ, suc, ◌≡◌, Bool, ◌&&◌, List, [], ◌∷◌, ◌++◌, get_or, set, replicate, leb}
use Rattle.logic.specs.Pick.{pick}
use Rattle.call.specs.Call.{Call, party_of}
use Rattle.history.specs.Run.{Line, goes_on}

-- what a party was last asked, and by which entry
pub record Asked : Type 0 where
  pub operation : ℕ
  pub order : ℕ
  pub entry : ℕ

abbrev pub nothing_yet : Asked
nothing_yet = record { operation = 0; order = 0; entry = 0 }

pub record Finished : Type 0 where
  pub operation : ℕ
  pub order : ℕ
  pub number : ℕ
  pub carried : ℕ
  pub started : ℕ
  pub effect : ℕ
  pub answered : ℕ

-- PUSHED, POPPED, FULL, EMPTY
abbrev pub is_result : (number : ℕ) → Bool
is_result number = leb 16 number && leb number 19

abbrev pub finish : Asked → (entry : ℕ) → Line → Finished
finish asked entry line =
    record {
      operation = asked.operation;
      order = asked.order;
      number = line.number;
      carried = line.carried;
      started = asked.entry;
      effect = line.effect;
      answered = entry;
    }

-- a start that was taken is what its party was last asked
abbrev pub asked_after : List Asked → (entry : ℕ) → Call → Line → List Asked
asked_after asked entry (Call.start party operation order) line =
    pick (goes_on line.number) (set asked party (record { operation = operation; order = order; entry = entry })) asked
asked_after asked entry (Call.step party hint) line = asked
asked_after asked entry (Call.withdraw party) line = asked

-- the operation that an entry's line finishes, if any
abbrev pub finished_at : List Asked → (entry : ℕ) → Call → Line → List Finished
finished_at asked entry call line =
    pick (is_result line.number) (finish (get_or asked (party_of call) nothing_yet) entry line ∷ []) []

unfoldable pub finished_from : List Asked → (entry : ℕ) → List Call → List Line → List Finished
finished_from asked entry [] lines = []
finished_from asked entry (call ∷ calls) [] = []
finished_from asked entry (call ∷ calls) (line ∷ lines) =
    finished_at asked entry call line ++ finished_from (asked_after asked entry call line) (suc entry) calls lines

-- of a whole schedule, with this many parties
abbrev pub finished_of : (parties : ℕ) → List Call → List Line → List Finished
finished_of parties calls lines = finished_from (replicate parties nothing_yet) 0 calls lines

-- the call at its start asked for it, of the party that is called at its answer
abbrev pub WasAsked : (call : ℕ → Call) → Finished → Type 0
WasAsked call f = call f.started ≡ Call.start (party_of (call f.answered)) f.operation f.order
