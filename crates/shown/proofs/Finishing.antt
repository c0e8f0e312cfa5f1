-- The finished operations are read from lines as they are shown no less than from the run's: no effect is looked at without a result.
use Prim.Native.Nat.{ℕ, suc}
use mathlib.Core.Path.{◌≡◌, refl}
use mathlib.Core.Bool.{Bool, true, false}
use mathlib.Core.List.{List, [], ◌∷◌, map}
use lib.ListN.{get_or}
use Rattle.logic.specs.Pick.{pick}
use Rattle.call.specs.Call.{Call, party_of}
use Rattle.history.specs.Run.{Line}
use Rattle.history.specs.Finished.{Asked, Finished, nothing_yet, is_result, finish, asked_after, finished_at, finished_from}
use Rattle.shown.proofs.Lines.{as_shown}

module _ (asked : List Asked) (entry : ℕ) where
  asked_as_shown : (call : Call) (line : Line) → asked_after asked entry call (as_shown line) ≡ asked_after asked entry call line
  asked_as_shown (Call.start party operation order) line = refl
  asked_as_shown (Call.step party hint) line = refl
  asked_as_shown (Call.withdraw party) line = refl

  finished_at_as_shown : (call : Call) (line : Line) → finished_at asked entry call (as_shown line) ≡ finished_at asked entry call line
  finished_at_as_shown call line = go (is_result line.number)
    where
      by : Line → Finished
      by shown = finish (get_or asked (party_of call) nothing_yet) entry shown

      go : (result : Bool)
          → pick result (by (record { number = line.number; carried = line.carried; effect = pick result line.effect 0 }) ∷ []) []
          ≡ pick result (by line ∷ []) []
      go true = refl
      go false = refl

pub finished_as_shown : (asked : List Asked) (entry : ℕ) (calls : List Call) (lines : List Line)
    → finished_from asked entry calls (map as_shown lines) ≡ finished_from asked entry calls lines
unfolding finished_from
finished_as_shown asked entry [] lines = refl
finished_as_shown asked entry (call ∷ calls) [] = refl
finished_as_shown asked entry (call ∷ calls) (line ∷ lines) =
    rw (
      finished_at_as_shown asked entry call line,
      asked_as_shown asked entry call line,
      finished_as_shown (asked_after asked entry call line) (suc entry) calls lines,
    ) refl
