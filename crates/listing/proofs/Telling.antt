-- The line of a turn is the line that the turn tells.
use Prim.Native.Nat.{ℕ}
use mathlib.Core.Path.{◌≡◌, refl}
use mathlib.Core.Bool.{Bool, true, false}
use mathlib.Core.List.{[], ◌∷◌}
use Rattle.std.specs.Prelude.{Some, None}
use Rattle.logic.specs.Pick.{pick}
use Rattle.call.specs.Call.{Call}
use Rattle.text.specs.Text.{decimal}
use Rattle.history.specs.Run.{Line}
use Rattle.history.specs.Finished.{is_result}
use Rattle.run.specs.declared.Turn.{Turn}
use Rattle.run.proofs.Entering.{Tells}
use Rattle.listing.specs.Listing.{line_text}
use Rattle.listing.specs.Told.{shown_effect, turn_text}

effect_shown : (result : Bool) (effect : ℕ) → shown_effect (pick result (Some effect) None) ≡ pick result (decimal effect) (45 ∷ [])
effect_shown true effect = refl
effect_shown false effect = refl

pub told_line : (entry : ℕ) (call : Call) (line : Line) (turn : Turn) → Tells line turn → line_text entry call line ≡ turn_text entry call turn
told_line entry call line turn tells =
    rw (← effect_shown (is_result line.number) line.effect, tells.effect, tells.number, tells.carried)
