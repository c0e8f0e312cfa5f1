-- Operations played one behind the other.
use mathlib.Core.Path.{subst, sym}
use mathlib.Core.List.{List, [], ◌∷◌, ◌++◌}
use Rattle.placing.specs.Placing.{Plays}

module _ {F S : Type 0} (Agrees : F → S → S → Type 0) where
  pub plays_both : (s t u : S) (fs gs : List F) → Plays Agrees s fs t → Plays Agrees t gs u → Plays Agrees s (fs ++ gs) u
  plays_both s t u [] gs same then = subst (λ (x : S). Plays Agrees x gs u) (sym same) then
  plays_both s t u (f ∷ fs) gs first then =
      (first.0, first.1, plays_both first.0 t u fs gs first.2 then)
