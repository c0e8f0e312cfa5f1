-- A convention: what the definitions give, and the number of document 01 that must come.
use Rattle.std.specs.Prelude.{ℕ, ◌≡◌, List, map}

pub record Case : Type 0 where
  pub given : ℕ
  pub wanted : ℕ

infix 68 ◌is◌
abbrev pub ◌is◌ : (given wanted : ℕ) → Case
given is wanted = record { given = given; wanted = wanted }

-- in every case of a list the number comes
abbrev pub Hold : List Case → Type 0
Hold cases = map (λ (c : Case). c.given) cases ≡ map (λ (c : Case). c.wanted) cases
