-- What holds of every element of a list, and of every two.
use Rattle.std.specs.Prelude.{ℕ, ◌<◌, List, length, get_or}

abbrev pub Every : {A : Type 0} → (P : A → Type 0) → (past : A) → List A → Type 0
Every P past l = (i : ℕ) → i < length l → P (get_or l i past)

abbrev pub Pairs : {A : Type 0} → (R : A → A → Type 0) → (past : A) → List A → Type 0
Pairs R past l = (i j : ℕ) → i < length l → j < length l → R (get_or l i past) (get_or l j past)
