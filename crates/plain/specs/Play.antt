-- The four operations on a plain strip: what each answers and leaves.
use Rattle.std.specs.Prelude.{ℕ, ◌+◌, ◌-◌, ◌≡◌, [], ◌∷◌, ◌++◌, length, get_or, take, drop, eqb}
use Rattle.std.specs.declared.result.Result.TheVariants.{Ok}
use Rattle.logic.specs.Pick.{pick}
use Rattle.record.specs.Operation.{is_right, is_push}
use Rattle.party.specs.Answer.{number_of, carried_of}
use Rattle.party.specs.declared.Answer.{Answer}
use Rattle.party.specs.declared.Answer.TheVariants.{Pushed, Popped, Full, Empty}
use Rattle.plain.specs.Plain.{Plain}

-- the free places at an operation's end: R on the right, L on the left
abbrev pub room : (operation : ℕ) → Plain → ℕ
room operation p = pick (is_right operation) p.right p.left

-- a push appends at its end, and its room falls by one
abbrev pub added : (operation order : ℕ) → Plain → Plain
added operation order p =
    pick (is_right operation)
    (record { left = p.left; orders = p.orders ++ (order ∷ []); right = p.right - 1 })
    (record { left = p.left - 1; orders = order ∷ p.orders; right = p.right })

-- a pop takes the last on the right, the first on the left, and its room rises by one
abbrev pub end_order : (operation : ℕ) → Plain → ℕ
end_order operation p = get_or p.orders (pick (is_right operation) (length p.orders - 1) 0) 0

abbrev pub removed : (operation : ℕ) → Plain → Plain
removed operation p =
    pick (is_right operation)
    (record { left = p.left; orders = take (length p.orders - 1) p.orders; right = p.right + 1 })
    (record { left = p.left + 1; orders = drop 1 p.orders; right = p.right })

pub record Played : Type 0 where
  pub answer : Answer
  pub plain : Plain

abbrev pub play_push : (operation order : ℕ) → Plain → Played
play_push operation order p =
    pick (eqb (room operation p) 0) (record { answer = Full; plain = p })
    (record { answer = Pushed; plain = added operation order p })

abbrev pub play_pop : (operation : ℕ) → Plain → Played
play_pop operation p =
    pick (eqb (length p.orders) 0) (record { answer = Empty; plain = p })
    (record { answer = Popped (end_order operation p); plain = removed operation p })

-- a push is full exactly if its room is 0; a pop is empty exactly if no order is held
unfoldable pub play : (operation order : ℕ) → Plain → Played
play operation order p = pick (is_push operation) (play_push operation order p) (play_pop operation p)

-- an operation, played on p, gives this number and carried order and leaves q
pub record Yields (operation order : ℕ) (p : Plain) (number carried : ℕ) (q : Plain) : Type 0 where
  pub number_is : number_of (Ok (play operation order p).answer) ≡ number
  pub carried_is : carried_of (Ok (play operation order p).answer) ≡ carried
  pub leaves : (play operation order p).plain ≡ q
