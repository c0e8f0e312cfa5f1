-- What shows that the four operations are the right ones.
use Prim.Native.Nat.{ℕ, ◌+◌, ◌-◌, ◌≤◌}
use mathlib.Core.Path.{◌≡◌, refl, sym, ◌∙◌, ap, subst}
use mathlib.Core.Bool.{Bool, true, false}
use mathlib.Core.List.{List, [], ◌∷◌, ◌++◌}
use lib.ListN.{length, length-append, length-take, length-drop}
use lib.Seq.{take-append_seam, get_or-append_seam}
use native.Mathlib.Omega.{arith}
use Rattle.record.specs.Operation.{is_right, is_push}
use Rattle.plain.specs.Plain.{Plain, places_of}
use Rattle.plain.specs.Play.{room, added, end_order, removed, Yields}
use Rattle.plain.proofs.Ways.{Way, way, yields_pushed, yields_full, yields_popped, yields_empty}

-- The places stay MAX, whatever is played.
module _ (operation order : ℕ) (p : Plain) where
  added_places : 1 ≤ room operation p → places_of (added operation order p) ≡ places_of p
  added_places some = go (is_right operation) refl
    where
      go : (right : Bool) → is_right operation ≡ right → places_of (added operation order p) ≡ places_of p
      go true e = let room_right = rw e at some in rw (e, length-append p.orders (order ∷ [])) (omega arith)
      go false e = let room_left = rw e at some in rw e (omega arith)

  removed_places : 1 ≤ length p.orders → places_of (removed operation p) ≡ places_of p
  removed_places some = go (is_right operation) refl
    where
      go : (right : Bool) → is_right operation ≡ right → places_of (removed operation p) ≡ places_of p
      go true e = rw (e, length-take (length p.orders - 1) p.orders) (omega arith)
      go false e = rw (e, length-drop 1 p.orders) (omega arith)

  pub the_places_stay : {number carried : ℕ} {q : Plain} → Yields operation order p number carried q → places_of q ≡ places_of p
  the_places_stay {number} {carried} {q} y = go (way operation order p y)
    where
      go : Way operation order p number carried q → places_of q ≡ places_of p
      go (Way.pushed push some n left) = ap places_of left ∙ added_places some
      go (Way.full push bare n left) = ap places_of left
      go (Way.popped pop some n c left) = ap places_of left ∙ removed_places some
      go (Way.empty pop bare n left) = ap places_of left

-- FULL exactly where there is no room at the operation's end, EMPTY exactly where no order is held.
module _ {operation order number carried : ℕ} {p q : Plain} (y : Yields operation order p number carried q) where
  pub full_is_no_room : number ≡ 18 → room operation p ≡ 0
  full_is_no_room e = go (way operation order p y)
    where
      go : Way operation order p number carried q → room operation p ≡ 0
      go (Way.pushed push some n left) = absurd (omega arith)
      go (Way.full push bare n left) = bare
      go (Way.popped pop some n c left) = absurd (omega arith)
      go (Way.empty pop bare n left) = absurd (omega arith)

  pub empty_is_no_order : number ≡ 19 → length p.orders ≡ 0
  empty_is_no_order e = go (way operation order p y)
    where
      go : Way operation order p number carried q → length p.orders ≡ 0
      go (Way.pushed push some n left) = absurd (omega arith)
      go (Way.full push bare n left) = absurd (omega arith)
      go (Way.popped pop some n c left) = absurd (omega arith)
      go (Way.empty pop bare n left) = bare

  pub no_room_is_full : is_push operation ≡ true → room operation p ≡ 0 → number ≡ 18
  no_room_is_full push bare = sym y.number_is ∙ (yields_full operation order p push bare).number_is

  pub no_order_is_empty : is_push operation ≡ false → length p.orders ≡ 0 → number ≡ 19
  no_order_is_empty pop bare = sym y.number_is ∙ (yields_empty operation order p pop bare).number_is

-- What was pushed is popped next at the same end, and the plain strip is as before.
module _ (push pop order : ℕ) (p : Plain) (same_end : is_right push ≡ is_right pop) (some : 1 ≤ room push p) where
  abbrev longer : List ℕ
  longer = p.orders ++ (order ∷ [])

  last_is : length longer - 1 ≡ length p.orders
  last_is = rw (length-append p.orders (order ∷ [])) (omega arith)

  some_held : 1 ≤ length (added push order p).orders
  some_held = go (is_right push) refl
    where
      go : (right : Bool) → is_right push ≡ right → 1 ≤ length (added push order p).orders
      go true e = rw (e, length-append p.orders (order ∷ [])) (omega arith)
      go false e = rw e (omega arith)

  end_is : end_order pop (added push order p) ≡ order
  end_is = go (is_right push) refl
    where
      go : (right : Bool) → is_right push ≡ right → end_order pop (added push order p) ≡ order
      go true e = rw (e, sym same_end ∙ e, last_is) (get_or-append_seam p.orders order [] 0)
      go false e = rw (e, sym same_end ∙ e) refl

  back_again : removed pop (added push order p) ≡ p
  back_again = go (is_right push) refl
    where
      go : (right : Bool) → is_right push ≡ right → removed pop (added push order p) ≡ p
      go true e =
          let one : p.right - 1 + 1 ≡ p.right = let more = rw e at some in omega arith in
          rw (e, sym same_end ∙ e, last_is, take-append_seam p.orders (order ∷ []), one) refl
      go false e =
          let one : p.left - 1 + 1 ≡ p.left = let more = rw e at some in omega arith in
          rw (e, sym same_end ∙ e, one) refl

  pub pushed_is_popped_next : is_push pop ≡ false → Yields pop 0 (added push order p) 17 order p
  pushed_is_popped_next pops =
      subst (λ (q : Plain). Yields pop 0 (added push order p) 17 order q) back_again
      (subst (λ (carried : ℕ). Yields pop 0 (added push order p) 17 carried (removed pop (added push order p))) end_is
      (yields_popped pop 0 (added push order p) pops some_held))

-- Room that a pop frees at its end is used by the next push there.
module _ (pop push : ℕ) (same_end : is_right push ≡ is_right pop) (pushes : is_push push ≡ true) where
  room_freed : (p : Plain) → 1 ≤ room push (removed pop p)
  room_freed p = go (is_right pop) refl
    where
      go : (right : Bool) → is_right pop ≡ right → 1 ≤ room push (removed pop p)
      go true e = rw (same_end ∙ e, e) (omega arith)
      go false e = rw (same_end ∙ e, e) (omega arith)

  pub room_freed_is_used_again : {order next carried other number : ℕ} {p q r : Plain} → Yields pop order p 17 carried q
      → Yields push next q number other r → number ≡ 16
  room_freed_is_used_again {order} {next} {carried} {other} {number} {p} {q} {r} first then = go (way pop order p first)
    where
      go : Way pop order p 17 carried q → number ≡ 16
      go (Way.pushed push' some n left) = absurd (omega arith)
      go (Way.full push' bare n left) = absurd (omega arith)
      go (Way.popped pops some n c left) =
          sym then.number_is ∙ (yields_pushed push next q pushes (rw left (room_freed p))).number_is
      go (Way.empty pops bare n left) = absurd (omega arith)
