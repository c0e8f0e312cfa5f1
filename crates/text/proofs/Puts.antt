-- Text written behind text.
use Prim.Native.Nat.{ℕ, ◌+◌, ◌-◌, ◌≤◌}
use mathlib.Core.Path.{◌≡◌, refl, sym, ◌∙◌}
use mathlib.Core.List.{List, [], ◌++◌, append_assoc}
use lib.ListN.{length, length-append}
use lib.Seq.{sets, sets-eq, length-sets}
use borrow.Rule.Slice.PartMut.{put_mid}
use native.Mathlib.Omega.{arith}
use Rattle.std.proofs.Common.{drop-drop}
use Rattle.little.proofs.Runs.{run_append}
use Rattle.text.specs.Writing.{Room, Puts}
use Rattle.text.specs.declared.Text.{Text}

module _ (a b : List ℕ) {text : Text} where
  pub room_left : Room (a ++ b) text → Room a text
  room_left h = record { fits = omega (arith, length-append a b) }

  pub room_right : {left : Text} → Room (a ++ b) text → Puts a text left → Room b left
  room_right h p = record { fits = omega (arith, length-append a b) }

  pub puts_then : {middle left : Text} → Puts a text middle → Puts b middle left → Puts (a ++ b) text left
  puts_then p q =
      record {
        same = q.same ∙ p.same;
        behind = omega (arith, length-append a b);
        bytes = q.bytes ∙ rw (p.bytes, p.behind) (sym (run_append a b text.out.now text.at));
        long = q.long ∙ p.long;
      }

-- What a copy of more text into the part from `at` on leaves of all bytes.
pub copied : (out more part : List ℕ) (at : ℕ) → at + length more ≤ length out → part ≡ more
    → let left = put_mid at (at + length more - at) out part in (left ≡ sets out at more) × (length left ≡ length out)
copied out more part at fits is =
    let long : at + length more - at ≡ length more = omega arith in
    rw (long, is, drop-drop, ← append_assoc, ← sets-eq more out at fits) (refl, length-sets out at more)

-- In the middle of writing a text: the rest of it, written from here on, leaves what the whole leaves.
pub record Rest (whole : List ℕ) (first : Text) (rest : List ℕ) (text : Text) : Type 0 where
  pub same : text.out.ghost_name ≡ first.out.ghost_name
  pub long : length text.out.now ≡ length first.out.now
  pub there : text.at + length rest ≡ first.at + length whole
  pub bytes : sets text.out.now text.at rest ≡ sets first.out.now first.at whole

pub rest_begins : (whole : List ℕ) (text : Text) → Rest whole text whole text
rest_begins whole text = record { same = refl; long = refl; there = refl; bytes = refl }

module _ {whole : List ℕ} {first text : Text} where
  pub rest_room : {rest : List ℕ} → Room whole first → Rest whole first rest text → Room rest text
  rest_room room r = record { fits = omega arith }

  pub rest_goes_on : (a b : List ℕ) {left : Text} → Rest whole first (a ++ b) text → Puts a text left → Rest whole first b left
  rest_goes_on a b r p =
      record {
        same = p.same ∙ r.same;
        long = p.long ∙ r.long;
        there = omega (arith, length-append a b);
        bytes = rw (p.bytes, p.behind) (sym (run_append a b text.out.now text.at) ∙ r.bytes);
      }

  pub rest_ends : {rest : List ℕ} {left : Text} → Rest whole first rest text → Puts rest text left → Puts whole first left
  rest_ends r p =
      record {
        same = p.same ∙ r.same;
        behind = p.behind ∙ r.there;
        bytes = p.bytes ∙ r.bytes;
        long = p.long ∙ r.long;
      }

pub puts_nothing : (text : Text) → Puts [] text text
puts_nothing text = record { same = refl; behind = omega arith; bytes = refl; long = refl }
