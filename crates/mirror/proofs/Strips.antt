-- The mirror of a strip: what is read and written at a place is mirrored at the mirrored place.
use Prim.Native.Nat.{ℕ, zero, suc, ◌+◌, ◌-◌, ◌<◌}
use mathlib.Core.Path.{◌≡◌, ◌∙◌, ap}
use mathlib.Core.List.{List, [], ◌∷◌, ◌++◌, map, reverse-cons}
use lib.ListN.{length, get_or, set, length-map, length-reverse, get_or-append}
use lib.Seq.{get_or_at, set_at, set-append_left, ext_get_or}
use native.Mathlib.Omega.{arith}
use Rattle.mirror.specs.Mirror.{mirror_word, mirror_strip}
use Rattle.mirror.proofs.Words.{mirror_back}

pub length_mirror : (strip : List ℕ) → length (mirror_strip strip) ≡ length strip
length_mirror strip = length-reverse (map mirror_word strip) ∙ length-map strip mirror_word

mirror_cons : (word : ℕ) (strip : List ℕ) → mirror_strip (word ∷ strip) ≡ mirror_strip strip ++ (mirror_word word ∷ [])
mirror_cons word strip = reverse-cons (mirror_word word) (map mirror_word strip)

pub mirror_at : (strip : List ℕ) (i j : ℕ) → i + j + 1 ≡ length strip → get_or (mirror_strip strip) j 0 ≡ mirror_word (get_or strip i 0)
mirror_at [] i j h = absurd (omega arith)
mirror_at (word ∷ strip) zero j h =
    rw (mirror_cons word strip) (get_or_at (mirror_strip strip) (mirror_word word) [] 0 j (length_mirror strip ∙ omega arith))
mirror_at (word ∷ strip) (suc i) j h =
    rw (mirror_cons word strip)
    (get_or-append (mirror_strip strip) (mirror_word word ∷ []) 0 j (omega (arith, length_mirror strip))
    ∙ mirror_at strip i j (omega arith))

pub mirror_set : (strip : List ℕ) (i j word : ℕ) → i + j + 1 ≡ length strip
    → set (mirror_strip strip) j (mirror_word word) ≡ mirror_strip (set strip i word)
mirror_set [] i j word h = absurd (omega arith)
mirror_set (w ∷ strip) zero j word h =
    rw (mirror_cons w strip, mirror_cons word strip)
    (set_at (mirror_strip strip) (mirror_word w) [] (mirror_word word) j (length_mirror strip ∙ omega arith))
mirror_set (w ∷ strip) (suc i) j word h =
    rw (mirror_cons w strip, mirror_cons w (set strip i word))
    (set-append_left (mirror_strip strip) (mirror_word w ∷ []) j (mirror_word word) (omega (arith, length_mirror strip))
    ∙ ap (λ (l : List ℕ). l ++ (mirror_word w ∷ [])) (mirror_set strip i j word (omega arith)))

-- The mirror of the mirror is the strip.
pub strip_back : (strip : List ℕ) → mirror_strip (mirror_strip strip) ≡ strip
strip_back strip = ext_get_or 0 (mirror_strip (mirror_strip strip)) strip same each
  where
    same : length (mirror_strip (mirror_strip strip)) ≡ length strip
    same = length_mirror (mirror_strip strip) ∙ length_mirror strip

    each : (i : ℕ) → i < length (mirror_strip (mirror_strip strip)) → get_or (mirror_strip (mirror_strip strip)) i 0 ≡ get_or strip i 0
    each i below =
        let j = length strip - 1 - i in
        mirror_at (mirror_strip strip) j i (omega (arith, same, length_mirror strip))
        ∙ ap mirror_word (mirror_at strip i j (omega (arith, same))) ∙ mirror_back (get_or strip i 0)
