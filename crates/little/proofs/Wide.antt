-- A number read and laid through 8 bytes: what stands past its width is zeros, or is left out.
use Prim.Native.Nat.{ℕ, zero, suc, ◌+◌, ◌-◌, ◌/◌, ◌%◌, ◌^◌, ◌≤◌, ◌<◌}
use mathlib.Core.Path.{◌≡◌, refl, sym, ◌∙◌, ap}
use mathlib.Core.List.{List, ◌∷◌, ◌++◌}
use lib.ListN.{length, get_or, set, take, drop, replicate, length-drop, get_or-append}
use lib.Seq.{sets, sets-eq, length-take-le, get_or-take, get_or-drop, get_or-append-add}
use native.Mathlib.Nat.{add-zero, zero-add, mul-zero}
use native.Mathlib.Numerals.{add-one}
use native.Mathlib.Omega.{arith}
use Rattle.std.specs.Int.{w64, to_le_bytes, from_le_bytes}
use Rattle.little.specs.Bytes.{number_at, bytes_of}
use Rattle.little.proofs.Runs.{one_more_set}
use Rattle.little.proofs.Digits.{length_bytes, zeros_spell_0, read_in_two}

no_digit : (n i : ℕ) → get_or {A = ℕ} (replicate n 0) i 0 ≡ 0
no_digit zero i = refl
no_digit (suc n) zero = refl
no_digit (suc n) (suc i) = no_digit n i

-- a number is the same wherever its bytes stand
moved_number : (width : ℕ) (l m : List ℕ) (at to : ℕ) → ((i : ℕ) → i < width → get_or l (at + i) 0 ≡ get_or m (to + i) 0)
    → number_at width l at ≡ number_at width m to
unfolding number_at
moved_number zero l m at to agree = refl
moved_number (suc width) l m at to agree =
    let here : get_or l at 0 ≡ get_or m to 0 = rw (add-zero at, add-zero to) at (agree 0 (omega arith)) in
    let later : (i : ℕ) → i < width → get_or l (at + 1 + i) 0 ≡ get_or m (to + 1 + i) 0 =
    λ i h.
    let from : at + 1 + i ≡ at + suc i = omega arith in
    let there : to + 1 + i ≡ to + suc i = omega arith in
    rw (from, there) (agree (suc i) (omega arith)) in
    rw (here, moved_number width l m (at + 1) (to + 1) later) refl

eight_read : (l : List ℕ) → from_le_bytes w64 l ≡ number_at 8 l 0
unfolding number_at
eight_read l = omega arith

-- what `number` reads: the bytes that were copied, and zeros past them
pub read_wide : (width : ℕ) (l got : List ℕ) (at : ℕ) → width ≤ 8 → at + width ≤ length l → got ≡ take (at + width - at) (drop at l)
    → from_le_bytes w64 (got ++ drop width (replicate 8 0)) ≡ number_at width l at
read_wide width l got at narrow inside e =
    let whole = got ++ drop width (replicate 8 0) in
    let as_wide : at + width - at ≡ width = omega arith in
    let copied : got ≡ take width (drop at l) = rw as_wide at e in
    let long : length got ≡ width = ap length copied ∙ length-take-le width (drop at l) (omega (arith, length-drop at l)) in
    let low : number_at width whole 0 ≡ number_at width l at =
    moved_number width whole l 0 at
    (λ i h.
    rw (zero-add i)
    (get_or-append got (drop width (replicate 8 0)) 0 i (omega arith)
    ∙ ap (λ (r : List ℕ). get_or r i 0) copied ∙ get_or-take width (drop at l) i 0 h ∙ get_or-drop at l i 0)) in
    let high : number_at (8 - width) whole (0 + width) ≡ 0 =
    zeros_spell_0 (8 - width) whole (0 + width)
    (λ i.
    let place : 0 + width + i ≡ length got + i = omega arith in
    rw place
    (get_or-append-add got (drop width (replicate 8 0)) i 0 ∙ get_or-drop width (replicate 8 0) i 0 ∙ no_digit 8 (width + i))) in
    let all : width + (8 - width) ≡ 8 = omega arith in
    eight_read whole ∙ ap (λ (w : ℕ). number_at w whole 0) (sym all) ∙ read_in_two width (8 - width) whole 0
    ∙ rw (low, high, mul-zero (256 ^ width), add-zero (number_at width l at)) refl

-- what `number` copies, byte by byte, before zeros
abbrev pub copied : (l : List ℕ) (at i : ℕ) → List ℕ
copied l at i = sets (replicate 8 0) 0 (take i (drop at l))

pub one_more_copied : (l : List ℕ) (at i : ℕ) → at + i < length l → set (copied l at i) i (get_or l (at + i) 0) ≡ copied l at (i + 1)
one_more_copied l at i h =
    rw (sym (get_or-drop at l i 0), add-one i)
    (rw zero-add at (one_more_set 0 (drop at l) (replicate 8 0) 0 i (omega (arith, length-drop at l))))

pub read_copied : (width : ℕ) (l : List ℕ) (at : ℕ) → width ≤ 8 → at + width ≤ length l
    → from_le_bytes w64 (copied l at width) ≡ number_at width l at
read_copied width l at narrow inside =
    let got = take width (drop at l) in
    let long : length got ≡ width = length-take-le width (drop at l) (omega (arith, length-drop at l)) in
    let as_wide : at + width - at ≡ width = omega arith in
    let before_zeros : copied l at width ≡ got ++ drop width (replicate 8 0) =
    sets-eq got (replicate 8 0) 0 (omega arith) ∙ ap (λ (n : ℕ). got ++ drop n (replicate 8 0)) (zero-add (length got) ∙ long) in
    ap (from_le_bytes w64) before_zeros ∙ read_wide width l got at narrow inside (rw as_wide refl)

-- the first bytes of a longer number
first_bytes : (width rest n : ℕ) → take width (bytes_of (width + rest) n) ≡ bytes_of width n
unfolding bytes_of
first_bytes zero rest n = refl
first_bytes (suc width) rest n =
    let more : suc width + rest ≡ suc (width + rest) = omega arith in
    rw more (ap (λ (r : List ℕ). n % 256 ∷ r) (first_bytes width rest (n / 256)))

eight_laid : (n : ℕ) → to_le_bytes w64 n ≡ bytes_of 8 n
unfolding bytes_of
eight_laid n =
    let two : n / 65536 ≡ n / 256 / 256 = omega arith in
    let three : n / 16777216 ≡ n / 256 / 256 / 256 = omega arith in
    let four : n / 4294967296 ≡ n / 256 / 256 / 256 / 256 = omega arith in
    let five : n / 1099511627776 ≡ n / 256 / 256 / 256 / 256 / 256 = omega arith in
    let six : n / 281474976710656 ≡ n / 256 / 256 / 256 / 256 / 256 / 256 = omega arith in
    let seven : n / 72057594037927936 ≡ n / 256 / 256 / 256 / 256 / 256 / 256 / 256 = omega arith in
    rw (two, three, four, five, six, seven) refl

-- what `put` lays, byte by byte
abbrev pub put_to : (l : List ℕ) (at n i : ℕ) → List ℕ
put_to l at n i = sets l at (take i (to_le_bytes w64 n))

pub one_more_put : (l : List ℕ) (at n i : ℕ) → i < 8 → set (put_to l at n i) (at + i) (get_or (to_le_bytes w64 n) i 0) ≡ put_to l at n (i + 1)
one_more_put l at n i h =
    let long : length (to_le_bytes w64 n) ≡ 8 = ap length (eight_laid n) ∙ length_bytes 8 n in
    rw (add-one i) (one_more_set 0 (to_le_bytes w64 n) l at i (omega arith))

pub all_put : (width : ℕ) (l : List ℕ) (at n : ℕ) → width ≤ 8 → put_to l at n width ≡ sets l at (bytes_of width n)
all_put width l at n narrow =
    let all : width + (8 - width) ≡ 8 = omega arith in
    let laid : take width (to_le_bytes w64 n) ≡ bytes_of width n =
    ap (take width) (eight_laid n) ∙ rw all at (first_bytes width (8 - width) n) in
    ap (sets l at) laid
