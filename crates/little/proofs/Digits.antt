-- Numbers in bytes: what is laid is read back, and what is read, laid again, changes nothing. Once for every width.
use Prim.Native.Nat.{ℕ, zero, suc, ◌+◌, ◌*◌, ◌/◌, ◌%◌, ◌^◌, ◌≤◌, ◌<◌}
use mathlib.Core.Path.{◌≡◌, refl, sym, ◌∙◌, ap}
use mathlib.Core.List.{List, [], ◌∷◌, ◌++◌}
use lib.ListN.{length, get_or, set, length-set}
use lib.Seq.{sets, get_or-set_same, set-get_or}
use lib.Arith.{mod-mul}
use native.Mathlib.Nat.{add-zero, zero-add, mul_assoc, pow-suc, mod-one, mod-eq_of_lt, one-le-pow, mul_comm, div-div-eq-div-mul, div-one}
use native.Mathlib.Numerals.{add-one}
use native.Mathlib.Omega.{arith}
use Rattle.little.specs.Bytes.{AreBytes, number_at, bytes_of}
use Rattle.little.proofs.Runs.{Agree, below_a_run, run_append}

pub length_bytes : (width n : ℕ) → length (bytes_of width n) ≡ width
unfolding bytes_of
length_bytes zero n = refl
length_bytes (suc width) n = ap suc (length_bytes width (n / 256))

-- the bytes that spell a number are bytes
pub digits_are_bytes : (width n : ℕ) → AreBytes (bytes_of width n)
unfolding bytes_of
digits_are_bytes zero n i = omega arith
digits_are_bytes (suc width) n zero = omega arith
digits_are_bytes (suc width) n (suc i) = digits_are_bytes width (n / 256) i

-- bytes laid in bytes leave bytes
pub byte_stays : (l : List ℕ) (at v : ℕ) → AreBytes l → v < 256 → AreBytes (set l at v)
byte_stays [] at v are h i = are i
byte_stays (x ∷ xs) zero v are h zero = h
byte_stays (x ∷ xs) zero v are h (suc i) = are (suc i)
byte_stays (x ∷ xs) (suc at) v are h zero = are zero
byte_stays (x ∷ xs) (suc at) v are h (suc i) = byte_stays xs at v (λ j. are (suc j)) h i

pub bytes_stay : (vs l : List ℕ) (at : ℕ) → AreBytes l → AreBytes vs → AreBytes (sets l at vs)
bytes_stay [] l at are new = are
bytes_stay (v ∷ vs) l at are new = bytes_stay vs (set l at v) (suc at) (byte_stays l at v are (new 0)) (λ i. new (suc i))

pub byte_before : (v : ℕ) (l : List ℕ) → v < 256 → AreBytes l → AreBytes (v ∷ l)
byte_before v l byte rest zero = byte
byte_before v l byte rest (suc i) = rest i

pub bytes_behind : (l m : List ℕ) → AreBytes l → AreBytes m → AreBytes (l ++ m)
bytes_behind [] m first second i = second i
bytes_behind (v ∷ l) m first second zero = first 0
bytes_behind (v ∷ l) m first second (suc i) = bytes_behind l m (λ j. first (suc j)) second i

-- zeros spell 0
pub zeros_spell_0 : (width : ℕ) (l : List ℕ) (at : ℕ) → ((i : ℕ) → get_or l (at + i) 0 ≡ 0) → number_at width l at ≡ 0
unfolding number_at
zeros_spell_0 zero l at zeros = refl
zeros_spell_0 (suc width) l at zeros =
    let here = rw (add-zero at) at (zeros 0) in
    let later : (i : ℕ) → get_or l (at + 1 + i) 0 ≡ 0 =
    λ i. let moved : at + 1 + i ≡ at + suc i = omega arith in rw moved (zeros (suc i)) in
    omega (arith, here, zeros_spell_0 width l (at + 1) later)

-- a number is the bytes it is read from, and no others
pub same_number : (width : ℕ) (l m : List ℕ) (at : ℕ) → Agree l m at width → number_at width l at ≡ number_at width m at
unfolding number_at
same_number zero l m at agree = refl
same_number (suc width) l m at agree =
    let rest = same_number width l m (at + 1) (λ i lo hi. agree i (omega arith) (omega arith)) in
    rw (agree at (omega arith) (omega arith), rest) refl

-- a run elsewhere does not change it
pub number_below_run : (width : ℕ) (vs l : List ℕ) (to at : ℕ) → at + width ≤ to
    → number_at width (sets l to vs) at ≡ number_at width l at
number_below_run width vs l to at h =
    same_number width (sets l to vs) l at (λ i lo hi. below_a_run vs l to i (omega arith))

power_above : (width : ℕ) → 0 < 256 ^ width
power_above width = one-le-pow width 256 (omega arith)

-- what bytes spell fits their width
pub number_fits : (width : ℕ) (l : List ℕ) (at : ℕ) → AreBytes l → number_at width l at < 256 ^ width
unfolding number_at
number_fits zero l at are = omega arith
number_fits (suc width) l at are =
    rw (pow-suc 256 width) (omega (arith, are at, number_fits width l (at + 1) are))

-- What was laid is read back: the number, cut to the width.
pub laid_is_read : (width : ℕ) (l : List ℕ) (at n : ℕ) → at + width ≤ length l
    → number_at width (sets l at (bytes_of width n)) at ≡ n % 256 ^ width
unfolding number_at bytes_of
laid_is_read zero l at n h = sym (mod-one n)
laid_is_read (suc width) l at n h =
    let low = below_a_run (bytes_of width (n / 256)) (set l at (n % 256)) (suc at) at (omega arith)
    ∙ get_or-set_same l at (n % 256) 0 (omega arith) in
    let high = laid_is_read width (set l at (n % 256)) (suc at) (n / 256) (rw (length-set l at (n % 256)) (omega arith)) in
    rw (low, add-one at, high, pow-suc 256 width, mod-mul n {m = 256 ^ width} {c = 256} (power_above width) (omega arith))
    (omega arith)

pub laid_fitting_is_read : (width : ℕ) (l : List ℕ) (at n : ℕ) → at + width ≤ length l → n < 256 ^ width
    → number_at width (sets l at (bytes_of width n)) at ≡ n
laid_fitting_is_read width l at n h fits = laid_is_read width l at n h ∙ mod-eq_of_lt fits

-- What was read, laid again, changes no byte.
pub read_is_laid : (width : ℕ) (l : List ℕ) (at : ℕ) → AreBytes l → sets l at (bytes_of width (number_at width l at)) ≡ l
unfolding number_at bytes_of
read_is_laid zero l at bytes = refl
read_is_laid (suc width) l at bytes =
    let n = get_or l at 0 + 256 * number_at width l (at + 1) in
    let low : n % 256 ≡ get_or l at 0 = omega (arith, bytes at) in
    let high : n / 256 ≡ number_at width l (at + 1) = omega (arith, bytes at) in
    rw (low, high, set-get_or l at 0, add-one at) (read_is_laid width l (suc at) bytes)

-- the digits of the bytes are the bytes
pub digits_read : (width : ℕ) (l : List ℕ) (at i : ℕ) → AreBytes l → i < width
    → get_or (bytes_of width (number_at width l at)) i 0 ≡ get_or l (at + i) 0
unfolding number_at bytes_of
digits_read zero l at i bytes h = absurd (omega arith)
digits_read (suc width) l at zero bytes h =
    rw (add-zero at) (omega (arith, bytes at))
digits_read (suc width) l at (suc i) bytes h =
    let n = get_or l at 0 + 256 * number_at width l (at + 1) in
    let high : n / 256 ≡ number_at width l (at + 1) = omega (arith, bytes at) in
    let moved : at + suc i ≡ at + 1 + i = omega arith in
    rw (high, moved) (digits_read width l (at + 1) i bytes (omega arith))

-- a number read in two parts
pub read_in_two : (a b : ℕ) (l : List ℕ) (at : ℕ)
    → number_at (a + b) l at ≡ number_at a l at + 256 ^ a * number_at b l (at + a)
unfolding number_at
read_in_two zero b l at = rw (zero-add b, add-zero at) (omega arith)
read_in_two (suc a) b l at =
    let sum : suc a + b ≡ suc (a + b) = omega arith in
    let moved : at + suc a ≡ at + 1 + a = omega arith in
    let high = number_at b l (at + 1 + a) in
    let turned : 256 ^ a * 256 * high ≡ 256 * (256 ^ a * high) = rw (mul_comm (256 ^ a) 256) (mul_assoc 256 (256 ^ a) high) in
    rw (sum, moved, read_in_two a b l (at + 1), pow-suc 256 a, turned) (omega arith)

-- and laid in two parts
pub laid_in_two : (a b n : ℕ) → bytes_of (a + b) n ≡ bytes_of a (n % 256 ^ a) ++ bytes_of b (n / 256 ^ a)
unfolding bytes_of
laid_in_two zero b n = rw (zero-add b, div-one n) refl
laid_in_two (suc a) b n =
    let sum : suc a + b ≡ suc (a + b) = omega arith in
    let cut = mod-mul n {m = 256 ^ a} {c = 256} (power_above a) (omega arith) in
    let low : n % (256 ^ a * 256) % 256 ≡ n % 256 = rw cut (omega arith) in
    let high : n % (256 ^ a * 256) / 256 ≡ n / 256 % 256 ^ a = rw cut (omega arith) in
    let past : n / (256 ^ a * 256) ≡ n / 256 / 256 ^ a =
    rw (mul_comm (256 ^ a) 256) (sym (div-div-eq-div-mul n 256 (256 ^ a))) in
    rw (sum, pow-suc 256 a, low, high, past, laid_in_two a b (n / 256)) refl

pub laid_halves : (half : ℕ) (l : List ℕ) (at n : ℕ)
    → sets (sets l at (bytes_of half (n % 256 ^ half))) (at + half) (bytes_of half (n / 256 ^ half))
    ≡ sets l at (bytes_of (half + half) n)
laid_halves half l at n =
    let low = bytes_of half (n % 256 ^ half) in
    let high = bytes_of half (n / 256 ^ half) in
    let seam : length low ≡ half = length_bytes half (n % 256 ^ half) in
    rw (laid_in_two half half n, run_append low high l at, seam) refl
