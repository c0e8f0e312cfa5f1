-- Figure 1 of source 000, right side: what each line reads, tests and writes. Line RH6 is damaged there and is source 003's.
use Rattle.std.specs.Prelude.{ℕ, ◌+◌, ◌-◌, Bool, not, ◌&&◌, List, get_or, set, eqb}
use Rattle.logic.specs.Pick.{pick}
use Rattle.word.specs.Word.{LN, RN}

-- type element = record val: valtype; ctr: int end
pub record Element : Type 0 where
  pub val : ℕ
  pub ctr : ℕ

abbrev pub element : (val ctr : ℕ) → Element
element val ctr = record { val = val; ctr = ctr }

abbrev pub same : Element → Element → Bool
same e f = eqb e.val f.val && eqb e.ctr f.ctr

infixl 90 ◌at◌
-- A[i], for i in 0..MAX+1
abbrev pub ◌at◌ : List Element → ℕ → Element
A at i = get_or A i (element 0 0)

-- The lines that make an access, with the locals alive there. RP5 is its second half, which reads A[k-1] again.
pub data Line : Type 0 where
  RH2 : (v k : ℕ) → Line
  RH3 : (v k : ℕ) (prev : Element) → Line
  RH6 RH7 : (v k : ℕ) (prev cur : Element) → Line
  RP2 : (k : ℕ) → Line
  RP3 : (k : ℕ) (cur : Element) → Line
  RP5 RP7 RP8 : (k : ℕ) (cur next : Element) → Line

-- where a line leads: to the start of the while loop, which asks the oracle; on to a line; or out, with what is returned
pub data Next : Type 0 where
  RH1 : (v : ℕ) → Next
  RP1 : Next
  on : Line → Next
  full ok empty : Next
  value : (val : ℕ) → Next

-- RH1, RP1: k := oracle(right)
abbrev pub told : (k : ℕ) → Next → Next
told k (RH1 v) = on (RH2 v k)
told k RP1 = on (RP2 k)
told k (on line) = on line
told k full = full
told k ok = ok
told k empty = empty
told k (value val) = value val

-- what a line leaves: the array, and where it leads
pub record After : Type 0 where
  pub array : List Element
  pub next : Next

abbrev pub leads : List Element → Next → After
leads A next = record { array = A; next = next }

-- if CAS(&A[a],e,n) .., footnote 1: if A[a] matches e, CAS stores n there and succeeds; otherwise it fails and modifies nothing
abbrev pub if_CAS : (A : List Element) (a : ℕ) (e n : Element) (succeeds fails : Next) → After
if_CAS A a e n succeeds fails = pick (same (A at a) e) (leads (set A a n) succeeds) (leads A fails)

-- RH4, RP4: the left one is not RN and the right one is: the oracle is right
abbrev pub oracle_is_right : (left right : Element) → Bool
oracle_is_right left right = not (eqb left.val RN) && eqb right.val RN

-- A line, with the tests on its locals up to the next access. What ends the loop's body leads to the loop's start.
abbrev pub run : (MAX : ℕ) → List Element → Line → After
-- RH2: prev := A[k-1];
run MAX A (RH2 v k) = leads A (on (RH3 v k (A at (k - 1))))
-- RH3: cur := A[k];
-- RH4: if (prev.val != RN and cur.val = RN) {
-- RH5:   if (k = MAX+1) return "full";
run MAX A (RH3 v k prev) =
    leads A (pick (oracle_is_right prev (A at k)) (pick (eqb k (MAX + 1)) full (on (RH6 v k prev (A at k)))) (RH1 v))
-- RH6:   if CAS(&A[k-1],prev,<prev.val,prev.ctr+1>)
run MAX A (RH6 v k prev cur) =
    if_CAS A (k - 1) prev (element prev.val (prev.ctr + 1)) (on (RH7 v k prev cur)) (RH1 v)
-- RH7:     if CAS(&A[k],cur,<v,cur.ctr+1>)
-- RH8:       return "ok";
run MAX A (RH7 v k prev cur) = if_CAS A k cur (element v (cur.ctr + 1)) ok (RH1 v)
-- RP2: cur := A[k-1];
run MAX A (RP2 k) = leads A (on (RP3 k (A at (k - 1))))
-- RP3: next := A[k];
-- RP4: if (cur.val != RN and next.val = RN) {
-- RP5:   if (cur.val = LN and ..
run MAX A (RP3 k cur) =
    leads A (pick (oracle_is_right cur (A at k)) (pick (eqb cur.val LN) (on (RP5 k cur (A at k))) (on (RP7 k cur (A at k)))) RP1)
-- RP5:   .. and A[k-1] = cur)
-- RP6:     return "empty";
run MAX A (RP5 k cur next) = leads A (pick (same (A at (k - 1)) cur) empty (on (RP7 k cur next)))
-- RP7:   if CAS(&A[k],next,<RN,next.ctr+1>)
run MAX A (RP7 k cur next) = if_CAS A k next (element RN (next.ctr + 1)) (on (RP8 k cur next)) RP1
-- RP8:     if CAS(&A[k-1],cur,<RN,cur.ctr+1>)
-- RP9:       return cur.val
run MAX A (RP8 k cur next) = if_CAS A (k - 1) cur (element RN (cur.ctr + 1)) (value cur.val) RP1
