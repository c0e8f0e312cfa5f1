-- Steps that walks by hand shared, with the older kit; today's makes such walks itself. The walks that are named here as crates/NAME/proofs/F
-- stood in files Proof.antt, at the first commit that docs/PORT.md names. They were of code that holds references to plain structs (their fields own only facts, as a record's do), and
-- calls covered functions. A step's T, L and plainness are the generated `X.the_type`, `X.Laws.the_laws` and `X.Laws.the_plain`.
--
-- How a walk goes, with the steps in their order (crates/table/proofs/step_in is one with all of it, withdraw_record the shortest):
--   1. What is owned at entry is split, and of it `keep` the obs, the borrow and the token of each `&mut`. `enter`, `alloc1` for each
--      local, `pass1` for each parameter. Local i of N then stands at 2 · (N − 1 − i), what was kept behind all; whatever is put in
--      front shifts them. A comment says the context wherever it changes.
--   2. A call of a covered function. Its `pre` is made of its arguments, from the last to the first: `nothing !`, then `with_u32`,
--      `with_usize`, `with_struct` for each, then the tokens (`nothing !` and `join !`, or those that are lent on), then `frame !`.
--      Of one that has a `requires`, `says` the fact first, then the tokens and `frame !`, then the arguments.
--      After `calls_at`: `after_plain_call` of a callee that was lent nothing, at the fact that it ensures; `after_lent_call` of one
--      that was lent something: its last value is then in the context (`after_call` leaves the fact there too). Before `land`:
--      `result_u32`, `result_unit`, `result_struct`, which write the result's machine value out.
--   3. `if c { return ..; }` is `guards`, the first arm ends in `returns_within`, and `some_number`, `no_number` say what `n != 0`
--      tells. Both arms must end with the same things: `gives_up` a slice that only one arm lends on.
--   4. One struct behind a `&mut`: `opens_struct` turns [obs; borrow; token] into [its cell; open borrow; obs; auth]; read the cell by
--      `look_raw ! 0 refl`, write it by `store_raw ! 0 refl`; `closes_struct` at what was stored. The call may stand between.
--   5. Element i of a `&mut [T]`: `widens` for a u32 index, `scaled_Fits` and `place_is` with T's size for the address, which must be
--      rewritten before `opens_element` turns [obs; borrow; token] into [its cell; the others; open borrow; obs; auth]; then as in 4,
--      and `closes_element` at the list with the new value at i (crates/whole/proofs/read_table).
--      Lent on as a `&mut T` to a function that takes one: the address, rewritten, and its `addr`; then `lends_element` turns [obs; borrow;
--      token] into [the reference; its lifetime's token; `LentElement`]: the first two go to the callee. After `land`, `element_home` at
--      [that token; `LentElement`; the last value, a `fres`] gives [obs; borrow; token] back (crates/table/proofs/step_in).
--   6. A `while i < n` loop. Its invariant is the whole context `At i` at `Upto n`, in which what a turn writes beside it is room; the
--      order is `Nearer n`. Before it `first ! $ blocks ! $ loops ! 𝓣 (Nearer n) (nearer_wf n) At turns (0, zero-le)`. A turn is
--      `unfolding after_turn`; its test is `goes_on`, whose second arm is the code after the loop, by `exec`; the last statement is an
--      `assigns_last`, then `forget` what was written, `rewrite` to the next value, `again` at `next_turn` (crates/whole/proofs/read_table).
--   7. A `&[T]` is `shares_on` before each call that it is passed on to, and is `stay_dropped` at exit. Of one that is only read keep its
--      `SharedAll` and the token: element i is `looks_element`, read by `look_raw`, `shuts_element`. Local i's type is `local_ty`.
--   8. A `&mut [T]` that is lent for one call and is needed after it: `lends_on` at [what it owns; its token] before the callee's `pre`,
--      `comes_home` at [the call's token; `LentAgain`; the last list] after `land` (crates/whole/proofs/write_table).
--   9. `returns`, then `frees_local` for each local in its order, `frees_room` for one that was never written, `free0`. One `exits`
--      lemma shows the contract's `post` from what is left: `keeps_ref`, `keeps_slice` for each `&mut` that is still held.
-- Assumes `Logic`.
use mathlib.Core.Path.{◌≡◌, refl, sym, ap, subst}
use Prim.Native.Nat.{ℕ, zero, suc, ◌+◌, ◌-◌, ◌≤◌, ◌<◌, ◌^◌}
use native.Mathlib.Nat.{lt_trans, lt_of_le_of_lt}
use native.Mathlib.Numerals.{add-one-le, add-one-dec}
use mathlib.Core.WellFounded.InvImage
use mathlib.Core.WellFounded.{WellFounded}
use lib.WfN.{lt-wf_rel}
use mathlib.Core.Bool.{Bool, true, false, not}
use mathlib.Core.List.{List, [], ◌∷◌}
use lib.Dec.{T as Holds, ltb, ltb→lt, eqb, eqb→eq, eqb_refl, T_not, lit<}
use lib.ListN.{length, get_or, set, length-set}
use seplogic.Ra.Ura.{Ura}
use base.Fraction.{full_share}
use mir.Syntax
use mir.Syntax.{Lifetime, Ty, Local, local, ty_unit, Place, Opd as Operand, w32, w64, seq, cond, skip, exit}
use mir.Val.{Val, vunit, vbool, vint, vptr, Fits}
use base.Logic.{ent, sep, id⊢, via, mono_l, mono_r}
use base.Stored.{Gv}
use base.Fml.{Lft, GName, Share, Fml, fsep, flft, flent, fobs, fauth, fres, fbor, fobor, fhide, fat, froom, fdies}
use prog.Wp.{Env, Calls, Loops, Wp, after_seq, exits}
use types.Logic.{Logic}
use types.Kit.{prop, Goal, Soaks, Item, mean, ⋆, nth, del, pull, push, frees, runs, lands, Post, post, any_q, ‵, raw, ◌⊛◌, some, later, Seq, Step, step, ◌$◌, move, use1, use2, use3, drop, split, rewrite, pick, fsplit, fjoin, fjoin3, feq_l, feq_i, await}
use types.Run.{Opd, first, branches, skips, jumps, free1}
use types.SemTy.{Body}
use types.Tokens.{lft_new, lft_end}
use contract.Monad.{fact}
use denote.RattleType.{RattleType, RowLaws}
use denote.Copied.{Copied}
use denote.Laws.{Is, shows}
use denote.Opens.{Shut}
use denote.Memory.{cell_at, part_at, mem, shares}
use denote.Shadow.{pure_i}
use denote.Plain.{uint_Tells, uint_Makes}
use denote.Builtin.{u32, usize, unit}
use denote.Ref.{Bor, MutBor, MutRef}
use denote.Slice.{slice_val, elements_shared, MutSlice, ShrSlice, shr_slice_copy, Room, mut_slice_at, heres, finally, res-finally, coded_holeys}
use denote.Lend.{Held, lends_ref, ref_back}
use denote.Index as index
use denote.Index.{place, others, takes, puts, elem_out, elem_back, elem_put, opens_slice, closes_slice, looks_slice, shuts_slice}
use denote.Steps.{opens, closes, facts, owned, heard, only}
use denote.Signature.{type_at}
use denote.Struct.Declared.{Declared, row, fields}
use denote.Struct.Struct.{Plains}
use denote.Struct.Steps.{spelt}
use denote.Struct.Laws as LL
use denote.Triple.Entry.{Res, alive}
use denote.Triple.Spec.{triple_of}
use Rattle.walks.proofs.Again.{at_list, LentAgain, lends_again, comes_back}
use denote.Triple.Clauses.{Ended, Clauses, Lasts, lasts, at_exit, closing}

-- the borrow that a `&[R]` is
abbrev pub SharedAll : (R : RattleType) → Lft → List R.Denot → ℕ → ℕ → Fml
SharedAll R κ ys b o = fhide (elements_shared R ys b o κ)

-- what the holder of a `&mut [R]` keeps while it has lent element i for ν under the name δ: the lender's part, the other elements, and its
-- own borrow, open
abbrev pub LentElement : (R : RattleType) → Lft → Share → GName → List R.Denot → (i b o : ℕ) → (ν : ℕ) → GName → Fml
LentElement R κ q γ ys i b o ν δ = fsep (flent (ν ∷ []) (Body (mem R) b (place (mem R).size o i) δ)) (fsep (others (shares R) full_share ys i b o)
    (fsep (fobor κ q (Held R (length ys) b o γ)) (fsep (fobs γ ((coded_holeys R).code (heres R ys))) (fauth γ ((coded_holeys R).code (heres R ys))))))

module _ {M : Type 1} {𝓤 : Ura M} {𝓛 : Logic 𝓤} {K : Type 0} {Γ : List (Item 𝓤)} {G : Goal 𝓤 𝓛.H} where
  -- ---- behind a reference: one struct, and one element of a slice
  pub opens_struct : K → Soaks G → (T : Declared) (L : LL.Laws T) {κ : Lft} {q : Share} (h : T.D) {γ : GName} (b o : ℕ)
      → (Is (row T) h (LL.vals T L h)
      → Seq K 𝓛 (‵ (cell_at full_share (row T).mir (LL.vals T L h) b o) ∷ ‵ (fobor κ q (Body (mem (row T)) b o γ)) ∷ ‵ (fobs γ ((row T).coded.code h)) ∷ ‵ (fauth γ ((row T).coded.code h)) ∷ Γ) G)
      → Seq K 𝓛 (‵ (fobs γ ((row T).coded.code h)) ∷ ‵ (fbor κ (Body (mem (row T)) b o γ)) ∷ ‵ (flft κ q) ∷ Γ) G
  opens_struct t z T L h b o k =
      opens t z (row T) {h = h} b o (λ vs. spelt t (row T) (Is (row T)) (shows 𝓛 (row T)) (LL.vals T L) (LL.tells T L) full_share h vs b o $
      move t (1 ∷ []) $ facts t (row T) (Is (row T)) (shows 𝓛 (row T)) h (LL.vals T L h) k)

  pub closes_struct : K → Soaks G → (T : Declared) (L : LL.Laws T) → Plains (fields T) → {κ : Lft} {q : Share} {u v : Gv} {γ : GName} (h' : T.D) → Is (row T) h' (LL.vals T L h') → (b o : ℕ)
      → Step K 𝓛 (‵ (fobs γ ((row T).coded.code h')) ∷ ‵ (fbor κ (Body (mem (row T)) b o γ)) ∷ ‵ (flft κ q) ∷ Γ) G
      (‵ (cell_at full_share (row T).mir (LL.vals T L h') b o) ∷ ‵ (fobor κ q (Body (mem (row T)) b o γ)) ∷ ‵ (fobs γ u) ∷ ‵ (fauth γ v) ∷ Γ) G
  closes_struct t z T L pl h' is b o =
      step (λ s. owned t (row T) (Is (row T)) (LL.makes T pl 𝓛) h' (LL.vals T L h') is $ move t (1 ∷ 0 ∷ []) $ closes t z (row T) h' (LL.vals T L h') b o $ s)

  pub opens_element : K → Soaks G → (T : Declared) (L : LL.Laws T) {κ : Lft} {q : Share} {γ : GName} (ys : List T.D) (i : ℕ) (d : T.D) (b o : ℕ) → i < length ys
      → (Is (row T) (get_or ys i d) (LL.vals T L (get_or ys i d))
      → Seq K 𝓛 (‵ (cell_at full_share (row T).mir (LL.vals T L (get_or ys i d)) b (place (mem (row T)).size o i)) ∷ ‵ (others (shares (row T)) full_share ys i b o)
      ∷ ‵ (fobor κ q (Held (row T) (length ys) b o γ)) ∷ ‵ (fobs γ ((coded_holeys (row T)).code (heres (row T) ys))) ∷ ‵ (fauth γ ((coded_holeys (row T)).code (heres (row T) ys))) ∷ Γ) G)
      → Seq K 𝓛 (‵ (fobs γ ((coded_holeys (row T)).code (heres (row T) ys))) ∷ ‵ (fbor κ (Held (row T) (length ys) b o γ)) ∷ ‵ (flft κ q) ∷ Γ) G
  opens_element t z T L ys i d b o l k =
      opens_slice t z (row T) ys b o $ elem_out t (row T) (Is (row T)) (shows 𝓛 (row T)) (LL.vals T L) (LL.tells T L) full_share ys i d b o l (λ is. move t (1 ∷ []) $ drop t $ k is)

  pub closes_element : K → Soaks G → (T : Declared) (L : LL.Laws T) → Plains (fields T) → {κ : Lft} {q : Share} {γ : GName} (ys : List T.D) (i : ℕ) (y : T.D) → Is (row T) y (LL.vals T L y) → (b o : ℕ) → i < length ys
      → Step K 𝓛 (‵ (fobs γ ((coded_holeys (row T)).code (heres (row T) (set ys i y)))) ∷ ‵ (fbor κ (Held (row T) (length (set ys i y)) b o γ)) ∷ ‵ (flft κ q) ∷ Γ) G
      (‵ (cell_at full_share (row T).mir (LL.vals T L y) b (place (mem (row T)).size o i)) ∷ ‵ (others (shares (row T)) full_share ys i b o)
      ∷ ‵ (fobor κ q (Held (row T) (length ys) b o γ)) ∷ ‵ (fobs γ ((coded_holeys (row T)).code (heres (row T) ys))) ∷ ‵ (fauth γ ((coded_holeys (row T)).code (heres (row T) ys))) ∷ Γ) G
  closes_element t z T L pl ys i y is b o l =
      step (λ s. owned t (row T) (Is (row T)) (LL.makes T pl 𝓛) y (LL.vals T L y) is $ move t (1 ∷ 0 ∷ []) $ elem_put t (row T) full_share ys i y (LL.vals T L y) b o l $
      closes_slice t z (row T) ys (set ys i y) (length-set ys i y) b o $ s)

  -- element i of a `&[T]`, at some share, and back
  pub looks_element : K → Soaks G → (T : Declared) (L : LL.Laws T) → Copied 𝓛 (row T) → {κ : Lft} {q : Share} (ys : List T.D) (i : ℕ) (d : T.D) (b o : ℕ) → i < length ys
      → ((q' : Share) → Is (row T) (get_or ys i d) (LL.vals T L (get_or ys i d))
      → Seq K 𝓛 (‵ (cell_at q' (row T).mir (LL.vals T L (get_or ys i d)) b (place (mem (row T)).size o i)) ∷ ‵ ((row T).own_val (get_or ys i d) (LL.vals T L (get_or ys i d))) ∷ ‵ (others (shares (row T)) q' ys i b o)
      ∷ Shut 𝓛 κ q (index.row (row T) q' ys b o) ∷ ‵ (SharedAll (row T) κ ys b o) ∷ Γ) G)
      → Seq K 𝓛 (‵ (SharedAll (row T) κ ys b o) ∷ ‵ (flft κ q) ∷ Γ) G
  looks_element t z T L copy ys i d b o l k =
      looks_slice t z (row T) copy ys b o (λ q'. elem_out t (row T) (Is (row T)) (shows 𝓛 (row T)) (LL.vals T L) (LL.tells T L) q' ys i d b o l (k q'))

  pub shuts_element : K → Soaks G → (T : Declared) (L : LL.Laws T) → {κ : Lft} {q : Share} (q' : Share) (ys : List T.D) (i : ℕ) (d : T.D) (b o : ℕ) → i < length ys
      → Step K 𝓛 (‵ (flft κ q) ∷ Γ) G (‵ (cell_at q' (row T).mir (LL.vals T L (get_or ys i d)) b (place (mem (row T)).size o i)) ∷ ‵ ((row T).own_val (get_or ys i d) (LL.vals T L (get_or ys i d))) ∷ ‵ (others (shares (row T)) q' ys i b o)
      ∷ Shut 𝓛 κ q (index.row (row T) q' ys b o) ∷ Γ) G
  shuts_element t z T L q' ys i d b o l = step (λ s. elem_back t (row T) q' ys i d (LL.vals T L (get_or ys i d)) b o l $ shuts_slice t z (row T) q' ys b o $ s)

  -- element i of a `&mut [R]` is lent as a `&mut R` for the lifetime ν of a call, and comes home at the value that the call left
  pub lends_element : K → Soaks G → (ℓ : Lifetime) (R : RattleType) {κ : Lft} {q : Share} {γ : GName} (ys : List R.Denot) (i : ℕ) (d : R.Denot) (b o : ℕ) → i < length ys
      → ((ν : ℕ) (δ : GName) → Seq K 𝓛 (‵ ((MutRef ℓ (ν ∷ []) R).own_val (record { ref_ptr = (b, place (mem R).size o i); ghost_name = δ; now = get_or ys i d }) (vptr b (place (mem R).size o i) ∷ [])) ∷ ‵ (flft (ν ∷ []) full_share) ∷ ‵ (LentElement R κ q γ ys i b o ν δ) ∷ Γ) G)
      → Seq K 𝓛 (‵ (fobs γ ((coded_holeys R).code (heres R ys))) ∷ ‵ (fbor κ (Held R (length ys) b o γ)) ∷ ‵ (flft κ q) ∷ Γ) G
  lends_element t z ℓ R ys i d b o l k =
      opens_slice t z R ys b o $ use1 𝓛 (‵ (part_at R full_share (get_or ys i d) b (place (mem R).size o i)) ⊛ ‵ (others (shares R) full_share ys i b o)) (takes (shares R) full_share 𝓛 ys i d b o l) $ split t $
      lft_new t z (λ ν. move t (1 ∷ []) $
      use1 𝓛 (later (some (λ (δ : GName). ‵ ((MutRef ℓ (ν ∷ []) R).own_val (record { ref_ptr = (b, place (mem R).size o i); ghost_name = δ; now = get_or ys i d }) (vptr b (place (mem R).size o i) ∷ [])) ⊛ ‵ (flent (ν ∷ []) (Body (mem R) b (place (mem R).size o i) δ)))))
      (lends_ref 𝓛 R ℓ (ν ∷ []) (get_or ys i d) b (place (mem R).size o i)) $ await t z $ pick t (λ δ. split t $
      -- [the reference; the lender's part; the token; the others; the open borrow; obs; auth]
      move t (5 ∷ 6 ∷ []) $ fjoin t $ move t (5 ∷ 0 ∷ []) $ fjoin t $ move t (4 ∷ 0 ∷ []) $ fjoin t $ move t (2 ∷ 0 ∷ []) $ fjoin t $ move t (1 ∷ 2 ∷ []) $ k ν δ))

  pub element_home : K → Soaks G → (R : RattleType) {κ : Lft} {q : Share} {γ : GName} (ys : List R.Denot) (i : ℕ) (y : R.Denot) (b o : ℕ) → i < length ys → (ν : ℕ) (δ : GName)
      → Step K 𝓛 (‵ (fobs γ ((coded_holeys R).code (heres R (set ys i y)))) ∷ ‵ (fbor κ (Held R (length (set ys i y)) b o γ)) ∷ ‵ (flft κ q) ∷ Γ) G
      (‵ (flft (ν ∷ []) full_share) ∷ ‵ (LentElement R κ q γ ys i b o ν δ) ∷ ‵ (fres δ (R.coded.code y)) ∷ Γ) G
  element_home t z R ys i y b o l ν δ = step (λ s. lft_end t z $ move t (1 ∷ []) $ fsplit t $ move t (2 ∷ 0 ∷ 3 ∷ []) $
      use3 𝓛 (later (‵ (part_at R full_share y b (place (mem R).size o i)))) (ref_back 𝓛 R (ν ∷ []) δ y b (place (mem R).size o i)) $ await t z $
      move t (1 ∷ []) $ fsplit t $ move t (2 ∷ 0 ∷ []) $ use2 𝓛 (‵ (index.row R full_share (set ys i y) b o)) (puts (shares R) full_share 𝓛 ys i y b o l) $
      move t (1 ∷ []) $ fsplit t $ move t (1 ∷ []) $ fsplit t $ move t (3 ∷ 2 ∷ 0 ∷ 1 ∷ []) $ closes_slice t z R ys (set ys i y) (length-set ys i y) b o $ s)

  -- a `&mut [R]` of n elements is lent on for the lifetime ν of a call, and comes home at the list that the call left
  pub lends_on : K → Soaks G → (ℓ ℓ' : Lifetime) (R : RattleType) {κ : Lft} {q : Share} (γ : GName) (b o : ℕ) (ys : List R.Denot) (n : ℕ) → length ys ≡ n
      → ((ν : ℕ) (δ : GName) → Seq K 𝓛 (‵ ((MutSlice ℓ' (ν ∷ []) R).own_val (at_list R κ (ν ∷ []) q γ b o δ ys) (slice_val (b, o) n ∷ [])) ∷ ‵ (flft (ν ∷ []) full_share) ∷ ‵ (LentAgain R κ (ν ∷ []) q γ b o δ ys) ∷ Γ) G)
      → Seq K 𝓛 (‵ ((MutSlice ℓ κ R).own_val (record { ref_ptr = (b, o); ghost_name = γ; now = ys }) (slice_val (b, o) n ∷ [])) ∷ ‵ (flft κ q) ∷ Γ) G
  lends_on t z ℓ ℓ' R {κ} {q} γ b o ys n l k =
      rewrite t 0 (λ (m : ℕ). ‵ ((MutSlice ℓ κ R).own_val (record { ref_ptr = (b, o); ghost_name = γ; now = ys }) (slice_val (b, o) m ∷ []))) (sym l) refl $ lft_new t z (λ ν. move t (1 ∷ 2 ∷ []) $
      use2 𝓛 (later (some (λ (δ : GName). ‵ ((MutSlice ℓ' (ν ∷ []) R).own_val (at_list R κ (ν ∷ []) q γ b o δ ys) (slice_val (b, o) (length ys) ∷ [])) ⊛ ‵ (LentAgain R κ (ν ∷ []) q γ b o δ ys)))) (lends_again R κ (ν ∷ []) q γ b o 𝓛 ℓ ℓ' ys) $
      await t z $ pick t (λ δ. split t $ rewrite t 0 (λ (m : ℕ). ‵ ((MutSlice ℓ' (ν ∷ []) R).own_val (at_list R κ (ν ∷ []) q γ b o δ ys) (slice_val (b, o) m ∷ []))) l refl $ move t (0 ∷ 2 ∷ []) $ k ν δ))

  pub comes_home : K → Soaks G → (ℓ ℓ' : Lifetime) (R : RattleType) {κ : Lft} {q : Share} (γ : GName) (b o : ℕ) (ys : List R.Denot) (n : ℕ) → length ys ≡ n → Room R n → (ν : ℕ) (δ : GName) (zs : List R.Denot) → length zs ≡ length ys
      → Step K 𝓛 (‵ ((MutSlice ℓ κ R).own_val (record { ref_ptr = (b, o); ghost_name = γ; now = zs }) (slice_val (b, o) n ∷ [])) ∷ ‵ (flft κ q) ∷ Γ) G
      (‵ (flft (ν ∷ []) full_share) ∷ ‵ (LentAgain R κ (ν ∷ []) q γ b o δ ys) ∷ ‵ (finally R δ zs) ∷ Γ) G
  comes_home t z ℓ ℓ' R {κ} {q} γ b o ys n l room ν δ zs e = step (λ s. lft_end t z $
      use3 𝓛 (later (‵ ((MutSlice ℓ κ R).own_val (record { ref_ptr = (b, o); ghost_name = γ; now = zs }) (slice_val (b, o) (length ys) ∷ [])) ⊛ ‵ (flft κ q))) (comes_back R κ (ν ∷ []) q γ b o 𝓛 ℓ ℓ' ys δ zs (subst (Room R) (sym l) room) e) $
      await t z $ split t $ rewrite t 0 (λ (m : ℕ). ‵ ((MutSlice ℓ κ R).own_val (record { ref_ptr = (b, o); ghost_name = γ; now = zs }) (slice_val (b, o) m ∷ []))) l refl $ s)

  -- a `&mut [R]` is given up for its last list
  pub gives_up : K → (ℓ : Lifetime) (κ : Lft) (R : RattleType) (x : MutBor (List R.Denot)) (vs : List Val)
      → Step K 𝓛 (‵ (finally R x.ghost_name x.now) ∷ Γ) G (‵ ((MutSlice ℓ κ R).own_val x vs) ∷ Γ) G
  gives_up t ℓ κ R x vs =
      step (λ s. fsplit t $ drop t $ fsplit t $ use1 𝓛 (‵ (fres x.ghost_name ((coded_holeys R).code (heres R x.now)))) (𝓛.names.obs-res x.ghost_name ((coded_holeys R).code (heres R x.now))) $
      use1 𝓛 (‵ (finally R x.ghost_name x.now)) (res-finally 𝓛 ℓ κ R x.ghost_name x.now) $ move t (1 ∷ []) $ drop t $ s)

  -- a callee's `post`: [tokens; the result; the last values; what is ensured]
  pub after_call : K → Soaks G → (E : Ended) (c : Clauses 𝓤 E) (y : (triple_of 𝓛 E.signature (closing 𝓛 E c)).Ghost) (v : Val)
      → ((r : Res E.signature y.0.0) (ws : Lasts E y.0.0 y.0.3)
      → Seq K 𝓛 (raw (alive 𝓛 E.signature y.0.0 y.0.1) ∷ ‵ ((type_at E.signature.result y.0.0).own_val r (v ∷ [])) ∷ ‵ (lasts E y.0.0 y.0.3 ws)
      ∷ raw ((c y.0.0 y.0.3).ensures y.1 r (at_exit E y.0.0 y.0.3 ws)) ∷ Γ) G)
      → Seq K 𝓛 (raw ((triple_of 𝓛 E.signature (closing 𝓛 E c)).post y v) ∷ Γ) G
  after_call t z E c y v k =
      use1 𝓛 (later (some (λ (r : Res E.signature y.0.0). (raw (alive 𝓛 E.signature y.0.0 y.0.1) ⊛ ‵ ((type_at E.signature.result y.0.0).own_val r (v ∷ [])))
      ⊛ some (λ (ws : Lasts E y.0.0 y.0.3). ‵ (lasts E y.0.0 y.0.3 ws) ⊛ raw ((c y.0.0 y.0.3).ensures y.1 r (at_exit E y.0.0 y.0.3 ws)))))) (id⊢ 𝓤 _) $
      await t z $ pick t (λ r. split t $ move t (1 ∷ []) $ pick t (λ ws. split t $ move t (2 ∷ []) $ split t $ k r ws))

  -- with the fact φ that is ensured: [tokens; the result; the last values]
  pub after_lent_call : K → Soaks G → (E : Ended) (c : Clauses 𝓤 E) (y : (triple_of 𝓛 E.signature (closing 𝓛 E c)).Ghost) (v : Val) (φ : Res E.signature y.0.0 → Lasts E y.0.0 y.0.3 → Type 0)
      → ((r : Res E.signature y.0.0) (ws : Lasts E y.0.0 y.0.3) → ent 𝓤 ((c y.0.0 y.0.3).ensures y.1 r (at_exit E y.0.0 y.0.3 ws)) (fact 𝓤 (φ r ws)))
      → ((r : Res E.signature y.0.0) (ws : Lasts E y.0.0 y.0.3) → φ r ws
      → Seq K 𝓛 (raw (alive 𝓛 E.signature y.0.0 y.0.1) ∷ ‵ ((type_at E.signature.result y.0.0).own_val r (v ∷ [])) ∷ ‵ (lasts E y.0.0 y.0.3 ws) ∷ Γ) G)
      → Seq K 𝓛 (raw ((triple_of 𝓛 E.signature (closing 𝓛 E c)).post y v) ∷ Γ) G
  after_lent_call t z E c y v φ is k =
      after_call t z E c y v (λ r ws. move t (3 ∷ []) $ use1 𝓛 (raw (fact 𝓤 (φ r ws))) (is r ws) $ heard t (φ r ws) (k r ws))

  -- of a callee that is lent nothing: the result, and the fact φ that is ensured of it
  pub after_plain_call : K → Soaks G → (E : Ended) (c : Clauses 𝓤 E) (y : (triple_of 𝓛 E.signature (closing 𝓛 E c)).Ghost) (v : Val) (φ : Res E.signature y.0.0 → Type 0)
      → ((r : Res E.signature y.0.0) (ws : Lasts E y.0.0 y.0.3) → ent 𝓤 ((c y.0.0 y.0.3).ensures y.1 r (at_exit E y.0.0 y.0.3 ws)) (fact 𝓤 (φ r)))
      → ((r : Res E.signature y.0.0) → φ r → Seq K 𝓛 (‵ ((type_at E.signature.result y.0.0).own_val r (v ∷ [])) ∷ Γ) G)
      → Seq K 𝓛 (raw ((triple_of 𝓛 E.signature (closing 𝓛 E c)).post y v) ∷ Γ) G
  after_plain_call t z E c y v φ is k =
      after_lent_call t z E c y v (λ r ws. φ r) is (λ r ws x. drop t $ move t (1 ∷ []) $ drop t $ k r x)

dies_out : {M : Type 1} {𝓤 : Ura M} (𝓛 : Logic 𝓤) (Γ : List (Item 𝓤)) (n : ℕ) {τ : Ty} {b : ℕ} → nth 𝓛 n (del 𝓛 n Γ) ≡ ‵ (fdies τ b) → ent 𝓤 (⋆ 𝓛 (del 𝓛 n Γ)) (⋆ 𝓛 (‵ (fdies τ b) ∷ del 𝓛 n (del 𝓛 n Γ)))
dies_out {𝓤 = 𝓤} 𝓛 Γ n {τ} {b} d =
    via 𝓤 (sep 𝓤 (𝓛.H.dies τ b) (⋆ 𝓛 (del 𝓛 n (del 𝓛 n Γ))))
    (subst (λ (j : Item 𝓤). ent 𝓤 (⋆ 𝓛 (del 𝓛 n Γ)) (sep 𝓤 (mean 𝓛 j) (⋆ 𝓛 (del 𝓛 n (del 𝓛 n Γ))))) d (pull 𝓛 n (del 𝓛 n Γ)))
    (push 𝓛 (‵ (fdies τ b)) (del 𝓛 n (del 𝓛 n Γ)))

module _ {M : Type 1} {𝓤 : Ura M} {𝓛 : Logic 𝓤} {K : Type 0} {Γ : List (Item 𝓤)} where
  -- a local is freed: entry n is its cell and the next its `dies`. Where it was never written, `frees_room`
  open 𝓛 use {H}

  pub frees_local : K → (n : ℕ) {τ : Ty} {b : ℕ} {v : Val} {E : Env 𝓤 H} {g : Goal 𝓤 H} → nth 𝓛 n Γ ≡ ‵ (fat full_share τ b zero v) → nth 𝓛 n (del 𝓛 n Γ) ≡ ‵ (fdies τ b)
      → Step K 𝓛 (del 𝓛 n (del 𝓛 n Γ)) (frees E g) Γ (frees ((τ, b) ∷ E) g)
  frees_local t n {τ} {b} {v} {E} {g} e d = step (λ s. record {
    prf = via 𝓤 (sep 𝓤 (H.at full_share τ b zero v) (⋆ 𝓛 (del 𝓛 n Γ)))
        (subst (λ (j : Item 𝓤). ent 𝓤 (⋆ 𝓛 Γ) (sep 𝓤 (mean 𝓛 j) (⋆ 𝓛 (del 𝓛 n Γ)))) e (pull 𝓛 n Γ))
        (via 𝓤 (sep 𝓤 (H.room τ b zero) (⋆ 𝓛 (del 𝓛 n Γ))) (mono_l 𝓤 (⋆ 𝓛 (del 𝓛 n Γ)) (𝓛.laws.at_room τ b zero v))
        (via 𝓤 (⋆ 𝓛 (‵ (froom τ b zero) ∷ ‵ (fdies τ b) ∷ del 𝓛 n (del 𝓛 n Γ))) (mono_r 𝓤 (H.room τ b zero) (dies_out 𝓛 Γ n d)) (free1 t {E = E} {g = g} $ s).prf));
  })

  pub frees_room : K → (n : ℕ) {τ : Ty} {b : ℕ} {E : Env 𝓤 H} {g : Goal 𝓤 H} → nth 𝓛 n Γ ≡ ‵ (froom τ b zero) → nth 𝓛 n (del 𝓛 n Γ) ≡ ‵ (fdies τ b)
      → Step K 𝓛 (del 𝓛 n (del 𝓛 n Γ)) (frees E g) Γ (frees ((τ, b) ∷ E) g)
  frees_room t n {τ} {b} {E} {g} e d = step (λ s. record {
    prf = via 𝓤 (sep 𝓤 (H.room τ b zero) (⋆ 𝓛 (del 𝓛 n Γ)))
        (subst (λ (j : Item 𝓤). ent 𝓤 (⋆ 𝓛 Γ) (sep 𝓤 (mean 𝓛 j) (⋆ 𝓛 (del 𝓛 n Γ)))) e (pull 𝓛 n Γ))
        (via 𝓤 (⋆ 𝓛 (‵ (froom τ b zero) ∷ ‵ (fdies τ b) ∷ del 𝓛 n (del 𝓛 n Γ))) (mono_r 𝓤 (H.room τ b zero) (dies_out 𝓛 Γ n d)) (free1 t {E = E} {g = g} $ s).prf);
  })

  -- `if c { .. return; }`: the arm that returns ends in `returns_within`, and the code after it runs knowing that c failed
  pub guards : K → {C : Calls 𝓤 H} {Λ : Loops 𝓤 H} {E : Env 𝓤 H} {q : Post 𝓤 H} {c : Operand} {a rest : Syntax.Body} {y : Bool} → Opd K 𝓛 Γ E c (vbool y)
      → (Holds y → Seq K 𝓛 Γ (runs C Λ E a (any_q (after_seq 𝓤 H (Wp 𝓤 H C Λ E rest (post 𝓤 H q)) (post 𝓤 H q))))) → (Holds (not y) → Seq K 𝓛 Γ (runs C Λ E rest q))
      → Seq K 𝓛 Γ (runs C Λ E (seq (cond c a skip) rest) q)
  guards t o held failed = first t $ branches t o held (λ f. skips t $ record { prf = (failed f).prf })

  -- the test of a `while` at the head of a turn: the turn goes on, or the loop is left
  pub goes_on : K → {C : Calls 𝓤 H} {Λ : Loops 𝓤 H} {E : Env 𝓤 H} {q : Post 𝓤 H} {c : Operand} {rest : Syntax.Body} {y : Bool} → Opd K 𝓛 Γ E c (vbool y)
      → (Holds y → Seq K 𝓛 Γ (runs C Λ E rest q)) → (Holds (not y) → Seq K 𝓛 Γ (prop (post 𝓤 H q (exits 1))))
      → Seq K 𝓛 Γ (runs C Λ E (seq (cond c skip (exit 1)) rest) q)
  goes_on t o held left = first t $ branches t o (λ h. skips t $ record { prf = (held h).prf }) (λ f. jumps t $ record { prf = (left f).prf })

-- ---- a loop that counts up to n, and the types of a function's locals
abbrev pub Upto : ℕ → Type 0
Upto n = (i : ℕ) × (i ≤ n)

abbrev pub Nearer : (n : ℕ) → Upto n → Upto n → Type 0
Nearer n j i = n - j.0 < n - i.0

pub nearer_wf : (n : ℕ) → WellFounded (Nearer n)
nearer_wf n = InvImage.wf (λ (i : Upto n). n - i.0) lt-wf_rel.wf

-- in a turn whose test held: i is below n and a usize, the next turn, and that it is nearer
pub is_below : (n : ℕ) (i : Upto n) → Holds (ltb i.0 n) → i.0 < n
is_below n i less = ltb→lt i.0 n less

pub turn_fits : (n : ℕ) → n < 2 ^ 64 → (i : Upto n) → i.0 < 2 ^ 64
turn_fits n fits i = lt_of_le_of_lt i.1 fits

abbrev pub next_turn : (n : ℕ) (i : Upto n) → Holds (ltb i.0 n) → Upto n
next_turn n i less = (i.0 + 1, add-one-le (is_below n i less))

pub is_nearer : (n : ℕ) (i : Upto n) (less : Holds (ltb i.0 n)) → Nearer n (next_turn n i less) i
is_nearer n i less = add-one-dec n i.0 (is_below n i less)

abbrev pub local_ty : List Local → ℕ → Ty
local_ty [] i = ty_unit
local_ty (local τ h ∷ ls) zero = τ
local_ty (local τ h ∷ ls) (suc i) = local_ty ls i

-- ---- what is handed to a callee and what is kept at exit. Each plain argument is put in front of those after it: begin at the
-- last with `nothing !`
module _ {M : Type 1} {𝓤 : Ura M} {𝓛 : Logic 𝓤} {K : Type 0} {Γ : List (Item 𝓤)} {G : Goal 𝓤 𝓛.H} where
  -- a `&[R]` is there once more
  pub shares_on : K → (ℓ : Lifetime) (κ : Lft) (R : RattleType) → RowLaws R → (x : Bor (List R.Denot)) (vs : List Val)
      → Step K 𝓛 (‵ ((ShrSlice ℓ κ R).own_val x vs) ∷ ‵ ((ShrSlice ℓ κ R).own_val x vs) ∷ Γ) G (‵ ((ShrSlice ℓ κ R).own_val x vs) ∷ Γ) G
  shares_on t ℓ κ R laws x vs = step (λ s. use1 𝓛 (‵ ((ShrSlice ℓ κ R).own_val x vs) ⊛ ‵ ((ShrSlice ℓ κ R).own_val x vs)) ((shr_slice_copy 𝓛 ℓ κ R laws).twice x vs) $ split t $ s)

  pub with_u32 : K → {P : Fml} (n : ℕ) → n < 2 ^ 32 → Step K 𝓛 (‵ (fsep (u32.own_val n (vint w32 n ∷ [])) P) ∷ Γ) G (‵ P ∷ Γ) G
  with_u32 t n fits = step (λ s. owned t u32 (Is u32) (uint_Makes 𝓛 w32) n (vint w32 n ∷ []) (refl, fits) $ fjoin t $ s)

  pub with_usize : K → {P : Fml} (n : ℕ) → n < 2 ^ 64 → Step K 𝓛 (‵ (fsep (usize.own_val n (vint w64 n ∷ [])) P) ∷ Γ) G (‵ P ∷ Γ) G
  with_usize t n fits = step (λ s. owned t usize (Is usize) (uint_Makes 𝓛 w64) n (vint w64 n ∷ []) (refl, fits) $ fjoin t $ s)

  pub with_struct : K → {P : Fml} (T : Declared) (L : LL.Laws T) → Plains (fields T) → (h : T.D) → Is (row T) h (LL.vals T L h)
      → Step K 𝓛 (‵ (fsep ((row T).own_val h (LL.vals T L h)) P) ∷ Γ) G (‵ P ∷ Γ) G
  with_struct t T L pl h is = step (λ s. owned t (row T) (Is (row T)) (LL.makes T pl 𝓛) h (LL.vals T L h) is $ fjoin t $ s)

  -- a `&mut R` and a `&mut [R]` that are kept, from the obs and the borrow at their last values
  pub keeps_ref : K → (ℓ : Lifetime) {κ : Lft} (R : RattleType) (x : MutBor R.Denot)
      → Step K 𝓛 (‵ ((MutRef ℓ κ R).own_val x (vptr x.ref_ptr.0 x.ref_ptr.1 ∷ [])) ∷ Γ) G (‵ (fobs x.ghost_name (R.coded.code x.now)) ∷ ‵ (fbor κ (Body (mem R) x.ref_ptr.0 x.ref_ptr.1 x.ghost_name)) ∷ Γ) G
  keeps_ref t ℓ R x = step (λ s. feq_i t (List Val) (vptr x.ref_ptr.0 x.ref_ptr.1 ∷ []) (vptr x.ref_ptr.0 x.ref_ptr.1 ∷ []) refl $ fjoin3 t $ s)

  pub keeps_slice : K → (ℓ : Lifetime) {κ : Lft} (R : RattleType) (x : MutBor (List R.Denot)) (n : ℕ) → Room R n → length x.now ≡ n
      → Step K 𝓛 (‵ ((MutSlice ℓ κ R).own_val x (slice_val x.ref_ptr n ∷ [])) ∷ Γ) G
      (‵ (fobs x.ghost_name ((coded_holeys R).code (heres R x.now))) ∷ ‵ (fbor κ (Held R (length x.now) x.ref_ptr.0 x.ref_ptr.1 x.ghost_name)) ∷ Γ) G
  keeps_slice t ℓ R x n room l = step (λ s. fjoin t $ pure_i t (mut_slice_at R x (slice_val x.ref_ptr n ∷ [])) (tt, (tt, tt)) (ap (λ (m : ℕ). slice_val x.ref_ptr m ∷ []) (sym l), subst (Room R) (sym l) room) $ fjoin t $ s)

-- ---- a callee's result, before `land`: its machine value is written out
module _ {M : Type 1} {𝓤 : Ura M} {𝓛 : Logic 𝓤} {K : Type 0} {Γ : List (Item 𝓤)} {C : Calls 𝓤 𝓛.H} {Λ : Loops 𝓤 𝓛.H} {E : Env 𝓤 𝓛.H} {d : Place} {rest : Syntax.Body} {q : Post 𝓤 𝓛.H} where
  result_is : K → {w v : Val} → w ≡ v → Seq K 𝓛 Γ (lands C Λ E d v rest q) → Seq K 𝓛 Γ (lands C Λ E d w rest q)
  result_is t e s = subst (λ (u : Val). Seq K 𝓛 Γ (lands C Λ E d u rest q)) (sym e) s

  pub result_u32 : K → (n : ℕ) (w : Val) → (n < 2 ^ 32 → Seq K 𝓛 Γ (lands C Λ E d (vint w32 n) rest q)) → Seq K 𝓛 (‵ (u32.own_val n (w ∷ [])) ∷ Γ) (lands C Λ E d w rest q)
  result_u32 t n w k = facts t u32 (Is u32) (shows 𝓛 u32) n (w ∷ []) (λ is. result_is t (ap only (uint_Tells w32 n (w ∷ []) is)) (k is.1))

  pub result_unit : K → (w : Val) → Step K 𝓛 Γ (lands C Λ E d vunit rest q) (‵ (unit.own_val tt (w ∷ [])) ∷ Γ) (lands C Λ E d w rest q)
  result_unit t w = step (λ s. feq_l t (λ e. result_is t (ap only e) s))

  pub result_struct : K → (T : Declared) (L : LL.Laws T) (h : T.D) (w : Val) → (Is (row T) h (LL.vals T L h) → Seq K 𝓛 Γ (lands C Λ E d (LL.val T L h) rest q))
      → Seq K 𝓛 (‵ ((row T).own_val h (w ∷ [])) ∷ Γ) (lands C Λ E d w rest q)
  result_struct t T L h w k = facts t (row T) (Is (row T)) (shows 𝓛 (row T)) h (w ∷ []) (λ is.
      result_is t (ap only (LL.tells T L h (w ∷ []) is)) (k (subst (Is (row T) h) (LL.tells T L h (w ∷ []) is) is)))

-- what the test `n != 0` tells in each arm
pub some_number : (n : ℕ) → Holds (not (eqb n 0)) → n ≡ 0 → ⊥
some_number n h e = T_not (eqb n 0) h (subst (λ (k : ℕ). Holds (eqb n k)) e (eqb_refl n))

pub no_number : (n : ℕ) → Holds (not (not (eqb n 0))) → n ≡ 0
no_number n h = go (eqb n 0) (λ t. eqb→eq n 0 t) h
  where
    go : (t : Bool) → (Holds t → n ≡ 0) → Holds (not (not t)) → n ≡ 0
    go true k x = k tt
    go false k x = absurd x

-- a u32 is a usize
pub widens : (n : ℕ) → n < 2 ^ 32 → Fits w64 n
widens n h = record { fits = lt_trans h (lit< tt) }
