-- What stands in a local is lent, and comes home. What a walk does with it, in this order:
--   1. On the local's cell `lends_struct`, for a `&mut T`, or `lends_array`, for a `&mut [T]` of the first n elements of an array of structs:
--      [the loan; its token; what the lender keeps]. The loan and its token go to the callee, with the callee's other arguments.
--   2. After the call, `struct_home` or `array_home` on [the loan's last value; its token; what the lender kept]: the local's cell again.
-- The first n elements as a `&[T]`: `cuts_array` on the cell, [the first n; the others]; `shares_first` on the first n, [the slice; the
-- lender's part; its token]; after the call `ends_share` on [the token; the lender's part], and `joins_array` with the others.
-- Assumes `Logic`.
use mathlib.Core.Path.{◌≡◌, refl, sym, ◌∙◌, subst}
use Prim.Native.Nat.{ℕ, ◌≤◌}
use mathlib.Core.List.{List, [], ◌∷◌, ◌++◌, map}
use native.Mathlib.Omega.{arith}
use lib.ListN.{length, length-map, take, drop as leave, take-append-drop}
use seplogic.Ra.Ura.{Ura}
use base.Fraction.{full_share}
use mir.Syntax.{Lifetime, Ty, ty_array}
use mir.Val.{Val, vptr}
use base.Fml.{Lft, GName, Fml, fsep, flft, fres, flent, fat}
use base.Logic.{id⊢}
use types.Logic.{Logic}
use types.Kit.{Goal, Soaks, Item, ‵, raw, ◌⊛◌, some, later, Seq, Step, step, ◌$◌, move, use1, use2, use3, drop, split, pick, rewrite, fsplit, fjoin, fpick, fpack, feq_l, feq_i, await}
use types.Tokens.{lft_new, lft_end, lent_back}
use types.SemTy.{Body, cells, Arr}
use types.Share.{arr_parts}
use denote.RattleType.{RattleType}
use denote.Laws.{Is, Tells, Makes, shows}
use denote.Memory.{raw_all, cell_at, lone, part_at, part_of, mem, shares, shared_of}
use denote.Array.{Array, each, array_val, Array-Tells, Array-Makes}
use denote.ArrayMemory.{Array-apart, Array-whole}
use denote.Index.{whole_out, whole_in}
use denote.Index as index
use denote.Ref.{MutRef}
use denote.Slice.{slice_val, MutSlice, ShrSlice, Room, finally}
use denote.Lend.{Held, lends_ref, ref_back, lends_slice, LentShrs, lends_shr_slice, slice_back}
use denote.Shares.{SharesAsFrom}
use denote.Steps.{facts, owned}
use denote.Shadow.{shadow}
use denote.Struct.Declared.{Declared, row, field, fields}
use denote.Struct.Struct.{Plains}
use denote.Struct.Laws as LL
use borrow.Table.Elements.{at, same_len, cut_app, join_app}
use lib.Seq.{length-take-le}
use borrow.Rule.Array.Share.{Room-take}

-- the machine value of an array of structs
abbrev pub array-val : (T : Declared) (L : LL.Laws T) → List T.D → Val
array-val T L xs = array_val (map (λ x. LL.val T L x) xs)

abbrev pub IsArray : (T : Declared) (L : LL.Laws T) → ℕ → List T.D → Type 0
IsArray T L n xs = Is (Array (row T) n) xs (array-val T L xs ∷ [])

-- an array of structs that is a field of another struct: there its elements stand as tuples
each_in_field : (T : Declared) (xs : List T.D) (us : List Val) → shadow (each T.D (row T).own_val xs us) → shadow (each (field T).row.Denot (field T).row.own_val (map (field T).into xs) us)
each_in_field T [] [] s = tt
each_in_field T [] (u ∷ us) s = absurd s
each_in_field T (x ∷ xs) [] s = absurd s
each_in_field T (x ∷ xs) (u ∷ us) s = (s.0, each_in_field T xs us s.1)

pub in_field : (T : Declared) (n : ℕ) (xs : List T.D) (vs : List Val) → Is (Array (row T) n) xs vs → Is (Array (field T).row n) (map (field T).into xs) vs
in_field T n xs vs is = (is.0, ((is.1.0.0, length-map xs (field T).into ∙ is.1.0.1), each_in_field T xs is.0 is.1.1))

-- what the lender of an array's first n elements keeps: its part of the loan, and the other elements
abbrev pub LentFirst : (T : Declared) (n b : ℕ) (xs : List T.D) (α : ℕ) → GName → Fml
LentFirst T n b xs α γ = fsep (flent (α ∷ []) (Held (row T) (length (take n xs)) b 0 γ)) (cells (mem (row T)) (leave n xs) b (at 0 (mem (row T)).size (length (take n xs))))

module _ {M : Type 1} {𝓤 : Ura M} {𝓛 : Logic 𝓤} {K : Type 0} {Γ : List (Item 𝓤)} {G : Goal 𝓤 𝓛.H} where
  -- a local's cell, of the MIR type τ, as what lies in memory, and back
  lies_in : K → (R : RattleType) → Makes 𝓛 R (Is R) → (τ : Ty) (b : ℕ) (x : R.Denot) (v : Val) → Is R x (v ∷ [])
      → Step K 𝓛 (‵ (part_of (raw_all (τ ∷ [])) R.own_val full_share x b 0) ∷ Γ) G (‵ (fat full_share τ b 0 v) ∷ Γ) G
  unfolding part_of
  lies_in t R makes τ b x v is = step (λ s.
      use1 𝓛 (‵ (cell_at full_share (τ ∷ []) (v ∷ []) b 0)) (𝓛.laws.at_raw full_share τ b 0 v) $ owned t R (Is R) makes x (v ∷ []) is $ move t (1 ∷ 0 ∷ []) $ fjoin t $
      fpack t (List Val) (λ vs. fsep (cell_at full_share (τ ∷ []) vs b 0) (R.own_val x vs)) (v ∷ []) $ s)

  lies_out : K → (R : RattleType) (val : R.Denot → Val) → Tells R (Is R) (λ y. val y ∷ []) → (τ : Ty) (b : ℕ) (x : R.Denot)
      → (Is R x (val x ∷ []) → Seq K 𝓛 (‵ (fat full_share τ b 0 (val x)) ∷ Γ) G) → Seq K 𝓛 (‵ (part_of (raw_all (τ ∷ [])) R.own_val full_share x b 0) ∷ Γ) G
  unfolding part_of
  lies_out t R val tells τ b x k = fpick t (λ vs. fsplit t $ move t (1 ∷ []) $ facts t R (Is R) (shows 𝓛 R) x vs (λ is.
      rewrite t 0 (λ (us : List Val). ‵ (cell_at full_share (τ ∷ []) us b 0)) (tells x vs is) refl $
      use1 𝓛 (‵ (fat full_share τ b 0 (val x))) (𝓛.laws.raw_at full_share τ b 0 (val x)) $ k (subst (Is R x) (tells x vs is) is)))

module _ {M : Type 1} {𝓤 : Ura M} {𝓛 : Logic 𝓤} {K : Type 0} {Γ : List (Item 𝓤)} {G : Goal 𝓤 𝓛.H} where
  -- a struct in a local is lent for a lifetime that begins here, and comes home
  pub lends_struct : K → Soaks G → (ℓ : Lifetime) (T : Declared) (L : LL.Laws T) → Plains (fields T) → (b : ℕ) (h : T.D) → Is (row T) h (LL.vals T L h)
      → ((α : ℕ) (γ : GName) → Seq K 𝓛 (‵ ((MutRef ℓ (α ∷ []) (row T)).own_val (record { ref_ptr = (b, 0); ghost_name = γ; now = h }) (vptr b 0 ∷ [])) ∷ ‵ (flft (α ∷ []) full_share) ∷ ‵ (flent (α ∷ []) (Body (mem (row T)) b 0 γ)) ∷ Γ) G)
      → Seq K 𝓛 (‵ (fat full_share (lone (row T).mir) b 0 (LL.val T L h)) ∷ Γ) G
  lends_struct t z ℓ T L pl b h is k =
      lies_in t (row T) (LL.makes T pl 𝓛) (lone (row T).mir) b h (LL.val T L h) is $ lft_new t z (λ α. move t (1 ∷ []) $
      use1 𝓛 (later (some (λ (γ : GName). ‵ ((MutRef ℓ (α ∷ []) (row T)).own_val (record { ref_ptr = (b, 0); ghost_name = γ; now = h }) (vptr b 0 ∷ [])) ⊛ ‵ (flent (α ∷ []) (Body (mem (row T)) b 0 γ)))))
      (lends_ref 𝓛 (row T) ℓ (α ∷ []) h b 0) $ await t z $ pick t (λ γ. split t $ move t (0 ∷ 2 ∷ []) $ k α γ))

  pub struct_home : K → Soaks G → (T : Declared) (L : LL.Laws T) (b : ℕ) {α : ℕ} {γ : GName} (y : T.D)
      → (Is (row T) y (LL.vals T L y) → Seq K 𝓛 (‵ (fat full_share (lone (row T).mir) b 0 (LL.val T L y)) ∷ Γ) G)
      → Seq K 𝓛 (‵ (fres γ ((row T).coded.code y)) ∷ ‵ (flft (α ∷ []) full_share) ∷ ‵ (flent (α ∷ []) (Body (mem (row T)) b 0 γ)) ∷ Γ) G
  struct_home t z T L b {α} {γ} y k = move t (1 ∷ []) $ lft_end t z $ move t (0 ∷ 2 ∷ 1 ∷ []) $
      use3 𝓛 (later (‵ (part_at (row T) full_share y b 0))) (ref_back 𝓛 (row T) (α ∷ []) γ y b 0) $ await t z $ lies_out t (row T) (LL.val T L) (LL.tells T L) (lone (row T).mir) b y k

  -- an array of structs: its first n elements, and the others
  pub cuts_array : K → (T : Declared) (L : LL.Laws T) → Plains (fields T) → (N n b : ℕ) (xs : List T.D) → IsArray T L N xs
      → Step K 𝓛 (‵ (cells (mem (row T)) (take n xs) b 0) ∷ ‵ (cells (mem (row T)) (leave n xs) b (at 0 (mem (row T)).size (length (take n xs)))) ∷ Γ) G
      (‵ (fat full_share (ty_array (lone (row T).mir) N) b 0 (array-val T L xs)) ∷ Γ) G
  cuts_array t T L pl N n b xs is = step (λ s.
      lies_in t (Array (row T) N) (Array-Makes 𝓛 (row T) (LL.makes T pl 𝓛) N) (ty_array (lone (row T).mir) N) b xs (array-val T L xs) is $
      use1 𝓛 (‵ ((arr_parts (shares (row T)) N).part full_share xs b 0)) (Array-apart 𝓛 (row T) full_share tt N xs b 0) $ fsplit t $ drop t $
      use1 𝓛 (‵ (cells (mem (row T)) xs b 0)) (whole_in 𝓛 (row T) xs b 0) $
      rewrite t 0 (λ (zs : List T.D). ‵ (cells (mem (row T)) zs b 0)) (sym (take-append-drop n xs)) refl $
      use1 𝓛 (‵ (cells (mem (row T)) (take n xs) b 0) ⊛ ‵ (cells (mem (row T)) (leave n xs) b (at 0 (mem (row T)).size (length (take n xs)))))
      (cut_app 𝓛 (mem (row T)) (take n xs) (leave n xs) b 0) $ split t $ s)

  pub joins_array : K → (T : Declared) (L : LL.Laws T) → (N b : ℕ) (ys zs : List T.D) → length (ys ++ zs) ≡ N
      → (IsArray T L N (ys ++ zs) → Seq K 𝓛 (‵ (fat full_share (ty_array (lone (row T).mir) N) b 0 (array-val T L (ys ++ zs))) ∷ Γ) G)
      → Seq K 𝓛 (‵ (cells (mem (row T)) ys b 0) ∷ ‵ (cells (mem (row T)) zs b (at 0 (mem (row T)).size (length ys))) ∷ Γ) G
  joins_array t T L N b ys zs l k =
      use2 𝓛 (‵ (cells (mem (row T)) (ys ++ zs) b 0)) (join_app 𝓛 (mem (row T)) ys zs b 0) $
      use1 𝓛 (‵ (index.row (row T) full_share (ys ++ zs) b 0)) (whole_out 𝓛 (row T) (ys ++ zs) b 0) $ feq_i t ℕ (length (ys ++ zs)) N l $ fjoin t $
      use1 𝓛 (‵ (part_at (Array (row T) N) full_share (ys ++ zs) b 0)) (Array-whole 𝓛 (row T) full_share N (ys ++ zs) b 0) $
      lies_out t (Array (row T) N) (array-val T L) (Array-Tells (row T) (LL.vals T L) (LL.tells T L) N) (ty_array (lone (row T).mir) N) b (ys ++ zs) k

  lends_first : K → Soaks G → (R : RattleType) (ℓ : Lifetime) (n b : ℕ) (ys : List R.Denot) → length ys ≡ n → Room R (length ys)
      → ((α : ℕ) (γ : GName) → Seq K 𝓛 (‵ ((MutSlice ℓ (α ∷ []) R).own_val (record { ref_ptr = (b, 0); ghost_name = γ; now = ys }) (slice_val (b, 0) n ∷ [])) ∷ ‵ (flent (α ∷ []) (Held R (length ys) b 0 γ)) ∷ ‵ (flft (α ∷ []) full_share) ∷ Γ) G)
      → Seq K 𝓛 (‵ (cells (mem R) ys b 0) ∷ Γ) G
  lends_first t z R ℓ n b ys l room k = lft_new t z (λ α. move t (1 ∷ []) $
      use1 𝓛 (later (some (λ (γ : GName). ‵ ((MutSlice ℓ (α ∷ []) R).own_val (record { ref_ptr = (b, 0); ghost_name = γ; now = ys }) (slice_val (b, 0) (length ys) ∷ [])) ⊛ ‵ (flent (α ∷ []) (Held R (length ys) b 0 γ)))))
      (lends_slice 𝓛 R ℓ (α ∷ []) ys b 0 room) $ await t z $ pick t (λ γ. split t $
      rewrite t 0 (λ (m : ℕ). ‵ ((MutSlice ℓ (α ∷ []) R).own_val (record { ref_ptr = (b, 0); ghost_name = γ; now = ys }) (slice_val (b, 0) m ∷ []))) l refl $ k α γ))

  ends_loan : K → Soaks G → (R : RattleType) (n b : ℕ) {α : ℕ} {γ : GName} (ys : List R.Denot)
      → (length ys ≡ n → Seq K 𝓛 (‵ (cells (mem R) ys b 0) ∷ Γ) G)
      → Seq K 𝓛 (‵ (finally R γ ys) ∷ ‵ (flft (α ∷ []) full_share) ∷ ‵ (flent (α ∷ []) (Held R n b 0 γ)) ∷ Γ) G
  ends_loan t z R n b {α} {γ} ys k = move t (1 ∷ []) $ lft_end t z $ move t (0 ∷ 2 ∷ 1 ∷ []) $
      use3 𝓛 (later (‵ ((Arr (mem R) n).own_at ys b 0))) (slice_back 𝓛 R (α ∷ []) γ ys n b 0) $ await t z $ fsplit t $ feq_l t k

  -- the first n as a `&`
  pub shares_first : K → Soaks G → (R : RattleType) → ((l : Lft) → SharesAsFrom 𝓛 full_share R (shared_of R) l) → (ℓ : Lifetime) (n b : ℕ) (ys : List R.Denot) → length ys ≡ n → Room R (length ys)
      → ((α : ℕ) → Seq K 𝓛 (‵ ((ShrSlice ℓ (α ∷ []) R).own_val (record { ref_ptr = (b, 0); now = ys }) (slice_val (b, 0) n ∷ [])) ∷ ‵ (flent (α ∷ []) ((arr_parts (shares R) (length ys)).part full_share ys b 0)) ∷ ‵ (flft (α ∷ []) full_share) ∷ Γ) G)
      → Seq K 𝓛 (‵ (cells (mem R) ys b 0) ∷ Γ) G
  shares_first t z R shares_it ℓ n b ys l room k =
      use1 𝓛 (‵ (index.row R full_share ys b 0)) (whole_out 𝓛 R ys b 0) $ feq_i t ℕ (length ys) (length ys) refl $ fjoin t $ lft_new t z (λ α. move t (1 ∷ 0 ∷ []) $
      use2 𝓛 (later (raw (LentShrs 𝓛 R ℓ (α ∷ []) full_share ys b 0) ⊛ ‵ (flft (α ∷ []) full_share)))
      (lends_shr_slice 𝓛 R ℓ (α ∷ []) full_share ys b 0 room (α ∷ []) (shares_it (α ∷ [])) ((α ∷ [], full_share) ∷ []) (λ a m. m) (λ a m. m)) $ await t z $ split t $
      use1 𝓛 (‵ ((ShrSlice ℓ (α ∷ []) R).own_val (record { ref_ptr = (b, 0); now = ys }) (slice_val (b, 0) (length ys) ∷ [])) ⊛ ‵ (flent (α ∷ []) ((arr_parts (shares R) (length ys)).part full_share ys b 0)))
      (id⊢ 𝓤 (LentShrs 𝓛 R ℓ (α ∷ []) full_share ys b 0)) $ split t $
      rewrite t 0 (λ (m : ℕ). ‵ ((ShrSlice ℓ (α ∷ []) R).own_val (record { ref_ptr = (b, 0); now = ys }) (slice_val (b, 0) m ∷ []))) l refl $ k α)

  pub ends_share : K → Soaks G → (R : RattleType) (b : ℕ) {α : ℕ} (ys : List R.Denot)
      → Step K 𝓛 (‵ (cells (mem R) ys b 0) ∷ Γ) G (‵ (flft (α ∷ []) full_share) ∷ ‵ (flent (α ∷ []) ((arr_parts (shares R) (length ys)).part full_share ys b 0)) ∷ Γ) G
  ends_share t z R b ys = step (λ s. lft_end t z $ lent_back t z $ fsplit t $ drop t $ use1 𝓛 (‵ (cells (mem R) ys b 0)) (whole_in 𝓛 R ys b 0) $ s)

module _ {M : Type 1} {𝓤 : Ura M} {𝓛 : Logic 𝓤} {K : Type 0} {Γ : List (Item 𝓤)} {G : Goal 𝓤 𝓛.H} where
  -- the first n elements of an array of structs in a local are lent for a lifetime that begins here, and come home
  pub lends_array : K → Soaks G → (ℓ : Lifetime) (T : Declared) (L : LL.Laws T) → Plains (fields T) → (N n b : ℕ) (xs : List T.D) → IsArray T L N xs → n ≤ N → Room (row T) N
      → ((α : ℕ) (γ : GName) → Seq K 𝓛 (‵ ((MutSlice ℓ (α ∷ []) (row T)).own_val (record { ref_ptr = (b, 0); ghost_name = γ; now = take n xs }) (slice_val (b, 0) n ∷ [])) ∷ ‵ (flft (α ∷ []) full_share) ∷ ‵ (LentFirst T n b xs α γ) ∷ Γ) G)
      → Seq K 𝓛 (‵ (fat full_share (ty_array (lone (row T).mir) N) b 0 (array-val T L xs)) ∷ Γ) G
  lends_array t z ℓ T L pl N n b xs is within room k =
      cuts_array t T L pl N n b xs is $ lends_first t z (row T) ℓ n b (take n xs) (length-take-le n xs (omega (arith, is.1.0.1, within))) (Room-take (row T) N n xs is.1.0.1 room) (λ α γ.
      -- [the slice; the lender's part; the token; the others]
      move t (1 ∷ 3 ∷ []) $ fjoin t $ move t (1 ∷ 2 ∷ []) $ k α γ)

  pub array_home : K → Soaks G → (T : Declared) (L : LL.Laws T) (N n b : ℕ) (xs : List T.D) → IsArray T L N xs → {α : ℕ} {γ : GName} (ys : List T.D)
      → (IsArray T L N (ys ++ leave n xs) → Seq K 𝓛 (‵ (fat full_share (ty_array (lone (row T).mir) N) b 0 (array-val T L (ys ++ leave n xs))) ∷ Γ) G)
      → Seq K 𝓛 (‵ (finally (row T) γ ys) ∷ ‵ (flft (α ∷ []) full_share) ∷ ‵ (LentFirst T n b xs α γ) ∷ Γ) G
  array_home t z T L N n b xs is ys k =
      move t (2 ∷ []) $ fsplit t $ move t (2 ∷ 3 ∷ 0 ∷ []) $ ends_loan t z (row T) (length (take n xs)) b ys (λ l.
      move t (0 ∷ 1 ∷ []) $ rewrite t 1 (λ (m : ℕ). ‵ (cells (mem (row T)) (leave n xs) b (at 0 (mem (row T)).size m))) (sym l) refl $
      joins_array t T L N b ys (leave n xs) (same_len n xs ys l ∙ is.1.0.1) k)
