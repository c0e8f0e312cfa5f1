-- What was known of a table of 17 records that the text doors held by value and lent, for walks by hand.
use Prim.Native.Nat.{ℕ, ◌≤◌}
use mathlib.Core.Path.{◌≡◌}
use mathlib.Core.List.{List}
use native.Mathlib.Omega.{arith}
use lib.ListN.{length}
use lib.Dec.{T as Holds, lit<}
use seplogic.Ra.Ura.{Ura}
use mir.Val.{Val, has_ty, WT}
use types.Logic.{Logic}
use denote.RattleType.{RattleType}
use denote.Memory.{lone}
use denote.Array.{Array, Array-Typed}
use denote.Slice.{Room}
use denote.Struct.Laws as LL
use Rattle.walks.proofs.Loans.{array-val, IsArray}
use Rattle.record.specs.declared.Record.{Record}
use Rattle.record.specs.contracts.Record as R
use Rattle.record.proofs.Record.TheLaws as R'

abbrev pub Table : RattleType
Table = Array R.the_row 17

abbrev pub machine : List Record → Val
machine = array-val R.the_type R'.the_laws

abbrev pub IsTable : List Record → Type 0
IsTable = IsArray R.the_type R'.the_laws 17

pub length_is : (rs : List Record) → IsTable rs → length rs ≡ 17
length_is rs is = is.1.0.1

pub fewer : (n : ℕ) (rs : List Record) → IsTable rs → n ≤ 17 → n ≤ length rs
fewer n rs is h = omega (arith, length_is rs is, h)

pub room_17 : Room R.the_row 17
room_17 = (lit< tt, lit< tt)

pub table_typed : {M : Type 1} {𝓤 : Ura M} (𝓛 : Logic 𝓤) (rs : List Record) → IsTable rs → Holds (has_ty (lone Table.mir) (machine rs)) × WT (machine rs)
table_typed 𝓛 rs is = (Array-Typed R.the_row (LL.lawful R.the_type R'.the_laws 𝓛).typed 17 rs _ is).0
