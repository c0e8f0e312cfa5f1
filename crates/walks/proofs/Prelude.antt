-- What a walk by hand takes from the logic, in one place: a walk opens this module's names and those of the functions it is about.
pub use mathlib.Core.Path.{◌≡◌, refl, sym, ap, subst}
pub use mathlib.Core.List.{List, [], ◌∷◌}
pub use mathlib.Core.Bool.{not}
pub use Prim.Native.Nat.{zero-le}
pub use lib.Dec.{T as Holds, ltb, lit<, nltb→le}
pub use seplogic.Ra.Ura.{Ura}
pub use base.Fraction.{full_share}
pub use mir.Syntax.{Ty, named, w32, w64, ty_int, ty_ptr}
pub use mir.Val.{Val, vunit, vint, vptr}
pub use base.Logic.{SProp, ent, sep, emp, via, fst∗, id⊢}
pub use base.Fml.{GName, Lft, Share, ftrue, flft, fobs, fbor, fat, froom, fdies}
pub use prog.Memory.{Memory}
pub use prog.Routine.{Routine}
pub use prog.Wp.{Heap, Out, Env, Calls, Loops, Wp, WpFn, Tables, at_return, after_seq, after_block}
unfoldable pub use prog.Wp.{after_turn}
pub use ghost.Atoms.{Atoms}
pub use types.Logic.{sem}
pub use contract.Monad.{Fun}
pub use contract.Running.{tables}
unfoldable pub use contract.Running.{tables_of}
pub use types.Kit.{Item, ‵, raw, ⋆, runs, any_q, at_ret, Sq, ◌⊛◌, ◌$◌, ◌∵◌, !, qed, by, move, keep, drop, use0, use1, use2, use3, split, join, rewrite, fsplit, fsplit3, fjoin, fjoin3, feq_l, feq_i, suffices, frame, done}
pub use types.Run.{look, look_raw, store, store_raw, init, stop, hop, fld, from, load, lit, addr, of_opd, un, bin, and_then, no_more, assigns, assigns_last, unit_lit, first, blocks, exec, Below, again, loops, forget, land, returns, returns_within, enter, alloc1, alloc0, params1, pass1, pass0, free0}
pub use types.Part.{agg, whole, sub, look_in}
pub use types.SemTy.{Body}
pub use sound.WpLaws.{FmC, fm_of, WpFn-mono}
pub use denote.RattleType.{owns}
pub use denote.Laws.{Is, shows}
pub use denote.Memory.{mem}
pub use denote.Shadow.{pure_i}
pub use denote.Plain.{uint_vals, uint_Tells, uint_Makes, uint_Lawful}
pub use denote.Builtin.{u8, u32, u64, usize}
pub use denote.Ref.{Bor, MutBor, MutRef, shr_vals, mut_vals, mut_Tells}
pub use denote.Slice.{slice_val, shr_slice_vals, mut_slice_vals, MutSlice, ShrSlice, shr_slice_Tells, Room, finally, heres, coded_holeys, shr_slice_at, mut_slice_at, mut_slice_Tells}
pub use denote.Lend.{Held}
pub use denote.Index.{place_is}
pub use denote.Signature.{plain, shr_slice_of}
pub use denote.Steps.{owned, facts, heard, nothing, only}
pub use denote.Triple.Entry.{on_entry}
pub use denote.Triple.Spec.{Meets, triple_of}
pub use denote.Triple.Statement.{Contract, Triple}
pub use denote.Triple.Call.{calls_at}
pub use denote.Triple.Table.{entered, cited}
pub use denote.Triple.Walked.{says, needs, Stays, stay_dropped, Goes-dropped, gave_slice, stay_slice, stay_ref, stay_none, walk_of, AllGo, Goes-none, Goes-ref, Goes-slice, Goes-gave_slice, Walks, ends_at, walked, walk_Meets}
pub use denote.Exit.{yes}
pub use borrow.Author.Rules.{scaled_Fits}
