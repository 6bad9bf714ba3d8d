-- The names that walks of loans cite.
pub use base.Logic.{id⊢, emp, apply∗, ent, sep}
pub use base.Fml.{Share, ftrue, fsep, feq, flft, fdead, Fml, GName, Incl-trans}
pub use mir.Syntax.{Fn, Args, Dict, a_type, dcons, dnil, tcons, tnil, impl, named, w64}
pub use mir.MapTy.{inst_fn}
pub use mir.Val.{Val, vunit, of_list, vptr, vint}
pub use prog.Wp.{WpFn, spot_of, Env}
pub use native.Mathlib.Nat.{suc-ne-zero}
pub use lib.Dec.{lit<}
pub use contract.Monad.{fact, fact_i}
pub use contract.BorrowLft.{◌⊑◌, ⊑_refl, ⊑_static, meet_⊑_right}
pub use contract.Running.{Running, tables}
pub use seplogic.Ra.Ura.{Ura}
pub use types.Logic.{Logic, sem}
pub use prog.Model.{Model}
pub use types.Kit.{‵, raw, prop, ◌⊛◌, some, later, given, ◌$◌, ◌∵◌, !, qed, move, keep, drop, use0, use1, use2, use3, split, join, fsplit, fjoin, feq_l, learn, pick, await, rewrite, regoal, suffices, frame, at_ret, done, Item, Sq}
pub use types.Run.{enter, addr, lit, of_opd, fld, stop, first, exec, returns, no_more, and_then, bin, blocks, jumps, returns_within, loops, again}
pub use types.Part.{whole, agg}
pub use types.Match.{live, vrt, in_variant, by_variants}
pub use types.ByLocal.{alloc_all, pass_all, free_all, look_at, get, get_in, get_tag, through, sets, lands_as, lands_last, env, sets_last, holding, forget_but}
pub use denote.Exit.{yes, no}
pub use denote.Param.{bounded, param, layout, arg}
pub use denote.RattleType.{RattleType}
pub use denote.Ref.{NamedLft, MutRef, ShrRef, mut_vals, mut_Tells, shr_vals, shr_Tells, mut_Lawful, shr_copy, Bor, as_bor}
pub use denote.Signature.{plain, mut_ref_to, shr_ref_to, named_lft}
pub use denote.Steps.{nothing, heard, peeks, only, owned}
pub use denote.Laws.{shows}
pub use denote.Builtin.{usize, u64}
pub use denote.Plain.{uint_Lawful, uint_vals, uint_Tells, uint_Makes}
pub use denote.Triple.Call.{calls_at, calls_at_last}
pub use denote.Triple.Clauses.{lasts, Ended, Clauses}
pub use denote.Triple.Spec.{triple_of}
pub use denote.Triple.Table.{framed}
pub use denote.Triple.Walked.{Stays, walk_of, stay_dropped, Goes-dropped, Goes-spent_ref, ends_at, says}
pub use denote.Follow.{follows_so, follows_if}
pub use denote.Slice.{shr_slice_vals}
pub use denote.Text.{StrRefOf, Str, str-laws, str-copy}
pub use Rattle.std.proofs.raw_atomic.Walks.{proved_at, proved}
pub use Rattle.std.proofs.ResultValues.{err_of, ok_of}
pub use Rattle.std.proofs.VecSteps.Shapes.{after}
pub use Rattle.std.proofs.Handle.{heap_val, heap_Tells}
