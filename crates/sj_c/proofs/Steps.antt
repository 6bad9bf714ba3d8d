-- The names that walks cite.
pub use Rattle.std.proofs.Common.{◌≡◌, List, [], ◌∷◌, ◌++◌, refl, sym, ap, ◌∙◌, lit<}
pub use Rattle.std.specs.Prelude.{Option, Some, None, ◌≢◌}
pub use mir.Syntax.{Args, a_type, dcons, dnil, ty_ptr}
pub use mir.Val.{Val, vstruct, of_list}
pub use mir.MapTy.{inst_fn}
pub use base.Logic.{id⊢}
pub use base.Fml.{ftrue, flft}
pub use prog.Wp.{WpFn}
pub use types.Kit.{‵, raw, prop, at_ret, ◌⊛◌, some, later, ◌$◌, ◌∵◌, !, qed, done, move, keep, drop, use1, split, split3, join, fsplit, fjoin, fpick, fpack, feq_l, feq_i, pick, await, rewrite, regoal, suffices}
pub use types.Run.{stop, fld, of_opd, lit, no_more, and_then, first, blocks, exec, returns, enter}
pub use types.ByLocal.{alloc_all, pass_all, free_all, look_at, get, get_in, sets, lands_as, lands_last, env}
pub use types.Part.{agg, sub, whole}
pub use contract.Monad.{fact}
pub use contract.BorrowLft.{◌⊑◌}
pub use contract.Running.{tables}
pub use denote.Exit.{yes, no}
pub use denote.RattleType.{RattleType, Valss}
pub use denote.Builtin.{RawPtr}
pub use denote.RawPtr.{null_ptr, ptr_val}
pub use denote.Laws.{shows}
pub use denote.Signature.{plain}
pub use denote.Param.{param, layout, bounded}
pub use denote.Param.Laws.{param_laws}
pub use denote.Steps.{nothing, heard, peeks}
pub use denote.Struct.Struct.{within}
pub use denote.Struct.Owning.{shape, to}
pub use denote.Struct.Tuple.{Tuple}
pub use denote.Triple.Call.{calls_at, calls_at_last}
pub use denote.Triple.Clauses.{Lasts, lasts}
pub use denote.Triple.Spec.{triple_of}
pub use denote.Triple.Table.{framed}
pub use denote.Triple.Walked.{Stays, walk_of, stay_dropped, Goes-dropped, ends_at, says}
pub use Rattle.std.proofs.alloc.Calls.{Goes-blank, handle_tells}
pub use Rattle.std.proofs.VecSteps.Shapes.{after}
pub use Rattle.std.proofs.raw_atomic.Walks.{proved_at}
pub use Rattle.std.proofs.cell.Inside.{Good, one}
pub use Rattle.std.specs.contracts.alloc.Global.{the_row as heap_row}
pub use Rattle.std.specs.contracts.impls.GlobalAllocator.TheImpl.{ghosts}
pub use Rattle.std.proofs.alloc.Global.TheLaws.{the_row_laws as heap_laws}
pub use Rattle.sj_c.proofs.Two.{both, both_good, Two, two, ptr_good}
