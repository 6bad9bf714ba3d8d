-- What the struct owns may go to another thread: nothing, or a value that may, in a block that any thread may free.
use Rattle.std.specs.Prelude.{Option, Some, None}
use base.Fraction.{full_share}
use base.Shift.{Keyless}
use mir.Raw.{raw}
use denote.Memory.{lone}
use denote.RawPtr.{Ptr, block_ptr, null_ptr}
use denote.Builtin.{RawPtr}
use denote.Param.Send.{IsSend, part_keyless, owning_send, sendable}
use Rattle.sj_c.specs.Owned.{held}
use Rattle.sj_c.specs.declared.held.Held.{Held}
use Rattle.std.specs.declared.alloc.Global.{Global}
use Rattle.sj_c.specs.contracts.held.Held.{the_row as value_row}
use Rattle.std.proofs.Crossing.{crosses}
use Rattle.std.proofs.boxed.Box.TheSendSync as boxed
use Rattle.std.proofs.string.String.TheSendSync as string
use Rattle.std.proofs.vec.Vec.TheSendSync as vec
use Rattle.std.proofs.alloc.Global.TheSendSync as global
use Rattle.sj_document.proofs.StaticNode.TheSendSync as scalar
use Rattle.sj_document.proofs.value.Document.TheLaws.TheKnot.{crosses as knot}
use Rattle.sj_object.proofs.hasher.NotSoRandomState.TheSendSync as hasher
use Rattle.sj_object.proofs.map.HashMap.TheSendSync as map
use Rattle.sj_c.specs.contracts.kept.Kept as kept
use Rattle.std.proofs.alloc.Global.TheSendSync.{the_field_send as heap_send}
use Rattle.std.below.std_heap.proofs.GlobalAllocator.TheSendSync.{the_frees}

pointer_send : IsSend RawPtr
pointer_send = search sendable

value_send : IsSend value_row
value_send = search (boxed.the_send, string.the_send, vec.the_send, global.the_send, hasher.the_send, map.the_send, scalar.the_field_send, string.the_field_send, crosses, knot, sendable) depth 60 fits 20000

owned : (a : Global) (p : Ptr) (o : Option Held) → Keyless (held a p o)
owned a p None = tt
owned a null_ptr (Some v) = (tt, the_frees.frees a (raw (lone value_row.mir)) null_ptr)
owned a (block_ptr b o) (Some v) = (part_keyless value_row value_send full_share v b o, the_frees.frees a (raw (lone value_row.mir)) (block_ptr b o))

pub send : IsSend kept.the_row
send = owning_send kept.the_type (pointer_send, (heap_send, tt)) (λ k. owned k.alloc k.at k.holds) (λ s x w. tt)
