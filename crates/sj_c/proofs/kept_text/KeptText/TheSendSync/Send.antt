-- What the struct owns may go to another thread: nothing, or a value that may, in a block that any thread may free.
use Rattle.std.specs.Prelude.{Option, Some, None}
use base.Fraction.{full_share}
use base.Shift.{Keyless}
use mir.Raw.{raw}
use denote.Memory.{lone}
use denote.RawPtr.{Ptr, block_ptr, null_ptr}
use denote.Builtin.{RawPtr}
use denote.Param.Send.{IsSend, part_keyless, owning_send, sendable}
use Rattle.sj_c.specs.Owned.{printed}
use Rattle.sj_c.specs.declared.held.Printed.{Printed}
use Rattle.std.specs.declared.alloc.Global.{Global}
use Rattle.sj_c.specs.contracts.held.Printed.{the_row as value_row}
use Rattle.sj_c.proofs.held.Printed.TheSendSync.{the_send as value_send}
use Rattle.sj_c.specs.contracts.kept_text.KeptText as kept
use Rattle.std.proofs.alloc.Global.TheSendSync.{the_field_send as heap_send}
use Rattle.std.below.std_heap.proofs.GlobalAllocator.TheSendSync.{the_frees}

pointer_send : IsSend RawPtr
pointer_send = search sendable

owned : (a : Global) (p : Ptr) (o : Option Printed) → Keyless (printed a p o)
owned a p None = tt
owned a null_ptr (Some v) = (tt, the_frees.frees a (raw (lone value_row.mir)) null_ptr)
owned a (block_ptr b o) (Some v) = (part_keyless value_row value_send full_share v b o, the_frees.frees a (raw (lone value_row.mir)) (block_ptr b o))

pub send : IsSend kept.the_row
send = owning_send kept.the_type (pointer_send, (heap_send, tt)) (λ k. owned k.alloc k.at k.holds) (λ s x w. tt)
