-- What a handle owns beside its fields: the value in its block, and the right to free that.
use Rattle.std.specs.Prelude.{Option, Some, None}
use base.Fml.{Fml, ftrue}
use denote.RawPtr.{Ptr}
use Rattle.std.specs.Box.Ownership.{box_owns}
use Rattle.std.specs.declared.alloc.Global.{Global}
use Rattle.std.specs.contracts.impls.GlobalAllocator.TheImpl.{ghosts}
use Rattle.sj_c.specs.declared.held.Held.{Held}
use Rattle.sj_c.specs.declared.held.Printed.{Printed}
use Rattle.sj_c.specs.contracts.held.Held.{the_row as held_row}
use Rattle.sj_c.specs.contracts.held.Printed.{the_row as printed_row}

abbrev pub held : Global → Ptr → Option Held → Fml
held a p None = ftrue
held a p (Some v) = box_owns (ghosts.dealloc_token a) held_row p v

abbrev pub printed : Global → Ptr → Option Printed → Fml
printed a p None = ftrue
printed a p (Some v) = box_owns (ghosts.dealloc_token a) printed_row p v
