use Rattle.std.proofs.Common.{map, take, string_bytes}
use Rattle.std.specs.Fmt.{HasWritten, IsPlainFormatter}
use Rattle.sj_pointer.specs.Shown.{pointer_text}
use Rattle.sj_pointer.proofs.show.PointerDisplay.fmt.Given as goal

abbrev pub invariant-loop-token : goal.invariant-loop-token
invariant-loop-token g l =
    IsPlainFormatter l.initial.f → HasWritten g.W.Write.write_str_gives l.initial.f (pointer_text (map string_bytes (take l.token-index l.token-items))) l.f
