-- What nodes mean.
use Rattle.std.specs.Prelude.{pos, ℕ, ◌+◌, ◌*◌, ◌^◌, List, map, Option, Some, None}
use Rattle.std.specs.Int.{w128, cast_signed}
use Rattle.sj_text_core.specs.Tree.{i64, u64, i128, u128}
use Rattle.sj_text_core.specs.Nodes.{Mark, nothing, truth, number, string, array, object}
use Rattle.sj_text_core.specs.declared.static_node.StaticNode.{StaticNode}
use Rattle.sj_text_core.specs.declared.static_node.StaticNode.TheVariants.{Null, Bool, I64, U64, I128, U128}
use Rattle.sj_tape.specs.declared.node.Node.{Node}
use Rattle.sj_tape.specs.declared.node.Node.TheVariants.{Static, String, Array, Object}
use Rattle.sj_tape.specs.declared.packed.Packed.{Packed}
use Rattle.sj_tape.specs.declared.packed.Packed.TheVariants as packed

-- the variant of a number is its carrier
abbrev pub static_mark : StaticNode → Mark
static_mark Null = nothing
static_mark (Bool b) = truth b
static_mark (I64 n) = number n i64
static_mark (U64 n) = number (pos n) u64
static_mark (I128 n) = number n i128
static_mark (U128 n) = number (pos n) u128

abbrev pub mark : Node → Mark
mark (Static n) = static_mark n
mark (String s) = string s.now
mark (Array len count) = array len count
mark (Object len count) = object len count

abbrev pub marks : List Node → List Mark
marks ns = map mark ns

-- a number of 128 bits is packed in two halves
abbrev pub packed_mark : Packed → Mark
packed_mark packed.Null = nothing
packed_mark (packed.Bool b) = truth b
packed_mark (packed.I64 n) = number n i64
packed_mark (packed.U64 n) = number (pos n) u64
packed_mark (packed.I128 high low) = number (cast_signed w128 (high * 2 ^ 64 + low)) i128
packed_mark (packed.U128 high low) = number (pos (high * 2 ^ 64 + low)) u128
packed_mark (packed.String s) = string s.now
packed_mark (packed.Plain p) = string p.text.now
packed_mark (packed.Array len count) = array len count
packed_mark (packed.Object len count) = object len count

abbrev pub packed_marks : List Packed → List Mark
packed_marks ns = map packed_mark ns

-- the text of a node that is one
abbrev pub text_in : Mark → Option (List ℕ)
text_in (string s) = Some s
text_in _ = None
