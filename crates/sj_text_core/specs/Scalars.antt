-- What a scalar means.
use Rattle.std.specs.Prelude.{pos}
use Rattle.sj_text_core.specs.Tree.{i64, u64, i128, u128, Tree, null, boolean, int}
use Rattle.sj_text_core.specs.declared.static_node.StaticNode.{StaticNode}
use Rattle.sj_text_core.specs.declared.static_node.StaticNode.TheVariants.{Null, Bool, I64, U64, I128, U128}

-- the tree of a scalar: the variant of a number is its carrier
abbrev pub static_tree : StaticNode → Tree
static_tree Null = null
static_tree (Bool b) = boolean b
static_tree (I64 n) = int n i64
static_tree (U64 n) = int (pos n) u64
static_tree (I128 n) = int n i128
static_tree (U128 n) = int (pos n) u128
