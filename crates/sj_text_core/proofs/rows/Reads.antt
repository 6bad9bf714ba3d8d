-- Kinds and parts of small trees.
use Rattle.std.proofs.Common.{◌≡◌, ℕ, pos, negsuc, false, [], refl, codes, Some, None, Err}
use Rattle.sj_text_core.specs.Tree.{u64, i128, null, boolean, int, text, list, obj, no_items, item, no_members, member}
use Rattle.sj_text_core.specs.Reads.{kind_of, as_boolean, as_text, as_items, as_members, read_as}
use Rattle.sj_text_core.specs.Nulls.{as_nothing}
use Rattle.sj_text_core.specs.Scalars.{static_tree}
use Rattle.sj_text_core.specs.ScalarValues.{scalar_value}
use Rattle.sj_text_core.specs.declared.value_type.ValueType.TheVariants as kind
use Rattle.sj_text_core.specs.declared.static_node.StaticNode.TheVariants as static

kind_of-u64 : kind_of (int (pos 5) u64) ≡ kind.U64
kind_of-u64 = refl

kind_of-i128 : kind_of (int (negsuc 9223372036854775808) i128) ≡ kind.I128
kind_of-i128 = refl

kind_of-list : kind_of (list no_items) ≡ kind.Array
kind_of-list = refl

kind_of-object : kind_of (obj no_members) ≡ kind.Object
kind_of-object = refl

as_boolean-false : as_boolean (boolean false) ≡ Some false
as_boolean-false = refl

as_boolean-text : as_boolean (text (codes "false")) ≡ None
as_boolean-text = refl

as_text-empty : as_text (text []) ≡ Some []
as_text-empty = refl

as_text-null : as_text null ≡ None
as_text-null = refl

as_items-one : as_items (list (item null no_items)) ≡ Some (item null no_items)
as_items-one = refl

as_items-object : as_items (obj no_members) ≡ None
as_items-object = refl

as_members-one : as_members (obj (member (codes "k") null no_members)) ≡ Some (member (codes "k") null no_members)
as_members-one = refl

as_nothing-null : as_nothing null ≡ Some tt
as_nothing-null = refl

as_nothing-zero : as_nothing (int (pos 0) u64) ≡ None
as_nothing-zero = refl

read_as-none : read_as {T = ℕ} None kind.U64 kind.Null ≡ Err (record { expected = kind.U64; got = kind.Null })
read_as-none = refl

static_tree-i128 : static_tree (static.I128 (pos 7)) ≡ int (pos 7) i128
static_tree-i128 = refl

-- one value in two carriers
scalar_value-carriers : scalar_value (static.I64 (pos 5)) ≡ scalar_value (static.U128 5)
scalar_value-carriers = refl
