-- The kinds of values, and their names.
use Rattle.std.specs.Prelude.{ℕ, List, Option, Some, None, if◌then◌else◌, bytes_eq, codes}
use Rattle.sj_text_core.specs.declared.value_type.ValueType.{ValueType}
use Rattle.sj_text_core.specs.declared.value_type.ValueType.TheVariants as type
use Rattle.sj_kinds.specs.declared.kind.Kind.{Kind}
use Rattle.sj_kinds.specs.declared.kind.Kind.TheVariants as kind

-- the kind that a type belongs to: every carrier of a number is a number
abbrev pub kind_in : ValueType → Kind
kind_in type.Null = kind.Null
kind_in type.Bool = kind.Bool
kind_in type.I64 = kind.Number
kind_in type.U64 = kind.Number
kind_in type.I128 = kind.Number
kind_in type.U128 = kind.Number
kind_in type.String = kind.String
kind_in type.Array = kind.Array
kind_in type.Object = kind.Object
kind_in (type.Extended e) = kind.Number

abbrev pub name_of : Kind → List ℕ
name_of kind.Null = codes "null"
name_of kind.Bool = codes "bool"
name_of kind.Number = codes "number"
name_of kind.String = codes "string"
name_of kind.Array = codes "array"
name_of kind.Object = codes "object"

-- the kind of that name
abbrev pub named : List ℕ → Option Kind
named s =
    if bytes_eq s (codes "null") then Some kind.Null
    else if bytes_eq s (codes "bool") then Some kind.Bool
    else if bytes_eq s (codes "number") then Some kind.Number
    else if bytes_eq s (codes "string") then Some kind.String
    else if bytes_eq s (codes "array") then Some kind.Array
    else if bytes_eq s (codes "object") then Some kind.Object
    else None
