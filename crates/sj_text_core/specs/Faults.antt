-- What kinds are called, and which fault stands for another.
use Rattle.std.specs.Prelude.{ℕ, List, codes}
use Rattle.sj_text_core.specs.declared.value_type.ExtendedValueType.{ExtendedValueType}
use Rattle.sj_text_core.specs.declared.value_type.ExtendedValueType.TheVariants as integer
use Rattle.sj_text_core.specs.declared.value_type.ValueType.{ValueType}
use Rattle.sj_text_core.specs.declared.value_type.ValueType.TheVariants as kind
use Rattle.sj_text_core.specs.declared.error.AccessError.{AccessError}
use Rattle.sj_text_core.specs.declared.error.AccessError.TheVariants as access_error
use Rattle.sj_text_core.specs.declared.error.ErrorKind.{ErrorKind}
use Rattle.sj_text_core.specs.declared.error.ErrorKind.TheVariants as error_kind
use Rattle.sj_text_core.specs.declared.error.PointerError.{PointerError}
use Rattle.sj_text_core.specs.declared.error.PointerError.TheVariants as pointer_error
use Rattle.sj_text_core.specs.declared.error.WriteError.{WriteError}
use Rattle.sj_text_core.specs.declared.error.WriteError.TheVariants as write_error
use Rattle.sj_text_core.specs.declared.patch_fault.PatchFault.{PatchFault}
use Rattle.sj_text_core.specs.declared.patch_fault.PatchFault.TheVariants as patch_fault
use Rattle.sj_text_core.specs.declared.patch_fault.PatchReadFault.{PatchReadFault}
use Rattle.sj_text_core.specs.declared.patch_fault.PatchReadFault.TheVariants as patch_read_fault
use Rattle.sj_text_core.specs.declared.json_error.JsonError.{JsonError}
use Rattle.sj_text_core.specs.declared.json_error.JsonError.TheVariants as json_error

abbrev pub integer_text : ExtendedValueType → List ℕ
integer_text integer.I8 = codes "i8"
integer_text integer.I16 = codes "i16"
integer_text integer.I32 = codes "i32"
integer_text integer.U8 = codes "u8"
integer_text integer.U16 = codes "u16"
integer_text integer.U32 = codes "u32"
integer_text integer.Usize = codes "usize"

abbrev pub kind_text : ValueType → List ℕ
kind_text kind.Null = codes "null"
kind_text kind.Bool = codes "bool"
kind_text kind.I64 = codes "i64"
kind_text kind.U64 = codes "u64"
kind_text kind.I128 = codes "i128"
kind_text kind.U128 = codes "u128"
kind_text kind.String = codes "string"
kind_text kind.Array = codes "array"
kind_text kind.Object = codes "object"
kind_text (kind.Extended i) = integer_text i

-- want of memory is one fault, whichever call met it
abbrev pub unread : ErrorKind → JsonError
unread error_kind.OutOfMemory = json_error.OutOfMemory
unread why = json_error.Read why

abbrev pub unwritten : WriteError → JsonError
unwritten write_error.OutOfMemory = json_error.OutOfMemory
unwritten why = json_error.Write why

abbrev pub unchanged : AccessError → JsonError
unchanged access_error.OutOfMemory = json_error.OutOfMemory
unchanged why = json_error.Access why

abbrev pub no_pointer : PointerError → JsonError
no_pointer pointer_error.OutOfMemory = json_error.OutOfMemory
no_pointer why = json_error.Pointer why

abbrev pub no_patch : PatchReadFault → JsonError
no_patch patch_read_fault.OutOfMemory = json_error.OutOfMemory
no_patch why = json_error.PatchRead why

abbrev pub unpatched : PatchFault → JsonError
unpatched patch_fault.OutOfMemory = json_error.OutOfMemory
unpatched why = json_error.Patch why
