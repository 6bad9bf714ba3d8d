-- Integer types by name.
use Rattle.std.proofs.Common.{◌≡◌, Some, None, refl, codes}
use Rattle.sj_commands.specs.Commands.{signed, unsigned}
use Rattle.sj_commands.specs.CommandLines.{width_named}

width_named-i8 : width_named (codes "i8") ≡ Some (signed 8)
width_named-i8 = refl

width_named-i16 : width_named (codes "i16") ≡ Some (signed 16)
width_named-i16 = refl

width_named-i32 : width_named (codes "i32") ≡ Some (signed 32)
width_named-i32 = refl

width_named-i64 : width_named (codes "i64") ≡ Some (signed 64)
width_named-i64 = refl

width_named-i128 : width_named (codes "i128") ≡ Some (signed 128)
width_named-i128 = refl

width_named-u8 : width_named (codes "u8") ≡ Some (unsigned 8)
width_named-u8 = refl

width_named-u16 : width_named (codes "u16") ≡ Some (unsigned 16)
width_named-u16 = refl

width_named-u32 : width_named (codes "u32") ≡ Some (unsigned 32)
width_named-u32 = refl

width_named-u64 : width_named (codes "u64") ≡ Some (unsigned 64)
width_named-u64 = refl

width_named-u128 : width_named (codes "u128") ≡ Some (unsigned 128)
width_named-u128 = refl

width_named-usize : width_named (codes "usize") ≡ Some (unsigned 64)
width_named-usize = refl

width_named-i7 : width_named (codes "i7") ≡ None
width_named-i7 = refl

width_named-upper : width_named (codes "I8") ≡ None
width_named-upper = refl
