-- What a typed read of a tree answers.
use Rattle.std.specs.Prelude.{ℕ, ℤ, pos, negsuc, ◌-◌, ◌^◌, List, Option, Some, None, Result, Ok, Err, Bool, if◌then◌else◌, nat_lt}
use Rattle.sj_text_core.specs.Tree.{i64, u64, i128, u128, Tree, null, boolean, int, text, list, obj, Items, Members}
use Rattle.sj_text_core.specs.declared.value_type.ValueType.{ValueType}
use Rattle.sj_text_core.specs.declared.value_type.ValueType.TheVariants as kind
use Rattle.sj_text_core.specs.declared.value_type.TryTypeError.{TryTypeError}

-- the kind of a tree: of a number its carrier
abbrev pub kind_of : Tree → ValueType
kind_of null = kind.Null
kind_of (boolean b) = kind.Bool
kind_of (int n i64) = kind.I64
kind_of (int n u64) = kind.U64
kind_of (int n i128) = kind.I128
kind_of (int n u128) = kind.U128
kind_of (text s) = kind.String
kind_of (list is) = kind.Array
kind_of (obj ms) = kind.Object

-- a whole number below 2^bits
abbrev pub unsigned_of : ℕ → ℤ → Option ℕ
unsigned_of bits (pos n) = if nat_lt n (2 ^ bits) then Some n else None
unsigned_of bits (negsuc n) = None

-- a whole number from -2^(bits-1) to 2^(bits-1)-1
abbrev pub signed_of : ℕ → ℤ → Option ℤ
signed_of bits (pos n) = if nat_lt n (2 ^ (bits - 1)) then Some (pos n) else None
signed_of bits (negsuc n) = if nat_lt n (2 ^ (bits - 1)) then Some (negsuc n) else None

-- the number, where the tree is a whole number below 2^bits, whatever its carrier
abbrev pub as_unsigned : ℕ → Tree → Option ℕ
as_unsigned bits (int n c) = unsigned_of bits n
as_unsigned bits _ = None

-- the number, where the tree is a whole number from -2^(bits-1) to 2^(bits-1)-1, whatever its carrier
abbrev pub as_signed : ℕ → Tree → Option ℤ
as_signed bits (int n c) = signed_of bits n
as_signed bits _ = None

abbrev pub as_boolean : Tree → Option Bool
as_boolean (boolean b) = Some b
as_boolean _ = None

abbrev pub as_text : Tree → Option (List ℕ)
as_text (text s) = Some s
as_text _ = None

abbrev pub as_items : Tree → Option Items
as_items (list is) = Some is
as_items _ = None

abbrev pub as_members : Tree → Option Members
as_members (obj ms) = Some ms
as_members _ = None

-- a read by which a value is asked for: the number, text or part, or which kind was expected and which is there
abbrev pub read_as : {T : Type 0} → Option T → ValueType → ValueType → Result T TryTypeError
read_as (Some x) expected got = Ok x
read_as None expected got = Err (record { expected = expected; got = got })

-- such a read of a tree
abbrev pub try_as : {A : Type 0} → (Tree → Option A) → ValueType → Tree → Result A TryTypeError
try_as read expected t = read_as (read t) expected (kind_of t)

-- a typed read of a member: none where the key is absent, or its value is no such one
abbrev pub member_as : {A : Type 0} → (Tree → Option A) → Option Tree → Option A
member_as read None = None
member_as read (Some u) = read u

-- what was found in an object; of another target, that an object was expected and which kind is there
abbrev pub found_in : {P A : Type 0} → Option P → ValueType → A → Result A TryTypeError
found_in None got found = Err (record { expected = kind.Object; got = got })
found_in (Some ms) got found = Ok found

-- so of a tree
abbrev pub try_found : {A : Type 0} → Tree → A → Result A TryTypeError
try_found t found = found_in (as_members t) (kind_of t) found

-- the value, which has to be there
abbrev pub some_as : {A : Type 0} → Option A → ValueType → ValueType → Result (Option A) TryTypeError
some_as (Some x) expected got = Ok (Some x)
some_as None expected got = Err (record { expected = expected; got = got })

-- a member that is there has to be such a value
abbrev pub member_read_as : {A : Type 0} → (Tree → Option A) → ValueType → Option Tree → Result (Option A) TryTypeError
member_read_as read expected None = Ok None
member_read_as read expected (Some u) = some_as (read u) expected (kind_of u)

abbrev pub member_read_in : {P A : Type 0} → (Tree → Option A) → ValueType → Option P → ValueType → Option Tree → Result (Option A) TryTypeError
member_read_in read expected None got found = Err (record { expected = kind.Object; got = got })
member_read_in read expected (Some ms) got found = member_read_as read expected found

-- a typed read of a member, as found, by which it is asked for: none where the key is absent; a fault where its value is no such one, or the target is no object
abbrev pub try_member_as : {A : Type 0} → (Tree → Option A) → ValueType → Tree → Option Tree → Result (Option A) TryTypeError
try_member_as read expected t found = member_read_in read expected (as_members t) (kind_of t) found
