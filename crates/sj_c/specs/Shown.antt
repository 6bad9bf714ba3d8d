-- What a read value says of the tree found.
use Rattle.std.specs.Prelude.{◌≡◌, ◌+◌, ◌*◌, ◌^◌, ◌<◌, ℕ, ℤ, pos, ◌+ℤ◌, ◌<ℤ◌, List, Some, length, is_some, IfSome}
use Rattle.std.specs.List.{slice_get}
use Rattle.sj_text_core.specs.Tree.{Tree, items_len, members_len}
use Rattle.sj_text_core.specs.Reads.{kind_of, as_signed, as_unsigned, as_boolean, as_text, as_items, as_members}
use Rattle.sj_text_core.specs.declared.value_type.ValueType.{ValueType}
use Rattle.sj_text_core.specs.declared.value_type.ValueType.TheVariants as kind
use Rattle.sj_c.specs.declared.found.Found.{Found}
use Rattle.sj_c.specs.declared.members.Member.{Member}

-- the number of a kind
abbrev pub kind_number : ValueType → ℕ
kind_number kind.Null = 0
kind_number kind.Bool = 1
kind_number kind.I64 = 2
kind_number kind.U64 = 3
kind_number kind.I128 = 4
kind_number kind.U128 = 5
kind_number kind.String = 6
kind_number kind.Array = 7
kind_number kind.Object = 8
kind_number (kind.Extended e) = 8

-- two words as one number
abbrev pub wide : ℕ → ℕ → ℕ
wide low high = low + high * 2 ^ 64

-- what is said of every value
pub record Tells (f : Found) (u : Tree) : Type 0 where
  pub kind : f.kind ≡ kind_number (kind_of u)
  pub text : IfSome (as_text u) (λ s. f.len ≡ length s)
  pub truth : IfSome (as_boolean u) (λ b. f.is_true ≡ b)
  pub is_signed : f.is_signed ≡ is_some (as_signed 64 u)
  pub signed : IfSome (as_signed 64 u) (λ n. f.signed ≡ n)
  pub is_unsigned : f.is_unsigned ≡ is_some (as_unsigned 64 u)
  pub unsigned : IfSome (as_unsigned 64 u) (λ n. f.unsigned ≡ n)
  pub words : IfSome (as_unsigned 128 u) (λ n. wide f.low f.high ≡ n)
  pub below : IfSome (as_signed 128 u) (λ n. n <ℤ pos 0 → pos (wide f.low f.high) ≡ n +ℤ pos (2 ^ 128))

-- and how many items or members there are
pub record Shows (f : Found) (u : Tree) : Type 0 where
  pub told : Tells f u
  pub items : IfSome (as_items u) (λ is. f.len ≡ items_len is)
  pub members : IfSome (as_members u) (λ ms. f.len ≡ members_len ms)

-- a key's length, and what its value is; of the key's bytes nothing is said
pub record ShowsMember (m : Member) (p : List ℕ × Tree) : Type 0 where
  pub key : m.key_len ≡ length p.0
  pub value : Shows m.value p.1

-- the first n of the list say what those from a number on are
abbrev pub ShowsFrom : {F A : Type 0} → (F → A → Type 0) → ℕ → ℕ → List F → List A → Type 0
ShowsFrom {F = F} {A = A} says from n found all = (k : ℕ) → k < n → (f : F) × (a : A) × (slice_get found k ≡ Some f) × (slice_get all (from + k) ≡ Some a) × says f a
