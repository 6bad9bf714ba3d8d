-- Which operations a patch document lists (RFC 6902, sections 3 and 4), and what is wrong where it is none.
use Rattle.std.specs.Prelude.{◌≡◌, ℕ, suc, ◌&&◌, List, [], ◌∷◌, Option, Some, None, Result, Ok, Err, option_and_then, if◌then◌else◌, bytes_eq, codes, ⊤}
use Rattle.sj_text_core.specs.Tree.{Tree, Items, no_items, item}
use Rattle.sj_text_core.specs.Find.{find}
use Rattle.sj_text_core.specs.Reads.{as_items, as_members, as_text, member_as}
use Rattle.sj_pointer.specs.Syntax.{is_begun, is_escaped}
use Rattle.sj_pointer.specs.Tokens.{tokens_of}
use Rattle.sj_patch.specs.Patch.{PlainOperation, add, remove, replace, move, copy, test}
use Rattle.sj_patch.specs.declared.reading.Kind.{Kind}
use Rattle.sj_patch.specs.declared.reading.Kind.TheVariants.{Add, Remove, Replace, Move, Copy, Test}
use Rattle.sj_text_core.specs.declared.patch_fault.ItemFault.{ItemFault}
use Rattle.sj_text_core.specs.declared.patch_fault.ItemFault.TheVariants.{NotAnObject, Op, Path, From, Value}
use Rattle.sj_text_core.specs.declared.patch_fault.PatchReadFault.{PatchReadFault}
use Rattle.sj_text_core.specs.declared.patch_fault.PatchReadFault.TheVariants as fault

-- what was found, or else the flaw
abbrev pub or_flaw : {A : Type 0} → ItemFault → Option A → Result A ItemFault
or_flaw w None = Err w
or_flaw w (Some x) = Ok x

-- f of what was read, or else what is wrong with it
abbrev pub read_on : {A B : Type 0} → Result A ItemFault → (A → Result B ItemFault) → Result B ItemFault
read_on (Err w) f = Err w
read_on (Ok x) f = f x

-- the operation of that name (section 4)
abbrev pub kind_named : List ℕ → Option Kind
kind_named s =
    if bytes_eq s (codes "add") then Some Add
    else if bytes_eq s (codes "remove") then Some Remove
    else if bytes_eq s (codes "replace") then Some Replace
    else if bytes_eq s (codes "move") then Some Move
    else if bytes_eq s (codes "copy") then Some Copy
    else if bytes_eq s (codes "test") then Some Test
    else None

-- the tokens of a text that is a pointer (RFC 6901, section 3)
abbrev pub tokens_in : List ℕ → Option (List (List ℕ))
tokens_in s = if is_begun s && is_escaped s then Some (tokens_of s) else None

-- the text of a member
abbrev pub text_member : List ℕ → Tree → Option (List ℕ)
text_member k t = member_as as_text (find k t)

-- which operation an object names
abbrev pub kind_at : Tree → Option Kind
kind_at t = option_and_then kind_named (text_member (codes "op") t)

-- the tokens of a member whose text is a pointer
abbrev pub tokens_at : List ℕ → Tree → Option (List (List ℕ))
tokens_at k t = option_and_then tokens_in (text_member k t)

-- a null is a value
abbrev pub value_member : Tree → Result Tree ItemFault
value_member t = or_flaw Value (find (codes "value") t)

abbrev pub from_at : Tree → Result (List (List ℕ)) ItemFault
from_at t = or_flaw From (tokens_at (codes "from") t)

-- the operation of a kind at a path, with what it takes of an object
abbrev pub operation_of : Kind → List (List ℕ) → Tree → Result PlainOperation ItemFault
operation_of Add path t = read_on (value_member t) (λ v. Ok (add path v))
operation_of Remove path t = Ok (remove path)
operation_of Replace path t = read_on (value_member t) (λ v. Ok (replace path v))
operation_of Move path t = read_on (from_at t) (λ from. Ok (move from path))
operation_of Copy path t = read_on (from_at t) (λ from. Ok (copy from path))
operation_of Test path t = read_on (value_member t) (λ v. Ok (test path v))

-- which operation an item names; it has to be an object
abbrev pub kind_of_item : Tree → Result Kind ItemFault
kind_of_item t = read_on (or_flaw NotAnObject (as_members t)) (λ _. or_flaw Op (kind_at t))

-- the operation that an item is, looked into for "op", "path", and what else the operation takes; any other member is ignored (section 4)
abbrev pub operation_in : Tree → Result PlainOperation ItemFault
operation_in t = read_on (kind_of_item t) (λ kind. read_on (or_flaw Path (tokens_at (codes "path") t)) (λ path. operation_of kind path t))

-- an operation in front of others; the first fault counts
abbrev pub onto_operations : ℕ → Result PlainOperation ItemFault → Result (List PlainOperation) PatchReadFault → Result (List PlainOperation) PatchReadFault
onto_operations n (Err w) r = Err (fault.Item n w)
onto_operations n (Ok o) (Err e) = Err e
onto_operations n (Ok o) (Ok os) = Ok (o ∷ os)

-- the operations that items are, or the first that is none, counted from n, and what is wrong
abbrev pub operations_from : ℕ → Items → Result (List PlainOperation) PatchReadFault
operations_from n no_items = Ok []
operations_from n (item t is) = onto_operations n (operation_in t) (operations_from (suc n) is)

abbrev pub operations_in : Option Items → Result (List PlainOperation) PatchReadFault
operations_in None = Err fault.NotAnArray
operations_in (Some is) = operations_from 0 is

-- the operations of a patch document, which is an array of them (section 3)
abbrev pub patch_in : Tree → Result (List PlainOperation) PatchReadFault
patch_in t = operations_in (as_items t)

-- why a document was not read; of want of memory nothing is said
abbrev pub IsFaultIn : PatchReadFault → Result (List PlainOperation) PatchReadFault → Type 0
IsFaultIn fault.OutOfMemory r = ⊤
IsFaultIn (fault.Item n w) r = r ≡ Err (fault.Item n w)
IsFaultIn fault.NotAnArray r = r ≡ Err fault.NotAnArray
