-- Which command a line is.
use Rattle.std.specs.Prelude.{◌≡◌, ◌⊎◌, ◌&&◌, ℕ, List, [], ◌∷◌, if◌then◌else◌, Option, Some, None, option_map, option_and_then, unwrap_or, codes, bytes_eq, ⊤}
use Rattle.sj_text_core.specs.Tree.{Tree, null, boolean, int, text, list, obj, Items, no_items, item, IsWithin}
use Rattle.sj_text_core.specs.Grammar.{Spells, IsReadable}
use Rattle.sj_text_core.specs.Keep.{keep}
use Rattle.sj_text_core.specs.Paths.{Step, by_key, by_place}
use Rattle.sj_text_core.specs.Reads.{as_unsigned}
use Rattle.sj_pointer.specs.Syntax.{is_begun, is_escaped}
use Rattle.sj_pointer.specs.Tokens.{tokens_of}
use Rattle.sj_pointer.specs.Pointed.{path_of}
use Rattle.sj_commands.specs.Commands.{Width, signed, unsigned, kind, fits, str, len, keys, has, encode, encode_pp, insert, remove, push, pop, put, PlainCommand, read, write, bad}

-- the integer type of that name
abbrev pub width_named : List ℕ → Option Width
width_named s =
    if bytes_eq s (codes "i8") then Some (signed 8)
    else if bytes_eq s (codes "i16") then Some (signed 16)
    else if bytes_eq s (codes "i32") then Some (signed 32)
    else if bytes_eq s (codes "i64") then Some (signed 64)
    else if bytes_eq s (codes "i128") then Some (signed 128)
    else if bytes_eq s (codes "u8") then Some (unsigned 8)
    else if bytes_eq s (codes "u16") then Some (unsigned 16)
    else if bytes_eq s (codes "u32") then Some (unsigned 32)
    else if bytes_eq s (codes "u64") then Some (unsigned 64)
    else if bytes_eq s (codes "u128") then Some (unsigned 128)
    else if bytes_eq s (codes "usize") then Some (unsigned 64)
    else None

-- a text is a key, a whole number below 2^64 a place
abbrev pub step_in : Tree → Option Step
step_in (text k) = Some (by_key k)
step_in t = option_map by_place (as_unsigned 64 t)

abbrev pub steps_in : Items → Option (List Step)
steps_in no_items = Some []
steps_in (item t is) = option_and_then (λ s. option_map (λ p. s ∷ p) (steps_in is)) (step_in t)

-- the steps of a pointer's tokens; none where the text is no pointer (RFC 6901, section 3)
abbrev pub pointer_in : List ℕ → Option (List Step)
pointer_in s = if is_begun s && is_escaped s then Some (path_of (tokens_of s)) else None

-- an array of steps, or a text that is a pointer
abbrev pub path_in : Tree → Option (List Step)
path_in null = None
path_in (boolean b) = None
path_in (int n c) = None
path_in (text s) = pointer_in s
path_in (list is) = steps_in is
path_in (obj ms) = None

-- the commands of a name and a path
abbrev pub command_with_path : List ℕ → List Step → Option PlainCommand
command_with_path name p =
    if bytes_eq name (codes "kind") then Some (read p kind)
    else if bytes_eq name (codes "str") then Some (read p str)
    else if bytes_eq name (codes "len") then Some (read p len)
    else if bytes_eq name (codes "keys") then Some (read p keys)
    else if bytes_eq name (codes "encode") then Some (read p encode)
    else if bytes_eq name (codes "encode_pp") then Some (read p encode_pp)
    else if bytes_eq name (codes "pop") then Some (write p pop)
    else None

-- those of a name, a path and a text
abbrev pub command_with_text : List ℕ → List Step → List ℕ → Option PlainCommand
command_with_text name p s =
    if bytes_eq name (codes "fits") then option_map (λ w. read p (fits w)) (width_named s)
    else if bytes_eq name (codes "has") then Some (read p (has s))
    else if bytes_eq name (codes "remove") then Some (write p (remove s))
    else None

-- those of a name, a path and any value
abbrev pub command_with_value : List ℕ → List Step → Tree → Option PlainCommand
command_with_value name p (text s) =
    if bytes_eq name (codes "push") then Some (write p (push (text s)))
    else if bytes_eq name (codes "put") then Some (write p (put (text s)))
    else command_with_text name p s
command_with_value name p v =
    if bytes_eq name (codes "push") then Some (write p (push v))
    else if bytes_eq name (codes "put") then Some (write p (put v))
    else None

-- that of a name, a path, a key and any value
abbrev pub command_with_member : List ℕ → List Step → Tree → Tree → Option PlainCommand
command_with_member name p (text k) v = if bytes_eq name (codes "insert") then Some (write p (insert k v)) else None
command_with_member name p t v = None

abbrev pub command_with : List ℕ → List Step → Items → Option PlainCommand
command_with name p no_items = command_with_path name p
command_with name p (item t no_items) = command_with_value name p t
command_with name p (item t (item u no_items)) = command_with_member name p t u
command_with name p (item t (item u (item v is))) = None

-- a name, a path and what it takes
abbrev pub row_in : Tree → Option PlainCommand
row_in (list (item (text name) (item path is))) = option_and_then (λ p. command_with name p is) (path_in path)
row_in t = None

-- the command whose row a tree fits exactly
abbrev pub command_in : Tree → PlainCommand
command_in t = unwrap_or (row_in t) bad

-- c is the command of the line: what the tree that it spells fits, with the first member of each key
abbrev pub IsCommandOf : List ℕ → PlainCommand → Type 0
IsCommandOf line c = ((u : Tree) × Spells line u × IsWithin u × (c ≡ command_in (keep u))) ⊎ ((¬ (IsReadable line)) × (c ≡ bad))

-- the commands of the lines in order
abbrev pub AreCommandsOf : List (List ℕ) → List PlainCommand → Type 0
AreCommandsOf [] [] = ⊤
AreCommandsOf [] (c ∷ cs) = ⊥
AreCommandsOf (l ∷ ls) [] = ⊥
AreCommandsOf (l ∷ ls) (c ∷ cs) = IsCommandOf l c × AreCommandsOf ls cs
