-- Which commands the trees of lines are.
use Rattle.std.proofs.Common.{◌≡◌, ℕ, pos, negsuc, List, [], ◌∷◌, refl, codes}
use Rattle.sj_text_core.specs.Tree.{u64, i64, u128, Tree, null, int, text, list, obj, no_items, no_members, member, items_from}
use Rattle.sj_text_core.specs.Paths.{by_key, by_place, by_token}
use Rattle.sj_commands.specs.Commands.{unsigned, read, write, bad, kind, fits, str, len, keys, has, encode, encode_pp, insert, remove, push, put, pop}
use Rattle.sj_commands.specs.CommandLines.{command_in}

abbrev line : List Tree → Tree
line ts = list (items_from ts)

abbrev word : List ℕ → Tree
word s = text s

abbrev root : Tree
root = list no_items

-- ["len",[-0]]
command_in-minus_zero : command_in (line (word (codes "len") ∷ line (int (pos 0) i64 ∷ []) ∷ [])) ≡ read (by_place 0 ∷ []) len
command_in-minus_zero = refl

-- ["len",[-1]]
command_in-negative : command_in (line (word (codes "len") ∷ line (int (negsuc 0) i64 ∷ []) ∷ [])) ≡ bad
command_in-negative = refl

-- a place past 2^64-1
command_in-far : command_in (line (word (codes "kind") ∷ line (int (pos 340282366920938463463374607431768211455) u128 ∷ []) ∷ [])) ≡ bad
command_in-far = refl

-- ["encode",[],1]
command_in-longer : command_in (line (word (codes "encode") ∷ root ∷ int (pos 1) u64 ∷ [])) ≡ bad
command_in-longer = refl

-- ["ENCODE",[]]
command_in-upper : command_in (line (word (codes "ENCODE") ∷ root ∷ [])) ≡ bad
command_in-upper = refl

-- ["fits",[0],"i7"]
command_in-width : command_in (line (word (codes "fits") ∷ line (int (pos 0) u64 ∷ []) ∷ word (codes "i7") ∷ [])) ≡ bad
command_in-width = refl

-- ["fits",["a",0],"usize"]
command_in-usize : command_in (line (word (codes "fits") ∷ line (word (codes "a") ∷ int (pos 0) u64 ∷ []) ∷ word (codes "usize") ∷ [])) ≡ read (by_key (codes "a") ∷ by_place 0 ∷ []) (fits (unsigned 64))
command_in-usize = refl

-- {"a":1}
command_in-object : command_in (obj (member (codes "a") (int (pos 1) u64) no_members)) ≡ bad
command_in-object = refl

-- ["insert",[],"k",null], and with a key that is no text
command_in-insert : command_in (line (word (codes "insert") ∷ root ∷ word (codes "k") ∷ null ∷ [])) ≡ write [] (insert (codes "k") null)
command_in-insert = refl

command_in-insert_number : command_in (line (word (codes "insert") ∷ root ∷ int (pos 1) u64 ∷ null ∷ [])) ≡ bad
command_in-insert_number = refl

-- ["push",[],"s"], ["put",[],1], ["pop",[]], ["remove",[],"k"], ["has",[],"k"]
command_in-push : command_in (line (word (codes "push") ∷ root ∷ word (codes "s") ∷ [])) ≡ write [] (push (text (codes "s")))
command_in-push = refl

command_in-put : command_in (line (word (codes "put") ∷ root ∷ int (pos 1) u64 ∷ [])) ≡ write [] (put (int (pos 1) u64))
command_in-put = refl

command_in-pop : command_in (line (word (codes "pop") ∷ root ∷ [])) ≡ write [] pop
command_in-pop = refl

command_in-remove : command_in (line (word (codes "remove") ∷ root ∷ word (codes "k") ∷ [])) ≡ write [] (remove (codes "k"))
command_in-remove = refl

command_in-has : command_in (line (word (codes "has") ∷ root ∷ word (codes "k") ∷ [])) ≡ read [] (has (codes "k"))
command_in-has = refl

-- ["encode",[],1,2,3]
command_in-too_long : command_in (line (word (codes "encode") ∷ root ∷ int (pos 1) u64 ∷ int (pos 2) u64 ∷ int (pos 3) u64 ∷ [])) ≡ bad
command_in-too_long = refl

-- the rows of a name and a path
command_in-kind : command_in (line (word (codes "kind") ∷ root ∷ [])) ≡ read [] kind
command_in-kind = refl

command_in-str : command_in (line (word (codes "str") ∷ root ∷ [])) ≡ read [] str
command_in-str = refl

command_in-len : command_in (line (word (codes "len") ∷ root ∷ [])) ≡ read [] len
command_in-len = refl

command_in-keys : command_in (line (word (codes "keys") ∷ root ∷ [])) ≡ read [] keys
command_in-keys = refl

command_in-encode : command_in (line (word (codes "encode") ∷ root ∷ [])) ≡ read [] encode
command_in-encode = refl

command_in-encode_pp : command_in (line (word (codes "encode_pp") ∷ root ∷ [])) ≡ read [] encode_pp
command_in-encode_pp = refl

-- the empty key and the empty text
command_in-empty : command_in (line (word (codes "insert") ∷ line (word [] ∷ []) ∷ word [] ∷ word [] ∷ [])) ≡ write (by_key [] ∷ []) (insert [] (text []))
command_in-empty = refl

command_in-no_name : command_in (line (word [] ∷ root ∷ [])) ≡ bad
command_in-no_name = refl

-- no row has an item too few
command_in-has_few : command_in (line (word (codes "has") ∷ root ∷ [])) ≡ bad
command_in-has_few = refl

command_in-insert_few : command_in (line (word (codes "insert") ∷ root ∷ word (codes "k") ∷ [])) ≡ bad
command_in-insert_few = refl

command_in-put_few : command_in (line (word (codes "put") ∷ root ∷ [])) ≡ bad
command_in-put_few = refl

-- a path that is none
command_in-no_path : command_in (line (word (codes "kind") ∷ word (codes "a") ∷ [])) ≡ bad
command_in-no_path = refl

-- a pointer, and texts that are none
command_in-pointer : command_in (line (word (codes "len") ∷ word (codes "/foo/0") ∷ [])) ≡ read (by_token (codes "foo") ∷ by_token (codes "0") ∷ []) len
command_in-pointer = refl

command_in-escaped : command_in (line (word (codes "put") ∷ word (codes "/m~01~1") ∷ null ∷ [])) ≡ write (by_token (codes "m~1/") ∷ []) (put null)
command_in-escaped = refl

command_in-whole : command_in (line (word (codes "encode") ∷ word [] ∷ [])) ≡ read [] encode
command_in-whole = refl

command_in-bad_tilde : command_in (line (word (codes "len") ∷ word (codes "/a~2") ∷ [])) ≡ bad
command_in-bad_tilde = refl

command_in-no_slash : command_in (line (word (codes "len") ∷ word (codes "~1") ∷ [])) ≡ bad
command_in-no_slash = refl

command_in-no_step : command_in (line (word (codes "kind") ∷ line (null ∷ []) ∷ [])) ≡ bad
command_in-no_step = refl
