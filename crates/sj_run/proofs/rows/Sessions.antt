-- Replies to commands on small trees.
use Rattle.std.proofs.Common.{◌≡◌, ℕ, pos, true, List, [], ◌∷◌, refl, codes}
use Rattle.std.specs.Fmt.{digits}
use Rattle.sj_text_core.specs.Tree.{u64, i64, Tree, null, boolean, int, text, list, obj, no_items, item, no_members, member}
use Rattle.sj_text_core.specs.Paths.{by_key, by_place}
use Rattle.sj_run.specs.declared.sessions.Form.TheVariants.{Owned, Borrowed, Lazy}
use Rattle.sj_commands.specs.Commands.{signed, read, write, bad, kind, fits, str, len, keys, has, encode, insert, remove, push, pop, put, PlainCommand}
use Rattle.sj_text_core.specs.declared.repeats.Repeats.TheVariants.{First}
use Rattle.sj_run.specs.Repeats.{start_by, replies_by}
use Rattle.sj_run.specs.Shown.{shown_all}

abbrev num : ℕ → Tree
num n = int (pos n) u64

-- {"a":1,"a":2}
abbrev repeated : Tree
repeated = obj (member (codes "a") (num 1) (member (codes "a") (num 2) no_members))

abbrev refused_write : List PlainCommand
refused_write = read [] len ∷ write [] pop ∷ read [] encode ∷ []

-- A lazy document shows both members until the first write, also where that is refused.
replies-lazy : shown_all (replies_by (start_by First Lazy repeated) refused_write) ≡ codes "2\nnot an array\n{\"a\":1}\n"
unfolding digits
replies-lazy = refl

replies-owned : shown_all (replies_by (start_by First Owned repeated) refused_write) ≡ codes "1\nnot an array\n{\"a\":1}\n"
unfolding digits
replies-owned = refl

replies-borrowed : shown_all (replies_by (start_by First Borrowed repeated) refused_write) ≡ codes "1\nnot an array\n{\"a\":1}\n"
unfolding digits
replies-borrowed = refl

-- {"some": ["key", "value", 2]}
replies-first : shown_all (replies_by (start_by First Owned (obj (member (codes "some") (list (item (text (codes "key")) (item (text (codes "value")) (item (num 2) no_items)))) no_members)))
    (read [] encode ∷ write [] (insert (codes "n") (int (pos 0) i64)) ∷ write [] (insert (codes "n") (boolean true)) ∷ read [] encode ∷ []))
    ≡ codes "{\"some\":[\"key\",\"value\",2]}\nnone\n0\n{\"some\":[\"key\",\"value\",2],\"n\":true}\n"
unfolding digits
replies-first = refl

-- {"key": "value", "snot": 42}
replies-members : shown_all (replies_by (start_by First Lazy (obj (member (codes "key") (text (codes "value")) (member (codes "snot") (num 42) no_members))))
    (read (by_key (codes "key") ∷ []) str ∷ write [] (insert (codes "new") (num 42)) ∷ read [] keys ∷ read (by_key (codes "snot") ∷ []) (fits (signed 8)) ∷ write [] (remove (codes "snot")) ∷ read [] encode ∷ []))
    ≡ codes "\"value\"\nnone\n[\"key\",\"snot\",\"new\"]\ntrue\n42\n{\"key\":\"value\",\"new\":42}\n"
unfolding digits
replies-members = refl

-- [1,[2,3]]
replies-items : shown_all (replies_by (start_by First Owned (list (item (num 1) (item (list (item (num 2) (item (num 3) no_items))) no_items))))
    (read (by_place 1 ∷ []) kind ∷ read (by_place 1 ∷ []) len ∷ write (by_place 1 ∷ []) (push (obj (member (codes "a") (num 1) no_members)))
    ∷ write (by_place 0 ∷ []) (put null) ∷ write (by_place 5 ∷ []) pop ∷ write [] pop ∷ read [] (has (codes "a")) ∷ read (by_place 0 ∷ []) len
    ∷ write [] (insert (codes "k") (num 1)) ∷ bad ∷ read [] encode ∷ []))
    ≡ codes "Array\n2\nok\n1\nmissing\n[2,3,{\"a\":1}]\nfalse\nno length\nnot an object\nbad command\n[null]\n"
unfolding digits
replies-items = refl
