-- What look-ups and edits do with small lists of entries, also where a text stands twice.
use Rattle.std.proofs.Common.{◌≡◌, ℕ, pos, true, false, List, [], ◌∷◌, refl, codes, Some, None}
use Rattle.sj_text_core.specs.Tree.{u64, Tree, int, no_members, member}
use Rattle.sj_object.specs.Texts.{no_repeats}
use Rattle.sj_object.specs.Entries.{Entry, entry_texts, keys, values, entries_of}
use Rattle.sj_object.specs.Members.{entry_members}
use Rattle.sj_object.specs.Edits.{lookup, position, put_entry, cut_entry, set_value, nth_value, set_value_at}

-- a key is a number of its own, beside its text
abbrev entry : ℕ → List ℕ → ℕ → Entry ℕ ℕ
entry q k v = ((q, k), v)

-- a 1, b 2
abbrev ab : List (Entry ℕ ℕ)
ab = entry 10 (codes "a") 1 ∷ entry 20 (codes "b") 2 ∷ []

-- a 1, b 2, a 3: no map has these, since one text stands twice
abbrev aba : List (Entry ℕ ℕ)
aba = entry 10 (codes "a") 1 ∷ entry 20 (codes "b") 2 ∷ entry 30 (codes "a") 3 ∷ []

distinct : no_repeats (entry_texts ab) ≡ true
distinct = refl

repeated : no_repeats (entry_texts aba) ≡ false
repeated = refl

found : lookup (codes "b") ab ≡ Some 2
found = refl

found-first : lookup (codes "a") aba ≡ Some 1
found-first = refl

absent : lookup (codes "c") ab ≡ None
absent = refl

-- the empty text is a text
absent-empty : lookup (codes "") ab ≡ None
absent-empty = refl

found-empty : lookup (codes "") (entry 10 (codes "") 7 ∷ ab) ≡ Some 7
found-empty = refl

-- a text that begins with another is another
absent-longer : lookup (codes "ab") ab ≡ None
absent-longer = refl

place : position (codes "b") ab ≡ Some 1
place = refl

place-first : position (codes "a") aba ≡ Some 0
place-first = refl

place-absent : position (codes "c") ab ≡ None
place-absent = refl

-- the stored key 10 stays, in its place
put-present : put_entry (40, codes "a") 4 ab ≡ entry 10 (codes "a") 4 ∷ entry 20 (codes "b") 2 ∷ []
put-present = refl

put-absent : put_entry (40, codes "c") 4 ab ≡ entry 10 (codes "a") 1 ∷ entry 20 (codes "b") 2 ∷ entry 40 (codes "c") 4 ∷ []
put-absent = refl

put-none : put_entry (40, codes "c") 4 [] ≡ entry 40 (codes "c") 4 ∷ []
put-none = refl

-- the first of a text alone
put-repeated : put_entry (40, codes "a") 4 aba ≡ entry 10 (codes "a") 4 ∷ entry 20 (codes "b") 2 ∷ entry 30 (codes "a") 3 ∷ []
put-repeated = refl

set-absent : set_value (codes "c") 4 ab ≡ ab
set-absent = refl

set-repeated : set_value (codes "a") 4 aba ≡ entry 10 (codes "a") 4 ∷ entry 20 (codes "b") 2 ∷ entry 30 (codes "a") 3 ∷ []
set-repeated = refl

cut-front : cut_entry (codes "a") ab ≡ entry 20 (codes "b") 2 ∷ []
cut-front = refl

cut-absent : cut_entry (codes "c") ab ≡ ab
cut-absent = refl

-- the first of a text alone
cut-repeated : cut_entry (codes "a") aba ≡ entry 20 (codes "b") 2 ∷ entry 30 (codes "a") 3 ∷ []
cut-repeated = refl

second : nth_value 1 ab ≡ Some 2
second = refl

past : nth_value 2 ab ≡ None
past = refl

second-set : set_value_at 1 9 ab ≡ entry 10 (codes "a") 1 ∷ entry 20 (codes "b") 9 ∷ []
second-set = refl

texts-row : entry_texts ab ≡ codes "a" ∷ codes "b" ∷ []
texts-row = refl

keys-row : keys ab ≡ 10 ∷ 20 ∷ []
keys-row = refl

values-row : values ab ≡ 1 ∷ 2 ∷ []
values-row = refl

entries-row : entries_of (λ q. codes "a") ((10, 1) ∷ []) ≡ entry 10 (codes "a") 1 ∷ []
entries-row = refl

abbrev n : ℕ → Tree
n m = int (pos m) u64

members-row : entry_members n aba ≡ member (codes "a") (n 1) (member (codes "b") (n 2) (member (codes "a") (n 3) no_members))
members-row = refl
