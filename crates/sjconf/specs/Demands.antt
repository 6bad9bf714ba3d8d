-- What has to stand at a place of a tree.
use Rattle.std.specs.Prelude.{◌≡◌, ◌≤◌, ◌≤ℤ◌, ◌&&◌, ◌||◌, ◌↔◌, ℤ, pos, ℕ, suc, Bool, true, false, IsTrue, List, [], ◌∷◌, Option, Some, None, IsSomeAnd, ⊤, nat_le, nat_lt, if◌then◌else◌, bytes_eq, map, string_bytes}
use Rattle.std.specs.declared.string.String.{String}
use Rattle.std.specs.declared.vec.Vec.{Vec}
use Rattle.std.specs.declared.alloc.Global.{Global}
use Rattle.sj_text_core.specs.Tree.{Tree, text, list, Members, items_len, keys_of}
use Rattle.sj_text_core.specs.Equal.{tree_eq}
use Rattle.sj_text_core.specs.Reads.{kind_of, as_members, as_signed, as_unsigned}
use Rattle.sj_kinds.specs.Kinds.{kind_in}
use Rattle.sj_kinds.specs.declared.kind.Kind.{Kind}
use Rattle.sj_pointer.specs.Pointed.{pointed}
use Rattle.sj_document.specs.declared.value.Document.{Document}
use Rattle.sj_document.specs.Document.{document_tree}
use Rattle.sjconf.specs.declared.demand.Limits.{Limits}
use Rattle.sjconf.specs.declared.demand.Demand.{Demand}

-- of the kind, where one is asked for
abbrev pub IsKind : Option Kind → Tree → Type 0
IsKind None t = ⊤
IsKind (Some k) t = kind_in (kind_of t) ≡ k

-- a whole number, by what the reads of its two ranges answer
abbrev pub either_number : Option ℤ → Option ℕ → Option ℤ
either_number (Some n) m = Some n
either_number None (Some m) = Some (pos m)
either_number None None = None

-- the number, where the tree is a whole number from -2^127 to 2^128-1
abbrev pub whole_number : Tree → Option ℤ
whole_number t = either_number (as_signed 128 t) (as_unsigned 128 t)

-- a whole number that is no less than the end, where there is one
abbrev pub IsAtLeast : Option ℤ → Tree → Type 0
IsAtLeast None t = ⊤
IsAtLeast (Some least) t = IsSomeAnd (whole_number t) (λ n. least ≤ℤ n)

-- a whole number that is no more than the end, where there is one
abbrev pub IsAtMost : Option ℤ → Tree → Type 0
IsAtMost None t = ⊤
IsAtMost (Some most) t = IsSomeAnd (whole_number t) (λ n. n ≤ℤ most)

-- how many characters UTF-8 bytes write: each byte begins one, but for those from 128 to 191 (RFC 3629, section 3)
abbrev pub characters : List ℕ → ℕ
characters [] = 0
characters (b ∷ s) = if nat_le 128 b && nat_lt b 192 then characters s else suc (characters s)

-- how many characters a text has, and how many items an array
abbrev pub length_in : Tree → Option ℕ
length_in (text s) = Some (characters s)
length_in (list is) = Some (items_len is)
length_in _ = None

-- of a length that is no less than the end, where there is one
abbrev pub IsAsLong : Option ℕ → Tree → Type 0
IsAsLong None t = ⊤
IsAsLong (Some least) t = IsSomeAnd (length_in t) (λ n. least ≤ n)

-- of a length that is no more than the end, where there is one
abbrev pub IsAsShort : Option ℕ → Tree → Type 0
IsAsShort None t = ⊤
IsAsShort (Some most) t = IsSomeAnd (length_in t) (λ n. n ≤ most)

-- the same document as one of those
abbrev pub is_same_as_one : Tree → List (Document (String Global)) → Bool
is_same_as_one t [] = false
is_same_as_one t (v ∷ vs) = tree_eq t (document_tree string_bytes v) || is_same_as_one t vs

-- one of the choices, where there are any
abbrev pub is_choice : Option (Vec (Document (String Global)) Global) → Tree → Bool
is_choice None t = true
is_choice (Some vs) t = is_same_as_one t vs.items

abbrev pub is_one_of : List ℕ → List (List ℕ) → Bool
is_one_of k [] = false
is_one_of k (l ∷ ls) = bytes_eq l k || is_one_of k ls

-- the token with which tokens go on behind those of p; none where they do not begin so, or end there
abbrev pub next_of : List (List ℕ) → List (List ℕ) → Option (List ℕ)
next_of [] [] = None
next_of [] (k ∷ ks) = Some k
next_of (l ∷ p) [] = None
next_of (l ∷ p) (k ∷ ks) = if bytes_eq k l then next_of p ks else None

abbrev pub is_that : List ℕ → Option (List ℕ) → Bool
is_that k None = false
is_that k (Some l) = bytes_eq l k

-- one of the places goes on with the key behind p
abbrev pub is_named : List ℕ → List (List ℕ) → List (List (List ℕ)) → Bool
is_named k p [] = false
is_named k p (q ∷ qs) = is_that k (next_of p q) || is_named k p qs

-- each is one of ks
abbrev pub are_of : List (List ℕ) → List (List ℕ) → Bool
are_of ks [] = true
are_of ks (l ∷ ls) = is_one_of l ks && are_of ks ls

abbrev pub members_are_of : List (List ℕ) → Option Members → Bool
members_are_of ks None = true
members_are_of ks (Some ms) = are_of ks (keys_of ms)

-- an object has no other keys than those that are asked for, where any are
abbrev pub has_only : Option (Vec (String Global) Global) → Tree → Bool
has_only None t = true
has_only (Some ks) t = members_are_of (map string_bytes ks.items) (as_members t)

-- within the limits
abbrev pub Admits : Limits → Tree → Type 0
Admits l t = IsKind l.kind t × IsAtLeast l.least t × IsAtMost l.most t × IsAsLong l.shortest t × IsAsShort l.longest t

-- the tree itself is what the demand asks for, whatever its keys
abbrev pub IsWanted : Demand → Tree → Type 0
IsWanted d t = Admits d.limits t × (is_choice d.choices t ≡ true)

-- and has no other keys
abbrev pub Suits : Demand → Tree → Type 0
Suits d t = IsWanted d t × (has_only d.keys t ≡ true)

abbrev pub FoundSuits : Demand → Option Tree → Type 0
FoundSuits d None = d.is_required ≡ false
FoundSuits d (Some t) = Suits d t

-- what stands at the place is what the demand asks for; where nothing stands, nothing has to
abbrev pub IsMet : Demand → Tree → Type 0
IsMet d t = FoundSuits d (pointed d.place t)

-- a verdict on each demand, in order: whether the tree meets it
abbrev pub Judged : Tree → List Demand → List Bool → Type 0
Judged t [] [] = ⊤
Judged t [] (b ∷ bs) = ⊥
Judged t (d ∷ ds) [] = ⊥
Judged t (d ∷ ds) (b ∷ bs) = (IsTrue b ↔ IsMet d t) × Judged t ds bs

-- it meets each of them
abbrev pub AllMet : Tree → List Demand → Type 0
AllMet t [] = ⊤
AllMet t (d ∷ ds) = IsMet d t × AllMet t ds
