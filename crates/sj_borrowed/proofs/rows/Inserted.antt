-- Inserts by a known key into an empty map and into one with the member a: 1, and why an insert is refused. A lent key is a variable here: its text is the one that it lends.
use Rattle.std.proofs.Common.{◌≡◌, ℕ, pos, true, false, [], ◌∷◌, refl, codes, None, arith, ◌∙◌, sym, true≢false}
use Rattle.std.specs.Cow.{cow_str_bytes}
use Rattle.std.specs.declared.alloc.Global.{Global}
use Rattle.std.specs.declared.borrow.CowStr.{CowStr}
use Rattle.sj_text_core.specs.Tree.{u64, i128, null, boolean, int, text, list, obj, no_items, no_members}
use Rattle.sj_text_core.specs.declared.value_type.ValueType.TheVariants as kind
use Rattle.sj_object.specs.Keys.{is_borrowed}
use Rattle.sj_object.specs.HashMap.{Contents}
use Rattle.sj_object.specs.Edits.{with_value, with_entry}
use Rattle.sj_borrowed.specs.Inserts.{IsCopy, IsPut, known_fault}
use Rattle.sj_borrowed.specs.Loans.{IsInserted}
use Rattle.sj_borrowed.specs.declared.known_key.error.Error.TheVariants.{NotAnObject, OutOfMemory}

-- ---- copies

copy-itself : (key : CowStr Global) → IsCopy key key
copy-itself key = (refl, refl)

-- one that owns its text is no copy of one that lends it
not-owned : (key copy : CowStr Global) → is_borrowed key ≡ true → is_borrowed copy ≡ false → IsCopy key copy → ⊥
not-owned key copy l o h = true≢false (sym l ∙ sym h.1 ∙ o)

-- ---- what an insert leaves

put-none : (key : CowStr Global) → IsPut {V = ℕ} key 7 [] (((key, cow_str_bytes key), 7) ∷ [])
put-none key = (key, (refl, refl), refl)

-- nothing is not what an insert leaves
put-not-lost : (key : CowStr Global) → IsPut {V = ℕ} key 7 [] [] → ⊥
put-not-lost key h = let e = h.1.1 in cc

-- ---- a map of numbers whose keys are numbers, too

abbrev empty : Contents ℕ ℕ ℕ
empty = record { entries = []; hasher = 0; buckets = None; distinct = refl; room = omega arith }

-- a: 1, with the key 5
abbrev a1 : Contents ℕ ℕ ℕ
a1 = record { entries = ((5, codes "a"), 1) ∷ []; hasher = 0; buckets = None; distinct = refl; room = omega arith }

abbrev Is8 : ℕ → Type 0
Is8 copy = copy ≡ 8

-- an absent key goes last, as a copy
inserted-absent : IsInserted Is8 (codes "b") a1 (with_entry a1 (8, codes "b") 2) 2
inserted-absent = (8, refl, refl)

absent-entries : (with_entry a1 (8, codes "b") 2).entries ≡ ((5, codes "a"), 1) ∷ ((8, codes "b"), 2) ∷ []
absent-entries = refl

-- a key that is there keeps its stored key
inserted-present : IsInserted Is8 (codes "a") a1 (with_value a1 (codes "a") 2) 2
inserted-present = refl

present-entries : (with_value a1 (codes "a") 2).entries ≡ ((5, codes "a"), 2) ∷ []
present-entries = refl

inserted-first : IsInserted Is8 (codes "a") empty (with_entry empty (8, codes "a") 2) 2
inserted-first = (8, refl, refl)

-- ---- why an insert is refused

why-null : known_fault null ≡ NotAnObject kind.Null
why-null = refl

why-truth : known_fault (boolean true) ≡ NotAnObject kind.Bool
why-truth = refl

-- of a number its carrier
why-number : known_fault (int (pos 1) u64) ≡ NotAnObject kind.U64
why-number = refl

why-wide-number : known_fault (int (pos 1) i128) ≡ NotAnObject kind.I128
why-wide-number = refl

why-text : known_fault (text (codes "a")) ≡ NotAnObject kind.String
why-text = refl

why-list : known_fault (list no_items) ≡ NotAnObject kind.Array
why-list = refl

-- an object takes every member, where there is memory
why-object : known_fault (obj no_members) ≡ OutOfMemory
why-object = refl
