-- Pairs of trees that are the same document, and pairs that are not, from either side.
use Rattle.std.proofs.Common.{◌≡◌, ℕ, pos, Bool, true, false, List, refl, sym, ◌∙◌, codes, Some, None, if◌then◌else◌, bytes_eq, true≢false}
use Rattle.std.specs.Prelude.{MatchBool, MatchOption}
use Rattle.std.proofs.lemmas.Slice.Eq.{bytes_eq-Decides}
use Rattle.sj_text_core.specs.Tree.{u64, i64, Tree, null, boolean, int, text, list, obj, no_items, item, no_members, member}
use Rattle.sj_text_core.specs.Same.{Same}

abbrev one : Tree
one = int (pos 1) u64

abbrev two : Tree
two = int (pos 2) u64

-- {"a":1,"b":2}
abbrev ab : Tree
ab = obj (member (codes "a") one (member (codes "b") two no_members))

-- {"b":2,"a":1}
abbrev ba : Tree
ba = obj (member (codes "b") two (member (codes "a") one no_members))

-- {"a":1}
abbrev a : Tree
a = obj (member (codes "a") one no_members)

-- {"b":1}
abbrev b : Tree
b = obj (member (codes "b") one no_members)

-- {"a":1,"a":2}
abbrev aa : Tree
aa = obj (member (codes "a") one (member (codes "a") two no_members))

-- no text is both keys
apart : (k : List ℕ) → bytes_eq k (codes "a") ≡ true → bytes_eq k (codes "b") ≡ true → ⊥
apart k x y = true≢false (sym x ∙ ((λ i. bytes_eq ((bytes_eq-Decides k (codes "b")).0 y i) (codes "a")) ∙ refl))

two_members : (t u : Tree) (x y : Bool) → (x ≡ true → y ≡ true → ⊥) → Same t t → Same u u
    → MatchBool x (MatchOption (if y then Some u else if x then Some t else None) ⊥ (λ v. Same t v))
    (MatchBool y (MatchOption (if y then Some u else if x then Some t else None) ⊥ (λ v. Same u v)) ((if y then Some u else if x then Some t else None) ≡ None))
two_members t u true true h p q = absurd (h refl refl)
two_members t u true false h p q = p
two_members t u false true h p q = q
two_members t u false false h p q = refl

same-other_order : Same ab ba
same-other_order = λ k. two_members one two (bytes_eq k (codes "a")) (bytes_eq k (codes "b")) (apart k) refl refl

same-other_order_back : Same ba ab
same-other_order_back = λ k. two_members two one (bytes_eq k (codes "b")) (bytes_eq k (codes "a")) (λ y x. apart k x y) refl refl

repeat : (x : Bool) → MatchBool x (MatchOption (if x then Some one else None) ⊥ (λ v. Same one v)) (MatchBool x (MatchOption (if x then Some one else None) ⊥ (λ v. Same two v)) ((if x then Some one else None) ≡ None))
repeat true = refl
repeat false = refl

same-repeat : Same aa a
same-repeat = λ k. repeat (bytes_eq k (codes "a"))

repeat_back : (x : Bool) → MatchBool x (MatchOption (if x then Some one else if x then Some two else None) ⊥ (λ v. Same one v)) ((if x then Some one else if x then Some two else None) ≡ None)
repeat_back true = refl
repeat_back false = refl

same-repeat_back : Same a aa
same-repeat_back = λ k. repeat_back (bytes_eq k (codes "a"))

same-carriers : Same (int (pos 5) i64) (int (pos 5) u64)
same-carriers = refl

same-carriers_back : Same (int (pos 5) u64) (int (pos 5) i64)
same-carriers_back = refl

-- [1,2] and [2,1]
not_same-order : Same (list (item one (item two no_items))) (list (item two (item one no_items))) → ⊥
not_same-order h = let e : pos 1 ≡ pos 2 = h.0 in cc e

not_same-order_back : Same (list (item two (item one no_items))) (list (item one (item two no_items))) → ⊥
not_same-order_back h = let e : pos 2 ≡ pos 1 = h.0 in cc e

not_same-keys : Same a b → ⊥
not_same-keys h = h (codes "a")

not_same-keys_back : Same b a → ⊥
not_same-keys_back h = h (codes "b")

not_same-fewer : Same a ab → ⊥
not_same-fewer h = let e : Some two ≡ None = h (codes "b") in cc e

not_same-fewer_back : Same ab a → ⊥
not_same-fewer_back h = h (codes "b")

not_same-empty : Same (list no_items) (obj no_members) → ⊥
not_same-empty h = h

not_same-text : Same (text (codes "1")) one → ⊥
not_same-text h = let e : one ≡ text (codes "1") = h in cc e

-- [1] and [1,2]
not_same-beginning : Same (list (item one no_items)) (list (item one (item two no_items))) → ⊥
not_same-beginning h = let e : item two no_items ≡ no_items = h.1 in cc e

not_same-beginning_back : Same (list (item one (item two no_items))) (list (item one no_items)) → ⊥
not_same-beginning_back h = h.1

same-null : Same null null
same-null = refl

not_same-null : Same null (boolean false) → ⊥
not_same-null h = let e : boolean false ≡ null = h in cc e

not_same-null_back : Same (boolean false) null → ⊥
not_same-null_back h = let e : null ≡ boolean false = h in cc e

same-true : Same (boolean true) (boolean true)
same-true = refl

not_same-truth : Same (boolean true) (boolean false) → ⊥
not_same-truth h = let e : boolean false ≡ boolean true = h in cc e

-- objects with one member of one text
one_member : (t u : Tree) (x : Bool) → Same t u → MatchBool x (MatchOption (if x then Some u else None) ⊥ (λ v. Same t v)) ((if x then Some u else None) ≡ None)
one_member t u true h = h
one_member t u false h = refl

-- {"b":{"a":1,"a":2}} and {"b":{"a":1}}
same-inner_repeat : Same (obj (member (codes "b") aa no_members)) (obj (member (codes "b") a no_members))
same-inner_repeat = λ k. one_member aa a (bytes_eq k (codes "b")) same-repeat

same-inner_repeat_back : Same (obj (member (codes "b") a no_members)) (obj (member (codes "b") aa no_members))
same-inner_repeat_back = λ k. one_member a aa (bytes_eq k (codes "b")) same-repeat_back

-- [{"a":1,"a":2}] and [{"a":2}]
not_same-inner_last : Same (list (item aa no_items)) (list (item (obj (member (codes "a") two no_members)) no_items)) → ⊥
not_same-inner_last h = let e : pos 1 ≡ pos 2 = h.0 (codes "a") in cc e
