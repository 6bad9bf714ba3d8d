-- What is spelled is proper, and what spells is UTF-8.
use Rattle.std.proofs.Common.{◌≡◌, ℕ, zero, suc, ◌≤ℤ◌, ◌<ℤ◌, ◌<◌, ◌≤◌, ◌^◌, pos, neg_ℤ, Bool, true, false, List, [], ◌∷◌, ◌++◌, IsUtf8, Some, None, refl, sym, subst, arith, ⊎_elim, nat_lt, nat_le, ◌&&◌, if◌then◌else◌, codes}
use Rattle.std.specs.List.{AllByRecursion}
use Rattle.std.proofs.lemmas.Bool.{ltb-true, leb-true}
use Rattle.std.proofs.lemmas.Option.{none-some, same_Some}
use Rattle.std.proofs.lemmas.Str.{IsUtf8-append, IsUtf8-nil, IsUtf8-encode, encode_ascii}
use lib.Utf8.{low_scalar}
use lib.Dec.{le→leb}
use Rattle.sj_text_core.specs.Tree.{i64, u64, i128, u128, Tree, null, boolean, int, text, list, obj, Items, no_items, item, Members, no_members, member, IsProper, AreProper, HasProper}
use Rattle.sj_text_core.specs.Grammar.{IsSpace, IsBlank, IsDigit, IsNumber, IsHexDigit, IsUnit, IsItem, AreItems, IsString, Spaced, Spelling, SpellsItems, MoreItems, SpellsMembers, MoreMembers, Spells, value_of}
use Rattle.sj_text_core.proofs.Characters.{string_utf8, hex_ascii, short_ascii}

pub ascii : (c : ℕ) (p : List ℕ) → c < 128 → IsUtf8 p → IsUtf8 (c ∷ p)
ascii c p h u = IsUtf8-append (c ∷ []) p (subst (λ l. IsUtf8 l) (encode_ascii c h) (IsUtf8-encode c (low_scalar c (omega (arith, h))))) u

all_ascii : (p : List ℕ) → AllByRecursion (λ c. c < 128) p → IsUtf8 p
all_ascii [] h = IsUtf8-nil
all_ascii (c ∷ p) h = ascii c p h.0 (all_ascii p h.1)

abbrev pub is_ascii : List ℕ → Bool
is_ascii [] = true
is_ascii (c ∷ p) = nat_lt c 128 && is_ascii p

space_ascii : (c : ℕ) → IsSpace c → c < 128
space_ascii c h = ⊎_elim (λ e. omega (arith, e)) (λ h. ⊎_elim (λ e. omega (arith, e)) (λ h. ⊎_elim (λ e. omega (arith, e)) (λ e. omega (arith, e)) h) h) h

blank_utf8 : (p : List ℕ) → IsBlank p → IsUtf8 p
blank_utf8 [] h = IsUtf8-nil
blank_utf8 (c ∷ p) h = ascii c p (space_ascii c h.0) (blank_utf8 p h.1)

digits_utf8 : (p : List ℕ) → AllByRecursion IsDigit p → IsUtf8 p
digits_utf8 [] h = IsUtf8-nil
digits_utf8 (c ∷ p) h = ascii c p (omega (arith, h.0.1)) (digits_utf8 p h.1)

hex_utf8 : (p : List ℕ) → AllByRecursion IsHexDigit p → IsUtf8 p
hex_utf8 [] h = IsUtf8-nil
hex_utf8 (c ∷ p) h = ascii c p (hex_ascii c h.0) (hex_utf8 p h.1)

unit_utf8 : (u : ℕ) (p : List ℕ) → IsUnit u p → IsUtf8 p
unit_utf8 u p h = subst (λ l. IsUtf8 l) (sym h.is) (ascii 92 (117 ∷ h.digits) (omega arith) (ascii 117 h.digits (omega arith) (hex_utf8 h.digits h.hex)))

item_utf8 : (c : ℕ) (p : List ℕ) → IsItem c p → IsUtf8 p
item_utf8 c p h = ⊎_elim (λ k. subst (λ l. IsUtf8 l) (sym k.is) (IsUtf8-encode c k.scalar)) (λ h. ⊎_elim
    (λ k. subst (λ l. IsUtf8 l) (sym k.is) (ascii 92 (k.second ∷ []) (omega arith) (ascii k.second [] (short_ascii k.second c k.names) IsUtf8-nil)))
    (λ h. ⊎_elim (λ k. unit_utf8 c p k.unit) (λ k. subst (λ l. IsUtf8 l) (sym k.is) (IsUtf8-append k.first k.second (unit_utf8 k.high k.first k.first_unit) (unit_utf8 k.low k.second k.second_unit))) h) h) h

items_utf8 : (cs p : List ℕ) → AreItems cs p → IsUtf8 p
items_utf8 [] p h = subst (λ l. IsUtf8 l) (sym h) IsUtf8-nil
items_utf8 (c ∷ cs) p h = subst (λ l. IsUtf8 l) (sym h.2) (IsUtf8-append h.0 h.1 (item_utf8 c h.0 h.3) (items_utf8 cs h.1 h.4))

enclosed : (o c : ℕ) (p : List ℕ) → o < 128 → c < 128 → IsUtf8 p → IsUtf8 (o ∷ (p ++ c ∷ []))
enclosed o c p h k u = ascii o (p ++ c ∷ []) h (IsUtf8-append p (c ∷ []) u (ascii c [] k IsUtf8-nil))

spelled_string_utf8 : (p s : List ℕ) → IsString p s → IsUtf8 p
spelled_string_utf8 p s h = subst (λ l. IsUtf8 l) (sym h.is) (enclosed 34 34 h.inside (omega arith) (omega arith) (items_utf8 h.chars h.inside h.items))

spaced_utf8 : (W : List ℕ → Type 0) (b : List ℕ) → (s : Spaced W b) → IsUtf8 s.word → IsUtf8 b
spaced_utf8 W b s u = subst (λ l. IsUtf8 l) (sym s.is) (IsUtf8-append s.before (s.word ++ s.after) (blank_utf8 s.before s.blank_before) (IsUtf8-append s.word s.after u (blank_utf8 s.after s.blank_after)))

mutual
  pub spelling_utf8 : (t : Tree) (p : List ℕ) → Spelling t p → IsUtf8 p
  spelling_utf8 null p h = subst (λ l. IsUtf8 l) (sym h) (all_ascii (codes "null") (omega arith, (omega arith, (omega arith, (omega arith, tt)))))
  spelling_utf8 (boolean true) p h = subst (λ l. IsUtf8 l) (sym h) (all_ascii (codes "true") (omega arith, (omega arith, (omega arith, (omega arith, tt)))))
  spelling_utf8 (boolean false) p h = subst (λ l. IsUtf8 l) (sym h) (all_ascii (codes "false") (omega arith, (omega arith, (omega arith, (omega arith, (omega arith, tt))))))
  spelling_utf8 (int n c) p h = ⊎_elim (λ k. digits_utf8 p k.0.digits) (λ k. subst (λ l. IsUtf8 l) (sym k.1) (ascii 45 k.0 (omega arith) (digits_utf8 k.0 k.2.digits))) h
  spelling_utf8 (text s) p h = spelled_string_utf8 p s h
  spelling_utf8 (list is) p h = subst (λ l. IsUtf8 l) (sym h.1) (enclosed 91 93 h.0 (omega arith) (omega arith) (items_list_utf8 is h.0 h.2))
  spelling_utf8 (obj ms) p h = subst (λ l. IsUtf8 l) (sym h.1) (enclosed 123 125 h.0 (omega arith) (omega arith) (members_utf8 ms h.0 h.2))

  items_list_utf8 : (is : Items) (p : List ℕ) → SpellsItems is p → IsUtf8 p
  items_list_utf8 no_items p h = blank_utf8 p h
  items_list_utf8 (item t is) p h = subst (λ l. IsUtf8 l) (sym h.2) (IsUtf8-append h.0 h.1 (spaced_utf8 (λ w. Spelling t w) h.0 h.3 (spelling_utf8 t h.3.word h.3.spelled)) (more_utf8 is h.1 h.4))

  more_utf8 : (is : Items) (p : List ℕ) → MoreItems is p → IsUtf8 p
  more_utf8 no_items p h = subst (λ l. IsUtf8 l) (sym h) IsUtf8-nil
  more_utf8 (item t is) p h = subst (λ l. IsUtf8 l) (sym h.2) (ascii 44 (h.0 ++ h.1) (omega arith) (IsUtf8-append h.0 h.1 (spaced_utf8 (λ w. Spelling t w) h.0 h.3 (spelling_utf8 t h.3.word h.3.spelled)) (more_utf8 is h.1 h.4)))

  members_utf8 : (ms : Members) (p : List ℕ) → SpellsMembers ms p → IsUtf8 p
  members_utf8 no_members p h = blank_utf8 p h
  members_utf8 (member k t ms) p h = subst (λ l. IsUtf8 l) (sym h.3) (IsUtf8-append h.0 (58 ∷ (h.1 ++ h.2)) (spaced_utf8 (λ w. IsString w k) h.0 h.4 (spelled_string_utf8 h.4.word k h.4.spelled))
      (ascii 58 (h.1 ++ h.2) (omega arith) (IsUtf8-append h.1 h.2 (spaced_utf8 (λ w. Spelling t w) h.1 h.5 (spelling_utf8 t h.5.word h.5.spelled)) (more_members_utf8 ms h.2 h.6))))

  more_members_utf8 : (ms : Members) (p : List ℕ) → MoreMembers ms p → IsUtf8 p
  more_members_utf8 no_members p h = subst (λ l. IsUtf8 l) (sym h) IsUtf8-nil
  more_members_utf8 (member k t ms) p h = subst (λ l. IsUtf8 l) (sym h.3) (ascii 44 (h.0 ++ (58 ∷ (h.1 ++ h.2))) (omega arith) (IsUtf8-append h.0 (58 ∷ (h.1 ++ h.2)) (spaced_utf8 (λ w. IsString w k) h.0 h.4 (spelled_string_utf8 h.4.word k h.4.spelled))
      (ascii 58 (h.1 ++ h.2) (omega arith) (IsUtf8-append h.1 h.2 (spaced_utf8 (λ w. Spelling t w) h.1 h.5 (spelling_utf8 t h.5.word h.5.spelled)) (more_members_utf8 ms h.2 h.6)))))

-- a text that spells a tree is UTF-8
pub spells_utf8 : (b : List ℕ) (t : Tree) → Spells b t → IsUtf8 b
spells_utf8 b t s = spaced_utf8 (λ w. Spelling t w) b s (spelling_utf8 t s.word s.spelled)

-- numbers lie in their carrier's range
low_ok : (n : ℕ) → pos 0 ≤ℤ pos n
low_ok n = record { le = le→leb 0 n (omega arith) }

high_ok : (n k : ℕ) → n < k → pos n <ℤ pos k
high_ok n k h = record { lt = le→leb (suc n) k (omega (arith, h)) }

down_64 : (n : ℕ) → n ≤ 2 ^ 63 → neg_ℤ (pos (2 ^ 63)) ≤ℤ neg_ℤ (pos n)
down_64 zero h = record { le = tt }
down_64 (suc m) h = record { le = le→leb m 9223372036854775807 (omega (arith, h)) }

down_128 : (n : ℕ) → n ≤ 2 ^ 127 → neg_ℤ (pos (2 ^ 127)) ≤ℤ neg_ℤ (pos n)
down_128 zero h = record { le = tt }
down_128 (suc m) h = record { le = le→leb m 170141183460469231731687303715884105727 (omega (arith, h)) }

up_64 : (n : ℕ) → neg_ℤ (pos n) <ℤ pos (2 ^ 63)
up_64 zero = record { lt = tt }
up_64 (suc m) = record { lt = tt }

up_128 : (n : ℕ) → neg_ℤ (pos n) <ℤ pos (2 ^ 127)
up_128 zero = record { lt = tt }
up_128 (suc m) = record { lt = tt }

whole_proper : (n : ℕ) (t : Tree) (x y : Bool) → nat_lt n (2 ^ 64) ≡ x → nat_lt n (2 ^ 128) ≡ y → (if x then Some (int (pos n) u64) else if y then Some (int (pos n) u128) else None) ≡ Some t → IsProper t
whole_proper n t true y f g e = subst (λ u. IsProper u) (same_Some _ t e) (low_ok n, high_ok n (2 ^ 64) (ltb-true n (2 ^ 64) f))
whole_proper n t false true f g e = subst (λ u. IsProper u) (same_Some _ t e) (low_ok n, high_ok n (2 ^ 128) (ltb-true n (2 ^ 128) g))
whole_proper n t false false f g e = absurd (none-some t e)

negative_proper : (n : ℕ) (t : Tree) (x y : Bool) → nat_le n (2 ^ 63) ≡ x → nat_le n (2 ^ 127) ≡ y → (if x then Some (int (neg_ℤ (pos n)) i64) else if y then Some (int (neg_ℤ (pos n)) i128) else None) ≡ Some t → IsProper t
negative_proper n t true y f g e = subst (λ u. IsProper u) (same_Some _ t e) (down_64 n (leb-true n (2 ^ 63) f), up_64 n)
negative_proper n t false true f g e = subst (λ u. IsProper u) (same_Some _ t e) (down_128 n (leb-true n (2 ^ 127) g), up_128 n)
negative_proper n t false false f g e = absurd (none-some t e)

number_proper : (p : List ℕ) (t : Tree) → IsNumber p t → IsProper t
number_proper p t h = ⊎_elim (λ k. whole_proper (value_of p) t _ _ refl refl k.1) (λ k. negative_proper (value_of k.0) t _ _ refl refl k.3) h

mutual
  pub spelling_proper : (t : Tree) (p : List ℕ) → Spelling t p → IsProper t
  spelling_proper null p h = tt
  spelling_proper (boolean b) p h = tt
  spelling_proper (int n c) p h = number_proper p (int n c) h
  spelling_proper (text s) p h = string_utf8 p s h
  spelling_proper (list is) p h = items_proper is h.0 h.2
  spelling_proper (obj ms) p h = members_proper ms h.0 h.2

  items_proper : (is : Items) (p : List ℕ) → SpellsItems is p → AreProper is
  items_proper no_items p h = tt
  items_proper (item t is) p h = (spelling_proper t h.3.word h.3.spelled, more_proper is h.1 h.4)

  more_proper : (is : Items) (p : List ℕ) → MoreItems is p → AreProper is
  more_proper no_items p h = tt
  more_proper (item t is) p h = (spelling_proper t h.3.word h.3.spelled, more_proper is h.1 h.4)

  members_proper : (ms : Members) (p : List ℕ) → SpellsMembers ms p → HasProper ms
  members_proper no_members p h = tt
  members_proper (member k t ms) p h = (string_utf8 h.4.word k h.4.spelled, spelling_proper t h.5.word h.5.spelled, more_members_proper ms h.2 h.6)

  more_members_proper : (ms : Members) (p : List ℕ) → MoreMembers ms p → HasProper ms
  more_members_proper no_members p h = tt
  more_members_proper (member k t ms) p h = (string_utf8 h.4.word k h.4.spelled, spelling_proper t h.5.word h.5.spelled, more_members_proper ms h.2 h.6)

-- a tree that is spelled is proper
pub spells_proper : (b : List ℕ) (t : Tree) → Spells b t → IsProper t
spells_proper b t s = spelling_proper t s.word s.spelled
