-- What is read is spelled.
use Rattle.std.proofs.Common.{◌≡◌, ◌⊎◌, ℕ, zero, suc, ◌+◌, ◌≤◌, Bool, true, false, cond, List, [], ◌∷◌, ◌++◌, length, take, drop, get_or, option_map, Option, Some, None, refl, sym, ap, subst, ◌∙◌, arith, append_assoc, inl, inr, ⊎_elim, codes, ◌==◌, nat_lt, nat_le, ◌&&◌, ◌^◌, ℤ, pos, neg_ℤ, eqb-true}
use Rattle.std.specs.List.{AllByRecursion, starts_with}
use Rattle.std.proofs.lemmas.Bool.{and_parts}
use Rattle.std.proofs.lemmas.Bool.Decides.{nat_tests}
use Rattle.std.proofs.lemmas.Option.{none-some, same_Some, option_and_then_some, cond_some, some_pair_parts}
use Rattle.std.proofs.lemmas.List.{take-append-drop}
use Rattle.sj_text_core.specs.Tree.{Carrier, i64, u64, i128, u128, Tree, null, boolean, int, text, list, obj, depth, items_depth, members_depth}
use Rattle.sj_text_core.specs.Grammar.{IsBlank, IsDigit, IsNumeral, IsNumber, value_of, number_of}
use Rattle.sj_tape.proofs.Bytewise.{IsString, Spelling, SpellsItems, MoreItems, SpellsMembers, MoreMembers}
use Rattle.sj_text_core.proofs.parse.Escapes.{text_ends}
use Rattle.sj_text_core.specs.inner.Parse.{Reading, after_blank, read_text, after_key, read_member, is_digit, digits_len, goes_on, numeral_at, number_at, word_at, parts_at, all_parts_at, list_at, obj_at, read_value, value_by, nothing_at}
use Rattle.sj_text_core.specs.Tree.{items_from, members_from}
use Rattle.sj_text_core.proofs.parse.Steps.{by_cases, blank_off, digits_are}
use Rattle.sj_tape.proofs.Fronts.{parts_sound, Front, Sound, Word, More, PartsFront}

-- lists
abbrev pub Deep : ℕ → Tree → List ℕ → Type 0
Deep d t w = Spelling t w × (depth t ≤ d)

items_more : (d : ℕ) (ts : List Tree) (b : List ℕ) → More (Deep d) ts b → MoreItems (items_from ts) b × (items_depth (items_from ts) ≤ d)
items_more d [] b h = (h, omega arith)
items_more d (t ∷ ts) b h =
    let w = h.4 in
    let k = items_more d ts w.rest w.more in (
      (
        h.0 ++ (w.word ++ w.after),
        w.rest,
        h.2 ∙ ap (λ l. 44 ∷ (h.0 ++ l)) w.is ∙ ap (λ l. 44 ∷ l) (regroup h.0 w.word w.after w.rest),
        record { before = h.0; word = w.word; after = w.after; is = refl; blank_before = h.3; spelled = w.spelled.0; blank_after = w.blank },
        k.0,
      ),
      omega (arith, k.1, w.spelled.1),
    )
  where
    regroup : (a b c e : List ℕ) → a ++ (b ++ (c ++ e)) ≡ (a ++ (b ++ c)) ++ e
    regroup a b c e = simp append_assoc

items_spelled : (d : ℕ) (t : Tree) (ts : List Tree) (before inside : List ℕ) → IsBlank before → Word (λ w. Deep d t w) (λ r. More (Deep d) ts r) inside
    → SpellsItems (items_from (t ∷ ts)) (before ++ inside) × (items_depth (items_from (t ∷ ts)) ≤ d)
items_spelled d t ts before inside h w =
    let k = items_more d ts w.rest w.more in (
      (
        before ++ (w.word ++ w.after),
        w.rest,
        ap (λ l. before ++ l) w.is ∙ regroup before w.word w.after w.rest,
        record { before = before; word = w.word; after = w.after; is = refl; blank_before = h; spelled = w.spelled.0; blank_after = w.blank },
        k.0,
      ),
      omega (arith, k.1, w.spelled.1),
    )
  where
    regroup : (a b c e : List ℕ) → a ++ (b ++ (c ++ e)) ≡ (a ++ (b ++ c)) ++ e
    regroup a b c e = simp append_assoc

first_is : (c : List ℕ) (k : ℕ) → get_or c 0 0 ≡ suc k → c ≡ suc k ∷ drop 1 c
first_is [] k e = absurd (omega (arith, e))
first_is (x ∷ c) k e = ap (λ y. y ∷ c) e

-- a result under a map
pub option_map_pair : {X : Type 0} (g : X → Tree) (o : Reading X) (t : Tree) (r : List ℕ) → option_map {U = Tree × List ℕ} (λ p. (g p.0, p.1)) o ≡ Some (t, r) → (x : X) × (o ≡ Some (x, r)) × (g x ≡ t)
option_map_pair g None t r e = absurd (none-some (t, r) e)
option_map_pair g (Some p) t r e = let k = some_pair_parts (g p.0) t p.1 r e in (p.0, ap (λ l. Some (p.0, l)) k.1, k.0)

-- what follows an opening bracket
abbrev pub InList : ℕ → Tree → List ℕ → Type 0
InList d t p = Spelling t (91 ∷ p) × (depth t ≤ suc d)

list_of : (d : ℕ) (b before c r : List ℕ) (xs : List Tree) → IsBlank before → b ≡ before ++ c → PartsFront (Deep d) 93 c xs r → Front (InList d) b (list (items_from xs)) r
list_of d b before c r xs h e f =
    let k = items_spelled d f.head f.tail before f.inside h f.spelled in
    subst (λ l. Front (InList d) b (list (items_from l)) r) (sym f.split) (record {
      front = (before ++ f.inside) ++ 93 ∷ [];
      is = e ∙ (ap (λ l. before ++ l) f.is ∙ regroup before f.inside r);
      has = ((before ++ f.inside, refl, k.0), omega (arith, k.1));
    })
  where
    regroup : (a b r : List ℕ) → a ++ (b ++ (93 ∷ r)) ≡ ((a ++ b) ++ 93 ∷ []) ++ r
    regroup a b r = simp append_assoc

-- a list that is read is spelled
pub list_sound : (d : ℕ) → Sound (Deep d) (read_value d) → Sound (InList d) (list_at (read_value d))
list_sound d h b t r e =
    let q = blank_off b in
    let m = option_map_pair (λ l. list (items_from l)) (all_parts_at 93 (read_value d) (after_blank b)) t r e in
    subst (λ u. Front (InList d) b u r) m.2 (by_cases (get_or (after_blank b) 0 0 == 93)
    (λ c. let f : all_parts_at 93 (read_value d) (after_blank b) ≡ Some ([], drop 1 (after_blank b)) = ap (λ k. cond k (Some ([], drop 1 (after_blank b))) (parts_at 93 (read_value d) (length (after_blank b)) (after_blank b))) c in
    let k = some_pair_parts [] m.0 (drop 1 (after_blank b)) r (sym f ∙ m.1) in
    subst (λ l. Front (InList d) b (list (items_from l)) r) k.0 (record {
      front = q.front ++ 93 ∷ [];
      is = q.is ∙ (ap (λ l. q.front ++ l) (first_is (after_blank b) 92 (eqb-true _ _ c)) ∙ (ap (λ l. q.front ++ (93 ∷ l)) k.1 ∙ sym (append_assoc q.front (93 ∷ []) r)));
      has = ((q.front, refl, q.blank), omega arith);
    }))
    (λ c. let f : all_parts_at 93 (read_value d) (after_blank b) ≡ parts_at 93 (read_value d) (length (after_blank b)) (after_blank b) = ap (λ k. cond k (Some ([], drop 1 (after_blank b))) (parts_at 93 (read_value d) (length (after_blank b)) (after_blank b))) c in
    list_of d b q.front (after_blank b) r m.0 q.blank q.is (parts_sound (Deep d) 93 (read_value d) h (length (after_blank b)) (after_blank b) m.0 r (sym f ∙ m.1))))

-- scalars
pub three_tests : {Y : Type 0} (a b c : Bool) (o : Option Y) (y : Y) → cond a None (cond b None (cond c None o)) ≡ Some y → (a ≡ false) × (b ≡ false) × (c ≡ false) × (o ≡ Some y)
three_tests true b c o y e = absurd (none-some y e)
three_tests false true c o y e = absurd (none-some y e)
three_tests false false true o y e = absurd (none-some y e)
three_tests false false false o y e = (refl, refl, refl, e)

digits_len_le : (b : List ℕ) → digits_len b ≤ length b
digits_len_le [] = omega arith
digits_len_le (c ∷ b) = by_cases (is_digit c)
    (λ e. omega (arith, ap (λ t. cond t (digits_len b + 1) 0) e, digits_len_le b))
    (λ e. omega (arith, ap (λ t. cond t (digits_len b + 1) 0) e))

numeral_front : (b : List ℕ) (n : ℕ) → n ≤ length b → (n == 0) ≡ false → ((get_or b 0 0 == 48) && nat_lt 1 n) ≡ false → AllByRecursion IsDigit (take n b) → IsNumeral (take n b)
numeral_front [] n h z p d = absurd (empty n h z)
  where
    empty : (n : ℕ) → n ≤ 0 → (n == 0) ≡ false → ⊥
    empty n h z = grind (arith, nat_tests)
numeral_front (x ∷ b) zero h z p d = absurd (zero_is z)
  where
    zero_is : (0 == 0) ≡ false → ⊥
    zero_is z = cc
numeral_front (x ∷ b) (suc n) h z p d = record {
  some = omega arith;
  digits = d;
  plain = λ e. subst (λ (m : ℕ). take (suc m) (x ∷ b) ≡ 48 ∷ []) (sym (alone x n e p)) (ap (λ y. y ∷ []) e);
}
  where
    alone : (x n : ℕ) → x ≡ 48 → ((x == 48) && nat_lt 1 (suc n)) ≡ false → n ≡ 0
    alone x n e p = grind (arith, nat_tests)

number_int : (m : Bool) (n : ℕ) (t : Tree) → number_of m n ≡ Some t → (z : ℤ) × (c : Carrier) × (t ≡ int z c)
number_int true n t e = by_cases (nat_le n (2 ^ 63))
    (λ a. (_, _, sym (same_Some _ t (sym (ap (λ k. cond k (Some (int (neg_ℤ (pos n)) i64)) (cond (nat_le n (2 ^ 127)) (Some (int (neg_ℤ (pos n)) i128)) None)) a) ∙ e))))
    (λ a. let r = cond_some (nat_le n (2 ^ 127)) (int (neg_ℤ (pos n)) i128) t (sym (ap (λ k. cond k (Some (int (neg_ℤ (pos n)) i64)) (cond (nat_le n (2 ^ 127)) (Some (int (neg_ℤ (pos n)) i128)) None)) a) ∙ e) in
    (_, _, sym r.1))
number_int false n t e = by_cases (nat_lt n (2 ^ 64))
    (λ a. (_, _, sym (same_Some _ t (sym (ap (λ k. cond k (Some (int (pos n) u64)) (cond (nat_lt n (2 ^ 128)) (Some (int (pos n) u128)) None)) a) ∙ e))))
    (λ a. let r = cond_some (nat_lt n (2 ^ 128)) (int (pos n) u128) t (sym (ap (λ k. cond k (Some (int (pos n) u64)) (cond (nat_lt n (2 ^ 128)) (Some (int (pos n) u128)) None)) a) ∙ e) in
    (_, _, sym r.1))

number_deep : (d : ℕ) (m : Bool) (n : ℕ) (t : Tree) (p : List ℕ) → number_of m n ≡ Some t → IsNumber p t → Deep d t p
number_deep d m n t p e h =
    let k = number_int m n t e in
    subst (λ u. Deep d u p) (sym k.2) (subst (λ u. IsNumber p u) k.2 h, omega arith)

tagged : (o : Option Tree) (s : List ℕ) (t : Tree) (r : List ℕ) → option_map {U = Tree × List ℕ} (λ u. (u, s)) o ≡ Some (t, r) → (o ≡ Some t) × (s ≡ r)
tagged None s t r e = absurd (none-some (t, r) e)
tagged (Some u) s t r e = let k = some_pair_parts u t s r e in (ap (λ v. Some v) k.0, k.1)

numeral_sound : (m : Bool) (b : List ℕ) (t : Tree) (r : List ℕ) → numeral_at m (digits_len b) b ≡ Some (t, r)
    → (p : List ℕ) × (b ≡ p ++ r) × IsNumeral p × (number_of m (value_of p) ≡ Some t)
numeral_sound m b t r e =
    let k = three_tests (digits_len b == 0) ((get_or b 0 0 == 48) && nat_lt 1 (digits_len b)) (goes_on (drop (digits_len b) b)) _ (t, r) e in
    let o = tagged (number_of m (value_of (take (digits_len b) b))) (drop (digits_len b) b) t r k.3 in (
      take (digits_len b) b,
      sym (take-append-drop (digits_len b) b) ∙ ap (λ l. take (digits_len b) b ++ l) o.1,
      numeral_front b (digits_len b) (digits_len_le b) k.0 k.1 (digits_are b),
      o.0,
    )

-- a number was taken off the front
pub number_front : (b : List ℕ) (t : Tree) (r : List ℕ) → number_at b ≡ Some (t, r) → (p : List ℕ) × (b ≡ p ++ r) × IsNumber p t
number_front b t r e = by_cases (get_or b 0 0 == 45)
    (λ c. let f : numeral_at true (digits_len (drop 1 b)) (drop 1 b) ≡ Some (t, r) = sym (ap (λ k. cond k (numeral_at true (digits_len (drop 1 b)) (drop 1 b)) (numeral_at false (digits_len b) b)) c) ∙ e in
    let k = numeral_sound true (drop 1 b) t r f in
    (45 ∷ k.0, first_is b 44 (eqb-true _ _ c) ∙ ap (λ l. 45 ∷ l) k.1, inr (k.0, refl, k.2, k.3)))
    (λ c. let f : numeral_at false (digits_len b) b ≡ Some (t, r) = sym (ap (λ k. cond k (numeral_at true (digits_len (drop 1 b)) (drop 1 b)) (numeral_at false (digits_len b) b)) c) ∙ e in
    let k = numeral_sound false b t r f in
    (k.0, k.1, inl (k.2, k.3)))

-- a number that is read is spelled
pub number_sound : (d : ℕ) → Sound (Deep d) number_at
number_sound d b t r e =
    let k = number_front b t r e in
    record { front = k.0; is = k.1; has = ⊎_elim (λ h. number_deep d false (value_of k.0) t k.0 h.1 k.2) (λ h. number_deep d true (value_of h.0) t k.0 h.3 k.2) k.2 }

-- a text behind its first quote
abbrev pub BehindQuote : List ℕ → List ℕ → Type 0
BehindQuote s p = IsString (34 ∷ p) s

-- a text that is read ends with a quote
pub text_sound : Sound BehindQuote read_text
text_sound b s r e =
    let k = text_ends 0 b s r e in record {
      front = k.0 ++ 34 ∷ [];
      is = k.1 ∙ sym (append_assoc k.0 (34 ∷ []) r);
      has = record { inside = k.0; rest = r; is = refl; was = ap (λ l. read_text l) (sym k.1) ∙ e };
    }

-- words
starts_are : (w b : List ℕ) → starts_with ◌==◌ b w ≡ true → b ≡ w ++ drop (length w) b
starts_are [] b e = refl
starts_are (x ∷ w) [] e = absurd (false-true e)
  where
    false-true : false ≡ true → ⊥
    false-true h = cc
starts_are (x ∷ w) (y ∷ b) e =
    let k = and_parts (x == y) (starts_with ◌==◌ b w) e in
    ap (λ l. y ∷ l) (starts_are w b k.1) ∙ ap (λ z. z ∷ (w ++ drop (length w) b)) (sym (eqb-true x y k.0))

-- a word that is read is spelled
pub word_sound : (d : ℕ) (w : List ℕ) (u : Tree) → Deep d u w → Sound (Deep d) (word_at w u)
word_sound d w u h b t r e =
    let k = cond_some (starts_with ◌==◌ b w) (u, drop (length w) b) (t, r) e in
    let q = some_pair_parts u t (drop (length w) b) r (ap (λ z. Some z) k.1) in
    subst (λ v. Front (Deep d) b v r) q.0 (record { front = w; is = starts_are w b k.0 ∙ ap (λ l. w ++ l) q.1; has = h })

abbrev pub InObj : ℕ → Tree → List ℕ → Type 0
InObj d t p = Spelling t (123 ∷ p) × (depth t ≤ suc d)

-- members
abbrev pub DeepMember : ℕ → (List ℕ × Tree) → List ℕ → Type 0
DeepMember d m w = (key : List ℕ) × (after : List ℕ) × (before : List ℕ) × (word : List ℕ) × (w ≡ key ++ (after ++ (58 ∷ (before ++ word)))) × IsString key m.0 × IsBlank after × IsBlank before × Deep d m.1 word

guarded : {Y : Type 0} (b : Bool) (o : Option Y) (y : Y) → cond b o None ≡ Some y → (b ≡ true) × (o ≡ Some y)
guarded true o y e = (refl, e)
guarded false o y e = absurd (none-some y e)

keyed : (k : List ℕ) (o : Reading Tree) (m : List ℕ × Tree) (r : List ℕ) → option_map {U = (List ℕ × Tree) × List ℕ} (λ q. ((k, q.0), q.1)) o ≡ Some (m, r) → (t : Tree) × (o ≡ Some (t, r)) × ((k, t) ≡ m)
keyed k None m r e = absurd (none-some (m, r) e)
keyed k (Some q) m r e = let z = some_pair_parts (k, q.0) m q.1 r e in (q.0, ap (λ l. Some (q.0, l)) z.1, z.0)

member_of : (d : ℕ) → Sound (Deep d) (read_value d) → (b s c : List ℕ) (m : List ℕ × Tree) (r : List ℕ) → b ≡ 34 ∷ drop 1 b → Front BehindQuote (drop 1 b) s c
    → after_key (read_value d) s (after_blank c) ≡ Some (m, r) → Front (DeepMember d) b m r
member_of d h b s c m r e f g =
    let q = blank_off c in
    let u = guarded (get_or (after_blank c) 0 0 == 58) (option_map {U = (List ℕ × Tree) × List ℕ} (λ p. ((s, p.0), p.1)) (read_value d (after_blank (drop 1 (after_blank c))))) (m, r) g in
    let k = keyed s (read_value d (after_blank (drop 1 (after_blank c)))) m r u.1 in
    let v = h (after_blank (drop 1 (after_blank c))) k.0 r k.1 in
    let p = blank_off (drop 1 (after_blank c)) in
    subst (λ n. Front (DeepMember d) b n r) k.2 (record {
      front = (34 ∷ f.front) ++ (q.front ++ (58 ∷ (p.front ++ v.front)));
      is = e ∙ (ap (λ l. 34 ∷ l) (f.is ∙ ap (λ l. f.front ++ l) (q.is ∙ ap (λ l. q.front ++ l) (first_is (after_blank c) 57 (eqb-true _ _ u.0) ∙ ap (λ l. 58 ∷ l) (p.is ∙ ap (λ l. p.front ++ l) v.is)))) ∙ ap (λ l. 34 ∷ l) (regroup f.front q.front p.front v.front r));
      has = (34 ∷ f.front, q.front, p.front, v.front, refl, f.has, q.blank, p.blank, v.has);
    })
  where
    regroup : (a b c d r : List ℕ) → a ++ (b ++ (58 ∷ (c ++ (d ++ r)))) ≡ (a ++ (b ++ (58 ∷ (c ++ d)))) ++ r
    regroup a b c d r = simp append_assoc

-- a member that is read is spelled
pub member_sound : (d : ℕ) → Sound (Deep d) (read_value d) → Sound (DeepMember d) (read_member (read_value d))
member_sound d h b m r e =
    let u = guarded (get_or b 0 0 == 34) _ (m, r) e in
    option_and_then_some _ (read_text (drop 1 b)) (m, r) u.1 (λ p e1 e2.
    member_of d h b p.0 p.1 m r (first_is b 33 (eqb-true _ _ u.0)) (text_sound (drop 1 b) p.0 p.1 e1) e2)

members_split : (before key a1 b2 vs after rest : List ℕ) → before ++ ((key ++ (a1 ++ (58 ∷ (b2 ++ vs)))) ++ (after ++ rest)) ≡ (before ++ (key ++ a1)) ++ (58 ∷ ((b2 ++ (vs ++ after)) ++ rest))
members_split before key a1 b2 vs after rest = simp append_assoc

members_more : (d : ℕ) (ms : List (List ℕ × Tree)) (b : List ℕ) → More (DeepMember d) ms b → MoreMembers (members_from ms) b × (members_depth (members_from ms) ≤ d)
members_more d [] b h = (h, omega arith)
members_more d (m ∷ ms) b h =
    let w = h.4 in
    let n = w.spelled in
    let k = members_more d ms w.rest w.more in (
      (
        h.0 ++ (n.0 ++ n.1),
        n.2 ++ (n.3 ++ w.after),
        w.rest,
        h.2 ∙ ap (λ l. 44 ∷ (h.0 ++ l)) (w.is ∙ ap (λ l. l ++ (w.after ++ w.rest)) n.4) ∙ ap (λ l. 44 ∷ l) (members_split h.0 n.0 n.1 n.2 n.3 w.after w.rest),
        record { before = h.0; word = n.0; after = n.1; is = refl; blank_before = h.3; spelled = n.5; blank_after = n.6 },
        record { before = n.2; word = n.3; after = w.after; is = refl; blank_before = n.7; spelled = n.8.0; blank_after = w.blank },
        k.0,
      ),
      omega (arith, k.1, n.8.1),
    )

members_spelled : (d : ℕ) (m : List ℕ × Tree) (ms : List (List ℕ × Tree)) (before inside : List ℕ) → IsBlank before → Word (λ w. DeepMember d m w) (λ r. More (DeepMember d) ms r) inside
    → SpellsMembers (members_from (m ∷ ms)) (before ++ inside) × (members_depth (members_from (m ∷ ms)) ≤ d)
members_spelled d m ms before inside h w =
    let n = w.spelled in
    let k = members_more d ms w.rest w.more in (
      (
        before ++ (n.0 ++ n.1),
        n.2 ++ (n.3 ++ w.after),
        w.rest,
        ap (λ l. before ++ l) (w.is ∙ ap (λ l. l ++ (w.after ++ w.rest)) n.4) ∙ members_split before n.0 n.1 n.2 n.3 w.after w.rest,
        record { before = before; word = n.0; after = n.1; is = refl; blank_before = h; spelled = n.5; blank_after = n.6 },
        record { before = n.2; word = n.3; after = w.after; is = refl; blank_before = n.7; spelled = n.8.0; blank_after = w.blank },
        k.0,
      ),
      omega (arith, k.1, n.8.1),
    )

obj_of : (d : ℕ) (b before c r : List ℕ) (xs : List (List ℕ × Tree)) → IsBlank before → b ≡ before ++ c → PartsFront (DeepMember d) 125 c xs r → Front (InObj d) b (obj (members_from xs)) r
obj_of d b before c r xs h e f =
    let k = members_spelled d f.head f.tail before f.inside h f.spelled in
    subst (λ l. Front (InObj d) b (obj (members_from l)) r) (sym f.split) (record {
      front = (before ++ f.inside) ++ 125 ∷ [];
      is = e ∙ (ap (λ l. before ++ l) f.is ∙ regroup before f.inside r);
      has = ((before ++ f.inside, refl, k.0), omega (arith, k.1));
    })
  where
    regroup : (a b r : List ℕ) → a ++ (b ++ (125 ∷ r)) ≡ ((a ++ b) ++ 125 ∷ []) ++ r
    regroup a b r = simp append_assoc

-- an object that is read is spelled
pub obj_sound : (d : ℕ) → Sound (Deep d) (read_value d) → Sound (InObj d) (obj_at (read_value d))
obj_sound d h b t r e =
    let q = blank_off b in
    let read : List ℕ → Reading (List ℕ × Tree) = read_member (read_value d) in
    let m = option_map_pair (λ l. obj (members_from l)) (all_parts_at 125 read (after_blank b)) t r e in
    subst (λ u. Front (InObj d) b u r) m.2 (by_cases (get_or (after_blank b) 0 0 == 125)
    (λ c. let f : all_parts_at 125 read (after_blank b) ≡ Some ([], drop 1 (after_blank b)) = ap (λ k. cond k (Some ([], drop 1 (after_blank b))) (parts_at 125 read (length (after_blank b)) (after_blank b))) c in
    let k = some_pair_parts [] m.0 (drop 1 (after_blank b)) r (sym f ∙ m.1) in
    subst (λ l. Front (InObj d) b (obj (members_from l)) r) k.0 (record {
      front = q.front ++ 125 ∷ [];
      is = q.is ∙ (ap (λ l. q.front ++ l) (first_is (after_blank b) 124 (eqb-true _ _ c)) ∙ (ap (λ l. q.front ++ (125 ∷ l)) k.1 ∙ sym (append_assoc q.front (125 ∷ []) r)));
      has = ((q.front, refl, q.blank), omega arith);
    }))
    (λ c. let f : all_parts_at 125 read (after_blank b) ≡ parts_at 125 read (length (after_blank b)) (after_blank b) = ap (λ k. cond k (Some ([], drop 1 (after_blank b))) (parts_at 125 read (length (after_blank b)) (after_blank b))) c in
    obj_of d b q.front (after_blank b) r m.0 q.blank q.is (parts_sound (DeepMember d) 125 read (member_sound d h) (length (after_blank b)) (after_blank b) m.0 r (sym f ∙ m.1))))

-- a value
chosen : {Y : Type 0} (b : Bool) (x y : Option Y) (z : Y) → cond b x y ≡ Some z → ((b ≡ true) × (x ≡ Some z)) ⊎ ((b ≡ false) × (y ≡ Some z))
chosen true x y z e = inl (refl, e)
chosen false x y z e = inr (refl, e)

behind : (d k c : ℕ) (b : List ℕ) (t : Tree) (r : List ℕ) → c ≡ k → Front (λ u p. Deep d u (k ∷ p)) b t r → Front (Deep d) (c ∷ b) t r
behind d k c b t r e f = record { front = k ∷ f.front; is = ap (λ x. x ∷ b) e ∙ ap (λ l. k ∷ l) f.is; has = f.has }

text_front : (d : ℕ) (b : List ℕ) (t : Tree) (r : List ℕ) → option_map {U = Tree × List ℕ} (λ p. (text p.0, p.1)) (read_text b) ≡ Some (t, r) → Front (λ u p. Deep d u (34 ∷ p)) b t r
text_front d b t r e =
    let m = option_map_pair (λ s. text s) (read_text b) t r e in
    let f = text_sound b m.0 r m.1 in
    subst (λ u. Front (λ u' p. Deep d u' (34 ∷ p)) b u r) m.2 (record { front = f.front; is = f.is; has = (f.has, omega arith) })

-- a value that is read is spelled, where lists and objects are
pub value_by_sound : (d : ℕ) (f g : List ℕ → Reading Tree)
    → ((b : List ℕ) (t : Tree) (r : List ℕ) → f b ≡ Some (t, r) → Front (λ u p. Deep d u (91 ∷ p)) b t r)
    → ((b : List ℕ) (t : Tree) (r : List ℕ) → g b ≡ Some (t, r) → Front (λ u p. Deep d u (123 ∷ p)) b t r) → Sound (Deep d) (value_by f g)
value_by_sound d f g hf hg [] t r e = absurd (none-some (t, r) e)
value_by_sound d f g hf hg (c ∷ b) t r e =
    ⊎_elim (λ q. behind d 34 c b t r (eqb-true c 34 q.0) (text_front d b t r q.1))
    (λ n1. ⊎_elim (λ q. behind d 91 c b t r (eqb-true c 91 q.0) (hf b t r q.1))
    (λ n2. ⊎_elim (λ q. behind d 123 c b t r (eqb-true c 123 q.0) (hg b t r q.1))
    (λ n3. ⊎_elim (λ q. word_sound d (codes "null") null (refl, omega arith) (c ∷ b) t r q.1)
    (λ n4. ⊎_elim (λ q. word_sound d (codes "true") (boolean true) (refl, omega arith) (c ∷ b) t r q.1)
    (λ n5. ⊎_elim (λ q. word_sound d (codes "false") (boolean false) (refl, omega arith) (c ∷ b) t r q.1)
    (λ n6. number_sound d (c ∷ b) t r n6.1)
    (chosen (c == 102) _ _ (t, r) n5.1)) (chosen (c == 116) _ _ (t, r) n4.1)) (chosen (c == 110) _ _ (t, r) n3.1)) (chosen (c == 123) _ _ (t, r) n2.1)) (chosen (c == 91) _ _ (t, r) n1.1)) (chosen (c == 34) _ _ (t, r) e)

-- a value that is read is spelled
pub value_sound : (d : ℕ) → Sound (Deep d) (read_value d)
unfolding read_value
value_sound zero = value_by_sound 0 nothing_at nothing_at (λ b t r e. absurd (none-some (t, r) e)) (λ b t r e. absurd (none-some (t, r) e))
value_sound (suc d) = value_by_sound (suc d) (list_at (read_value d)) (obj_at (read_value d)) (list_sound d (value_sound d)) (obj_sound d (value_sound d))
