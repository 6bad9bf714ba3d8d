-- What is spelled is read.
use Rattle.std.proofs.Common.{◌≡◌, ℕ, zero, suc, ◌+◌, ◌-◌, ◌<◌, ◌≤◌, Bool, true, false, cond, List, [], ◌∷◌, ◌++◌, length, take, drop, get_or, option_map, option_and_then, Option, Some, None, refl, sym, ap, subst, ◌∙◌, arith, append_assoc, length-append, ⊎_elim, codes, add-one, ◌==◌, if◌then◌else◌}
use Rattle.std.specs.List.{AllByRecursion}
use Rattle.std.proofs.lemmas.Bool.Decides.{nat_tests}
use Rattle.std.proofs.lemmas.List.{drop_at, take_at}
use Rattle.sj_text_core.specs.Tree.{Tree, null, boolean, int, text, list, obj, Items, no_items, item, Members, no_members, member, depth, items_depth, members_depth, items_len, members_len, listed, paired}
use Rattle.sj_text_core.specs.Grammar.{IsSpace, IsBlank, IsDigit, IsString, IsNumeral, IsNumber, Spaced, Spelling, MoreItems, MoreMembers, value_of, number_of}
use Rattle.sj_text_core.specs.inner.Parse.{Reading, is_space, after_blank, read_text, is_digit, digits_len, goes_on, numeral_at, separator_at, separator_or, with_first, parts_at, all_parts_at, list_at, obj_at, read_member, after_key, read_value}
use Rattle.sj_text_core.specs.Tree.{items_from, members_from}
use Rattle.sj_text_core.proofs.parse.Strings.{string_read}
use Rattle.sj_text_core.proofs.parse.Numbers.{numeral_is}
use Rattle.sj_text_core.proofs.parse.Steps.{is_space_of}
use Rattle.sj_text_core.proofs.parse.Values.{value_by_other, value_is, in_list, in_obj}
use Rattle.sj_text_core.proofs.Shapes.{items_from-listed, members_from-paired}

-- no number goes on here
pub record Ends (r : List ℕ) : Type 0 where
  pub digits : digits_len r ≡ 0
  pub plain : goes_on r ≡ false

ends_space : (c : ℕ) (r : List ℕ) → IsSpace c → Ends (c ∷ r)
ends_space c r h = record { digits = digits c r h; plain = plain c r h }
  where
    digits : (c : ℕ) (r : List ℕ) → IsSpace c → digits_len (c ∷ r) ≡ 0
    digits c r h = grind (arith, nat_tests)

    plain : (c : ℕ) (r : List ℕ) → IsSpace c → goes_on (c ∷ r) ≡ false
    plain c r h = grind (arith, nat_tests)

-- whitespace ends a number
pub ends_blank : (w r : List ℕ) → IsBlank w → Ends r → Ends (w ++ r)
ends_blank [] r h e = e
ends_blank (c ∷ w) r h e = ends_space c (w ++ r) h.0

-- whitespace in front is passed over
pub after_blank-append : (w r : List ℕ) → IsBlank w → after_blank (w ++ r) ≡ after_blank r
after_blank-append [] r h = refl
after_blank-append (c ∷ w) r h = ap (λ t. cond t (after_blank (w ++ r)) (c ∷ (w ++ r))) (is_space_of c h.0) ∙ after_blank-append w r h.1

-- a word begins with no whitespace
pub record Solid (p : List ℕ) : Type 0 where
  pub first : ℕ
  pub rest : List ℕ
  pub is : p ≡ first ∷ rest
  pub solid : is_space first ≡ false
  pub opens : (first == 93) ≡ false
  pub opens' : (first == 125) ≡ false

-- a word is not passed over
pub solid_stays : (p r : List ℕ) → Solid p → after_blank (p ++ r) ≡ p ++ r
solid_stays p r s = ap (λ l. after_blank (l ++ r)) s.is ∙ (ap (λ t. cond t (after_blank (s.rest ++ r)) (s.first ∷ (s.rest ++ r))) s.solid ∙ ap (λ l. l ++ r) (sym s.is))

digit_solid : (c : ℕ) → IsDigit c → is_space c ≡ false
digit_solid c h = grind (arith, nat_tests)

digit_opens : (c : ℕ) → IsDigit c → (c == 93) ≡ false
digit_opens c h = grind (arith, nat_tests)

digit_opens' : (c : ℕ) → IsDigit c → (c == 125) ≡ false
digit_opens' c h = grind (arith, nat_tests)

numeral_solid : (p : List ℕ) → IsNumeral p → Solid p
numeral_solid [] h = absurd (omega (arith, h.some))
numeral_solid (c ∷ p) h = record { first = c; rest = p; is = refl; solid = digit_solid c h.digits.0; opens = digit_opens c h.digits.0; opens' = digit_opens' c h.digits.0 }

-- a spelling begins with no whitespace and closes nothing
pub spelling_solid : (t : Tree) (p : List ℕ) → Spelling t p → Solid p
spelling_solid null p h = record { first = 110; rest = codes "ull"; is = h; solid = refl; opens = refl; opens' = refl }
spelling_solid (boolean true) p h = record { first = 116; rest = codes "rue"; is = h; solid = refl; opens = refl; opens' = refl }
spelling_solid (boolean false) p h = record { first = 102; rest = codes "alse"; is = h; solid = refl; opens = refl; opens' = refl }
spelling_solid (int n c) p h = ⊎_elim (λ k. numeral_solid p k.0) (λ k. record { first = 45; rest = k.0; is = k.1; solid = refl; opens = refl; opens' = refl }) h
spelling_solid (text s) p h = record { first = 34; rest = h.inside ++ 34 ∷ []; is = h.is; solid = refl; opens = refl; opens' = refl }
spelling_solid (list is) p h = record { first = 91; rest = h.0 ++ 93 ∷ []; is = h.1; solid = refl; opens = refl; opens' = refl }
spelling_solid (obj ms) p h = record { first = 123; rest = h.0 ++ 125 ∷ []; is = h.1; solid = refl; opens = refl; opens' = refl }

-- numbers
digits_len_is : (p r : List ℕ) → AllByRecursion IsDigit p → digits_len r ≡ 0 → digits_len (p ++ r) ≡ length p
digits_len_is [] r h e = e
digits_len_is (c ∷ p) r h e = ap (λ t. cond t (digits_len (p ++ r) + 1) 0) (is_digit_of c h.0) ∙ (add-one (digits_len (p ++ r)) ∙ ap (λ n. suc n) (digits_len_is p r h.1 e))
  where
    is_digit_of : (c : ℕ) → IsDigit c → is_digit c ≡ true
    is_digit_of c h = grind (arith, nat_tests)

plain_front : (p r : List ℕ) → IsNumeral p → get_or (p ++ r) 0 0 ≡ 48 → length p ≤ 1
plain_front [] r h e = omega arith
plain_front (c ∷ p) r h e = omega (arith, ap (λ (l : List ℕ). length l) (h.plain e))

numeral_read : (m : Bool) (p r : List ℕ) (t : Tree) → IsNumeral p → Ends r → number_of m (value_of p) ≡ Some t → numeral_at m (digits_len (p ++ r)) (p ++ r) ≡ Some (t, r)
numeral_read m p r t h e f =
    let n : digits_len (p ++ r) ≡ length p = digits_len_is p r h.digits e.digits in
    let back : drop (length p) (p ++ r) ≡ r = drop_at p r (length p) refl in
    let front : take (length p) (p ++ r) ≡ p = take_at p r (length p) refl in
    ap (λ k. numeral_at m k (p ++ r)) n ∙ (numeral_is m (length p) (p ++ r) t (λ z. omega (arith, h.some, z)) (plain_front p r h)
    (ap (λ l. goes_on l) back ∙ e.plain) (ap (λ l. number_of m (value_of l)) front ∙ f) ∙ ap (λ l. Some (t, l)) back)

-- texts
text_value : (d : ℕ) (i s r : List ℕ) → read_text (i ++ (34 ∷ r)) ≡ Some (s, r) → read_value d (34 ∷ (i ++ (34 ∷ r))) ≡ Some (text s, r)
text_value d i s r h = value_is d (34 ∷ (i ++ (34 ∷ r))) ∙ ap (λ o. option_map {U = Tree × List ℕ} (λ p. (text p.0, p.1)) o) h

digit_value : (d c : ℕ) (b : List ℕ) → IsDigit c → read_value d (c ∷ b) ≡ numeral_at false (digits_len (c ∷ b)) (c ∷ b)
digit_value d c b h = value_is d (c ∷ b) ∙ (value_by_other (in_list d) (in_obj d) c b (λ e. omega (arith, h.0, h.1, e)) (λ e. omega (arith, h.0, h.1, e)) (λ e. omega (arith, h.0, h.1, e)) (λ e. omega (arith, h.0, h.1, e)) (λ e. omega (arith, h.0, h.1, e)) (λ e. omega (arith, h.0, h.1, e))
    ∙ ap (λ t. cond t (numeral_at true (digits_len b) b) (numeral_at false (digits_len (c ∷ b)) (c ∷ b))) (no_minus c h))
  where
    no_minus : (c : ℕ) → IsDigit c → (c == 45) ≡ false
    no_minus c h = grind (arith, nat_tests)

numeral_value : (d : ℕ) (p r : List ℕ) → IsNumeral p → read_value d (p ++ r) ≡ numeral_at false (digits_len (p ++ r)) (p ++ r)
numeral_value d [] r h = absurd (omega (arith, h.some))
numeral_value d (c ∷ p) r h = digit_value d c (p ++ r) h.digits.0

number_value : (d : ℕ) (p r : List ℕ) (t : Tree) → IsNumber p t → Ends r → read_value d (p ++ r) ≡ Some (t, r)
number_value d p r t h e = ⊎_elim
    (λ k. numeral_value d p r k.0 ∙ numeral_read false p r t k.0 e k.1)
    (λ k. ap (λ l. read_value d (l ++ r)) k.1 ∙ (value_is d (45 ∷ (k.0 ++ r)) ∙ numeral_read true k.0 r t k.2 e k.3))
    h

-- parts
pub parts_step : {X : Type 0} (close : ℕ) (read : List ℕ → Reading X) (n : ℕ) (b : List ℕ) (x : X) (y : List ℕ) (z : Option (List X × List ℕ)) → read b ≡ Some (x, y)
    → option_and_then (λ s. if s.0 then with_first x (parts_at close read n s.1) else Some (x ∷ [], s.1)) (separator_at close y) ≡ z → parts_at close read (suc n) b ≡ z
unfolding parts_at
parts_step close read n b x y z e f = rw e f

ends_items : (is : Items) (rest r : List ℕ) → MoreItems is rest → Ends (rest ++ (93 ∷ r))
ends_items no_items rest r h = subst (λ l. Ends (l ++ (93 ∷ r))) (sym h) (record { digits = refl; plain = refl })
ends_items (item t is) rest r h = subst (λ l. Ends (l ++ (93 ∷ r))) (sym h.2) (record { digits = refl; plain = refl })

spaced : (b w a x r : List ℕ) → ((b ++ (w ++ a)) ++ x) ++ r ≡ b ++ (w ++ (a ++ (x ++ r)))
spaced b w a x r = simp append_assoc

-- a comma with whitespace around it, and the next word
comma_at : (close : ℕ) (after b w a x r : List ℕ) → (44 == close) ≡ false → IsBlank after → IsBlank b → Solid w → separator_at close (after ++ ((44 ∷ ((b ++ (w ++ a)) ++ x)) ++ r)) ≡ Some (true, w ++ (a ++ (x ++ r)))
comma_at close after b w a x r ne h k s =
    ap (λ l. separator_or close l) (after_blank-append after ((44 ∷ ((b ++ (w ++ a)) ++ x)) ++ r) h)
    ∙ (ap (λ t. cond t (Some (false, ((b ++ (w ++ a)) ++ x) ++ r)) (Some (true, after_blank (((b ++ (w ++ a)) ++ x) ++ r)))) ne
    ∙ ap (λ l. Some (true, l)) (ap (λ l. after_blank l) (spaced b w a x r) ∙ (after_blank-append b (w ++ (a ++ (x ++ r))) k ∙ solid_stays w (a ++ (x ++ r)) s)))

close_at : (close : ℕ) (after r : List ℕ) → (close == close) ≡ true → is_space close ≡ false → IsBlank after → separator_at close (after ++ (close ∷ r)) ≡ Some (false, r)
close_at close after r e n h =
    ap (λ l. separator_or close l) (after_blank-append after (close ∷ r) h ∙ ap (λ t. cond t (after_blank r) (close ∷ r)) n)
    ∙ ap (λ t. cond t (Some (false, r)) (cond (close == 44) (Some (true, after_blank r)) None)) e

more_len : (is : Items) (rest : List ℕ) → MoreItems is rest → items_len is ≤ length rest
more_len no_items rest h = omega arith
more_len (item t is) rest h = omega (arith, more_len is h.1 h.4, ap (λ (l : List ℕ). length l) h.2, length-append h.0 h.1)

solid_len : (p : List ℕ) → Solid p → 0 < length p
solid_len p s = omega (arith, ap (λ (l : List ℕ). length l) s.is)

abbrev behind : {X : Type 0} → ℕ → (List ℕ → Reading X) → ℕ → X → List ℕ → Option (List X × List ℕ)
behind close read n x y = option_and_then (λ s. if s.0 then with_first x (parts_at close read n s.1) else Some (x ∷ [], s.1)) (separator_at close y)

-- what stands in brackets, from the first word on
all_read : {X : Type 0} (close : ℕ) (read : List ℕ → Reading X) (w y : List ℕ) (x : X) (xs : List X) (r : List ℕ) (len : ℕ) → (get_or (w ++ y) 0 0 == close) ≡ false → 0 < length w
    → read (w ++ y) ≡ Some (x, y) → len ≤ length y → ((n : ℕ) → len ≤ n → behind close read n x y ≡ Some (x ∷ xs, r)) → all_parts_at close read (w ++ y) ≡ Some (x ∷ xs, r)
all_read close read w y x xs r len ne some e le t =
    let k : length (w ++ y) ≡ suc (length (w ++ y) - 1) = omega (arith, length-append w y) in
    ap (λ t. cond t (Some ([], drop 1 (w ++ y))) (parts_at close read (length (w ++ y)) (w ++ y))) ne
    ∙ (ap (λ n. parts_at close read n (w ++ y)) k ∙ parts_step close read (length (w ++ y) - 1) (w ++ y) x y (Some (x ∷ xs, r)) e (t (length (w ++ y) - 1) (omega (arith, length-append w y))))

first_of : (p y : List ℕ) (s : Solid p) → get_or (p ++ y) 0 0 ≡ s.first
first_of p y s = ap (λ l. get_or (l ++ y) 0 0) s.is

list_read : (d : ℕ) (t : Tree) (is : Items) (inside r first rest : List ℕ) → inside ≡ first ++ rest → (s : Spaced (λ w. Spelling t w) first) → MoreItems is rest
    → read_value d (s.word ++ (s.after ++ (rest ++ (93 ∷ r)))) ≡ Some (t, s.after ++ (rest ++ (93 ∷ r)))
    → ((n : ℕ) → items_len is ≤ n → behind 93 (read_value d) n t (s.after ++ (rest ++ (93 ∷ r))) ≡ Some (t ∷ listed is, r))
    → list_at (read_value d) (inside ++ (93 ∷ r)) ≡ Some (list (item t is), r)
list_read d t is inside r first rest e s m v k =
    let o = spelling_solid t s.word s.spelled in
    let y = s.after ++ (rest ++ (93 ∷ r)) in
    let skipped : after_blank (inside ++ (93 ∷ r)) ≡ s.word ++ y =
    ap (λ l. after_blank (l ++ (93 ∷ r))) (e ∙ ap (λ l. l ++ rest) s.is) ∙ (ap (λ l. after_blank l) (spaced s.before s.word s.after rest (93 ∷ r))
    ∙ (after_blank-append s.before (s.word ++ y) s.blank_before ∙ solid_stays s.word y o)) in
    let ne : (get_or (s.word ++ y) 0 0 == 93) ≡ false = ap (λ c. c == 93) (first_of s.word y o) ∙ o.opens in
    ap (λ l. option_map {U = Tree × List ℕ} (λ p. (list (items_from p.0), p.1)) (all_parts_at 93 (read_value d) l)) skipped
    ∙ (ap (λ q. option_map {U = Tree × List ℕ} (λ p. (list (items_from p.0), p.1)) q)
    (all_read 93 (read_value d) s.word y t (listed is) r (items_len is) ne (solid_len s.word o) v (omega (arith, more_len is rest m, length-append s.after (rest ++ (93 ∷ r)), length-append rest (93 ∷ r))) k)
    ∙ ap (λ l. Some (list (item t l), r)) (items_from-listed is))

in_brackets : (c close : ℕ) (i r : List ℕ) → (c ∷ (i ++ close ∷ [])) ++ r ≡ c ∷ (i ++ (close ∷ r))
in_brackets c close i r = ap (λ l. c ∷ l) (append_assoc i (close ∷ []) r)

ends_members : (ms : Members) (rest r : List ℕ) → MoreMembers ms rest → Ends (rest ++ (125 ∷ r))
ends_members no_members rest r h = subst (λ l. Ends (l ++ (125 ∷ r))) (sym h) (record { digits = refl; plain = refl })
ends_members (member k t ms) rest r h = subst (λ l. Ends (l ++ (125 ∷ r))) (sym h.3) (record { digits = refl; plain = refl })

more_members_len : (ms : Members) (rest : List ℕ) → MoreMembers ms rest → members_len ms ≤ length rest
more_members_len no_members rest h = omega arith
more_members_len (member k t ms) rest h = omega (arith, more_members_len ms h.2 h.6, ap (λ (l : List ℕ). length l) h.3, length-append h.0 (58 ∷ (h.1 ++ h.2)), length-append h.1 h.2)

string_solid : (p s : List ℕ) → IsString p s → Solid p
string_solid p s h = record { first = 34; rest = h.inside ++ 34 ∷ []; is = h.is; solid = refl; opens = refl; opens' = refl }

-- one member
member_read : (d : ℕ) (kw k ka b w a x : List ℕ) (t : Tree) → IsString kw k → IsBlank ka → IsBlank b → Solid w → read_value d (w ++ (a ++ x)) ≡ Some (t, a ++ x)
    → read_member (read_value d) (kw ++ (ka ++ (58 ∷ ((b ++ (w ++ a)) ++ x)))) ≡ Some ((k, t), a ++ x)
member_read d kw k ka b w a x t hk ha hb s v =
    let tail = ka ++ (58 ∷ ((b ++ (w ++ a)) ++ x)) in
    let regroup : (b ++ (w ++ a)) ++ x ≡ b ++ (w ++ (a ++ x)) = simp append_assoc in
    ap (λ l. read_member (read_value d) (l ++ tail)) hk.is
    ∙ (ap (λ l. read_member (read_value d) l) (in_brackets 34 34 hk.inside tail)
    ∙ (ap (λ o. option_and_then (λ p. after_key (read_value d) p.0 (after_blank p.1)) o) (string_read kw k tail hk)
    ∙ (ap (λ l. after_key (read_value d) k l) (after_blank-append ka (58 ∷ ((b ++ (w ++ a)) ++ x)) ha)
    ∙ ap (λ o. option_map {U = (List ℕ × Tree) × List ℕ} (λ p. ((k, p.0), p.1)) o)
    (ap (λ l. read_value d l) (ap (λ l. after_blank l) regroup ∙ (after_blank-append b (w ++ (a ++ x)) hb ∙ solid_stays w (a ++ x) s)) ∙ v))))

one_member : (kw ka sb sw sa x : List ℕ) → (kw ++ (ka ++ (58 ∷ (sb ++ sw)))) ++ (sa ++ x) ≡ kw ++ (ka ++ (58 ∷ ((sb ++ (sw ++ sa)) ++ x)))
one_member kw ka sb sw sa x = simp append_assoc

value_part : (first sb sw sa rest x : List ℕ) → first ≡ sb ++ (sw ++ sa) → (first ++ rest) ++ x ≡ (sb ++ (sw ++ sa)) ++ (rest ++ x)
value_part first sb sw sa rest x e = ap (λ l. (l ++ rest) ++ x) e ∙ append_assoc (sb ++ (sw ++ sa)) rest x

obj_read : (d : ℕ) (k : List ℕ) (t : Tree) (ms : Members) (inside r key first rest : List ℕ) → inside ≡ key ++ (58 ∷ (first ++ rest)) → (q : Spaced (λ w. IsString w k) key) → (s : Spaced (λ w. Spelling t w) first) → MoreMembers ms rest
    → read_value d (s.word ++ (s.after ++ (rest ++ (125 ∷ r)))) ≡ Some (t, s.after ++ (rest ++ (125 ∷ r)))
    → ((n : ℕ) → members_len ms ≤ n → behind 125 (read_member (read_value d)) n (k, t) (s.after ++ (rest ++ (125 ∷ r))) ≡ Some ((k, t) ∷ paired ms, r))
    → obj_at (read_value d) (inside ++ (125 ∷ r)) ≡ Some (obj (member k t ms), r)
obj_read d k t ms inside r key first rest e q s m v g =
    let y = s.after ++ (rest ++ (125 ∷ r)) in
    let w = q.word ++ (q.after ++ (58 ∷ (s.before ++ s.word))) in
    let o = string_solid q.word k q.spelled in
    let same : w ++ y ≡ q.word ++ (q.after ++ (58 ∷ ((s.before ++ (s.word ++ s.after)) ++ (rest ++ (125 ∷ r))))) = one_member q.word q.after s.before s.word s.after (rest ++ (125 ∷ r)) in
    let skipped : after_blank (inside ++ (125 ∷ r)) ≡ w ++ y =
    ap (λ l. after_blank (l ++ (125 ∷ r))) (e ∙ ap (λ l. l ++ (58 ∷ (first ++ rest))) q.is) ∙ (ap (λ l. after_blank l) (spaced q.before q.word q.after (58 ∷ (first ++ rest)) (125 ∷ r))
    ∙ (after_blank-append q.before (q.word ++ (q.after ++ ((58 ∷ (first ++ rest)) ++ (125 ∷ r)))) q.blank_before ∙ (solid_stays q.word (q.after ++ ((58 ∷ (first ++ rest)) ++ (125 ∷ r))) o
    ∙ (ap (λ l. q.word ++ (q.after ++ (58 ∷ l))) (value_part first s.before s.word s.after rest (125 ∷ r) s.is) ∙ sym same)))) in
    let ne : (get_or (w ++ y) 0 0 == 125) ≡ false =
    ap (λ l. get_or l 0 0 == 125) (append_assoc q.word (q.after ++ (58 ∷ (s.before ++ s.word))) y) ∙ (ap (λ c. c == 125) (first_of q.word ((q.after ++ (58 ∷ (s.before ++ s.word))) ++ y) o) ∙ o.opens') in
    ap (λ l. option_map {U = Tree × List ℕ} (λ p. (obj (members_from p.0), p.1)) (all_parts_at 125 (read_member (read_value d)) l)) skipped
    ∙ (ap (λ z. option_map {U = Tree × List ℕ} (λ p. (obj (members_from p.0), p.1)) z)
    (all_read 125 (read_member (read_value d)) w y (k, t) (paired ms) r (members_len ms) ne (omega (arith, solid_len q.word o, length-append q.word (q.after ++ (58 ∷ (s.before ++ s.word)))))
    (ap (λ l. read_member (read_value d) l) same ∙ member_read d q.word k q.after s.before s.word s.after (rest ++ (125 ∷ r)) t q.spelled q.blank_after s.blank_before (spelling_solid t s.word s.spelled) v)
    (omega (arith, more_members_len ms rest m, length-append s.after (rest ++ (125 ∷ r)), length-append rest (125 ∷ r))) g)
    ∙ ap (λ l. Some (obj (member k t l), r)) (members_from-paired ms))

mutual
  pub read_again : (t : Tree) (d : ℕ) (p r : List ℕ) → Spelling t p → depth t ≤ d → Ends r → read_value d (p ++ r) ≡ Some (t, r)
  read_again null d p r h k e = ap (λ l. read_value d (l ++ r)) h ∙ value_is d (codes "null" ++ r)
  read_again (boolean true) d p r h k e = ap (λ l. read_value d (l ++ r)) h ∙ value_is d (codes "true" ++ r)
  read_again (boolean false) d p r h k e = ap (λ l. read_value d (l ++ r)) h ∙ value_is d (codes "false" ++ r)
  read_again (int n c) d p r h k e = number_value d p r (int n c) h e
  read_again (text s) d p r h k e = ap (λ l. read_value d (l ++ r)) h.is ∙ (ap (λ l. read_value d (34 ∷ l)) (append_assoc h.inside (34 ∷ []) r) ∙ text_value d h.inside s r (string_read p s r h))
  read_again (list is) zero p r h k e = absurd (omega (arith, k))
  read_again (list no_items) (suc d) p r h k e =
      ap (λ l. read_value (suc d) (l ++ r)) h.1 ∙ (ap (λ l. read_value (suc d) l) (in_brackets 91 93 h.0 r) ∙ (value_is (suc d) (91 ∷ (h.0 ++ (93 ∷ r)))
      ∙ ap (λ l. option_map {U = Tree × List ℕ} (λ p. (list (items_from p.0), p.1)) (all_parts_at 93 (read_value d) l)) (after_blank-append h.0 (93 ∷ r) h.2)))
  read_again (list (item t is)) (suc d) p r h k e =
      let s = h.2.3 in
      ap (λ l. read_value (suc d) (l ++ r)) h.1 ∙ (ap (λ l. read_value (suc d) l) (in_brackets 91 93 h.0 r) ∙ (value_is (suc d) (91 ∷ (h.0 ++ (93 ∷ r)))
      ∙ list_read d t is h.0 r h.2.0 h.2.1 h.2.2 s h.2.4
      (read_again t d s.word (s.after ++ (h.2.1 ++ (93 ∷ r))) s.spelled (omega (arith, k)) (ends_blank s.after (h.2.1 ++ (93 ∷ r)) s.blank_after (ends_items is h.2.1 r h.2.4)))
      (λ n l. items_again is t d n s.after h.2.1 r s.blank_after h.2.4 (omega (arith, k)) l)))
  read_again (obj ms) zero p r h k e = absurd (omega (arith, k))
  read_again (obj no_members) (suc d) p r h k e =
      ap (λ l. read_value (suc d) (l ++ r)) h.1 ∙ (ap (λ l. read_value (suc d) l) (in_brackets 123 125 h.0 r) ∙ (value_is (suc d) (123 ∷ (h.0 ++ (125 ∷ r)))
      ∙ ap (λ l. option_map {U = Tree × List ℕ} (λ p. (obj (members_from p.0), p.1)) (all_parts_at 125 (read_member (read_value d)) l)) (after_blank-append h.0 (125 ∷ r) h.2)))
  read_again (obj (member n t ms)) (suc d) p r h k e =
      let s = h.2.5 in
      ap (λ l. read_value (suc d) (l ++ r)) h.1 ∙ (ap (λ l. read_value (suc d) l) (in_brackets 123 125 h.0 r) ∙ (value_is (suc d) (123 ∷ (h.0 ++ (125 ∷ r)))
      ∙ obj_read d n t ms h.0 r h.2.0 h.2.1 h.2.2 h.2.3 h.2.4 s h.2.6
      (read_again t d s.word (s.after ++ (h.2.2 ++ (125 ∷ r))) s.spelled (omega (arith, k)) (ends_blank s.after (h.2.2 ++ (125 ∷ r)) s.blank_after (ends_members ms h.2.2 r h.2.6)))
      (λ i l. members_again ms n t d i s.after h.2.2 r s.blank_after h.2.6 (omega (arith, k)) l)))

  -- behind an item
  items_again : (is : Items) (t : Tree) (d n : ℕ) (after rest r : List ℕ) → IsBlank after → MoreItems is rest → items_depth is ≤ d → items_len is ≤ n
      → option_and_then (λ s. if s.0 then with_first t (parts_at 93 (read_value d) n s.1) else Some (t ∷ [], s.1)) (separator_at 93 (after ++ (rest ++ (93 ∷ r)))) ≡ Some (t ∷ listed is, r)
  items_again no_items t d n after rest r h m k l =
      ap (λ o. option_and_then (λ s. if s.0 then with_first t (parts_at 93 (read_value d) n s.1) else Some (t ∷ [], s.1)) o)
      (ap (λ x. separator_at 93 (after ++ (x ++ (93 ∷ r)))) m ∙ close_at 93 after r refl refl h)
  items_again (item u is) t d zero after rest r h m k l = absurd (omega (arith, l))
  items_again (item u is) t d (suc n) after rest r h m k l =
      let s = m.3 in
      ap (λ o. option_and_then (λ s. if s.0 then with_first t (parts_at 93 (read_value d) (suc n) s.1) else Some (t ∷ [], s.1)) o)
      (ap (λ x. separator_at 93 (after ++ (x ++ (93 ∷ r)))) (m.2 ∙ ap (λ x. 44 ∷ (x ++ m.1)) s.is) ∙ comma_at 93 after s.before s.word s.after m.1 (93 ∷ r) refl h s.blank_before (spelling_solid u s.word s.spelled))
      ∙ ap (λ o. with_first t o) (parts_step 93 (read_value d) n (s.word ++ (s.after ++ (m.1 ++ (93 ∷ r)))) u (s.after ++ (m.1 ++ (93 ∷ r))) (Some (u ∷ listed is, r))
      (read_again u d s.word (s.after ++ (m.1 ++ (93 ∷ r))) s.spelled (omega (arith, k)) (ends_blank s.after (m.1 ++ (93 ∷ r)) s.blank_after (ends_items is m.1 r m.4)))
      (items_again is u d n s.after m.1 r s.blank_after m.4 (omega (arith, k)) (omega (arith, l))))

  -- behind a member
  members_again : (ms : Members) (k : List ℕ) (t : Tree) (d n : ℕ) (after rest r : List ℕ) → IsBlank after → MoreMembers ms rest → members_depth ms ≤ d → members_len ms ≤ n
      → behind 125 (read_member (read_value d)) n (k, t) (after ++ (rest ++ (125 ∷ r))) ≡ Some ((k, t) ∷ paired ms, r)
  members_again no_members k t d n after rest r h m g l =
      ap (λ o. option_and_then (λ s. if s.0 then with_first (k, t) (parts_at 125 (read_member (read_value d)) n s.1) else Some ((k, t) ∷ [], s.1)) o)
      (ap (λ x. separator_at 125 (after ++ (x ++ (125 ∷ r)))) m ∙ close_at 125 after r refl refl h)
  members_again (member j u ms) k t d zero after rest r h m g l = absurd (omega (arith, l))
  members_again (member j u ms) k t d (suc n) after rest r h m g l =
      let q = m.4 in
      let s = m.5 in
      let x = q.word ++ (q.after ++ (58 ∷ ((s.before ++ (s.word ++ s.after)) ++ (m.2 ++ (125 ∷ r))))) in
      ap (λ o. option_and_then (λ s. if s.0 then with_first (k, t) (parts_at 125 (read_member (read_value d)) (suc n) s.1) else Some ((k, t) ∷ [], s.1)) o)
      (ap (λ x. separator_at 125 (after ++ (x ++ (125 ∷ r)))) (m.3 ∙ ap (λ x. 44 ∷ (x ++ (58 ∷ (m.1 ++ m.2)))) q.is)
      ∙ (comma_at 125 after q.before q.word q.after (58 ∷ (m.1 ++ m.2)) (125 ∷ r) refl h q.blank_before (string_solid q.word j q.spelled)
      ∙ ap (λ l. Some (true, q.word ++ (q.after ++ (58 ∷ l)))) (value_part m.1 s.before s.word s.after m.2 (125 ∷ r) s.is)))
      ∙ ap (λ o. with_first (k, t) o) (parts_step 125 (read_member (read_value d)) n x (j, u) (s.after ++ (m.2 ++ (125 ∷ r))) (Some ((j, u) ∷ paired ms, r))
      (member_read d q.word j q.after s.before s.word s.after (m.2 ++ (125 ∷ r)) u q.spelled q.blank_after s.blank_before (spelling_solid u s.word s.spelled)
      (read_again u d s.word (s.after ++ (m.2 ++ (125 ∷ r))) s.spelled (omega (arith, g)) (ends_blank s.after (m.2 ++ (125 ∷ r)) s.blank_after (ends_members ms m.2 r m.6))))
      (members_again ms j u d n s.after m.2 r s.blank_after m.6 (omega (arith, g)) (omega (arith, l))))
