-- Steps of reading a value, as the recursion goes.
use Rattle.std.proofs.Common.{◌≡◌, ◌≢◌, ℕ, suc, ◌+◌, ◌-◌, ◌<◌, ◌≤◌, List, [], ◌∷◌, ◌++◌, length, drop, get_or, set, option_and_then, Some, None, refl, sym, ap, ◌∙◌, arith, length-append, length-drop}
use Rattle.std.proofs.lemmas.List.{drop_more, drop_all, get_or-drop}
use Rattle.std.proofs.lemmas.Grind.{common_steps}
use Rattle.std.proofs.lemmas.Bool.Decides.{nat_tests}
use Rattle.sj_text_core.specs.Tree.{Tree, list, obj}
use Rattle.sj_text_core.specs.Nodes.{Mark, flat, array, object}
use Rattle.sj_text_core.proofs.parse.Values.{in_list, in_obj, value_is}
use Rattle.sj_text_core.specs.inner.Parse.{Reading, parts_at, all_parts_at, after_blank, list_at, obj_at, read_value, value_by, nothing_at, read_tree, read_whole}
use Rattle.sj_text_core.specs.Tree.{items_from, members_from}
use Rattle.sj_tape.proofs.Parts.{item_flats, member_flats, items_len-from, members_len-from}
use Rattle.sj_tape.proofs.Places.{at_byte}

-- no value past the end
pub value_at_end : (d : ℕ) (b : List ℕ) (i : ℕ) → length b ≤ i → read_value d (drop i b) ≡ None
value_at_end d b i h = ap (λ l. read_value d l) (drop_all i b h) ∙ value_is d []

by_other : (f g : List ℕ → Reading Tree) (c : ℕ) (b : List ℕ) → c ≢ 91 → c ≢ 123 → value_by f g (c ∷ b) ≡ value_by nothing_at nothing_at (c ∷ b)
by_other f g c b h k = grind (arith, common_steps, nat_tests)

-- no list where no level is left
pub value_too_deep : (d : ℕ) (b : List ℕ) (i : ℕ) → i < length b → (get_or b i 0 ≡ 91) → d ≡ 0 → read_value d (drop i b) ≡ None
value_too_deep d b i h e z = ap (λ l. read_value d l) (at_byte b i 91 h e) ∙ (ap (λ k. read_value k (91 ∷ drop (i + 1) b)) z ∙ value_is 0 (91 ∷ drop (i + 1) b))

-- no object where no level is left
pub value_too_deep_2 : (d : ℕ) (b : List ℕ) (i : ℕ) → i < length b → (get_or b i 0 ≡ 123) → d ≡ 0 → read_value d (drop i b) ≡ None
value_too_deep_2 d b i h e z = ap (λ l. read_value d l) (at_byte b i 123 h e) ∙ (ap (λ k. read_value k (123 ∷ drop (i + 1) b)) z ∙ value_is 0 (123 ∷ drop (i + 1) b))

-- a value that is a list
pub value_in_list : (d : ℕ) (b : List ℕ) (i : ℕ) → i < length b → get_or b i 0 ≡ 91 → d ≢ 0 → read_value d (drop i b) ≡ list_at (read_value (d - 1)) (drop (i + 1) b)
value_in_list d b i h e nz =
    let k : d ≡ suc (d - 1) = omega arith in
    ap (λ l. read_value d l) (at_byte b i 91 h e) ∙ (ap (λ m. read_value m (91 ∷ drop (i + 1) b)) k ∙ value_is (suc (d - 1)) (91 ∷ drop (i + 1) b))

-- a value that is an object
pub value_in_obj : (d : ℕ) (b : List ℕ) (i : ℕ) → i < length b → get_or b i 0 ≡ 123 → d ≢ 0 → read_value d (drop i b) ≡ obj_at (read_value (d - 1)) (drop (i + 1) b)
value_in_obj d b i h e nz =
    let k : d ≡ suc (d - 1) = omega arith in
    ap (λ l. read_value d l) (at_byte b i 123 h e) ∙ (ap (λ m. read_value m (123 ∷ drop (i + 1) b)) k ∙ value_is (suc (d - 1)) (123 ∷ drop (i + 1) b))

-- a value that is neither
pub value_scalar : (d : ℕ) (b : List ℕ) (i : ℕ) → i < length b → get_or b i 0 ≢ 91 → get_or b i 0 ≢ 123 → read_value d (drop i b) ≡ value_by nothing_at nothing_at (drop i b)
value_scalar d b i h n m =
    let e : drop i b ≡ get_or b i 0 ∷ drop (i + 1) b = drop_more b i 0 h in
    ap (λ l. read_value d l) e ∙ (value_is d (get_or b i 0 ∷ drop (i + 1) b) ∙ (by_other (in_list d) (in_obj d) (get_or b i 0) (drop (i + 1) b) n m ∙ ap (λ l. value_by nothing_at nothing_at l) (sym e)))

-- the whole of the parts, behind the opening byte
pub all_is : {X : Type 0} (close : ℕ) (read : List ℕ → Reading X) (b : List ℕ) (first : ℕ) → get_or b first 0 ≢ close
    → all_parts_at close read (drop first b) ≡ parts_at close read (length b - first) (drop first b)
all_is close read b first ne =
    let e : get_or (drop first b) 0 0 ≢ close = λ h. ne (ap (λ k. get_or b k 0) (omega arith) ∙ (sym (get_or-drop first b 0 0) ∙ h)) in
    let k : length (drop first b) ≡ length b - first = length-drop first b in
    all_by close read (drop first b) e ∙ ap (λ n. parts_at close read n (drop first b)) k
  where
    all_by : {X : Type 0} (close : ℕ) (read : List ℕ → Reading X) (b : List ℕ) → get_or b 0 0 ≢ close → all_parts_at close read b ≡ parts_at close read (length b) b
    all_by close read b ne = grind (arith, common_steps, nat_tests)

set_at : (O : List Mark) (x y : Mark) (F : List Mark) → set ((O ++ x ∷ []) ++ F) (length O) y ≡ O ++ (y ∷ F)
set_at [] x y F = refl
set_at (m ∷ O) x y F = ap (λ l. m ∷ l) (set_at O x y F)

-- how many nodes were put
pub count_is : (old new : List Mark) (p : Mark) (F : List Mark) → new ≡ (old ++ p ∷ []) ++ F → length new - length old - 1 ≡ length F
count_is old new p F e = omega (arith, ap (λ (l : List Mark). length l) e, length-append (old ++ p ∷ []) F, length-append old (p ∷ []))

-- a head in place of the blank one
pub nodes_set : (old new : List Mark) (p q : Mark) (F : List Mark) → new ≡ (old ++ p ∷ []) ++ F → set new (length old) q ≡ old ++ (q ∷ F)
nodes_set old new p q F e = ap (λ l. set l (length old) q) e ∙ set_at old p q F

-- the nodes of a list
pub flat_list_is : (ts : List Tree) (len count : ℕ) → len ≡ length ts → count ≡ length (item_flats ts) → flat (list (items_from ts)) ≡ array len count ∷ item_flats ts
flat_list_is ts len count e f = ap (λ n. array n (length (item_flats ts)) ∷ item_flats ts) (items_len-from ts ∙ sym e) ∙ ap (λ n. array len n ∷ item_flats ts) (sym f)

-- the nodes of an object
pub flat_obj_is : (ms : List (List ℕ × Tree)) (len count : ℕ) → len ≡ length ms → count ≡ length (member_flats ms) → flat (obj (members_from ms)) ≡ object len count ∷ member_flats ms
flat_obj_is ms len count e f = ap (λ n. object n (length (member_flats ms)) ∷ member_flats ms) (members_len-from ms ∙ sym e) ∙ ap (λ n. object len n ∷ member_flats ms) (sym f)

-- nothing is left behind the value
pub whole : (d : ℕ) (b : List ℕ) (s after k : ℕ) (t : Tree) → drop s b ≡ after_blank b → read_value d (drop s b) ≡ Some (t, drop after b) → drop k b ≡ after_blank (drop after b) → length b ≤ k → read_tree d b ≡ Some t
whole d b s after k t e f g h =
    let v : read_value d (after_blank b) ≡ Some (t, drop after b) = ap (λ l. read_value d l) (sym e) ∙ f in
    ap (λ o. option_and_then (λ p. read_whole p.0 (after_blank p.1)) o) v ∙ (ap (λ l. read_whole t l) (sym g) ∙ ap (λ l. read_whole t l) (drop_all k b h))
