-- What a step of the reader gives, by what its own steps give.
use Rattle.std.proofs.Common.{◌≡◌, ◌≢◌, ◌==◌, true, false, ℕ, ◌+◌, ◌<◌, ◌≤◌, List, [], ◌∷◌, ◌++◌, length, take, drop, get_or, cond, option_map, option_and_then, Some, None, IsUtf8, Ok, Err, Result, IfErr, sym, ap, subst, ◌∙◌, arith, append_assoc, length-drop}
use Rattle.std.proofs.lemmas.List.{take-append-drop, drop-drop, get_or-drop}
use Rattle.std.proofs.lemmas.Bool.Decides.{nat_tests}
use Rattle.sj_text_core.specs.Tree.{Tree, text, list, obj, items_from, members_from}
use Rattle.sj_text_core.specs.Nodes.{Mark, flat, string}
use Rattle.sj_text_core.specs.Scalars.{static_tree}
use Rattle.sj_text_core.specs.declared.static_node.StaticNode.{StaticNode}
use Rattle.sj_text_core.specs.declared.error.ErrorKind.{ErrorKind}
use Rattle.sj_tape.specs.inner.Gives.{EndsUtf8, Gives, GivesText, GivesMember}
use Rattle.sj_tape.specs.Marks.{static_mark}
use Rattle.sj_text_core.specs.inner.Parse.{Reading, read_text, number_at, value_by, after_blank, parts_at, all_parts_at, list_at, obj_at, read_member, after_key}
use Rattle.sj_tape.proofs.Scalars.{flat-static, text_is, other_at}
use Rattle.sj_tape.proofs.Texts.{cut}
use Rattle.sj_tape.proofs.Values.{all_is}

-- what is left of the end of UTF-8
pub ends_drop : (b t : List ℕ) (n : ℕ) → EndsUtf8 b → t ≡ drop n b → EndsUtf8 t
ends_drop b t n h e =
    let k : (h.0 ++ take n b) ++ t ≡ h.0 ++ b = append_assoc h.0 (take n b) t ∙ ap (λ l. h.0 ++ l) (ap (λ l. take n b ++ l) e ∙ take-append-drop n b) in
    (h.0 ++ take n b, subst (λ l. IsUtf8 l) (sym k) h.1)

-- behind a quote the end of UTF-8 is UTF-8
pub behind_quote : (b t : List ℕ) → EndsUtf8 b → get_or b 0 0 ≡ 34 → t ≡ drop 1 b → IsUtf8 t
behind_quote [] t h q e = absurd (omega (arith, q))
behind_quote (c ∷ b) t h q e = subst (λ l. IsUtf8 l) (sym e) (cut h.0 b c (omega (arith, q)) h.1).1

-- a scalar
pub static_gives : (read : Reading Tree) (l r : List ℕ) (n : StaticNode) (old new : List Mark) → read ≡ Some (static_tree n, r) → l ≡ r → new ≡ old ++ static_mark n ∷ [] → Gives read l old new
static_gives read l r n old new e k m = record {
  tree = static_tree n;
  was = e ∙ ap (λ x. Some (static_tree n, x)) (sym k);
  nodes = m ∙ ap (λ x. old ++ x) (sym (flat-static n));
}

-- the same of another way to read
pub gives_by : (x y : Reading Tree) (l : List ℕ) (old new : List Mark) → x ≡ y → Gives y l old new → Gives x l old new
gives_by x y l old new e h = record { tree = h.tree; was = e ∙ h.was; nodes = h.nodes }

-- a text where a value begins with its quote
pub text_gives : (f g : List ℕ → Reading Tree) (b t l : List ℕ) (old new : List Mark) → 0 < length b → get_or b 0 0 ≡ 34 → t ≡ drop 1 b → GivesText (read_text t) l old new → Gives (value_by f g b) l old new
text_gives f g b t l old new h q e k = record {
  tree = text k.text;
  was = text_is f g b 0 h q ∙ ap (λ o. option_map {U = Tree × List ℕ} (λ p. (text p.0, p.1)) o) (ap (λ x. read_text x) (sym e) ∙ k.was);
  nodes = k.nodes;
}

-- a value that begins with neither a quote nor a byte behind the digits is a number
pub number_is : (f g : List ℕ → Reading Tree) (b : List ℕ) → 0 < length b → get_or b 0 0 ≤ 57 → get_or b 0 0 ≢ 34 → value_by f g b ≡ number_at b
number_is f g b h k q = other_at f g b 0 h q (omega (arith, k)) (omega (arith, k)) (omega (arith, k)) (omega (arith, k)) (omega (arith, k))

-- an array by its items
pub list_is : (read : List ℕ → Reading Tree) (b t r : List ℕ) (first : ℕ) (trees : List Tree) → drop first b ≡ after_blank b → get_or b first 0 ≢ 93 → t ≡ drop first b
    → parts_at 93 read (length t) t ≡ Some (trees, r) → list_at read b ≡ Some (list (items_from trees), r)
list_is read b t r first trees e ne k h =
    ap (λ l. option_map (λ p. (list (items_from p.0), p.1)) (all_parts_at 93 read l)) (sym e)
    ∙ ap (λ o. option_map (λ p. (list (items_from p.0), p.1)) o)
    (all_is 93 read b first ne ∙ (sym (ap (λ n. parts_at 93 read n (drop first b)) (length-drop first b)) ∙ (ap (λ l. parts_at 93 read (length l) l) (sym k) ∙ h)))

-- an object by its members
pub obj_is : (read : List ℕ → Reading Tree) (b t r : List ℕ) (first : ℕ) (pairs : List (List ℕ × Tree)) → drop first b ≡ after_blank b → get_or b first 0 ≢ 125 → t ≡ drop first b
    → parts_at 125 (read_member read) (length t) t ≡ Some (pairs, r) → obj_at read b ≡ Some (obj (members_from pairs), r)
obj_is read b t r first pairs e ne k h =
    ap (λ l. option_map (λ p. (obj (members_from p.0), p.1)) (all_parts_at 125 (read_member read) l)) (sym e)
    ∙ ap (λ o. option_map (λ p. (obj (members_from p.0), p.1)) o)
    (all_is 125 (read_member read) b first ne ∙ (sym (ap (λ n. parts_at 125 (read_member read) n (drop first b)) (length-drop first b)) ∙ (ap (λ l. parts_at 125 (read_member read) (length l) l) (sym k) ∙ h)))

pick : {X : Type 0} (c d : ℕ) (x y : X) → c ≡ d → cond (c == d) x y ≡ x
pick c d x y e = grind (arith, nat_tests)

-- a member by its value
pub member_by : (read : List ℕ → Reading Tree) (b t r q : List ℕ) (colon place : ℕ) (k : List ℕ) → get_or b 0 0 ≡ 34 → t ≡ drop 1 b → read_text t ≡ Some (k, r)
    → drop colon r ≡ after_blank r → get_or r colon 0 ≡ 58 → drop place r ≡ after_blank (drop (colon + 1) r) → q ≡ drop place r
    → read_member read b ≡ option_map (λ p. ((k, p.0), p.1)) (read q)
member_by read b t r q colon place k quote e was blank mark next back =
    pick (get_or b 0 0) 34 _ _ quote
    ∙ (ap (λ o. option_and_then (λ p. after_key read p.0 (after_blank p.1)) o) (ap (λ l. read_text l) (sym e) ∙ was)
    ∙ (ap (λ l. after_key read k l) (sym blank)
    ∙ (pick (get_or (drop colon r) 0 0) 58 _ _ (get_or-drop colon r 0 0 ∙ (ap (λ n. get_or r n 0) (omega arith) ∙ mark))
    ∙ ap (λ l. option_map (λ p. ((k, p.0), p.1)) (read l)) (ap (λ l. after_blank l) (drop-drop 1 colon r ∙ ap (λ n. drop n r) (omega arith)) ∙ (sym next ∙ sym back)))))

-- what was read of a member
pub member_gives : (x : Reading (List ℕ × Tree)) (y : Reading Tree) (read : Reading (List ℕ)) (r l : List ℕ) (old mid new : List Mark) → (t : GivesText read r old mid)
    → x ≡ option_map (λ p. ((t.text, p.0), p.1)) y → Gives y l mid new → GivesMember x l old new
member_gives x y read r l old mid new t e h = record {
  key = t.text;
  tree = h.tree;
  was = e ∙ ap (λ o. option_map (λ p. ((t.text, p.0), p.1)) o) h.was;
  nodes = h.nodes ∙ (ap (λ ms. ms ++ flat h.tree) t.nodes ∙ append_assoc old (string t.text ∷ []) (flat h.tree));
}

-- what was not read of a member
pub member_errs : {T : Type 0} (r : Result T ErrorKind) (e : ErrorKind) (x : Reading (List ℕ × Tree)) (y : Reading Tree) (k : List ℕ) → x ≡ option_map (λ p. ((k, p.0), p.1)) y
    → IfErr r (λ j. j ≢ e → y ≡ None) → IfErr r (λ j. j ≢ e → x ≡ None)
member_errs (Ok v) e x y k q h = tt
member_errs (Err j) e x y k q h = λ n. q ∙ ap (λ o. option_map (λ p. ((k, p.0), p.1)) o) (h n)

-- by whether bytes are left
pub filled : (n : ℕ) → false ≡ (n == 0) → 0 < n
filled n e = grind (arith, nat_tests, e)

pub empty : (n : ℕ) → true ≡ (n == 0) → n ≤ 0
empty n e = grind (arith, nat_tests, e)
