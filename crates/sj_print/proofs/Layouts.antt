-- What a layout has between tokens, and in which order.
use Rattle.std.proofs.Common.{◌≡◌, Bool, true, false, ℕ, ◌+◌, ◌-◌, ◌*◌, ◌^◌, min, List, [], ◌∷◌, ◌++◌, Option, Some, None, codes, replicate, flat_map, refl, sym, ap, ◌∙◌, subst, append_assoc, append-nil}
use Rattle.sj_text_core.specs.Tree.{Tree, list, obj, Items, no_items, item, Members, no_members, member}
use Rattle.sj_text_core.specs.Print.{escaped, quoted, compact, compact_items, compact_members, pretty, pretty_items, pretty_members, new_line}
use Rattle.sj_print.proofs.Utf8.{IsUtf8-line}
use Rattle.sj_print.specs.Layouts.{laid, deeper, gap}
use Rattle.sj_print.specs.inner.Layouts.{laid_items, laid_members, items_end, members_end, key_end}
use Rattle.sj_print.specs.inner.Piles.{items_mark, members_mark, items_laid, members_laid}
use Rattle.sj_print.specs.Outputs.{Appends, AppendsText, HoldsText, Lays}
use Rattle.sj_print.specs.declared.layout.Layout.TheVariants.{Compact, Pretty}
use Rattle.sj_print.proofs.Puts.{appends_text, appends_both}

five : (a b c d e : List ℕ) → (((a ++ b) ++ c) ++ d) ++ e ≡ a ++ (b ++ (c ++ (d ++ e)))
five a b c d e = append_assoc ((a ++ b) ++ c) d e ∙ append_assoc (a ++ b) c (d ++ e) ∙ append_assoc a b (c ++ (d ++ e))

pub laid-list : (s : Option ℕ) (t : Tree) (is : Items) → laid s (list (item t is)) ≡ (91 ∷ gap (deeper s)) ++ (laid (deeper s) t ++ items_end s is)
laid-list None t is = ap (λ l. 91 ∷ l) (append_assoc (compact t) (compact_items is) (93 ∷ []))
laid-list (Some n) t is = ap (λ l. 91 ∷ l) (five (new_line (n + 1)) (pretty (n + 1) t) (pretty_items (n + 1) is) (new_line n) (93 ∷ []))

pub laid-item : (s : Option ℕ) (t : Tree) (is : Items) → laid_items s (item t is) ≡ (44 ∷ gap s) ++ (laid s t ++ laid_items s is)
laid-item None t is = refl
laid-item (Some n) t is = ap (λ l. 44 ∷ l) (append_assoc (new_line n) (pretty n t) (pretty_items n is))

pub laid-obj : (s : Option ℕ) (k : List ℕ) (t : Tree) (ms : Members) → laid s (obj (member k t ms)) ≡ (123 ∷ gap (deeper s)) ++ (quoted k ++ (key_end (deeper s) ++ (laid (deeper s) t ++ members_end s ms)))
laid-obj None k t ms = ap (λ l. 123 ∷ (quoted k ++ 58 ∷ l)) (append_assoc (compact t) (compact_members ms) (125 ∷ []))
laid-obj (Some n) k t ms =
    let a = new_line (n + 1) ++ quoted k in
    let c = codes ": " in
    ap (λ l. 123 ∷ l) (five (a ++ c) (pretty (n + 1) t) (pretty_members (n + 1) ms) (new_line n) (125 ∷ [])
    ∙ append_assoc a c (pretty (n + 1) t ++ (pretty_members (n + 1) ms ++ (new_line n ++ 125 ∷ [])))
    ∙ append_assoc (new_line (n + 1)) (quoted k) (c ++ (pretty (n + 1) t ++ (pretty_members (n + 1) ms ++ (new_line n ++ 125 ∷ [])))))

pub laid-member : (s : Option ℕ) (k : List ℕ) (t : Tree) (ms : Members) → laid_members s (member k t ms) ≡ (44 ∷ gap s) ++ (quoted k ++ (key_end s ++ (laid s t ++ laid_members s ms)))
laid-member None k t ms = refl
laid-member (Some n) k t ms = ap (λ l. 44 ∷ l) (five (new_line n) (quoted k) (codes ": ") (pretty n t) (pretty_members n ms))

-- what is left behind a part, or of all, begins with the next part
pub items_laid-item : (begun : Bool) (s : Option ℕ) (t : Tree) (is : Items) → items_laid begun s (item t is) ≡ (items_mark begun ∷ gap (deeper s)) ++ (laid (deeper s) t ++ items_end s is)
items_laid-item false s t is = laid-list s t is
items_laid-item true s t is =
    ap (λ l. l ++ (gap s ++ 93 ∷ [])) (laid-item (deeper s) t is) ∙ append_assoc (44 ∷ gap (deeper s)) _ _ ∙ ap (λ l. (44 ∷ gap (deeper s)) ++ l) (append_assoc (laid (deeper s) t) _ _)

-- a key with what stands before and behind it, and then the rest
key_then : (mark : ℕ) (s : Option ℕ) (k rest : List ℕ) → ((mark ∷ gap s) ++ (quoted k ++ key_end s)) ++ rest ≡ (mark ∷ gap s) ++ (quoted k ++ (key_end s ++ rest))
key_then mark s k rest = append_assoc (mark ∷ gap s) (quoted k ++ key_end s) rest ∙ ap (λ l. (mark ∷ gap s) ++ l) (append_assoc (quoted k) (key_end s) rest)

pub members_laid-member : (begun : Bool) (s : Option ℕ) (k : List ℕ) (t : Tree) (ms : Members)
    → members_laid begun s (member k t ms) ≡ ((members_mark begun ∷ gap (deeper s)) ++ (quoted k ++ key_end (deeper s))) ++ (laid (deeper s) t ++ members_end s ms)
members_laid-member false s k t ms = laid-obj s k t ms ∙ sym (key_then 123 (deeper s) k _)
members_laid-member true s k t ms =
    let d = deeper s in
    ap (λ l. l ++ (gap s ++ 125 ∷ [])) (laid-member d k t ms) ∙ append_assoc (44 ∷ gap d) _ _
    ∙ ap (λ l. (44 ∷ gap d) ++ l) (append_assoc (quoted k) _ _ ∙ ap (λ l. quoted k ++ l) (append_assoc (key_end d) _ _ ∙ ap (λ l. key_end d ++ l) (append_assoc (laid d t) _ _)))
    ∙ sym (key_then 44 d k _)

pub laid-no_items : (s : Option ℕ) → laid_items s no_items ≡ []
laid-no_items None = refl
laid-no_items (Some n) = refl

pub laid-no_members : (s : Option ℕ) → laid_members s no_members ≡ []
laid-no_members None = refl
laid-no_members (Some n) = refl

pub lays_gap : {S O : Type 0} (holds : S → O → List ℕ → Type 0) (a b : O) (spaces : ℕ) → ((k : ℕ) → spaces ≡ min k (2 ^ 64 - 1) → Appends holds a b (10 ∷ replicate k 32)) → Lays holds a b (Pretty spaces) gap
lays_gap holds a b spaces f None l = absurd l
lays_gap holds a b spaces f (Some n) l = appends_text holds a b (new_line n) (f (2 * n) l) (IsUtf8-line (2 * n))

closed : (k tail : List ℕ) → (34 ∷ []) ++ (flat_map escaped k ++ 34 ∷ tail) ≡ quoted k ++ tail
closed k tail = ap (λ l. 34 ∷ l) (sym (append_assoc (flat_map escaped k) (34 ∷ []) tail))

pub lays_key_compact : {S O : Type 0} (holds : S → O → List ℕ → Type 0) (a b : O) (mark marked k : List ℕ) → marked ≡ mark ++ 34 ∷ []
    → AppendsText holds a b (marked ++ (flat_map escaped k ++ codes "\":")) → Lays holds a b Compact (λ s. (mark ++ gap s) ++ (quoted k ++ key_end s))
lays_key_compact holds a b mark marked k e f None l =
    subst (AppendsText holds a b)
    (ap (λ o. o ++ (flat_map escaped k ++ codes "\":")) e ∙ append_assoc mark (34 ∷ []) _ ∙ ap (λ r. mark ++ r) (closed k (58 ∷ [])) ∙ ap (λ m. m ++ (quoted k ++ 58 ∷ [])) (sym (append-nil mark))) f
lays_key_compact holds a b mark marked k e f (Some n) l = absurd l

pub lays_key_pretty : {S O : Type 0} (holds : S → O → List ℕ → Type 0) (a b c : O) (spaces : ℕ) (mark k : List ℕ) → Lays holds a b (Pretty spaces) (λ s. mark ++ gap s)
    → AppendsText holds b c ((34 ∷ []) ++ (flat_map escaped k ++ codes "\": ")) → Lays holds a c (Pretty spaces) (λ s. (mark ++ gap s) ++ (quoted k ++ key_end s))
lays_key_pretty holds a b c spaces mark k f g None l = absurd l
lays_key_pretty holds a b c spaces mark k f g (Some n) l =
    appends_both (HoldsText holds) a b c (mark ++ gap (Some n)) (quoted k ++ key_end (Some n)) (f (Some n) l) (subst (AppendsText holds b c) (closed k (58 ∷ 32 ∷ [])) g)
