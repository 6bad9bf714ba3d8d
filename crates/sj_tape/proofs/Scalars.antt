-- One step of reading a value.
use Rattle.std.proofs.Common.{◌≡◌, ◌≢◌, ℕ, true, false, codes, ◌+◌, ◌<◌, List, [], ◌∷◌, length, drop, get_or, option_map, refl, sym, ap, ◌∙◌}
use Rattle.std.proofs.lemmas.List.{drop_more}
use Rattle.std.proofs.Common.{Result, Ok, Err, OnErr}
use Rattle.sj_text_core.specs.Tree.{Tree, null, boolean, text}
use Rattle.sj_text_core.specs.Nodes.{flat}
use Rattle.sj_tape.specs.Marks.{static_mark}
use Rattle.sj_text_core.specs.Scalars.{static_tree}
use Rattle.sj_text_core.specs.declared.static_node.StaticNode.{StaticNode}
use Rattle.sj_text_core.specs.declared.static_node.StaticNode.TheVariants.{Null, I64, U64, I128, U128}
use Rattle.sj_text_core.specs.declared.static_node.StaticNode.TheVariants as nodes
use Rattle.sj_text_core.proofs.parse.Values.{value_by_other}
use Rattle.sj_text_core.specs.inner.Parse.{Reading, value_by, word_at, number_at, read_text}

-- the same at a place
pub other_at : (f g : List ℕ → Reading Tree) (b : List ℕ) (i : ℕ) → i < length b → get_or b i 0 ≢ 34 → get_or b i 0 ≢ 91 → get_or b i 0 ≢ 123 → get_or b i 0 ≢ 110 → get_or b i 0 ≢ 116 → get_or b i 0 ≢ 102
    → value_by f g (drop i b) ≡ number_at (drop i b)
other_at f g b i h h1 h2 h3 h4 h5 h6 =
    let e : drop i b ≡ get_or b i 0 ∷ drop (i + 1) b = drop_more b i 0 h in
    ap (λ l. value_by f g l) e ∙ (value_by_other f g (get_or b i 0) (drop (i + 1) b) h1 h2 h3 h4 h5 h6 ∙ ap (λ l. number_at l) (sym e))

-- a value that begins with a quote is a text
pub text_is : (f g : List ℕ → Reading Tree) (b : List ℕ) (i : ℕ) → i < length b → get_or b i 0 ≡ 34 → value_by f g (drop i b) ≡ option_map {U = Tree × List ℕ} (λ p. (text p.0, p.1)) (read_text (drop (i + 1) b))
text_is f g b i h q = ap (λ l. value_by f g l) (drop_more b i 0 h ∙ ap (λ x. x ∷ drop (i + 1) b) q)

-- a value that begins as a word
pub null_at : (f g : List ℕ → Reading Tree) (b : List ℕ) (i : ℕ) → i < length b → get_or b i 0 ≡ 110 → value_by f g (drop i b) ≡ word_at (codes "null") null (drop i b)
null_at f g b i h q =
    let e : drop i b ≡ 110 ∷ drop (i + 1) b = drop_more b i 0 h ∙ ap (λ x. x ∷ drop (i + 1) b) q in
    ap (λ l. value_by f g l) e ∙ ap (λ l. word_at (codes "null") null l) (sym e)

-- the same of the second word
pub true_at : (f g : List ℕ → Reading Tree) (b : List ℕ) (i : ℕ) → i < length b → get_or b i 0 ≡ 116 → value_by f g (drop i b) ≡ word_at (codes "true") (boolean true) (drop i b)
true_at f g b i h q =
    let e : drop i b ≡ 116 ∷ drop (i + 1) b = drop_more b i 0 h ∙ ap (λ x. x ∷ drop (i + 1) b) q in
    ap (λ l. value_by f g l) e ∙ ap (λ l. word_at (codes "true") (boolean true) l) (sym e)

-- the same of the third
pub false_at : (f g : List ℕ → Reading Tree) (b : List ℕ) (i : ℕ) → i < length b → get_or b i 0 ≡ 102 → value_by f g (drop i b) ≡ word_at (codes "false") (boolean false) (drop i b)
false_at f g b i h q =
    let e : drop i b ≡ 102 ∷ drop (i + 1) b = drop_more b i 0 h ∙ ap (λ x. x ∷ drop (i + 1) b) q in
    ap (λ l. value_by f g l) e ∙ ap (λ l. word_at (codes "false") (boolean false) l) (sym e)

-- a fact is one on refusals
pub on_err : {T E P : Type 0} (r : Result T E) → P → OnErr r P
on_err (Ok x) p = tt
on_err (Err e) p = p

-- the one node of a scalar
pub flat-static : (n : StaticNode) → flat (static_tree n) ≡ static_mark n ∷ []
flat-static Null = refl
flat-static (nodes.Bool b) = refl
flat-static (I64 n) = refl
flat-static (U64 n) = refl
flat-static (I128 n) = refl
flat-static (U128 n) = refl
