-- A member that a map gets, as the pile shows it.
use Rattle.std.proofs.Common.{◌≡◌, ℕ, Bool, true, false, ◌||◌, List, [], ◌∷◌, ◌++◌, refl, ap, sym, ◌∙◌, bytes_eq, IsTrue}
use Rattle.std.specs.Bool.{if◌then◌else◌}
use Rattle.std.specs.List.{AllByRecursion}
use Rattle.std.proofs.lemmas.List.Elements.{All-from_recursion, recursion_from_All}
use Rattle.sj_object.specs.Builder.{AreMade}
use Rattle.sj_text_core.specs.Tree.{Tree}
use Rattle.sj_text_core.specs.Keep.{is_seen}
use Rattle.sj_text_core.specs.declared.repeats.Repeats.{Repeats}
use Rattle.sj_text_core.specs.declared.repeats.Repeats.TheVariants.{First, Last}
use Rattle.sj_object.specs.Entries.{Entry, entry_texts}
use Rattle.sj_object.specs.Edits as edits
use Rattle.sj_object.specs.inner.Piles.{pair_texts, kept_pairs, kept_by, put_pair, entry_pairs}

-- ---- a member of a map

keys_shown : {K V : Type 0} (tree : V → Tree) (k : List ℕ) (es : List (Entry K V)) → is_seen k (pair_texts (entry_pairs tree es)) ≡ is_seen k (entry_texts es)
keys_shown tree k [] = refl
keys_shown tree k (e ∷ es) = ap (λ b. bytes_eq k e.0.1 || b) (keys_shown tree k es)

pub add_none : {K V : Type 0} (tree : V → Tree) (k : List ℕ) (t : Tree) (es : List (Entry K V)) → is_seen k (entry_texts es) ≡ true → entry_pairs tree es ≡ kept_pairs (entry_pairs tree es) ((k, t) ∷ [])
add_none tree k t es e = sym (ap (λ b. if b then entry_pairs tree es else entry_pairs tree es ++ (k, t) ∷ []) (keys_shown tree k es ∙ e))

shown_push : {K V : Type 0} (tree : V → Tree) (es : List (Entry K V)) (e : Entry K V) → entry_pairs tree (es ++ e ∷ []) ≡ entry_pairs tree es ++ (e.0.1, tree e.1) ∷ []
shown_push tree [] e = refl
shown_push tree (f ∷ es) e = ap (λ l. (f.0.1, tree f.1) ∷ l) (shown_push tree es e)

pub add_one : {K V : Type 0} (tree : V → Tree) (k : List ℕ) (t : Tree) (es fs : List (Entry K V)) (key : K) (q : List ℕ) (v : V) → is_seen k (entry_texts es) ≡ false → fs ≡ es ++ ((key, q), v) ∷ [] → q ≡ k → tree v ≡ t → entry_pairs tree fs ≡ kept_pairs (entry_pairs tree es) ((k, t) ∷ [])
add_one tree k t es fs key q v e pushed same is =
    ap (entry_pairs tree) pushed ∙ shown_push tree es ((key, q), v) ∙ ap (λ x. entry_pairs tree es ++ (x, tree v) ∷ []) same ∙ ap (λ x. entry_pairs tree es ++ (k, x) ∷ []) is
    ∙ sym (ap (λ b. if b then entry_pairs tree es else entry_pairs tree es ++ (k, t) ∷ []) (keys_shown tree k es ∙ e))

-- ---- a member that is set

put_by : {K V : Type 0} (tree : V → Tree) (b : Bool) (e : Entry K V) (w : V) (es fs : List (Entry K V)) (ps : List (List ℕ × Tree)) → entry_pairs tree fs ≡ ps
    → entry_pairs tree (if b then (e.0, w) ∷ es else e ∷ fs) ≡ (if b then (e.0.1, tree w) ∷ entry_pairs tree es else (e.0.1, tree e.1) ∷ ps)
put_by tree true e w es fs ps h = refl
put_by tree false e w es fs ps h = ap (λ l. (e.0.1, tree e.1) ∷ l) h

pub shown-put : {K V : Type 0} (tree : V → Tree) (q : K × List ℕ) (w : V) (es : List (Entry K V)) → entry_pairs tree (edits.put_entry q w es) ≡ put_pair q.1 (tree w) (entry_pairs tree es)
shown-put tree q w [] = refl
shown-put tree q w (e ∷ es) = put_by tree (bytes_eq q.1 e.0.1) e w es (edits.put_entry q w es) _ (shown-put tree q w es)

pub set_one : {K V : Type 0} (tree : V → Tree) (k : List ℕ) (t : Tree) (es fs : List (Entry K V)) (key : K) (q : List ℕ) (v : V) → fs ≡ edits.put_entry (key, q) v es → q ≡ k → tree v ≡ t → entry_pairs tree fs ≡ put_pair k t (entry_pairs tree es)
set_one tree k t es fs key q v is same means =
    ap (entry_pairs tree) is ∙ shown-put tree (key, q) v es ∙ (λ i. put_pair (same i) (means i) (entry_pairs tree es))

-- one pair more, by the choice
pub kept_more : (c : Repeats) (done : List (List ℕ × Tree)) (p : List ℕ × Tree) (ps : List (List ℕ × Tree)) → kept_by c (kept_by c done (p ∷ [])) ps ≡ kept_by c done (p ∷ ps)
kept_more First done p ps = refl
kept_more Last done p ps = refl

module _ {K V : Type 0} (is_made : K → Bool) (built : V → Type 0) where
  abbrev Made : Entry K V → Type 0
  Made e = IsTrue (is_made e.0.0) × built e.1

  put_made : (b : Bool) (e : Entry K V) (w : V) (es fs : List (Entry K V)) → built w → AllByRecursion Made (e ∷ es) → AllByRecursion Made fs → AllByRecursion Made (if b then (e.0, w) ∷ es else e ∷ fs)
  put_made true e w es fs h a f = ((a.0.0, h), a.1)
  put_made false e w es fs h a f = (a.0, f)

  put_all_made : (key : K) (q : List ℕ) (v : V) (es : List (Entry K V)) → IsTrue (is_made key) → built v → AllByRecursion Made es → AllByRecursion Made (edits.put_entry (key, q) v es)
  put_all_made key q v [] m h a = ((m, h), tt)
  put_all_made key q v (e ∷ es) m h a = put_made (bytes_eq q e.0.1) e v es (edits.put_entry (key, q) v es) h a (put_all_made key q v es m h a.1)

  pub made_put : (key : K) (q : List ℕ) (v : V) (es : List (Entry K V)) → IsTrue (is_made key) → built v → AreMade is_made built es → AreMade is_made built (edits.put_entry (key, q) v es)
  made_put key q v es m h a = All-from_recursion Made _ (put_all_made key q v es m h (recursion_from_All Made es a))
