-- What is read is spelled, and what is spelled is read.
use Rattle.std.proofs.Common.{◌≡◌, ℕ, ◌≤◌, List, [], ◌∷◌, ◌++◌, max, Some, None, IsUtf8, refl, sym, ap, subst, ◌∙◌, arith, append-nil}
use Rattle.sj_text_core.specs.Tree.{Tree, depth}
use Rattle.sj_text_core.specs.Grammar.{Spelling, Spells, IsReadable}
use Rattle.sj_text_core.specs.Nodes.{Mark, flat, tree_of, IsPreorder}
use Rattle.sj_text_core.specs.Code.{tree_of-flat}
use Rattle.std.proofs.lemmas.Option.{none-some, same_Some, option_and_then_some}
use Rattle.sj_text_core.specs.inner.Parse.{read_tree, read_value, after_blank, read_whole}
use Rattle.sj_text_core.proofs.parse.Steps.{Blank, blank_off}
use Rattle.sj_tape.proofs.Fronts.{Front}
use Rattle.sj_tape.proofs.Sound.{Deep, value_sound}
use Rattle.sj_tape.proofs.Texts.{lift}
use Rattle.sj_text_core.proofs.parse.One.{complete}
use Rattle.sj_tape.specs.inner.Gives.{Scans}

last_is : (t u : Tree) (b : List ℕ) → read_whole t b ≡ Some u → (t ≡ u) × (b ≡ [])
last_is t u [] e = (same_Some t u e, refl)
last_is t u (c ∷ b) e = absurd (none-some u e)

tree_of_value : (d : ℕ) (b : List ℕ) (q : Blank b) (u t : Tree) (r : List ℕ) → IsUtf8 b → Front (Deep d) (after_blank b) u r → u ≡ t → after_blank r ≡ [] → Spells b t × (depth t ≤ d)
tree_of_value d b q u t r utf8 f e z =
    let p = blank_off r in
    let back : r ≡ p.front = p.is ∙ (ap (λ l. p.front ++ l) z ∙ append-nil p.front) in
    let whole : b ≡ q.front ++ (f.front ++ p.front) = q.is ∙ ap (λ l. q.front ++ l) (f.is ∙ ap (λ l. f.front ++ l) back) in
    let spelled : Spelling u f.front = lift u f.front q.front p.front f.has.0 (subst (λ l. IsUtf8 l) whole utf8) in
    subst (λ v. Spells b v × (depth v ≤ d)) e (
      record { before = q.front; word = f.front; after = p.front; is = whole; blank_before = q.blank; spelled = spelled; blank_after = p.blank },
      f.has.1,
    )

-- what is read is spelled, in the limit
pub sound : (d : ℕ) (b : List ℕ) (t : Tree) → IsUtf8 b → read_tree d b ≡ Some t → Spells b t × (depth t ≤ d)
sound d b t u e =
    option_and_then_some _ (read_value d (after_blank b)) t e (λ p e1 e2.
    let k = last_is p.0 t (after_blank p.1) e2 in
    tree_of_value d b (blank_off b) p.0 t p.1 u (value_sound d (after_blank b) p.0 p.1 e1) k.0 k.1)

-- no other tree is spelled
pub only : (d : ℕ) (b : List ℕ) (t u : Tree) → IsUtf8 b → read_tree d b ≡ Some t → Spells b u → u ≡ t
only d b t u utf8 e s =
    let k = sound d b t utf8 e in
    let e1 : read_tree (max (depth t) (depth u)) b ≡ Some t = complete (max (depth t) (depth u)) b t k.0 (omega arith) in
    let e2 : read_tree (max (depth t) (depth u)) b ≡ Some u = complete (max (depth t) (depth u)) b u s (omega arith) in
    cc

-- what is not read is not readable
pub unreadable : (b : List ℕ) → read_tree 1024 b ≡ None → IsReadable b → ⊥
unreadable b e r = let k : read_tree 1024 b ≡ Some r.0 = complete 1024 b r.0 r.1 r.2 in cc

-- the nodes of a tree give it back
pub tree_is : (ns : List Mark) (t : Tree) → ns ≡ flat t → tree_of ns ≡ t
tree_is ns t e = ap (λ l. tree_of l) e ∙ tree_of-flat t

-- the nodes of a tree are a preorder
pub preorder_is : (ns : List Mark) (t : Tree) → ns ≡ flat t → IsPreorder ns
preorder_is ns t e = e ∙ ap (λ u. flat u) (sym (tree_is ns t e))

-- what is known of the tree that was read
pub record Read (b : List ℕ) (t : Tree) : Type 0 where
  pub spelled : Spells b t
  pub within : depth t ≤ 1024
  pub only : (u : Tree) → Spells b u → u ≡ t

-- what is known of a tree that was read
pub is_read : (b : List ℕ) (t : Tree) → IsUtf8 b → read_tree 1024 b ≡ Some t → Read b t
is_read b t utf8 was =
    let k = sound 1024 b t utf8 was in
    record { spelled = k.0; within = k.1; only = λ u s. only 1024 b t u utf8 was s }

-- the tree of the nodes is the one that was read
pub is_taped : (b : List ℕ) (ns : List Mark) (u : Tree) → Scans (read_tree 1024 b) ns → u ≡ tree_of ns → read_tree 1024 b ≡ Some u
is_taped b ns u s e = s.was ∙ ap (λ t. Some t) (sym (e ∙ tree_is ns s.tree s.nodes))
