-- What is still to be made, step by step.
use Rattle.std.proofs.Common.{◌≡◌, ◌+◌, ◌*◌, ◌≤◌, ℕ, List, [], ◌∷◌, ◌++◌, map, Result, Ok, Err, IfOk, Vec, Global, refl, sym, ap, ◌∙◌, append_assoc, arith}
use Rattle.std.proofs.lemmas.List.{map-append}
use Rattle.std.proofs.lemmas.List.Sums.{sum_by_push}
use Rattle.sj_text_core.specs.Tree.{Tree, list, obj, items_from, Members, members_from}
use Rattle.sj_text_core.specs.Edits as members
use Rattle.sj_object.specs.Members.{entry_members}
use Rattle.sj_object.specs.Entries.{Entry, entries_of}
use Rattle.sj_object.specs.Edits as object
use Rattle.sj_object.proofs.Shown.{entry_members-put}
use Rattle.sj_object.proofs.Walks.{put_all}
use Rattle.sj_print.specs.inner.Piles.{items_weight, members_weight}
use Rattle.sj_document.specs.Document.{document_tree}
use Rattle.sj_document.specs.inner.Piled.{put_rest, with_part, items_tree, members_tree, whole_of, waiting_weight, waiting_left, items_left_weight, members_left_weight, StepsOn}
use Rattle.sj_document.specs.declared.value.Document.{Document}
use Rattle.sj_document.specs.declared.value.piled.Waiting.{Waiting}
use Rattle.sj_document.specs.declared.value.piled.Waiting.TheVariants as waiting
use Rattle.sj_document.specs.declared.value.piled.Next.{Next}
use Rattle.sj_document.specs.declared.value.piled.Next.TheVariants as next
use Rattle.sj_document.proofs.Trees.{Map}

module _ {T : Type 0} (t : T → List ℕ) where
  -- entries put in turn are their pairs put in turn
  pub rest_all : (ms : Members) (ps : List (T × Document T)) → put_rest ms (map (λ (p : T × Document T). (t p.0, document_tree t p.1)) ps) ≡ put_all (document_tree t) ms (entries_of t ps)
  rest_all ms [] = refl
  rest_all ms (p ∷ ps) = rest_all (members.put (t p.0) (document_tree t p.1) ms) ps

module _ {T I M : Type 0} (t : T → List ℕ) (items : I → List Tree) (members_left : M → List (List ℕ × Tree)) where
  pub whole_push : (p : List (Waiting I M T)) (w : Waiting I M T) (u : Tree) → whole_of t items members_left (p ++ w ∷ []) u ≡ whole_of t items members_left p (with_part t items members_left w u)
  whole_push [] w u = refl
  whole_push (x ∷ p) w u = ap (with_part t items members_left x) (whole_push p w u)

  pub left_push : (p : List (Waiting I M T)) (w : Waiting I M T) → waiting_left t items members_left (p ++ w ∷ []) ≡ waiting_left t items members_left p + waiting_weight t items members_left w
  left_push p w = sum_by_push (waiting_weight t items members_left) p w

  -- an item that was put behind those that are made
  pub item_put : (made new : List (Document T)) (d : Document T) (ahead : I) → new ≡ made ++ d ∷ [] → items_tree t items members_left new ahead ≡ list (items_from (map (document_tree t) made ++ document_tree t d ∷ items ahead))
  item_put made new d ahead e =
      ap (λ l. list (items_from (map (document_tree t) l ++ items ahead))) e ∙ ap (λ l. list (items_from (l ++ items ahead))) (map-append (document_tree t) made (d ∷ []))
      ∙ ap (λ l. list (items_from l)) (append_assoc (map (document_tree t) made) (document_tree t d ∷ []) (items ahead))

  -- a member that was put among those that are made
  pub member_put : (made new : List (Entry T (Document T))) (k : T) (d : Document T) (ahead : M) → new ≡ object.put_entry (k, t k) d made
      → members_tree t items members_left new ahead ≡ obj (put_rest (members.put (t k) (document_tree t d) (entry_members (document_tree t) made)) (members_left ahead))
  member_put made new k d ahead e =
      ap (λ es. obj (put_rest (entry_members (document_tree t) es) (members_left ahead))) e ∙ ap (λ ms. obj (put_rest ms (members_left ahead))) (entry_members-put (document_tree t) (k, t k) d made)

  module _ {S : Type 0} (tree_of : S → Tree) where
    abbrev Goes : List (Waiting I M T) → Tree → ℕ → Next S T → List (Waiting I M T) → Type 0
    Goes = StepsOn t items members_left tree_of

    -- the same of one tree, and with more to do before
    pub goes_to : (old new : List (Waiting I M T)) (u v : Tree) (w x : ℕ) (n : Next S T) → u ≡ v → w ≤ x → Goes old u w n new → Goes old v x n new
    goes_to old new u v w x n e l g = (g.0 ∙ ap (whole_of t items members_left old) e, omega (arith, l, g.1))

    pub goes_ok : {E : Type 0} (r : Result (Next S T) E) (old new : List (Waiting I M T)) (u v : Tree) (w x : ℕ) → u ≡ v → w ≤ x → IfOk r (λ n. Goes old u w n new) → IfOk r (λ n. Goes old v x n new)
    goes_ok (Ok n) old new u v w x e l g = goes_to old new u v w x n e l g
    goes_ok (Err e) old new u v w x f l g = tt

    -- the next item, for which the array waits
    pub goes_item : (old new : List (Waiting I M T)) (made : Vec (Document T) Global) (ahead rest : I) (s : S) → items ahead ≡ tree_of s ∷ items rest → new ≡ old ++ waiting.Items made rest ∷ []
        → Goes old (items_tree t items members_left made.items ahead) (3 + 2 * items_left_weight t items members_left ahead) (next.Part s) new
    goes_item old new made ahead rest s e pushed = (
      ap (λ l. whole_of t items members_left l (tree_of s)) pushed ∙ whole_push old (waiting.Items made rest) (tree_of s) ∙ ap (λ l. whole_of t items members_left old (list (items_from (map (document_tree t) made.items ++ l)))) (sym e),
      omega (arith, ap (waiting_left t items members_left) pushed ∙ left_push old (waiting.Items made rest), ap (λ l. items_weight (items_from l)) e),
    )

    -- the next member, for which the object waits
    pub goes_member : (old new : List (Waiting I M T)) (made : Map T) (key : T) (ahead rest : M) (s : S) → members_left ahead ≡ (t key, tree_of s) ∷ members_left rest → new ≡ old ++ waiting.Members made key rest ∷ []
        → Goes old (members_tree t items members_left made.entries ahead) (3 + 2 * members_left_weight t items members_left ahead) (next.Part s) new
    goes_member old new made key ahead rest s e pushed = (
      ap (λ l. whole_of t items members_left l (tree_of s)) pushed ∙ whole_push old (waiting.Members made key rest) (tree_of s) ∙ ap (λ l. whole_of t items members_left old (obj (put_rest (entry_members (document_tree t) made.entries) l))) (sym e),
      omega (arith, ap (waiting_left t items members_left) pushed ∙ left_push old (waiting.Members made key rest), ap (λ l. members_weight (members_from l)) e),
    )

    -- the whole object
    pub goes_object : (old : List (Waiting I M T)) (made : Map T) (ahead : M) (d : Document T) → members_left ahead ≡ [] → document_tree t d ≡ obj (entry_members (document_tree t) made.entries)
        → Goes old (members_tree t items members_left made.entries ahead) (3 + 2 * members_left_weight t items members_left ahead) (next.Made d) old
    goes_object old made ahead d e same = (
      ap (whole_of t items members_left old) (same ∙ ap (λ l. obj (put_rest (entry_members (document_tree t) made.entries) l)) (sym e)),
      omega arith,
    )
