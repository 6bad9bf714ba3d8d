-- A write one step further down.
use Rattle.std.proofs.Common.{◌≡◌, ℕ, List, [], ◌∷◌, Option, Some, None, option_and_then, Result, Ok, Err, refl, sym, ap, ◌∙◌}
use Rattle.std.specs.declared.alloc.AllocError.{AllocError}
use Rattle.sj_text_core.specs.Tree.{Tree, list, obj, Items, Members}
use Rattle.sj_text_core.specs.Find.{find, nth}
use Rattle.sj_text_core.specs.Places.{position_of}
use Rattle.sj_text_core.specs.Paths.{Step, by_key, by_place, by_token, step_into, tree_at, set_placed, set_found, change_found, set_at}
use Rattle.sj_text_core.proofs.Paths.{found_same}
use Rattle.sj_text_core.proofs.Writes.{set_at-same}
use Rattle.sj_commands.specs.Commands.{Write}
use Rattle.sj_run.specs.Replies.{PlainReply, missing}
use Rattle.sj_run.specs.Answers.{edit, edit_found, changed}
use Rattle.sj_run.specs.inner.Changed.{Edits, changed_meant}
use Rattle.sj_run.specs.declared.change.Changed.{Changed}

below : (s : Step) (p : List Step) (w : Write) (t u : Tree) (o : Option Tree) → tree_at p u ≡ o → step_into s t ≡ Some u
    → edit_found o (s ∷ p) w t ≡ (set_found s (edit_found o p w u).0 t, (edit_found o p w u).1)
below s p w t u None e f = λ j. (sym (found_same s u t f) j, missing)
below s p w t u (Some x) e f = ap (λ o. (change_found o s (set_at p (changed w x).0) t, (changed w x).1)) f

-- where the step finds a value, the write goes on there
pub edit_below : (s : Step) (p : List Step) (w : Write) (t u : Tree) → step_into s t ≡ Some u → edit (s ∷ p) w t ≡ (set_found s (edit p w u).0 t, (edit p w u).1)
edit_below s p w t u f = ap (λ o. edit_found (option_and_then (tree_at p) o) (s ∷ p) w t) f ∙ below s p w t u (tree_at p u) refl f

-- where it finds none, nothing changes
pub edit_missing : (s : Step) (p : List Step) (w : Write) (t : Tree) → step_into s t ≡ None → edit (s ∷ p) w t ≡ (t, missing)
edit_missing s p w t f = ap (λ o. edit_found (option_and_then (tree_at p) o) (s ∷ p) w t) f

-- on an object a token is a key
change-member : (o : Option Tree) (k : List ℕ) (f : Tree → Tree) (ms : Members) → change_found o (by_token k) f (obj ms) ≡ change_found o (by_key k) f (obj ms)
change-member None k f ms = refl
change-member (Some u) k f ms = refl

found-member : (o : Option Tree) (k : List ℕ) (p : List Step) (w : Write) (ms : Members) → edit_found o (by_token k ∷ p) w (obj ms) ≡ edit_found o (by_key k ∷ p) w (obj ms)
found-member None k p w ms = refl
found-member (Some u) k p w ms = ap (λ t. (t, (changed w u).1)) (change-member (find k (obj ms)) k (set_at p (changed w u).0) ms)

pub edit-member : (k : List ℕ) (p : List Step) (w : Write) (ms : Members) → edit (by_token k ∷ p) w (obj ms) ≡ edit (by_key k ∷ p) w (obj ms)
edit-member k p w ms = found-member (tree_at (by_key k ∷ p) (obj ms)) k p w ms

-- on an array it is the place that it names
change-item : (o : Option Tree) (k : List ℕ) (i : ℕ) (f : Tree → Tree) (is : Items) → position_of k ≡ Some i → change_found o (by_token k) f (list is) ≡ change_found o (by_place i) f (list is)
change-item None k i f is e = refl
change-item (Some u) k i f is e = ap (λ o. list (set_placed o (f u) is)) e

item-named : (k : List ℕ) (i : ℕ) (is : Items) → position_of k ≡ Some i → step_into (by_token k) (list is) ≡ nth i (list is)
item-named k i is e = ap (option_and_then (λ i. nth i (list is))) e

found-item : (o : Option Tree) (k : List ℕ) (i : ℕ) (p : List Step) (w : Write) (is : Items) → position_of k ≡ Some i → edit_found o (by_token k ∷ p) w (list is) ≡ edit_found o (by_place i ∷ p) w (list is)
found-item None k i p w is e = refl
found-item (Some u) k i p w is e =
    ap (λ t. (t, (changed w u).1)) (ap (λ o. change_found o (by_token k) (set_at p (changed w u).0) (list is)) (item-named k i is e) ∙ change-item (nth i (list is)) k i (set_at p (changed w u).0) is e)

pub edit-item : (k : List ℕ) (i : ℕ) (p : List Step) (w : Write) (is : Items) → position_of k ≡ Some i → edit (by_token k ∷ p) w (list is) ≡ edit (by_place i ∷ p) w (list is)
edit-item k i p w is e =
    found-item (tree_at (by_token k ∷ p) (list is)) k i p w is e ∙ ap (λ o. edit_found (option_and_then (tree_at p) o) (by_place i ∷ p) w (list is)) (item-named k i is e)

module _ {T : Type 0} (t : T → List ℕ) where
  -- what was answered at a value, seen from the one that it stands in
  pub answered_below : (s : Step) (p : List Step) (w : Write) (before after u v : Tree) (r : Result (Changed T) AllocError) → step_into s before ≡ Some u → after ≡ set_found s v before
      → Edits t p w u v r → Edits t (s ∷ p) w before after r
  answered_below s p w before after u v (Ok x) f new h =
      ap (λ a. (a, changed_meant t x)) new ∙ ap (λ (q : Tree × PlainReply). (set_found s q.0 before, q.1)) h ∙ sym (edit_below s p w before u f)
  answered_below s p w before after u v (Err x) f new h = new ∙ ap (λ a. set_found s a before) h ∙ found_same s u before f

  -- the same by an equal edit and equal trees
  pub answered_as : (p q : List Step) (w : Write) (before before' after after' : Tree) (r : Result (Changed T) AllocError) → edit q w before' ≡ edit p w before → before' ≡ before → after' ≡ after → Edits t p w before after r
      → Edits t q w before' after' r
  answered_as p q w before before' after after' (Ok x) e f g h = ap (λ a. (a, changed_meant t x)) g ∙ h ∙ sym e
  answered_as p q w before before' after after' (Err x) e f g h = g ∙ h ∙ sym f

  -- what was answered at the value at the path
  pub answered_there : (p : List Step) (w : Write) (before cur after new : Tree) (r : Result (Changed T) AllocError) → tree_at p before ≡ Some cur → after ≡ set_at p new before
      → Edits t [] w cur new r → Edits t p w before after r
  answered_there p w before cur after new (Ok x) h e f =
      ap (λ a. (a, changed_meant t x)) e ∙ ap (λ (q : Tree × PlainReply). (set_at p q.0 before, q.1)) f ∙ ap (λ o. edit_found o p w before) (sym h)
  answered_there p w before cur after new (Err x) h e f = e ∙ ap (λ n. set_at p n before) f ∙ set_at-same p cur before h

  -- where nothing stands at the path
  pub answered_nowhere : (p : List Step) (w : Write) (before after : Tree) → tree_at p before ≡ None → after ≡ before → (after, missing) ≡ edit p w before
  answered_nowhere p w before after h e = ap (λ a. (a, missing)) e ∙ ap (λ o. edit_found o p w before) (sym h)
