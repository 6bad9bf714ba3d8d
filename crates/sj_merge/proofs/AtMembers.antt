-- What a merge logs at a member.
use Rattle.std.proofs.Common.{◌≡◌, ℕ, false, List, Some, None, Result, Ok, Err, Vec, Global, sym, ap, ◌∙◌}
use Rattle.std.specs.declared.alloc.AllocError.{AllocError}
use Rattle.sj_text_core.specs.Tree.{Tree, null, obj, Members}
use Rattle.sj_text_core.specs.Find.{find_member}
use Rattle.sj_text_core.specs.Edits.{put, cut}
use Rattle.sj_text_core.proofs.Writes.{find-put_same, put-twice}
use Rattle.sj_text_core.proofs.Paths.{put_same}
use Rattle.sj_document.specs.Document.{document_tree}
use Rattle.sj_document.specs.declared.value.Document.{Document}
use Rattle.sj_merge.specs.Merge.{is_null, merged, merged_members}
use Rattle.sj_merge.specs.inner.Log.{with_changed, without_last_member, in_object, finished_one, finished, log_undone, MergesPair, MergesAt, MergesValue, ChangesValue}
use Rattle.sj_merge.specs.declared.in_place.Logged.{Logged, Goes, Added, Swapped, Within}
use Rattle.sj_merge.proofs.Pairs.{merged_pair-cut, merged_pair-put}
use Rattle.sj_merge.proofs.Passing.{cut-passes, changed-passes, same-passes, passes_as, changed-found, last-put}
use Rattle.sj_merge.proofs.Logs.{finished-Goes, finished-Added, finished-Swapped, finished-Within, undone-Goes, undone-Added, undone-Swapped, undone-Within}

module _ {T : Type 0} (t : T → List ℕ) where
  -- a null
  pub goes : (key : T) (v : Tree) (ms : Members) → v ≡ null → MergesPair t (t key) v ms ms (Goes key)
  goes key v ms e = record {
    finish = λ f p. finished-Goes t key (f ms) ∙ sym (merged_pair-cut (t key) v (f ms) e);
    undo = undone-Goes t key ms;
    apart = λ l n. passes_as l (finished_one t (Goes key)) (cut (t key)) (finished-Goes t key) (cut-passes l (t key) n);
  }

  -- a new member
  pub added : (k : List ℕ) (v : Tree) (ms ns : Members) → is_null v ≡ false → find_member k ms ≡ None → ns ≡ put k (merged None v) ms → MergesPair t k v ms ns Added
  added k v ms ns q absent e = record {
    finish = λ f p. finished-Added t (f ns) ∙ ap f e ∙ p.puts (merged None v) ms ∙ ap (λ o. put k (merged o v) (f ms)) (sym (p.finds ms ∙ absent)) ∙ sym (merged_pair-put k v (f ms) q);
    undo = undone-Added t ns ∙ ap without_last_member e ∙ last-put k (merged None v) ms absent;
    apart = λ l n. passes_as l (finished_one t Added) (λ ms. ms) (finished-Added t) (same-passes l);
  }

  -- a value that is there
  pub at_found : (k : List ℕ) (v u w : Tree) (ms ns : Members) (x : Logged T) → is_null v ≡ false → find_member k ms ≡ Some u → ns ≡ put k w ms → MergesValue t k v u w x → MergesPair t k v ms ns x
  at_found k v u w ms ns x q found e h = record {
    finish = λ f p.
        h.finish (f ns) (p.finds ns ∙ ap (find_member k) e ∙ find-put_same k w ms) ∙ ap (put k (merged (Some u) v)) (ap f e ∙ p.puts w ms) ∙ put-twice k (merged (Some u) v) w (f ms)
        ∙ ap (λ o. put k (merged o v) (f ms)) (sym (p.finds ms ∙ found)) ∙ sym (merged_pair-put k v (f ms) q);
    undo = h.undo ns (ap (find_member k) e ∙ find-put_same k w ms) ∙ ap (put k u) e ∙ put-twice k u w ms ∙ put_same k u ms found;
    apart = h.apart;
  }

  -- the same of what the calls answer
  pub at_member : (k : List ℕ) (v u w : Tree) (ms ns : Members) (r : Result (Logged T) AllocError) → is_null v ≡ false → find_member k ms ≡ Some u → ns ≡ put k w ms → ChangesValue t k v u w r → MergesAt t k v ms ns r
  at_member k v u w ms ns (Ok x) q found e h = at_found k v u w ms ns x q found e h
  at_member k v u w ms ns (Err x) q found e h = e ∙ ap (λ w. put k w ms) h ∙ put_same k u ms found

  -- one that was exchanged
  pub swapped : (key : T) (u : Document T) (v before w : Tree) → document_tree t u ≡ before → w ≡ merged (Some before) v → MergesValue t (t key) v before w (Swapped key u)
  swapped key u v before w p e = record {
    finish = λ ms f. finished-Swapped t key u ms ∙ sym (put_same (t key) w ms f) ∙ ap (λ w. put (t key) w ms) e;
    undo = λ ms f. undone-Swapped t key u ms ∙ changed-found (t key) (λ _. document_tree t u) w ms f ∙ ap (λ u. put (t key) u ms) p;
    apart = λ l n. passes_as l (finished_one t (Swapped key u)) (λ ms. ms) (finished-Swapped t key u) (same-passes l);
  }

  -- one that is an object
  pub within : (key : T) (log : Vec (Logged T) Global) (ps before after : Members) (u w : Tree) → u ≡ obj before → w ≡ obj after → finished t log.items after ≡ merged_members before ps → log_undone t log.items after ≡ before
      → MergesValue t (t key) (obj ps) u w (Within key log)
  within key log ps before after u w p q h i =
      let end = in_object (finished t log.items) in
      let back = in_object (log_undone t log.items) in
      record {
        finish = λ ms f. finished-Within t key log ms ∙ changed-found (t key) end (obj after) ms (f ∙ ap Some q) ∙ ap (λ m. put (t key) (obj m) ms) h ∙ ap (λ u. put (t key) (merged (Some u) (obj ps)) ms) (sym p);
        undo = λ ms f. undone-Within t key log ms ∙ changed-found (t key) back (obj after) ms (f ∙ ap Some q) ∙ ap (λ m. put (t key) (obj m) ms) i ∙ ap (λ u. put (t key) u ms) (sym p);
        apart = λ l n. passes_as l (finished_one t (Within key log)) (with_changed (t key) end) (finished-Within t key log) (changed-passes l (t key) end n);
      }
