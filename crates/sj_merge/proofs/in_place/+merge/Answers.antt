use Rattle.std.proofs.Common.{◌≡◌, ◌≢◌, ◌||◌, ℕ, List, [], ◌∷◌, ◌++◌, rules, Box, Global, Bool, true, false, true≢false, bytes_eq, Some, None, option_map, refl, sym, ap, ◌∙◌, arith}
use Rattle.std.proofs.lemmas.Slice.Eq.{bytes_eq-Decides}
use Rattle.sj_text_core.specs.Tree.{obj, no_members, members_depth}
use Rattle.sj_text_core.specs.Find.{find_member}
use Rattle.sj_text_core.specs.Edits as members
use Rattle.sj_text_core.specs.Keep.{is_seen}
use Rattle.sj_object.specs.Texts.{no_repeats}
use Rattle.sj_object.specs.inner.Texts.{not_and}
use Rattle.sj_object.specs.Entries.{entries_of, entry_texts}
use Rattle.sj_object.specs.Members.{entry_members}
use Rattle.sj_object.proofs.Shown.{lookup-entry_members, entry_members-set_value, entry_members-put}
use Rattle.sj_document.specs.Document.{document_tree}
use Rattle.sj_document.specs.declared.value.Document.{Object, the_lemmas}
use Rattle.sj_document.proofs.Trees.{Map, tree-Object}
use Rattle.sj_merge.specs.Merge.{merged, merged_members, target_members}
use Rattle.sj_merge.specs.inner.Log.{finished_one, finished, log_undone}
use Rattle.sj_merge.proofs.Pairs.{null_of, no_null, merged-none, merged_whole}
use Rattle.sj_merge.proofs.Passing.{passes_as, both-pass}
use Rattle.sj_merge.proofs.Logs.{finished-last, undone-last}
use Rattle.sj_merge.proofs.AtMembers.{goes, added, at_member, swapped, within}
use Rattle.sj_merge.proofs.in_place.+merge.Goals as goal

pub merge_member-returns-then-is_null : goal.merge_member-returns-then-is_null
merge_member-returns-then-is_null g r c =
    let t = g.T.KeyText.text_of in
    let v = document_tree t c.args.value in
    goes t c.args.key v (entry_members (document_tree t) c.args.into.now.entries) (null_of v (sym c.is_null.ensures ∙ c.if-is_null.true))

pub merge_member-returns-in-Some : goal.merge_member-returns-in-Some
merge_member-returns-in-Some g r c =
    let t = g.T.KeyText.text_of in
    let es = c.args.into.now.entries in
    let ms = entry_members (document_tree t) es in
    let k = c.text.result.now in
    let v = document_tree t c.args.value in
    let old = c.in-Some.child.now in
    let new = c.merge_value.new.child in
    let found : Some (document_tree t old) ≡ find_member (t c.args.key) ms = ap (option_map (document_tree t)) c.in-Some.ensures.value ∙ lookup-entry_members (document_tree t) k es ∙ ap (λ k. find_member k ms) c.text.ensures in
    at_member t (t c.args.key) v (document_tree t old) (document_tree t new) ms _ c.merge_value.result (no_null v (sym c.is_null.ensures ∙ c.if-is_null.false)) (sym found)
    (entry_members-set_value (document_tree t) k new old es (sym c.in-Some.ensures.value) ∙ ap (λ k. members.put k (document_tree t new) ms) c.text.ensures) c.merge_value.ensures

pub merge_member-returns-in-Ok : goal.merge_member-returns-in-Ok
merge_member-returns-in-Ok g r c =
    let t = g.T.KeyText.text_of in
    let es = c.args.into.now.entries in
    let ms = entry_members (document_tree t) es in
    let k = c.text.result.now in
    let v = document_tree t c.args.value in
    let made = c.in_ok-made.made in
    let none : None ≡ find_member (t c.args.key) ms = ap (option_map (document_tree t)) c.in_default.ensures.value ∙ lookup-entry_members (document_tree t) k es ∙ ap (λ k. find_member k ms) c.text.ensures in
    added t (t c.args.key) v ms _ (no_null v (sym c.is_null.ensures ∙ c.if-is_null.false)) (sym none)
    (ap (entry_members (document_tree t)) c.in-Ok.ensures.entries ∙ entry_members-put (document_tree t) (c.args.key, t c.args.key) made es
    ∙ ap (λ u. members.put (t c.args.key) u ms) (c.in_ok-made.ensures ∙ ap (λ x. merged (Some x) v) c.null.ensures ∙ merged-none v))

pub merge_next-returns-clause-finished : goal.merge_next-returns-clause-finished
merge_next-returns-clause-finished g r c p =
    let t = g.T.KeyText.text_of in
    let old = c.args.log.now.items in
    let x = c.in_ok-logged.logged in
    let ns = entry_members (document_tree t) c.merge_member.new.into.entries in
    let log : c.push.new.self.items ≡ old ++ x ∷ [] = rw (c.push.ensures.items, c.unwrap.ensures, c.reserve.ensures.items) refl in
    ap (λ l. finished t l ns) log ∙ finished-last t old x ns ∙ c.in_ok-logged.ensures.finish (finished t old) p

pub merge_next-returns-clause-apart : goal.merge_next-returns-clause-apart
merge_next-returns-clause-apart g r c k n p =
    let t = g.T.KeyText.text_of in
    let old = c.args.log.now.items in
    let new = c.push.new.self.items in
    let x = c.in_ok-logged.logged in
    let log : new ≡ old ++ x ∷ [] = rw (c.push.ensures.items, c.unwrap.ensures, c.reserve.ensures.items) refl in
    passes_as k (finished t new) (λ ms. finished_one t x (finished t old ms)) (λ ms. ap (λ l. finished t l ms) log ∙ finished-last t old x ms) (both-pass k (finished t old) (finished_one t x) p (c.in_ok-logged.ensures.apart k n))

pub merge_next-returns-clause-undone : goal.merge_next-returns-clause-undone
merge_next-returns-clause-undone g r c =
    let t = g.T.KeyText.text_of in
    let old = c.args.log.now.items in
    let x = c.in_ok-logged.logged in
    let ns = entry_members (document_tree t) c.merge_member.new.into.entries in
    let log : c.push.new.self.items ≡ old ++ x ∷ [] = rw (c.push.ensures.items, c.unwrap.ensures, c.reserve.ensures.items) refl in
    ap (λ l. log_undone t l ns) log ∙ undone-last t old x ns ∙ ap (log_undone t old) c.in_ok-logged.ensures.undo

pub merge_object-returns-in-Ok : goal.merge_object-returns-in-Ok
merge_object-returns-in-Ok g r c =
    let t = g.T.KeyText.text_of in
    let m = c.deref_mut.result.now in
    let n = c.merge_within.new.into in
    let b : Box (Map g.row.T.Denot) Global = record c.in-Object.into { value = n } in
    let same : document_tree t c.args.child.now ≡ obj (entry_members (document_tree t) m.entries) =
    (ap (document_tree t) c.in-Object.is ∙ tree-Object t c.in-Object.into) ∙ sym (ap (λ n. obj (entry_members (document_tree t) n.entries)) (c.deref_mut.ensures.value ∙ ap (λ b. b.value) c.in-Object.into-is)) in
    within t c.args.key c.in-Ok.log (entry_members (document_tree t) c.args.members.entries) (entry_members (document_tree t) m.entries) (entry_members (document_tree t) n.entries) (document_tree t c.args.child.now) _ same
    (ap (document_tree t) (let e : _ ≡ Object b = search (rules, the_lemmas) in e) ∙ tree-Object t b) c.in-Ok.ensures.0 c.in-Ok.ensures.1

pub merge_object-returns-in-Err : goal.merge_object-returns-in-Err
merge_object-returns-in-Err g r c =
    let t = g.T.KeyText.text_of in
    let m = c.deref_mut.result.now in
    let n = c.merge_within.new.into in
    let b : Box (Map g.row.T.Denot) Global = record c.in-Object.into { value = n } in
    let same : document_tree t c.args.child.now ≡ obj (entry_members (document_tree t) m.entries) =
    (ap (document_tree t) c.in-Object.is ∙ tree-Object t c.in-Object.into) ∙ sym (ap (λ n. obj (entry_members (document_tree t) n.entries)) (c.deref_mut.ensures.value ∙ ap (λ b. b.value) c.in-Object.into-is)) in
    (ap (document_tree t) (let e : _ ≡ Object b = search (rules, the_lemmas) in e) ∙ tree-Object t b) ∙ ap obj c.in-Err.ensures ∙ sym same

pub merge_object-returns-in_ok-made-in_default : goal.merge_object-returns-in_ok-made-in_default
merge_object-returns-in_ok-made-in_default g r c =
    let t = g.T.KeyText.text_of in
    let ps = entry_members (document_tree t) c.args.members.entries in
    let old = document_tree t c.args.child.now in
    let none : target_members (Some old) ≡ no_members = search (rules, the_lemmas) in
    swapped t c.args.key c.replace.result (obj ps) old (document_tree t c.replace.new.dest) (ap (document_tree t) c.replace.ensures.value)
    (ap (document_tree t) c.replace.ensures.after ∙ c.in_ok-made-in_default.ensures ∙ ap (λ ms. obj (merged_members ms ps)) (sym none))

pub merge_value-returns-then-not-is_object : goal.merge_value-returns-then-not-is_object
merge_value-returns-then-not-is_object g r c =
    let t = g.T.KeyText.text_of in
    let v = document_tree t c.args.value in
    let old = document_tree t c.args.child.now in
    swapped t c.args.key c.replace.result v old (document_tree t c.replace.new.dest) (ap (document_tree t) c.replace.ensures.value)
    (ap (document_tree t) c.replace.ensures.after ∙ merged_whole (Some old) v (sym c.is_object.ensures ∙ c.if-not-is_object.true))

is_itself : (k : List ℕ) → bytes_eq k k ≡ true
is_itself k = (bytes_eq-Decides k k).1 refl

seen-first : (k : List ℕ) (ks : List (List ℕ)) → is_seen k (k ∷ ks) ≡ true
seen-first k ks = ap (λ b. b || is_seen k ks) (is_itself k)

seen-later : (k l : List ℕ) (ks : List (List ℕ)) → is_seen l ks ≡ true → is_seen l (k ∷ ks) ≡ true
seen-later k l ks s = by_test (bytes_eq l k) where
  by_test : (b : Bool) → b || is_seen l ks ≡ true
  by_test true = refl
  by_test false = s

not_seen : (k l : List ℕ) (ks : List (List ℕ)) → is_seen k ks ≡ false → is_seen l ks ≡ true → l ≢ k
not_seen k l ks n s q = true≢false (sym s ∙ ap (λ l. is_seen l ks) q ∙ n)

pub merge_within-loop-key-preserved : goal.merge_within-loop-key-preserved
merge_within-loop-key-preserved g r c =
    let t = g.T.KeyText.text_of in
    let k = t c.in-Some.key in
    let rest = entries_of t c.next.new.self in
    let now = finished t c.loop-key.log.items (entry_members (document_tree t) c.loop-key.into.entries) in
    let held = c.loop-key.invariant in
    let ahead : entries_of t c.loop-key.key-iterator ≡ ((c.in-Some.key, k), c.in-Some.value) ∷ rest = ap (entries_of t) c.in-Some.ensures.steps in
    let once = not_and (is_seen k (entry_texts rest)) (no_repeats (entry_texts rest)) (ap (λ es. no_repeats (entry_texts es)) (sym ahead) ∙ held.distinct) in
    let seen = λ (l : List ℕ) (s : is_seen l (k ∷ entry_texts rest) ≡ true). held.apart l (ap (λ es. is_seen l (entry_texts es)) ahead ∙ s) in
    record {
      finish = ap (λ ms. merged_members ms (entry_members (document_tree t) rest)) (c.in-Ok.ensures.finished (seen k (seen-first k (entry_texts rest)))) ∙ ap (λ es. merged_members now (entry_members (document_tree t) es)) (sym ahead) ∙ held.finish;
      undo = c.in-Ok.ensures.undone ∙ held.undo;
      within = omega (arith, held.within, ap (λ es. members_depth (entry_members (document_tree t) es)) ahead);
      distinct = once.1;
      apart = λ l s. c.in-Ok.ensures.apart l (not_seen k l (entry_texts rest) once.0 s) (seen l (seen-later k l (entry_texts rest) s));
    }
