use Rattle.std.proofs.Common.{◌≡◌, option_map, Box, Global, sym, ap, ◌∙◌, rules, arith}
use Rattle.std.proofs.lemmas.Result.{on_ok_weaker}
use Rattle.sj_text_core.specs.Tree.{obj, member, depth, members_depth}
use Rattle.sj_text_core.specs.Edits.{put}
use Rattle.sj_object.specs.Entries.{entries_of}
use Rattle.sj_object.specs.Members.{entry_members}
use Rattle.sj_object.proofs.Shown.{lookup-entry_members, entry_members-put, entry_members-set_value}
use Rattle.sj_document.specs.Document.{document_tree}
use Rattle.sj_document.specs.declared.value.Document.{Object, the_lemmas}
use Rattle.sj_document.specs.Taken.{whole}
use Rattle.sj_document.proofs.Trees.{Map, tree-Object}
use Rattle.sj_uses.specs.Merge.{merged, merged_members}
use Rattle.sj_uses.proofs.Covers.{over_found, over_absent}
use Rattle.sj_uses.proofs.merging.+merge.Goals as goal

pub merge-merge_members-requires : goal.merge-merge_members-requires
merge-merge_members-requires g r c κs within =
    let t = g.T.KeyText.text_of in
    (omega (arith, c.decreases, ap depth (ap (document_tree t) (c.take_apart.ensures ∙ ap whole c.in-Object.is) ∙ tree-Object t c.in-Object.members), ap (λ m. members_depth (entry_members (document_tree t) m.entries)) c.into_inner.ensures), within)

pub merge-returns-in-Object-base : goal.merge-returns-in-Object-base
merge-returns-in-Object-base g r c =
    let t = g.T.KeyText.text_of in
    let low : obj (entry_members (document_tree t) c.deref_mut.result.now.entries) ≡ document_tree t c.args.base.now =
    ap (λ n. obj (entry_members (document_tree t) n.entries)) (c.deref_mut.ensures.value ∙ ap (λ b. b.value) c.in-Object-base.into-is) ∙ sym (ap (document_tree t) c.in-Object-base.is ∙ tree-Object t c.in-Object-base.into) in
    let up : obj (entry_members (document_tree t) c.into_inner.result.entries) ≡ document_tree t c.args.over =
    ap (λ m. obj (entry_members (document_tree t) m.entries)) c.into_inner.ensures ∙ sym (ap (document_tree t) (c.take_apart.ensures ∙ ap whole c.in-Object.is) ∙ tree-Object t c.in-Object.members) in
    let b : Box (Map g.row.T.Denot) Global = record c.in-Object-base.into { value = c.merge_members.new.into } in
    on_ok_weaker c.merge_members.result
    (λ e. ap (document_tree t) (let e : _ ≡ Object b = search (rules, the_lemmas) in e) ∙ tree-Object t b ∙ ap obj e ∙ (λ j. merged (low j) (up j)))
    c.merge_members.ensures

pub merge_members-loop-key-preserved-in-Some-get_mut : goal.merge_members-loop-key-preserved-in-Some-get_mut
merge_members-loop-key-preserved-in-Some-get_mut g r c =
    let t = g.T.KeyText.text_of in
    let es = c.loop-key.into.entries in
    let all = entry_members (document_tree t) es in
    let rest = entry_members (document_tree t) (entries_of t c.next.new.self) in
    let k = c.text.result.now in
    let v = c.in-Some-get_mut.child.now in
    let w = c.merge.new.base in
    let u = document_tree t c.in-Some.value in
    let ahead = ap (entries_of t) c.in-Some.ensures.steps in
    let found = sym c.in-Some-get_mut.ensures.value in
    record {
      done = ap (λ ms. merged_members ms rest) (entry_members-set_value (document_tree t) k w v es found)
          ∙ over_found k all rest u (document_tree t v) (document_tree t w) (sym (lookup-entry_members (document_tree t) k es) ∙ ap (option_map (document_tree t)) found) c.in_ok-merge-in-Some-get_mut.ensures
          ∙ ap (λ l. merged_members all (member l u rest)) c.text.ensures
          ∙ ap (λ es. merged_members all (entry_members (document_tree t) es)) (sym ahead) ∙ c.loop-key.invariant.done;
      within = omega (arith, c.loop-key.invariant.within, ap (λ es. members_depth (entry_members (document_tree t) es)) ahead);
    }

pub merge_members-loop-key-preserved : goal.merge_members-loop-key-preserved
merge_members-loop-key-preserved g r c =
    let t = g.T.KeyText.text_of in
    let es = c.loop-key.into.entries in
    let all = entry_members (document_tree t) es in
    let rest = entry_members (document_tree t) (entries_of t c.next.new.self) in
    let k = c.text.result.now in
    let u = document_tree t c.in-Some.value in
    let ahead = ap (entries_of t) c.in-Some.ensures.steps in
    let absent = sym (lookup-entry_members (document_tree t) k es) ∙ ap (option_map (document_tree t)) (sym c.in-None-get_mut.ensures.value) in
    record {
      done = ap (λ es. merged_members (entry_members (document_tree t) es) rest) c.in_ok-insert-in-None-get_mut.ensures.entries
          ∙ ap (λ ms. merged_members ms rest) (entry_members-put (document_tree t) (c.in-Some.key, t c.in-Some.key) c.in-Some.value es)
          ∙ ap (λ l. merged_members (put l u all) rest) (sym c.text.ensures)
          ∙ over_absent k all rest u absent
          ∙ ap (λ l. merged_members all (member l u rest)) c.text.ensures
          ∙ ap (λ es. merged_members all (entry_members (document_tree t) es)) (sym ahead) ∙ c.loop-key.invariant.done;
      within = omega (arith, c.loop-key.invariant.within, ap (λ es. members_depth (entry_members (document_tree t) es)) ahead);
    }
