use Rattle.std.proofs.Common.{map, sym, ap, ◌∙◌, arith}
use Rattle.sj_text_core.specs.Tree.{text, list, obj, depth, items_depth, members_depth, items_from}
use Rattle.sj_text_core.specs.Edits as members
use Rattle.sj_object.specs.Entries.{entries_of}
use Rattle.sj_object.specs.Members.{entry_members}
use Rattle.sj_object.proofs.Shown.{entry_members-put}
use Rattle.sj_object.proofs.Walks.{put_all, put_all-distinct}
use Rattle.sj_document.specs.Document.{document_tree}
use Rattle.sj_document.specs.Taken.{whole}
use Rattle.sj_document.proofs.Trees.{tree-Array, tree-Object}
use Rattle.sj_document.proofs.Sorts.{tree-String}
use Rattle.sj_document.proofs.value.convert.+convert.Goals as goal

pub convert_within-convert_members-requires : goal.convert_within-convert_members-requires
convert_within-convert_members-requires g r c κs within =
    let t = g.T.KeyText.text_of in
    (omega (arith, c.decreases, ap depth (ap (document_tree t) (c.take_apart.ensures ∙ ap whole c.in-Object.is) ∙ tree-Object t c.in-Object.members), ap (λ m. members_depth (entry_members (document_tree t) m.entries)) c.into_inner-in-Object.ensures), within)

pub convert_within-returns-in_ok-new-in-Object : goal.convert_within-returns-in_ok-new-in-Object
convert_within-returns-in_ok-new-in-Object g r c =
    let t = g.T.KeyText.text_of in
    tree-Object g.U.KeyText.text_of c.in_ok-new-in-Object.field-0
    ∙ ap obj (ap (λ m. entry_members (document_tree g.U.KeyText.text_of) m.entries) c.in_ok-new-in-Object.ensures.ok ∙ c.in_ok-members-in-Object.ensures ∙ ap (λ m. entry_members (document_tree t) m.entries) c.into_inner-in-Object.ensures)
    ∙ sym (ap (document_tree t) (c.take_apart.ensures ∙ ap whole c.in-Object.is) ∙ tree-Object t c.in-Object.members)

pub convert_members-loop-key-init : goal.convert_members-loop-key-init
convert_members-loop-key-init g r c =
    let t = g.T.KeyText.text_of in
    let u = g.U.KeyText.text_of in
    let all = c.into_iter-key-iterator.ensures.into_iter_gives in
    record {
      made = (λ i. put_all (document_tree t) (entry_members (document_tree u) (c.in_ok-made.ensures.entries i)) (all i)) ∙ put_all-distinct (document_tree t) c.args.members.entries c.args.members.distinct;
      within = omega (arith, ap (λ es. members_depth (entry_members (document_tree t) es)) all);
    }

pub convert_members-loop-key-preserved : goal.convert_members-loop-key-preserved
convert_members-loop-key-preserved g r c =
    let t = g.T.KeyText.text_of in
    let u = g.U.KeyText.text_of in
    let rest = entries_of t c.next.new.self in
    let old = c.loop-key.made.entries in
    let ahead = ap (entries_of t) c.in-Some.ensures.steps in
    record {
      made = ap (λ es. put_all (document_tree t) (entry_members (document_tree u) es) rest) c.in_ok-set.ensures
          ∙ ap (λ ms. put_all (document_tree t) ms rest) (entry_members-put (document_tree u) (c.in_ok-name.name, u c.in_ok-name.name) c.in_ok-member.member old)
          ∙ (λ i. put_all (document_tree t) (members.put (c.in_ok-name.ensures i) (c.in_ok-member.ensures i) (entry_members (document_tree u) old)) rest)
          ∙ ap (put_all (document_tree t) (entry_members (document_tree u) old)) (sym ahead) ∙ c.loop-key.invariant.made;
      within = omega (arith, c.loop-key.invariant.within, ap (λ es. members_depth (entry_members (document_tree t) es)) ahead);
    }

pub convert_within-convert_items-requires : goal.convert_within-convert_items-requires
convert_within-convert_items-requires g r c κs within =
    let t = g.T.KeyText.text_of in
    (omega (arith, c.decreases, ap depth (ap (document_tree t) (c.take_apart.ensures ∙ ap whole c.in-Array.is) ∙ tree-Array t c.in-Array.items), ap (λ v. items_depth (items_from (map (document_tree t) v.items))) c.into_inner.ensures), within)

pub convert_within-returns-in_ok-text_from-in-String : goal.convert_within-returns-in_ok-text_from-in-String
convert_within-returns-in_ok-text_from-in-String g r c =
    let t = g.T.KeyText.text_of in
    tree-String g.U.KeyText.text_of c.in_ok-text_from-in-String.field-0 ∙ ap text c.in_ok-text_from-in-String.ensures ∙ sym (ap (document_tree t) (c.take_apart.ensures ∙ ap whole c.in-String.is) ∙ tree-String t c.in-String.text)

pub convert_within-returns-in_ok-new-in-Array : goal.convert_within-returns-in_ok-new-in-Array
convert_within-returns-in_ok-new-in-Array g r c =
    let t = g.T.KeyText.text_of in
    let u = g.U.KeyText.text_of in
    tree-Array u c.in_ok-new-in-Array.field-0
    ∙ ap (λ us. list (items_from us)) (ap (λ v. map (document_tree u) v.items) c.in_ok-new-in-Array.ensures.ok ∙ c.in_ok-items-in-Array.ensures ∙ ap (λ v. map (document_tree t) v.items) c.into_inner.ensures)
    ∙ sym (ap (document_tree t) (c.take_apart.ensures ∙ ap whole c.in-Array.is) ∙ tree-Array t c.in-Array.items)
