use Rattle.std.proofs.Common.{map, sym, ap, ◌∙◌, arith}
use Rattle.sj_text_core.specs.Tree.{text, list, obj, depth, items_depth, members_depth, items_from}
use Rattle.sj_text_core.specs.Edits as members
use Rattle.sj_object.specs.Entries.{entries_of}
use Rattle.sj_object.specs.Members.{entry_members}
use Rattle.sj_object.proofs.Shown.{entry_members-put}
use Rattle.sj_object.proofs.Walks.{put_all, put_all-distinct}
use Rattle.sj_document.specs.Document.{document_tree}
use Rattle.sj_document.proofs.Trees.{tree-Array, tree-Object}
use Rattle.sj_document.proofs.Sorts.{tree-String}
use Rattle.sj_document.proofs.Walks.{item_within, copied_next}
use Rattle.sj_document.proofs.value.copy.+copy.Goals as goal

pub copy-copy_members-requires : goal.copy-copy_members-requires
copy-copy_members-requires g r c κs within =
    let t = g.T.KeyText.text_of in
    (omega (arith, c.decreases, ap depth (ap (document_tree t) c.in-Object.is ∙ tree-Object t c.in-Object.members), ap (λ m. members_depth (entry_members (document_tree t) m.entries)) c.deref-in-Object.ensures), within)

pub copy-returns-in_ok-new-in-Object : goal.copy-returns-in_ok-new-in-Object
copy-returns-in_ok-new-in-Object g r c =
    let t = g.T.KeyText.text_of in
    tree-Object t c.in_ok-new-in-Object.field-0
    ∙ ap obj (ap (λ m. entry_members (document_tree t) m.entries) c.in_ok-new-in-Object.ensures.ok ∙ c.in_ok-copies-in-Object.ensures ∙ ap (λ m. entry_members (document_tree t) m.entries) c.deref-in-Object.ensures)
    ∙ sym (ap (document_tree t) c.in-Object.is ∙ tree-Object t c.in-Object.members)

pub copy_items-copy-requires : goal.copy_items-copy-requires
copy_items-copy-requires g r c κs within =
    let t = g.T.KeyText.text_of in
    let below = item_within t c.deref-item-items.result.now c.loop-item.item-index c.item-item.result c.loop-item-test.true c.item-item.is in
    (omega (arith, c.decreases, below, ap (λ vs. items_depth (items_from (map (document_tree t) vs))) c.deref-item-items.ensures.value), within)

pub copy_items-loop-item-preserved : goal.copy_items-loop-item-preserved
copy_items-loop-item-preserved g r c =
    copied_next g.T.KeyText.text_of c.deref-item-items.result.now c.loop-item.copies.items c.push.new.self.items c.loop-item.item-index c.item-item.result c.in_ok-copy.field-0
    c.loop-item-test.true c.item-item.is c.loop-item.invariant c.in_ok-copy.ensures c.in_ok-push.ensures.items

pub copy_members-loop-key-init : goal.copy_members-loop-key-init
copy_members-loop-key-init g r c =
    let t = g.T.KeyText.text_of in
    let all = ap (entries_of t) c.into_iter-key-iterator.ensures.into_iter_gives ∙ c.iter-key-items.ensures in
    record {
      can = tt;
      ends = tt;
      copied = (λ i. put_all (document_tree t) (entry_members (document_tree t) (c.in_ok-copies.ensures.entries i)) (all i)) ∙ put_all-distinct (document_tree t) c.args.members.now.entries c.args.members.now.distinct;
      within = omega (arith, ap (λ es. members_depth (entry_members (document_tree t) es)) all);
    }

pub copy_members-loop-key-preserved : goal.copy_members-loop-key-preserved
copy_members-loop-key-preserved g r c =
    let t = g.T.KeyText.text_of in
    let rest = entries_of t c.next.new.self in
    let old = c.loop-key.copies.entries in
    let ahead = ap (entries_of t) c.in-Some.ensures.steps in
    record {
      can = tt;
      ends = tt;
      copied = ap (λ es. put_all (document_tree t) (entry_members (document_tree t) es) rest) c.in_ok-set.ensures
          ∙ ap (λ ms. put_all (document_tree t) ms rest) (entry_members-put (document_tree t) (c.in_ok-name.name, t c.in_ok-name.name) c.in_ok-copied.copied old)
          ∙ (λ i. put_all (document_tree t) (members.put (c.in_ok-name.ensures i) (c.in_ok-copied.ensures i) (entry_members (document_tree t) old)) rest)
          ∙ ap (put_all (document_tree t) (entry_members (document_tree t) old)) (sym ahead) ∙ c.loop-key.invariant.copied;
      within = omega (arith, c.loop-key.invariant.within, ap (λ es. members_depth (entry_members (document_tree t) es)) ahead);
    }

pub copy-copy_items-requires : goal.copy-copy_items-requires
copy-copy_items-requires g r c κs within =
    let t = g.T.KeyText.text_of in
    (omega (arith, c.decreases, ap depth (ap (document_tree t) c.in-Array.is ∙ tree-Array t c.in-Array.items), ap (λ v. items_depth (items_from (map (document_tree t) v.items))) c.deref-in-Array.ensures), within)

pub copy-returns-in_ok-copy-in-String : goal.copy-returns-in_ok-copy-in-String
copy-returns-in_ok-copy-in-String g r c =
    let t = g.T.KeyText.text_of in
    tree-String t c.in_ok-copy-in-String.field-0 ∙ ap text c.in_ok-copy-in-String.ensures ∙ sym (ap (document_tree t) c.in-String.is ∙ tree-String t c.in-String.text)

pub copy-returns-in_ok-new-in-Array : goal.copy-returns-in_ok-new-in-Array
copy-returns-in_ok-new-in-Array g r c =
    let t = g.T.KeyText.text_of in
    tree-Array t c.in_ok-new-in-Array.field-0
    ∙ ap (λ us. list (items_from us)) (ap (λ v. map (document_tree t) v.items) c.in_ok-new-in-Array.ensures.ok ∙ c.in_ok-copies-in-Array.ensures ∙ ap (λ v. map (document_tree t) v.items) c.deref-in-Array.ensures)
    ∙ sym (ap (document_tree t) c.in-Array.is ∙ tree-Array t c.in-Array.items)
