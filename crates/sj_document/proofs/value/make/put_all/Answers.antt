use Rattle.std.proofs.Common.{sym, ap, ◌∙◌}
use Rattle.std.specs.Vec.Iter.{into_iter_items}
use Rattle.sj_object.specs.Members.{entry_members}
use Rattle.sj_object.proofs.Shown.{entry_members-put}
use Rattle.sj_document.specs.Document.{document_tree, put_pairs}
use Rattle.sj_document.proofs.value.make.put_all.Goals as goal

pub loop-name-preserved : goal.loop-name-preserved
loop-name-preserved g c =
    let t = g.T.KeyText.text_of in
    let rest = into_iter_items c.next.new.self in
    let old = c.loop-name.members.entries in
    ap (λ es. put_pairs t (document_tree t) (entry_members (document_tree t) es) rest) c.in_ok-set.ensures
    ∙ ap (λ ms. put_pairs t (document_tree t) ms rest) (entry_members-put (document_tree t) (c.in-Some.name, t c.in-Some.name) c.in-Some.value old)
    ∙ sym (ap (put_pairs t (document_tree t) (entry_members (document_tree t) old)) c.in-Some.ensures.steps.0) ∙ c.loop-name.invariant
