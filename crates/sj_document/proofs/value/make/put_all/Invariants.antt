use Rattle.std.proofs.Common.{◌≡◌}
use Rattle.std.specs.Vec.Iter.{into_iter_items}
use Rattle.sj_text_core.specs.Tree.{no_members}
use Rattle.sj_object.specs.Members.{entry_members}
use Rattle.sj_document.specs.Document.{document_tree, put_pairs}
use Rattle.sj_document.proofs.value.make.put_all.Given as goal

abbrev pub invariant-loop-name : goal.invariant-loop-name
invariant-loop-name g l =
    let t = g.T.KeyText.text_of in
    put_pairs t (document_tree t) (entry_members (document_tree t) l.members.entries) (into_iter_items l.name-iterator) ≡ put_pairs t (document_tree t) no_members l.fn.pairs.items
