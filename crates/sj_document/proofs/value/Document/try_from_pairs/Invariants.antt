use Rattle.std.proofs.Common.{◌≡◌}
use Rattle.sj_text_core.specs.Tree.{no_members}
use Rattle.sj_object.specs.Members.{entry_members}
use Rattle.sj_document.specs.Document.{document_tree, put_pairs}
use Rattle.sj_document.proofs.value.Document.try_from_pairs.Given as goal

abbrev pub invariant-loop-key : goal.invariant-loop-key
invariant-loop-key g l =
    let t = g.T.KeyText.text_of in
    (goal.iterator-loop-key g).can_next l.key-iterator × (goal.iterator-loop-key g).is_finite l.key-iterator × (entry_members (document_tree t) l.members.entries ≡ put_pairs t (document_tree t) no_members l.yielded)
