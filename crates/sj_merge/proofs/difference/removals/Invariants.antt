use Rattle.std.proofs.Common.{◌≡◌}
use Rattle.sj_text_core.specs.Tree.{no_members}
use Rattle.sj_object.specs.Entries.{entries_of}
use Rattle.sj_object.specs.Members.{entry_members}
use Rattle.sj_document.specs.Document.{document_tree}
use Rattle.sj_merge.specs.MergeDiff.{removals}
use Rattle.sj_merge.proofs.Putting.{put_each}
use Rattle.sj_merge.proofs.difference.removals.Given as goal

abbrev pub invariant-loop-key : goal.invariant-loop-key
invariant-loop-key g l =
    let t = g.T.KeyText.text_of in
    let ns = entry_members (document_tree t) l.wanted.entries in
    let rest = entry_members (document_tree t) (entries_of t l.key-iterator) in
    record {
      can : (goal.iterator-loop-key g).can_next l.key-iterator;
      ends : (goal.iterator-loop-key g).is_finite l.key-iterator;
      told : put_each (entry_members (document_tree t) l.patch.entries) (removals rest ns no_members) ≡ removals (entry_members (document_tree t) l.members.entries) ns no_members;
    }
