use Rattle.std.proofs.Common.{◌≡◌}
use Rattle.sj_object.specs.Entries.{entries_of}
use Rattle.sj_document.specs.Document.{document_tree}
use Rattle.sj_document.proofs.Compared.{EachThere}
use Rattle.sj_patch.specs.inner.Noted.{noted_path, noted_by}
use Rattle.sj_patch.proofs.NotedMembers.{Adds, pairs, left}
use Rattle.sj_patch.proofs.differences.Differences.add_members.Given as goal

abbrev pub invariant-loop-key : goal.invariant-loop-key
invariant-loop-key g l =
    let t = g.T.KeyText.text_of in
    let f = document_tree t in
    record {
      can : (goal.iterator-loop-key g).can_next l.key-iterator;
      ends : (goal.iterator-loop-key g).is_finite l.key-iterator;
      near : EachThere (entries_of t l.others) l.fn.old.entries;
      place : l.self.place.items ≡ l.fn.self.place.items;
      adds : Adds (noted_path l.fn.self) (noted_by t l.fn.self) (noted_by t l.self) (pairs f l.fn.old.entries) (pairs f l.fn.new.entries) (left f t l.key-iterator);
    }
