use Rattle.std.proofs.Common.{◌≡◌, ◌+◌, ◌*◌, map}
use Rattle.sj_object.specs.Entries.{entries_of}
use Rattle.sj_document.specs.Document.{document_tree}
use Rattle.sj_document.proofs.Compared.{EachThere}
use Rattle.sj_patch.specs.inner.Noted.{noted_path, noted_by, Notes, array, between}
use Rattle.sj_patch.proofs.NotedMembers.{Compares, pairs, left}
use Rattle.sj_patch.proofs.differences.Differences.+compare.Given as goal

abbrev pub invariant-compare_members-loop-key : goal.invariant-compare_members-loop-key
invariant-compare_members-loop-key g l =
    let t = g.T.KeyText.text_of in
    let f = document_tree t in
    record {
      can : (goal.iterator-compare_members-loop-key g).can_next l.key-iterator;
      ends : (goal.iterator-compare_members-loop-key g).is_finite l.key-iterator;
      near : EachThere (entries_of t l.others) l.fn.new.entries;
      place : l.self.place.items ≡ l.fn.self.place.items;
      compares : Compares (noted_path l.fn.self) (noted_by t l.fn.self) (noted_by t l.self) (pairs f l.fn.old.entries) (pairs f l.fn.new.entries) (left f t l.key-iterator);
    }

abbrev pub invariant-compare_pairs-loop-i : goal.invariant-compare_pairs-loop-i
invariant-compare_pairs-loop-i g l =
    let t = g.T.KeyText.text_of in
    let xs = map (document_tree t) l.old in
    let ys = map (document_tree t) l.new in
    record {
      place : l.self.place.items ≡ l.fn.self.place.items;
      notes : Notes (noted_path l.fn.self) (noted_by t l.fn.self) (noted_by t l.self) (array xs) (array ys) (array (between l.first l.i xs ys));
    }

abbrev pub decreases-compare : goal.decreases-compare
decreases-compare g l = 4 * l.levels

abbrev pub decreases-compare_at : goal.decreases-compare_at
decreases-compare_at g l = 4 * l.levels + 1

abbrev pub decreases-compare_pairs : goal.decreases-compare_pairs
decreases-compare_pairs g l = 4 * l.levels + 2

abbrev pub decreases-compare_members : goal.decreases-compare_members
decreases-compare_members g l = 4 * l.levels + 3

abbrev pub decreases-compare_items : goal.decreases-compare_items
decreases-compare_items g l = 4 * l.levels + 3
