use Rattle.std.proofs.Common.{◌≡◌, ◌++◌, map, take, drop}
use Rattle.sj_document.specs.Document.{document_tree}
use Rattle.sj_patch.specs.Locality.{under}
use Rattle.sj_patch.specs.inner.Noted.{noted_path, noted_by, additions}
use Rattle.sj_patch.proofs.differences.Differences.add_items.Given as goal

abbrev pub invariant-loop-i : goal.invariant-loop-i
invariant-loop-i g l =
    let t = g.T.KeyText.text_of in
    record {
      place : l.self.place.items ≡ l.fn.self.place.items;
      noted : noted_by t l.self ≡ noted_by t l.fn.self ++ map (under (noted_path l.fn.self)) (additions l.first (map (document_tree t) (drop l.first (take l.i l.items))));
    }
