use Rattle.std.proofs.Common.{◌≡◌, ◌-◌, ◌++◌, map}
use Rattle.sj_patch.specs.Locality.{under}
use Rattle.sj_patch.specs.inner.Noted.{noted_path, noted_by, removals_at}
use Rattle.sj_patch.proofs.differences.Differences.remove_items.Given as goal

abbrev pub invariant-loop : goal.invariant-loop
invariant-loop g l =
    let t = g.T.KeyText.text_of in
    record {
      place : l.self.place.items ≡ l.fn.self.place.items;
      noted : noted_by t l.self ≡ noted_by t l.fn.self ++ map (under (noted_path l.fn.self)) (removals_at l.first (l.counter - l.first));
    }
