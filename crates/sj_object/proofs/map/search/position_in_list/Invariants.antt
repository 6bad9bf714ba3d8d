use Rattle.std.proofs.Common.{◌≡◌, ◌+◌, length, drop, bytes_eq}
use Rattle.std.specs.List.{position_from}
use Rattle.sj_object.specs.Entries.{entries_of}
use Rattle.sj_object.specs.Steps.{entries_visited}
use Rattle.sj_object.proofs.map.search.position_in_list.Given as goal

abbrev pub invariant-loop-pair : goal.invariant-loop-pair
invariant-loop-pair g l = record {
  left : l.left + l.pair-index ≡ length l.pairs;
  found : position_from (λ (p : g.row.K.Denot × g.row.V.Denot). bytes_eq l.text (g.K.KeyText.text_of p.0)) l.pair-index (drop l.pair-index l.pairs) ≡ position_from (λ (p : g.row.K.Denot × g.row.V.Denot). bytes_eq l.text (g.K.KeyText.text_of p.0)) 0 l.pairs;
  exact : l.steps + entries_visited l.text (entries_of g.K.KeyText.text_of (drop l.pair-index l.pairs)) ≡ l.fn.steps + entries_visited l.text (entries_of g.K.KeyText.text_of l.pairs);
}
