use Rattle.std.proofs.Common.{◌≡◌, ◌≤◌, vec_len, vec_capacity}
use Rattle.sj_object.specs.Entries.{entries_of}
use Rattle.sj_object.specs.Rooms.{restored_all}
use Rattle.sj_object.proofs.map.restore.put_back.Given as goal

abbrev pub invariant-loop-position : goal.invariant-loop-position
invariant-loop-position g l = record {
  space : l.most ≤ vec_capacity l.pairs;
  rest : restored_all g.K.KeyText.text_of l.most l.taken.items (entries_of g.K.KeyText.text_of l.pairs.items) ≡ restored_all g.K.KeyText.text_of l.most l.fn.taken.items (entries_of g.K.KeyText.text_of l.fn.pairs.items);
}

abbrev pub decreases-loop-position : goal.decreases-loop-position
decreases-loop-position g l = vec_len l.taken
