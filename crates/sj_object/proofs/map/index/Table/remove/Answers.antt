use Rattle.std.proofs.Common.{◌≡◌, ◌+◌, length, drop, arith, sym, ap, ◌∙◌}
use Rattle.std.specs.List.{remove}
use Rattle.std.proofs.lemmas.Bool.Decides.{nat_tests}
use Rattle.std.proofs.lemmas.List.{length-drop, drop-drop}
use Rattle.sj_object.specs.Index.{hashes_beside, hashes_in}
use Rattle.sj_object.proofs.Holes.{AreHoles-none}
use Rattle.sj_object.proofs.map.index.Table.remove.Goals as goal

pub returns-then-is_empty-clause-hashes : goal.returns-then-is_empty-clause-hashes
returns-then-is_empty-clause-hashes c =
    let t = c.make_room_to_leave.new.self in
    sym (drop-drop 1 t.gone (hashes_beside t)) ∙ ap (drop 1) c.make_room_to_leave.ensures.hashes ∙ ap (remove (hashes_in c.args.self.now)) (sym c.if-position-eq0.true)

pub returns-then-is_empty-clause-table : goal.returns-then-is_empty-clause-table
returns-then-is_empty-clause-table c =
    let t = c.make_room_to_leave.new.self in
    let h = c.make_room_to_leave.ensures.table in
    let e : length t.holes.items ≡ 0 = grind (arith, nat_tests) in
    let n : length (hashes_in t) ≡ length (hashes_in c.args.self.now) = ap length c.make_room_to_leave.ensures.hashes in
    record {
      bits = h.bits;
      some = h.some;
      most = h.most;
      holes = AreHoles-none (t.gone + 1) t.holes.items (length t.hashes.items) e;
      gone = omega (arith, c.requires.within, n, length-drop t.gone (hashes_beside t), h.gone);
      few = omega (arith, c.make_room_to_leave.ensures.few);
      space = h.space;
      room = omega (arith, h.room, length-drop t.gone (hashes_beside t), length-drop (t.gone + 1) (hashes_beside t));
      linked = h.linked;
    }
