use Rattle.std.proofs.Common.{◌≡◌, arith, sym}
use Rattle.sj_object.proofs.Holes.{moved_nowhere}
use Rattle.sj_object.proofs.map.holes.move_down.Goals as goal

pub returns-else-to-from-clause-hashes : goal.returns-else-to-from-clause-hashes
returns-else-to-from-clause-hashes c =
    let e : c.args.to ≡ c.args.from = omega (arith, c.requires.down, c.if-to-from.false) in
    sym (moved_nowhere c.args.hashes.now.items c.args.from c.args.end c.args.to e c.requires.within.0 c.requires.within.1)
