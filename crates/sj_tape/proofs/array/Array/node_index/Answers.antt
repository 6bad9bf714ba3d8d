use Rattle.std.proofs.Common.{arith}
use Rattle.sj_tape.specs.Stretches.{nodes_in}
use Rattle.sj_tape.proofs.ItemPlaces.{single_place}
use Rattle.sj_tape.proofs.array.Array.node_index.Goals as goal

pub returns-then-len-self : goal.returns-then-len-self
returns-then-len-self c =
    let a = c.args.self.now in
    single_place (nodes_in a.nodes) a.whole (omega (arith, c.if-len-self.true, c.len.ensures, a.counted)) c.args.index (omega (arith, c.requires, c.if-len-self.true, c.len.ensures, a.counted))
