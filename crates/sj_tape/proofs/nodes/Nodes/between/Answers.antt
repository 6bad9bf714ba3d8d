use Rattle.std.proofs.Common.{arith}
use Rattle.sj_tape.specs.Stretches.{nodes_in}
use Rattle.sj_tape.specs.Whole.{all_nodes}
use Rattle.sj_tape.proofs.Stretched.{inner, long}
use Rattle.sj_tape.proofs.nodes.Nodes.between.Goals as goal

pub returns : goal.returns
unfolding nodes_in
returns c =
    let self = c.args.self.now in
    inner (all_nodes self.lists.now) self.from self.end c.args.place c.args.end (omega (arith, c.requires.within, self.order, long (all_nodes self.lists.now) self.from self.end self.within))
