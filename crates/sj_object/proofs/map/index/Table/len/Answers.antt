use Rattle.std.proofs.Common.{arith}
use Rattle.sj_object.proofs.Tables.{length-in}
use Rattle.sj_object.proofs.map.index.Table.len.Goals as goal

pub overflow_sub-result : goal.overflow_sub-result
overflow_sub-result c = omega (arith, length-in c.args.self.now c.requires, c.args.self.now.hashes.ok.0)

pub overflow_sub-result-2 : goal.overflow_sub-result-2
overflow_sub-result-2 c = omega (arith, length-in c.args.self.now c.requires, c.args.self.now.hashes.ok.0)

pub returns : goal.returns
returns c = omega (arith, length-in c.args.self.now c.requires, c.args.self.now.hashes.ok.0)
