use Rattle.std.proofs.Common.{◌^◌}
use Rattle.std.proofs.lemmas.Nat.{pow_pos}
use Rattle.sj_object.proofs.Chains.{IsLinked-more}
use Rattle.sj_object.proofs.map.chain.link.Goals as goal

pub loop-i-preserved : goal.loop-i-preserved
loop-i-preserved c = rw c.bucket_of-bucket.ensures (IsLinked-more (2 ^ c.args.bits) c.args.hashes.now c.loop-i.links c.loop-i.heads c.loop-i.i (pow_pos c.args.bits) c.loop-i-test.true c.loop-i.invariant)
