use Rattle.std.specs.Map.Calls.{CalledAtPair}
use Rattle.sj_object.specs.Stored.{pairs_of}
use Rattle.sj_object.proofs.Hashed.{hashes, hashes-length, room_of}
use Rattle.sj_object.proofs.Retained.{retained_distinct}
use Rattle.sj_object.proofs.map.HashMap.retain.Goals as goal

pub invariant_of-self-inside : goal.invariant_of-self-inside
invariant_of-self-inside g c =
    let t = g.K.KeyText.text_of in
    let H = g.S.KeyHasher.hash_of c.self.inside.hasher in
    let ps = pairs_of c.self.inside.store in
    let qs = pairs_of c.retain.new.self in (
      retained_distinct (CalledAtPair g.F.FnMut) t c.args.keep ps qs c.retain.ensures.retained c.self.inside.distinct,
      (room_of t qs (hashes t H qs) c.retain.new.self c.retain.ensures.index (hashes-length t H qs), tt),
    )
