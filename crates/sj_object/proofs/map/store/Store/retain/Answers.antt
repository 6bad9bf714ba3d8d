use Rattle.std.proofs.Common.{◌≤◌, length, arith, ap, subst}
use Rattle.std.specs.Map.Calls.{CalledAtPair}
use Rattle.sj_object.specs.Stored.{pairs_of, IsIndexOf}
use Rattle.sj_object.proofs.Hashed.{hashes, hashes-length}
use Rattle.sj_object.proofs.Retained.{retained_fewer}
use Rattle.sj_object.proofs.map.store.Store.retain.Goals as goal

pub returns-in-Plain-clause-index : goal.returns-in-Plain-clause-index
returns-in-Plain-clause-index g c =
    let t = g.K.KeyText.text_of in
    let H = g.S.KeyHasher.hash_of c.args.hasher.now in
    let ps = c.replace.result.items in
    let qs = c.retain_pairs.result.items in
    let few : length c.in-Plain.pairs.items ≤ 32 = omega (arith, subst (IsIndexOf (hashes t H (pairs_of c.args.self.now))) c.in-Plain.is c.requires.index, hashes-length t H (pairs_of c.args.self.now), ap (λ s. length (pairs_of s)) c.in-Plain.is) in
    omega (arith, retained_fewer (CalledAtPair g.F.FnMut) c.args.keep ps qs c.retain_pairs.ensures, hashes-length t H qs, few, ap (λ v. length v.items) c.replace.ensures.value)
