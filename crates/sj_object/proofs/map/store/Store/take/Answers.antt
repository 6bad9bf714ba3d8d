use Rattle.std.proofs.Common.{◌≤◌, length, sym, subst, arith}
use Rattle.sj_object.specs.Index.{IsTableOf}
use Rattle.sj_object.specs.Rooms.{indexed}
use Rattle.sj_object.specs.Stored.{pairs_of, IsIndexOf}
use Rattle.sj_object.specs.declared.map.store.Store.{Store}
use Rattle.sj_object.proofs.Hashed.{hashes, hashes-length}
use Rattle.sj_object.proofs.map.store.Store.take.Goals as goal
use Rattle.sj_object.proofs.map.store.Store.take.Goals.{in-None, in-Some}

pub returns-clause-index : goal.returns-clause-index
returns-clause-index g c =
    let t = g.K.KeyText.text_of in
    let H = g.S.KeyHasher.hash_of c.args.hasher.now in
    let ps = c.args.pairs.items in
    let Indexed : Store g.row.K.Denot g.row.V.Denot → Type 0 = λ s. IsIndexOf (hashes t H (pairs_of s)) s in
    let made : Indexed c.match-hashed.store = elim c.match-hashed.branch [
      | in-None w ↦
          let few : length ps ≤ 32 = subst (λ o. length ps ≤ indexed o) w.in-None.is c.requires.places in
          let n : length (hashes t H ps) ≤ 32 = omega (arith, few, hashes-length t H ps) in
          subst Indexed (sym w.store-is) n
      | in-Some w ↦ subst Indexed (sym w.store-is) (subst (λ l. IsTableOf (hashes t H l) w.take.new.self.table) (sym w.take.ensures.members) w.take.ensures.table)
    ] in
    subst Indexed (sym c.replace.ensures.after) made
