use Rattle.std.proofs.Common.{◌≡◌, ◌≤◌, ◌-◌, take, sym, ap, ◌∙◌, arith, subst, length}
use Rattle.std.proofs.lemmas.List.{length-take-le}
use Rattle.sj_object.specs.Texts.{no_repeats}
use Rattle.sj_object.specs.Entries.{entry_texts, entries_of}
use Rattle.sj_object.specs.Index.{HasRoom}
use Rattle.sj_object.specs.Stored.{pairs_of, buckets_of, IsIndexOf}
use Rattle.sj_object.proofs.Hashed.{hashes, hashes-length, hashes-take, entries-length, room_fewer}
use Rattle.sj_object.proofs.Repeats.{no_repeats-take, texts-take}
use Rattle.sj_object.proofs.Stored.{indexed}
use Rattle.sj_object.proofs.map.HashMap.pop.Goals as goal

pub invariant_of-self-inside : goal.invariant_of-self-inside
invariant_of-self-inside g c =
    let t = g.K.KeyText.text_of in
    let m = c.self.inside in
    let ps = pairs_of m.store in
    let qs = pairs_of c.pop.new.self in
    let r : qs ≡ take (length ps - 1) ps = c.pop.ensures.rest in
    let n : length (entries_of t qs) ≤ length (entries_of t ps) = omega (arith, entries-length t qs, entries-length t ps, ap length r, length-take-le (length ps - 1) ps (omega arith)) in (
      ap (λ l. no_repeats (entry_texts (entries_of t l))) r ∙ ap no_repeats (texts-take t (length ps - 1) ps) ∙ no_repeats-take (length ps - 1) (entry_texts (entries_of t ps)) m.distinct,
      (subst (HasRoom (length (entries_of t qs))) (sym c.pop.ensures.buckets) (room_fewer (length (entries_of t qs)) (length (entries_of t ps)) (buckets_of m.store) n m.room), tt),
    )

pub invariant_of-self : goal.invariant_of-self
invariant_of-self g c =
    let t = g.K.KeyText.text_of in
    let H = g.S.KeyHasher.hash_of c.self.inside.hasher in
    let ps = pairs_of c.self.inside.store in
    let r = c.pop.ensures.index (hashes t H ps) (hashes-length t H ps) c.self.invariant in
    subst (λ hs. IsIndexOf hs c.pop.new.self) (sym (ap (hashes t H) c.pop.ensures.rest ∙ hashes-take t H ps (length ps - 1) ∙ ap (λ n. take (n - 1) (hashes t H ps)) (sym (hashes-length t H ps)))) r

pub pop-requires : goal.pop-requires
pop-requires g c = indexed g.K.KeyText.text_of (g.S.KeyHasher.hash_of c.self.inside.hasher) c.self.inside.store c.self.invariant
