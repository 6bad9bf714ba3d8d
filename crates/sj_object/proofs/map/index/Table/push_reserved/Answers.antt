use Rattle.std.proofs.Common.{◌≡◌, ◌^◌, ◌%◌, ◌<◌, ◌+◌, ◌++◌, ◌∷◌, [], List, ℕ, length, drop, get_or, set, arith, refl, sym, ap, ◌∙◌, subst}
use Rattle.std.proofs.lemmas.List.{drop-append-le, get_or_default, length-set, length_push}
use Rattle.std.proofs.lemmas.Nat.{pow_pos}
use Rattle.sj_object.specs.Index.{hashes_beside, hashes_in}
use Rattle.sj_object.specs.Holes.{without, IsChained}
use Rattle.sj_object.proofs.Holes.{AreHoles-more, without-append}
use Rattle.sj_object.proofs.Chained.{IsChained-push}
use Rattle.sj_object.proofs.Tables.{length-in}
use Rattle.sj_object.proofs.map.index.Table.push_reserved.Goals as goal

pub push_reserved-requires : goal.push_reserved-requires
push_reserved-requires c =
    let t = c.args.self.now in
    omega (arith, length-in t c.requires.table, c.requires.room, t.heads.ok.0, t.links.ok.0, c.requires.table.few, c.requires.table.space.1, c.requires.table.linked.count, c.requires.table.linked.size)

pub push_reserved-requires-2 : goal.push_reserved-requires-2
push_reserved-requires-2 c =
    let t = c.args.self.now in
    omega (arith, length-in t c.requires.table, c.requires.room, t.heads.ok.0, t.hashes.ok.0, c.requires.table.few, c.requires.table.space.0, c.requires.table.linked.count)

pub returns-clause-hashes : goal.returns-clause-hashes
returns-clause-hashes c =
    let t = c.args.self.now in
    let h = c.args.hash in
    ap (λ xs. drop t.gone (without t.holes.items xs)) c.push_reserved-2.ensures.items
    ∙ ap (drop t.gone) (without-append t.gone t.holes.items t.hashes.items (h ∷ []) (length t.hashes.items) refl c.requires.table.holes)
    ∙ drop-append-le t.gone (hashes_beside t) (h ∷ []) c.requires.table.gone

pub returns-clause-buckets : goal.returns-clause-buckets
returns-clause-buckets c = length-set c.args.self.now.heads.items c.bucket_of-bucket.result c.len.result

pub returns-clause-table : goal.returns-clause-table
returns-clause-table c =
    let t = c.args.self.now in
    let h = c.args.hash in
    let v = c.requires.table in
    let n = 2 ^ t.bits in
    let b : c.bucket_of-bucket.result ≡ h % n = c.bucket_of-bucket.ensures in
    let w : c.bucket_of-bucket.result < length t.heads.items = omega (arith, b, pow_pos t.bits, v.linked.count) in
    let x : c.index.result.now ≡ get_or t.heads.items (h % n) 0 = c.index.ensures ∙ get_or_default t.heads.items c.bucket_of-bucket.result c.index.result.now 0 w ∙ ap (λ y. get_or t.heads.items y 0) b in
    let hs : c.push_reserved-2.new.self.items ≡ t.hashes.items ++ h ∷ [] = c.push_reserved-2.ensures.items in
    let ls : c.push_reserved.new.self.items ≡ t.links.items ++ get_or t.heads.items (h % n) 0 ∷ [] = c.push_reserved.ensures.items ∙ ap (λ y. t.links.items ++ y ∷ []) x in
    let m : c.len.result ≡ length t.hashes.items + 1 = omega (arith, c.len.ensures, c.push_reserved-2.new.self.ok.0, ap length hs, length_push t.hashes.items h) in
    let es : set t.heads.items c.bucket_of-bucket.result c.len.result ≡ set t.heads.items (h % n) (length t.hashes.items + 1) = λ j. set t.heads.items (b j) (m j) in
    let z : length (set t.heads.items c.bucket_of-bucket.result c.len.result) ≡ length t.heads.items = length-set t.heads.items c.bucket_of-bucket.result c.len.result in
    let k : without t.holes.items c.push_reserved-2.new.self.items ≡ hashes_beside t ++ h ∷ [] = ap (without t.holes.items) hs ∙ without-append t.gone t.holes.items t.hashes.items (h ∷ []) (length t.hashes.items) refl v.holes in
    record {
      bits = v.bits;
      some = omega (arith, v.some, z);
      most = v.most;
      holes = AreHoles-more t.gone t.holes.items (length t.hashes.items) (length c.push_reserved-2.new.self.items) (omega (arith, ap length hs, length_push t.hashes.items h)) v.holes;
      gone = omega (arith, ap length k, length_push (hashes_beside t) h, v.gone);
      few = omega (arith, v.few, z);
      space = (omega (arith, v.space.0, z, c.push_reserved-2.ensures.capacity), omega (arith, v.space.1, z, c.push_reserved.ensures.capacity));
      room = omega (arith, ap length (returns-clause-hashes c), length_push (hashes_in t) h, c.requires.room, t.heads.ok.0, v.room, v.linked.count);
      linked = subst (λ (p : List ℕ × (List ℕ × List ℕ)). IsChained n t.holes.items p.0 p.1.0 p.1.1) (λ j. (sym hs j, (sym ls j, sym es j))) (IsChained-push n t.gone t.holes.items t.hashes.items t.links.items t.heads.items h (pow_pos t.bits) v.holes v.linked);
    }
