use Rattle.std.proofs.Common.{◌≡◌, ◌≤◌, ◌++◌, ◌∷◌, [], Some, length, arith, ap, ◌∙◌}
use Rattle.std.proofs.lemmas.List.{length_push}
use Rattle.sj_object.specs.Index.{hashes_in}
use Rattle.sj_object.proofs.Hashed.{buckets_kept}
use Rattle.sj_object.proofs.map.index.Table.push.Goals as goal

pub push_reserved-requires-clause-room : goal.push_reserved-requires-clause-room
push_reserved-requires-clause-room c =
    let t = c.args.self.now in
    omega (arith, c.if-len.false, c.len.ensures, c.len-2.ensures, t.heads.ok.0, c.requires.room, c.requires.linked.count)

pub returns-clause-buckets : goal.returns-clause-buckets
returns-clause-buckets c =
    let t = c.args.self.now in
    let n = length (hashes_in t ++ c.args.hash ∷ []) in
    let b = length t.heads.items in
    let m : length (hashes_in c.push_reserved.new.self) ≡ n = ap length c.push_reserved.ensures.hashes in
    let l : n ≤ b = omega (arith, length_push (hashes_in t) c.args.hash, c.if-len.false, c.len.ensures, c.len-2.ensures, t.heads.ok.0, c.requires.room, c.requires.linked.count) in
    ap (λ k. Some k) c.push_reserved.ensures.buckets ∙ buckets_kept n (length (hashes_in c.push_reserved.new.self)) (Some b) m (omega (arith, c.requires.some), l)
