use Rattle.std.proofs.Common.{◌≡◌, ◌^◌, length, replicate, arith, ap, ◌∙◌}
use Rattle.sj_object.proofs.Chains.{IsLinked-none}
use Rattle.sj_object.proofs.map.index.Table.emptied.Goals as goal

pub link-requires-clause-linked : goal.link-requires-clause-linked
link-requires-clause-linked c =
    let n = 2 ^ c.args.self.now.bits in
    let s : length c.deref_mut.result.now ≡ length c.deref.result.now = omega (arith, c.deref_mut.ensures.len, c.in_ok-links.ensures.len, c.deref.ensures.len, c.in_ok-hashes.ensures.len) in
    let m : c.len-buckets.result ≡ n = omega (arith, c.len-buckets.ensures, c.requires.linked.count) in
    let e : c.deref_mut-2.result.now ≡ replicate n 0 = c.deref_mut-2.ensures.value ∙ c.in_ok-heads.ensures.items_if_clones_equal (λ y q. q) ∙ ap (λ k. replicate k 0) m in
    IsLinked-none n c.deref.result.now c.deref_mut.result.now c.deref_mut-2.result.now s e
