use Rattle.std.proofs.Common.{◌≡◌, length, replicate, arith, ap, ◌∙◌}
use Rattle.sj_object.proofs.Chains.{IsLinked-none}
use Rattle.sj_object.proofs.map.index.Table.of_hashes.Goals as goal

pub link-requires-clause-linked : goal.link-requires-clause-linked
link-requires-clause-linked c =
    let h = ap length c.deref.ensures.value in
    let s : length c.deref_mut.result.now ≡ length c.deref.result.now = omega (arith, c.deref_mut.ensures.len, c.in_ok-links.ensures.len, c.len.ensures, c.deref.ensures.len) in
    let e : c.deref_mut-2.result.now ≡ replicate 64 0 = c.deref_mut-2.ensures.value ∙ c.in_ok-heads.ensures.items_if_clones_equal (λ y q. q) in
    IsLinked-none 64 c.deref.result.now c.deref_mut.result.now c.deref_mut-2.result.now s e
