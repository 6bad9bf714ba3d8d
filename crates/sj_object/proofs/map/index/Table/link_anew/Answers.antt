use Rattle.std.proofs.Common.{◌≡◌, ◌^◌, length, replicate, arith, sym, ap, ◌∙◌}
use Rattle.sj_object.proofs.Chains.{IsLinked-none}
use Rattle.sj_object.proofs.map.index.Table.link_anew.Goals as goal

pub link-requires-clause-linked : goal.link-requires-clause-linked
link-requires-clause-linked c =
    let t = c.args.self.now in
    let n = 2 ^ t.bits in
    let s : length c.deref_mut.result.now ≡ length c.deref.result.now = ap length c.deref_mut.ensures.value ∙ c.requires.size ∙ sym (ap length c.deref.ensures.value) in
    let m : t.heads.len ≡ n = omega (arith, t.heads.ok.0, c.requires.count) in
    let e = c.deref_mut-2.ensures.value ∙ c.fill.ensures.items (λ y q. q) ∙ ap (λ k. replicate k 0) m in
    IsLinked-none n c.deref.result.now c.deref_mut.result.now c.deref_mut-2.result.now s e
