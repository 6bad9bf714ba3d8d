use Rattle.std.proofs.Common.{◌≡◌, ◌^◌, ◌*◌, ◌+◌, ◌++◌, ◌∷◌, [], ℕ, length, drop, replicate, arith, ap, ◌∙◌, add-one}
use Rattle.std.proofs.lemmas.List.{length_push}
use Rattle.std.proofs.Math.Nat.{pow-succ'}
use Rattle.sj_object.specs.Index.{hashes_in}
use Rattle.sj_object.specs.Holes.{without}
use Rattle.sj_object.proofs.Chains.{IsLinked-none}
use Rattle.sj_object.proofs.Tables.{length-in}
use Rattle.sj_object.proofs.map.index.Table.grow.Goals as goal

doubled : (n : ℕ) → 2 ^ (n + 1) ≡ 2 * 2 ^ n
doubled n = ap (λ k. 2 ^ k) (add-one n) ∙ pow-succ' 2 n

pub overflow_sub-more : goal.overflow_sub-more
overflow_sub-more c =
    let t = c.args.self.now in
    omega (arith, c.len-2.ensures, c.len-3.ensures, c.len-4.ensures, c.in_ok-heads.ensures.len, c.in-Some.ensures, c.len.ensures, t.heads.ok.0, t.hashes.ok.0, length-in t c.requires.table, c.requires.table.room, c.requires.table.few, c.requires.table.linked.count)

pub link-requires-clause-linked : goal.link-requires-clause-linked
link-requires-clause-linked c =
    let t = c.args.self.now in
    let n = c.args.self.now.bits in
    let f = c.forget.new.self in
    let y = c.requires.table.linked.count in
    let k : c.deref_mut.result.now ≡ f.links.items ++ 0 ∷ [] = c.deref_mut.ensures.value ∙ c.push_reserved-2.ensures.items in
    let h : c.deref.result.now ≡ f.hashes.items ++ c.args.hash ∷ [] = c.deref.ensures.value ∙ c.push_reserved.ensures.items in
    let s : length c.deref_mut.result.now ≡ length c.deref.result.now = omega (arith, ap length k, ap length h, length_push f.links.items 0, length_push f.hashes.items c.args.hash, c.forget.ensures.links) in
    let p = doubled n in
    let m : c.in-Some.buckets ≡ 2 ^ (f.bits + 1) = omega (arith, c.in-Some.ensures, ap (λ b. 2 ^ (b + 1)) c.forget.ensures.rest.0) in
    let e : c.deref_mut-2.result.now ≡ replicate c.in-Some.buckets 0 = c.deref_mut-2.ensures.value ∙ c.in_ok-heads.ensures.items_if_clones_equal (λ y q. q) in
    IsLinked-none (2 ^ (f.bits + 1)) c.deref.result.now c.deref_mut.result.now c.deref_mut-2.result.now s (e ∙ ap (λ m. replicate m 0) m)

pub push_reserved-requires : goal.push_reserved-requires
push_reserved-requires c =
    let t = c.args.self.now in
    let f = c.forget.new.self in
    let x : f.hashes.items ≡ hashes_in t = c.forget.ensures.hashes ∙ ap (λ xs. drop t.gone (without t.holes.items xs)) c.reserve.ensures.items in
    omega (
      arith,
      c.in_ok-reserve.ensures.ok,
      c.reserve.ensures.len,
      c.len-2.ensures,
      c.len-3.ensures,
      c.len-4.ensures,
      c.in_ok-heads.ensures.len,
      c.in-Some.ensures,
      c.len.ensures,
      t.heads.ok.0,
      t.hashes.ok.0,
      f.hashes.ok.0,
      ap length x,
      c.requires.full,
      c.forget.ensures.space.0,
      c.requires.table.some,
      length-in t c.requires.table,
    )

pub push_reserved-requires-2 : goal.push_reserved-requires-2
push_reserved-requires-2 c =
    let t = c.args.self.now in
    let f = c.forget.new.self in
    let x : f.hashes.items ≡ hashes_in t = c.forget.ensures.hashes ∙ ap (λ xs. drop t.gone (without t.holes.items xs)) c.reserve.ensures.items in
    omega (
      arith,
      c.in_ok-reserve-2.ensures.ok,
      c.reserve-2.ensures.len,
      c.len-2.ensures,
      c.len-3.ensures,
      c.len-4.ensures,
      c.in_ok-heads.ensures.len,
      c.in-Some.ensures,
      c.len.ensures,
      t.heads.ok.0,
      t.hashes.ok.0,
      t.links.ok.0,
      f.links.ok.0,
      ap length x,
      c.forget.ensures.links,
      c.requires.full,
      c.forget.ensures.space.1,
      c.requires.table.some,
      c.requires.table.linked.size,
      length-in t c.requires.table,
    )
