use Rattle.std.proofs.Common.{◌≡◌, length, drop, arith, sym, ap, ◌∙◌, subst}
use Rattle.std.proofs.lemmas.List.{length-take-le}
use Rattle.sj_object.specs.Holes.{AreHoles, without}
use Rattle.sj_object.proofs.Tables.{length-in}
use Rattle.sj_object.proofs.map.index.Table.forget.Goals as goal

pub close-requires-clause-holes : goal.close-requires-clause-holes
close-requires-clause-holes c =
    let t = c.args.self.now in
    subst (λ qs. AreHoles t.gone qs (length t.hashes.items)) (sym c.deref.ensures.value) c.requires.holes

pub close-requires-clause-gone : goal.close-requires-clause-gone
close-requires-clause-gone c =
    let t = c.args.self.now in
    omega (arith, ap length c.deref.ensures.value, length-in t c.requires)

pub returns-clause-links : goal.returns-clause-links
returns-clause-links c =
    let t = c.args.self.now in
    let x : c.close.new.hashes.items ≡ drop t.gone (without t.holes.items t.hashes.items) = c.close.ensures.hashes ∙ ap (λ qs. drop t.gone (without qs t.hashes.items)) c.deref.ensures.value in
    let m : c.len.result ≡ length c.close.new.hashes.items = omega (arith, c.len.ensures, c.close.new.hashes.ok.0) in
    ap length c.truncate.ensures.items ∙ length-take-le c.len.result t.links.items (omega (arith, m, ap length x, length-in t c.requires, c.requires.linked.size)) ∙ m
