use Rattle.std.proofs.Common.{◌≡◌, ℕ, suc, ◌+◌, ◌-◌, length, get_or, take, arith, sym, ap, ◌∙◌}
use Rattle.std.proofs.Math.Seq.{take-suc}
use Rattle.std.proofs.lemmas.List.{take_all}
use Rattle.std.proofs.lemmas.Bool.Decides.{nat_tests}
use Rattle.sj_object.specs.Holes.{raised, raised_by}
use Rattle.sj_object.proofs.Holes.{raised_le, raised_by-last}
use Rattle.sj_object.proofs.map.holes.raise.Goals as goal

pub loop-i-init : goal.loop-i-init
loop-i-init c = record {
  within = omega arith;
  fits = omega arith;
  same = ap (λ rs. raised_by rs c.args.place) (take_all (length c.args.holes.now) c.args.holes.now (omega arith));
}

pub loop-i-preserved : goal.loop-i-preserved
loop-i-preserved c =
    let qs = c.args.holes.now in
    let v = c.loop-i.invariant in
    let i : ℕ = c.loop-i.i - 1 in
    let p = c.loop-i.raised in
    let k : c.loop-i.i ≡ suc i = omega (arith, c.loop-i-test.true) in
    let s : p + c.from-raised.result ≡ raised (get_or qs i 0) p = grind (arith, nat_tests) in
    record {
      within = omega (arith, v.within);
      fits = omega (arith, v.fits, s, raised_le (get_or qs i 0) p, k);
      same = ap (raised_by (take i qs)) s ∙ sym (raised_by-last (get_or qs i 0) (take i qs) p)
          ∙ ap (λ rs. raised_by rs p) (sym (take-suc qs i 0 (omega (arith, v.within, k))) ∙ ap (λ m. take m qs) (sym k)) ∙ v.same;
    }
