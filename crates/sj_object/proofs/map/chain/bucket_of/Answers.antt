use Rattle.std.proofs.Common.{◌≡◌, ◌*◌, ◌%◌, ◌-◌, ◌^◌, bit_and, arith, ap, ◌∙◌}
use Rattle.std.proofs.Math.Pow.{shl_exact}
use Rattle.std.proofs.lemmas.Nat.{and_mask}
use Rattle.sj_object.proofs.map.chain.bucket_of.Goals as goal

pub returns : goal.returns
returns c =
    let e : (1 * 2 ^ c.args.bits) % 2 ^ 64 ≡ 1 * 2 ^ c.args.bits = shl_exact 1 c.args.bits 64 (omega arith) (omega arith) in
    let f : 1 * 2 ^ c.args.bits ≡ 2 ^ c.args.bits = omega arith in
    ap (λ m. bit_and c.args.hash (m - 1)) (e ∙ f) ∙ and_mask c.args.hash c.args.bits
