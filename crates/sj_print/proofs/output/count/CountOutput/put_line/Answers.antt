use Rattle.std.proofs.Common.{ℕ, ◌∷◌, replicate, arith}
use Rattle.std.proofs.lemmas.List.{length-append, length-replicate}
use Rattle.sj_print.proofs.output.count.CountOutput.put_line.Goals as goal

pub returns : goal.returns
returns c k e start b h =
    omega (arith, c.with.ensures, e, h, length-append b (10 ∷ replicate k 32), length-replicate {A = ℕ} k 32)
