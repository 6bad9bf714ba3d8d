use Rattle.std.proofs.Common.{ℕ, cond, leb, arith}
use Rattle.std.proofs.lemmas.Simd.{zip2_splat_left}
use Rattle.sj_print.proofs.Lanes.{masked}
use Rattle.sj_tape.specs.inner.Lanes.{is_other}
use Rattle.sj_tape.proofs.reader.digits.other_lanes.Goals as goal

abbrev at_least : ℕ → ℕ → ℕ
at_least a b = cond (leb a b) 255 0

pub returns : goal.returns
returns c =
    let v = c.args.lanes in
    masked (at_least 10) is_other v _ (omega arith) c.fits-lanes.1 (zip2_splat_left at_least 10 16 v c.fits-lanes.0) tt
