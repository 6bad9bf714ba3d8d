use Rattle.std.proofs.Common.{arith}
use Rattle.std.proofs.lemmas.Simd.{zip2_splat, zip2_of_maps}
use Rattle.sj_print.specs.inner.Runs.{is_stop}
use Rattle.sj_print.proofs.Lanes.{masked}
use Rattle.sj_tape.proofs.reader.plain.stops_16.Goals as goal

pub returns : goal.returns
returns c =
    let v = c.args.v in
    let long = c.fits-v.0 in
    masked _ is_stop v _ (omega arith) c.fits-v.1 (zip2_of_maps _ _ _ v (zip2_of_maps _ _ _ v (zip2_splat _ v 16 34 long) (zip2_splat _ v 16 92 long)) (zip2_splat _ v 16 32 long)) tt
