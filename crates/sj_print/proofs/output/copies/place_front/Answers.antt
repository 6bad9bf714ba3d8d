use Rattle.std.proofs.Common.{◌+◌, take, length-take-le, arith}
use Rattle.std.proofs.lemmas.Simd.{take_more_put_chunk}
use Rattle.sj_print.proofs.output.copies.place_front.Goals as goal

pub returns-clause-written : goal.returns-clause-written
returns-clause-written g c =
    let first = take g.row.N c.args.bytes.now in
    let long = length-take-le g.row.N c.args.bytes.now c.requires.0 in
    take_more_put_chunk c.args.at c.args.out.now first (c.args.at + g.row.N) (omega (arith, long)) c.requires.1
