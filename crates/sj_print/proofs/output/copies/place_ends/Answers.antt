use Rattle.std.proofs.Common.{◌-◌, length, arith}
use Rattle.sj_print.proofs.Places.{overlap}
use Rattle.sj_print.proofs.output.copies.place_ends.Goals as goal

pub returns-clause-written : goal.returns-clause-written
returns-clause-written g c =
    let bytes = c.args.bytes.now in
    let last = length bytes - g.row.N in
    overlap c.args.at g.row.N last c.args.out.now c.place_front.new.out c.place_front-2.new.out bytes (omega (arith, c.requires)) (omega (arith, c.requires)) (omega (arith, c.requires)) c.place_front.ensures.written
    c.place_front-2.ensures.written
