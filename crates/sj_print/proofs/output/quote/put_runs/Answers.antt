use Rattle.std.proofs.Common.{◌<◌, ◌+◌, ◌-◌, ◌++◌, length, drop, take, get_or, flat_map, arith}
use Rattle.sj_text_core.specs.Print.{escaped}
use Rattle.sj_print.proofs.Escapes.{stops_at, escaped_to_stop, escaped_at, escaped_end}
use Rattle.sj_print.proofs.Puts.{step, end}
use Rattle.sj_print.proofs.output.quote.put_runs.Goals as goal

pub returns-then-stop-text : goal.returns-then-stop-text
returns-then-stop-text g c =
    let d = c.args.text.now in
    let e = c.args.behind.now in
    let whole = c.args.before.now ++ (flat_map escaped d ++ e) in
    let i = c.loop-out.at in
    let stop = c.plain_end-stop.result in
    let H = g.O.Output.holds in
    end H c.args.out c.put_bytes-out-in-loop-out.result c.put_bytes.result e (flat_map escaped (drop stop d) ++ e) whole
    (step H c.args.out c.loop-out.out c.put_bytes-out-in-loop-out.result (take (stop - i) (drop i d)) (flat_map escaped (drop i d) ++ e) (flat_map escaped (drop stop d) ++ e) whole
    c.loop-out.invariant.put c.put_bytes-out-in-loop-out.ensures (escaped_to_stop d i stop e c.plain_end-stop.ensures.value))
    c.put_bytes.ensures (escaped_end d stop e (omega (arith, c.if-stop-text.true)))

pub put_escape-out-requires : goal.put_escape-out-requires
put_escape-out-requires g c = stops_at c.args.text.now c.loop-out.at c.plain_end-stop.result c.plain_end-stop.ensures.value (omega (arith, c.plain_end-stop.ensures.bound))

pub loop-out-preserved : goal.loop-out-preserved
loop-out-preserved g c =
    let d = c.args.text.now in
    let e = c.args.behind.now in
    let whole = c.args.before.now ++ (flat_map escaped d ++ e) in
    let i = c.loop-out.at in
    let stop = c.plain_end-stop.result in
    let H = g.O.Output.holds in
    let within : stop < length d = omega (arith, c.plain_end-stop.ensures.bound) in
    record {
      within = omega arith;
      put = step H c.args.out c.put_bytes-out-in-loop-out.result c.put_escape-out.result (escaped (get_or d stop 0)) (flat_map escaped (drop stop d) ++ e) (flat_map escaped (drop (stop + 1) d) ++ e) whole
          (step H c.args.out c.loop-out.out c.put_bytes-out-in-loop-out.result (take (stop - i) (drop i d)) (flat_map escaped (drop i d) ++ e) (flat_map escaped (drop stop d) ++ e) whole
          c.loop-out.invariant.put c.put_bytes-out-in-loop-out.ensures (escaped_to_stop d i stop e c.plain_end-stop.ensures.value))
          c.put_escape-out.ensures (escaped_at d stop e within);
    }
