use Rattle.std.proofs.Common.{rules, ◌≡◌, ◌+◌, ◌*◌, ◌++◌, ◌∷◌, [], map, length, ap, ◌∙◌, arith, length-append}
use Rattle.sj_tape.specs.inner.Places.{item_at}
use Rattle.sj_tape.proofs.ItemPlaces.{item_from, one_place, kept_with}
use Rattle.sj_tape.proofs.item_places.places_of.Goals as goal

pub loop-passed-preserved : goal.loop-passed-preserved
loop-passed-preserved g c =
    let ns = map g.N.StoredNode.mark_of c.args.nodes.now in
    let l = c.loop-passed in
    let pushed : c.push.new.self.items ≡ l.places.items ++ l.at ∷ [] = search rules in
    let long : length c.push.new.self.items ≡ length l.places.items + 1 = ap length pushed ∙ length-append l.places.items (l.at ∷ []) in
    let steps : l.passed ≡ length l.places.items * 64 = omega (arith, l.invariant.count, c.loop-passed-test.true) in
    let here : l.at ≡ item_at ns (length l.places.items * 64) =
    one_place ns l.passed l.at (item_at ns l.passed) l.invariant.from (item_from ns c.requires.are l.passed (omega (arith, c.loop-passed-test.true, c.requires.counted))) ∙ ap (item_at ns) steps in
    record {
      from = c.pass_block-place.ensures;
      count = omega (arith, long, steps, c.min.ensures, c.loop-passed-test.true);
      there = kept_with ns l.places.items c.push.new.self.items l.at pushed here l.invariant.there;
    }
