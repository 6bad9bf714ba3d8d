use Rattle.std.proofs.Common.{◌≡◌, true, false, ◌∙◌, arith}
use Rattle.sj_object.specs.Entries.{entries_of}
use Rattle.sj_object.specs.Rooms.{takes}
use Rattle.sj_object.proofs.Inserted.{inserted}
use Rattle.sj_object.proofs.Restored.{tested, fits, put_back-taken, put_back-left}
use Rattle.sj_object.proofs.map.restore.put_back.Goals as goal

pub insert-requires : goal.insert-requires
insert-requires g c =
    let t = g.K.KeyText.text_of in
    let ps = c.loop-position.pairs.items in
    let h = fits t c.args.most c.in-Some.position c.in-Some.key ps (tested t c.args.most c.in-Some.position c.in-Some.key ps _ _ _ _ c.has_place.ensures c.text.ensures c.deref.ensures.value c.if-has_place.true) in
    omega (arith, h.1, c.loop-position.pairs.ok.0)

pub unwrap-requires : goal.unwrap-requires
unwrap-requires g c =
    let t = g.K.KeyText.text_of in
    let ps = c.loop-position.pairs.items in
    let h = fits t c.args.most c.in-Some.position c.in-Some.key ps (tested t c.args.most c.in-Some.position c.in-Some.key ps _ _ _ _ c.has_place.ensures c.text.ensures c.deref.ensures.value c.if-has_place.true) in
    c.insert.ensures.succeeds (omega (arith, h.0, c.loop-position.pairs.ok.0, c.loop-position.invariant.space))

pub loop-position-preserved-then-has_place : goal.loop-position-preserved-then-has_place
loop-position-preserved-then-has_place g c =
    let t = g.K.KeyText.text_of in
    let n = c.args.most in
    let i = c.in-Some.position in
    let k = c.in-Some.key in
    let ps = c.loop-position.pairs.items in
    let fit : takes n i (t k) (entries_of t ps) ≡ true = tested t n i k ps _ _ _ _ c.has_place.ensures c.text.ensures c.deref.ensures.value c.if-has_place.true in
    let put = inserted ps c.insert.new.self.items i (k, c.in-Some.value) c.insert.result c.unwrap.result c.insert.ensures.items c.unwrap.ensures in
    record {
      space = omega (arith, c.loop-position.invariant.space, c.insert.ensures.capacity);
      rest = put_back-taken t n i k c.in-Some.value ps c.insert.new.self.items c.loop-position.taken.items c.pop.new.self.items fit put c.in-Some.ensures.items ∙ c.loop-position.invariant.rest;
    }

pub loop-position-preserved : goal.loop-position-preserved
loop-position-preserved g c =
    let t = g.K.KeyText.text_of in
    let n = c.args.most in
    let i = c.in-Some.position in
    let k = c.in-Some.key in
    let ps = c.loop-position.pairs.items in
    let unfit : takes n i (t k) (entries_of t ps) ≡ false = tested t n i k ps _ _ _ _ c.has_place.ensures c.text.ensures c.deref.ensures.value c.if-has_place.false in
    record {
      space = c.loop-position.invariant.space;
      rest = put_back-left t n i k c.in-Some.value ps c.loop-position.taken.items c.pop.new.self.items unfit c.in-Some.ensures.items ∙ c.loop-position.invariant.rest;
    }
