use Rattle.std.proofs.Common.{sym, ap, ◌∙◌, arith}
use Rattle.std.specs.Vec.{vec_capacity}
use Rattle.sj_text_core.specs.Tree.{list}
use Rattle.sj_object.specs.Rooms.{places}
use Rattle.sj_document.proofs.Arrays.{items_seen}
use Rattle.sj_patch.specs.inner.Changed.{gaps_filled}
use Rattle.sj_patch.proofs.Gathered.{fill_full, members_in_list}
use Rattle.sj_patch.proofs.gaps.fill_items.Goals as goal

pub returns-in_default : goal.returns-in_default
returns-in_default g c =
    let t = g.T.KeyText.text_of in
    let is = items_seen t c.args.items.now.items in
    sym (ap (λ gs. gaps_filled t gs (list is)) c.in_default.is ∙ members_in_list t (places c.in_default.field-0) c.in_default.field-1.items is)

pub returns-then-len-capacity : goal.returns-then-len-capacity
returns-then-len-capacity g c =
    let t = g.T.KeyText.text_of in
    let vs = c.args.items.now.items in
    sym (ap (λ gs. gaps_filled t gs (list (items_seen t vs))) c.in-Items.is
    ∙ fill_full t (vec_capacity c.in-Items.room) vs c.in-Items.taken.items (omega (arith, c.if-len-capacity.true, c.len.ensures, c.capacity.ensures, c.args.items.now.ok.0)))
