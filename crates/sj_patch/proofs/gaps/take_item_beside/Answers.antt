use Rattle.std.proofs.Common.{sym, subst, arith}
use Rattle.sj_text_core.specs.Tree.{list}
use Rattle.sj_document.proofs.Arrays.{items_seen}
use Rattle.sj_patch.specs.inner.Changed.{Takes}
use Rattle.sj_patch.specs.declared.gaps.Gap.TheVariants.{Item}
use Rattle.sj_patch.proofs.Taken.{took_item}
use Rattle.sj_patch.proofs.gaps.take_item_beside.Goals as goal

pub returns : goal.returns
returns g c =
    let t = g.T.KeyText.text_of in
    let vs = c.args.items.now.items in
    let ws = c.remove.new.self.items in
    let size = c.args.items.now.ok.0 in
    let i = c.in_ok-index.index in
    subst (λ gs. Takes t gs c.args.token.now (list (items_seen t vs)) (list (items_seen t ws)) (Item i c.remove.result)) (sym c.in-Items.is)
    (took_item t c.args.token.now i vs ws c.in-Items.room c.remove.result (sym c.in_ok-index.ensures) (omega (arith, c.if-index-len.false, c.len-else-len-capacity.ensures, size)) c.remove.ensures.value c.remove.ensures.items
    (omega (arith, c.if-len-capacity.false, c.len.ensures, c.capacity.ensures, size)))
