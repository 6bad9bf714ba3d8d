use Rattle.std.proofs.Common.{map, refl, sym, arith}
use Rattle.sj_text_core.specs.Tree.{items_from}
use Rattle.sj_document.specs.Document.{document_tree}
use Rattle.sj_document.proofs.Arrays.{none_nth}
use Rattle.sj_patch.proofs.Leaves.{no_item}
use Rattle.sj_patch.proofs.Taken.{took_item}
use Rattle.sj_patch.proofs.change.take_item.Goals as goal

pub returns-in_ok-room : goal.returns-in_ok-room
returns-in_ok-room g c =
    let t = g.T.KeyText.text_of in
    let vs = c.args.items.now.items in
    let size = c.args.items.now.ok.0 in
    took_item t c.args.token.now c.in-Some.index vs c.remove-taken.new.self.items c.in_ok-room.room c.remove-taken.result (sym c.in-Some.ensures) (omega (arith, c.if-index-len.true, c.len.ensures, size)) c.remove-taken.ensures.value c.remove-taken.ensures.items
    (omega (arith, c.in_ok-room.ensures.capacity, c.len-then-index-len.ensures, size))

pub returns-else-index-len : goal.returns-else-index-len
returns-else-index-len g c =
    let t = g.T.KeyText.text_of in
    let vs = c.args.items.now.items in
    (refl, no_item c.args.token.now c.in-Some.index (items_from (map (document_tree t) vs)) (sym c.in-Some.ensures) (sym (none_nth t vs c.in-Some.index (omega (arith, c.if-index-len.false, c.len.ensures, c.args.items.now.ok.0)))))
