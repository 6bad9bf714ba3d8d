use Rattle.std.proofs.Common.{sym, ap, ◌∙◌, arith}
use Rattle.sj_document.proofs.Arrays.{items_seen, item_at, none_nth}
use Rattle.sj_document.proofs.Placed.{items-remove, remove-past}
use Rattle.sj_document.proofs.value.items.take_out.Goals as goal

pub returns-then-index-len-clause-answer : goal.returns-then-index-len-clause-answer
returns-then-index-len-clause-answer g c = sym (item_at g.T.KeyText.text_of c.args.items.now.items c.args.index c.remove.result (omega (arith, c.if-index-len.true, c.len.ensures, c.args.items.now.ok.0)) c.remove.ensures.value)

pub returns-then-index-len-clause-after : goal.returns-then-index-len-clause-after
returns-then-index-len-clause-after g c = ap (items_seen g.T.KeyText.text_of) c.remove.ensures.items ∙ items-remove g.T.KeyText.text_of c.args.items.now.items c.args.index

pub returns-else-index-len-clause-answer : goal.returns-else-index-len-clause-answer
returns-else-index-len-clause-answer g c = none_nth g.T.KeyText.text_of c.args.items.now.items c.args.index (omega (arith, c.if-index-len.false, c.len.ensures, c.args.items.now.ok.0))

pub returns-else-index-len-clause-after : goal.returns-else-index-len-clause-after
returns-else-index-len-clause-after g c = sym (remove-past g.T.KeyText.text_of c.args.items.now.items c.args.index (omega (arith, c.if-index-len.false, c.len.ensures, c.args.items.now.ok.0)))
