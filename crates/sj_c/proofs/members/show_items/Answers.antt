use Rattle.std.proofs.Common.{rules, arith, ◌+◌, ◌<◌, length, string_bytes}
use Rattle.sj_document.specs.Document.{document_tree}
use Rattle.sj_c.specs.Shown.{Shows}
use Rattle.sj_c.proofs.Next.{item-at, shown_next}
use Rattle.sj_c.proofs.members.show_items.Goals as goal

pub loop-at-preserved : goal.loop-at-preserved
loop-at-preserved c =
    let room : c.loop-at.at < length c.loop-at.out = search (rules, arith) in
    let there : c.args.from + c.loop-at.at < length c.args.items.now = search (rules, arith) in
    shown_next Shows c.args.from c.loop-at.at c.loop-at.out _ c.show.new.found _ room
    (item-at (document_tree string_bytes) c.args.items.now (c.args.from + c.loop-at.at) c.index-items-from.result there c.index-items-from.is) c.show.ensures c.loop-at.invariant

pub returns-clause-shown : goal.returns-clause-shown
returns-clause-shown c = λ k l. c.loop-at.invariant k (omega (arith, l, c.loop-at-test.false))
