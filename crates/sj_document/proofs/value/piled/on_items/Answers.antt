use Rattle.sj_document.proofs.Piled.{goes_item}
use Rattle.sj_document.proofs.value.piled.on_items.Goals as goal

pub returns-in_ok-push-in-Some : goal.returns-in_ok-push-in-Some
returns-in_ok-push-in-Some g c =
    goes_item g.T.KeyText.text_of g.S.Source.items_left g.S.Source.members_left g.S.Source.tree_of c.args.pile.now.items c.push.new.self.items
    c.args.made c.args.ahead c.next_item.new.items c.in-Some.part c.in-Some.ensures c.in_ok-push-in-Some.ensures.items
