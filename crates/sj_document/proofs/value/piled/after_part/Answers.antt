use Rattle.std.proofs.Common.{◌+◌, ◌*◌, sym, ap, ◌∙◌, arith}
use Rattle.sj_document.specs.Document.{document_tree}
use Rattle.sj_document.specs.inner.Piled.{with_part, waiting_weight, items_tree, members_tree, items_left_weight, members_left_weight}
use Rattle.sj_document.proofs.Piled.{item_put, member_put, goes_ok}
use Rattle.sj_document.proofs.value.piled.after_part.Goals as goal

pub returns-in_ok-push-in-Items : goal.returns-in_ok-push-in-Items
returns-in_ok-push-in-Items g c =
    let t = g.T.KeyText.text_of in
    let items = g.S.Source.items_left in
    let members = g.S.Source.members_left in
    goes_ok t items members g.S.Source.tree_of c.on_items.result c.args.pile.now.items c.on_items.new.pile.items
    (items_tree t items members c.push.new.self.items c.in-Items.ahead) (with_part t items members c.args.waiting (document_tree t c.args.part))
    (3 + 2 * items_left_weight t items members c.in-Items.ahead) (1 + 2 * waiting_weight t items members c.args.waiting)
    (item_put t items members c.in-Items.made.items c.push.new.self.items c.args.part c.in-Items.ahead c.in_ok-push-in-Items.ensures.items ∙ sym (ap (λ w. with_part t items members w (document_tree t c.args.part)) c.in-Items.is))
    (omega (arith, ap (waiting_weight t items members) c.in-Items.is))
    c.on_items.ensures

pub returns-in_ok-set-in-Members : goal.returns-in_ok-set-in-Members
returns-in_ok-set-in-Members g c =
    let t = g.T.KeyText.text_of in
    let items = g.S.Source.items_left in
    let members = g.S.Source.members_left in
    goes_ok t items members g.S.Source.tree_of c.on_members.result c.args.pile.now.items c.on_members.new.pile.items
    (members_tree t items members c.set.new.self.entries c.in-Members.ahead) (with_part t items members c.args.waiting (document_tree t c.args.part))
    (3 + 2 * members_left_weight t items members c.in-Members.ahead) (1 + 2 * waiting_weight t items members c.args.waiting)
    (member_put t items members c.in-Members.made.entries c.set.new.self.entries c.in-Members.key c.args.part c.in-Members.ahead c.in_ok-set-in-Members.ensures ∙ sym (ap (λ w. with_part t items members w (document_tree t c.args.part)) c.in-Members.is))
    (omega (arith, ap (waiting_weight t items members) c.in-Members.is))
    c.on_members.ensures
