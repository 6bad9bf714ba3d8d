use Rattle.std.proofs.Common.{ap, ◌∙◌}
use Rattle.sj_text_core.specs.Tree.{depth, items_from, items_depth, members_from, members_depth}
use Rattle.sj_print.specs.inner.Piles.{weight, items_weight, members_weight}
use Rattle.sj_document.specs.inner.Reach.{ahead_depth, ahead_weight}
use Rattle.sj_document.specs.declared.value.depth.Ahead.TheVariants as ahead
use Rattle.sj_document.proofs.Reach.{reached_on}
use Rattle.sj_document.proofs.value.depth.further.Goals as goal

pub returns-in_ok-push-in-Items : goal.returns-in_ok-push-in-Items
returns-in_ok-push-in-Items g c =
    let items = g.P.Parts.items_left in
    let members = g.P.Parts.members_left in
    reached_on items members c.open.result c.args.levels c.args.pile.now.items c.push.new.self.items (ahead.Items c.next_item.new.items)
    (depth (g.P.Parts.tree_of c.in-Some.item)) (weight (g.P.Parts.tree_of c.in-Some.item)) (ahead_depth items members c.args.ahead) (ahead_weight items members c.args.ahead) c.open.new.pile.items
    c.in_ok-push-in-Items.ensures.items
    (ap (ahead_depth items members) c.in-Items.is ∙ ap (λ l. items_depth (items_from l)) c.in-Some.ensures)
    (ap (ahead_weight items members) c.in-Items.is ∙ ap (λ l. items_weight (items_from l)) c.in-Some.ensures)
    c.open.ensures

pub returns-in_ok-push-in-Members : goal.returns-in_ok-push-in-Members
returns-in_ok-push-in-Members g c =
    let items = g.P.Parts.items_left in
    let members = g.P.Parts.members_left in
    reached_on items members c.open-in-Members.result c.args.levels c.args.pile.now.items c.push-in-Members.new.self.items (ahead.Members c.next_member.new.members)
    (depth (g.P.Parts.tree_of c.in-Some-next_member.value)) (weight (g.P.Parts.tree_of c.in-Some-next_member.value)) (ahead_depth items members c.args.ahead) (ahead_weight items members c.args.ahead) c.open-in-Members.new.pile.items
    c.in_ok-push-in-Members.ensures.items
    (ap (ahead_depth items members) c.in-Members.is ∙ ap (λ l. members_depth (members_from l)) c.in-Some-next_member.ensures)
    (ap (ahead_weight items members) c.in-Members.is ∙ ap (λ l. members_weight (members_from l)) c.in-Some-next_member.ensures)
    c.open-in-Members.ensures
