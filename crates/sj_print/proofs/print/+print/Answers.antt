use Rattle.std.proofs.Common.{◌≡◌, true, false, [], ◌∷◌, ◌++◌, refl, sym, ap, ◌∙◌, subst, arith, rules}
use Rattle.sj_text_core.specs.Print.{quoted}
use Rattle.sj_text_core.specs.Tree.{list, obj, items_from, members_from}
use Rattle.sj_print.specs.Layouts.{laid, deeper, gap}
use Rattle.sj_print.specs.inner.Layouts.{key_end}
use Rattle.sj_print.specs.Outputs.{AppendsText, HoldsText}
use Rattle.sj_print.specs.inner.Piles.{items_mark, members_mark, items_weight, members_weight, items_laid, members_laid, ahead_tree, pile_weight, PilesUp}
use Rattle.sj_print.specs.declared.print.Ahead.TheVariants as ahead
use Rattle.sj_print.proofs.Layouts.{items_laid-item, members_laid-member}
use Rattle.sj_print.proofs.Piles.{left_push, stored, piled_print, piled_up, piled_part, piled_on}
use Rattle.sj_print.proofs.Walks.{items_first, items_next, items_last, members_first, members_next, members_last}
use Rattle.sj_print.proofs.print.+print.Goals as goal

pub print_within-returns-in-Array : goal.print_within-returns-in-Array
print_within-returns-in-Array g t c s l =
    subst (λ u. AppendsText g.O.Output.holds c.args.out c.print_items.result (laid s u)) c.in-Array.ensures (c.print_items.ensures s l)

pub print_within-returns-in-Object : goal.print_within-returns-in-Object
print_within-returns-in-Object g t c s l =
    subst (λ u. AppendsText g.O.Output.holds c.args.out c.print_members.result (laid s u)) c.in-Object.ensures (c.print_members.ensures s l)

pub print_items-loop-item-init : goal.print_items-loop-item-init
print_items-loop-item-init g t c =
    record {
      within = omega (arith, ap (λ ts. items_weight (items_from ts)) c.in-Some.ensures);
      put = λ s l. items_first (HoldsText g.O.Output.holds) s (g.P.Parts.tree_of c.in-Some.first) (items_from (g.P.Parts.items_left c.next_item.new.items)) (items_from (g.P.Parts.items_left c.args.items))
          c.args.out c.put_then_gap.result c.print_within-out.result (ap items_from c.in-Some.ensures) (c.put_then_gap.ensures (deeper s) (c.deeper-inner.ensures s l)) (c.print_within-out.ensures (deeper s) (c.deeper-inner.ensures s l));
    }

pub print_items-loop-item-preserved : goal.print_items-loop-item-preserved
print_items-loop-item-preserved g t c =
    record {
      within = omega (arith, c.loop-item.invariant.within, ap (λ ts. items_weight (items_from ts)) c.in-Some-next_item.ensures);
      put = λ s l. items_next (HoldsText g.O.Output.holds) s (g.P.Parts.tree_of c.in-Some-next_item.item) (items_from (g.P.Parts.items_left c.next_item-in-loop-item.new.items)) (items_from (g.P.Parts.items_left c.loop-item.items)) _
          c.args.out c.loop-item.out c.put_then_gap-in-Some-next_item.result c.print_within-out-in-Some-next_item.result (ap items_from c.in-Some-next_item.ensures) (c.loop-item.invariant.put s l)
          (c.put_then_gap-in-Some-next_item.ensures (deeper s) (c.deeper-inner.ensures s l)) (c.print_within-out-in-Some-next_item.ensures (deeper s) (c.deeper-inner.ensures s l));
    }

pub print_items-returns : goal.print_items-returns
print_items-returns g t c s l =
    items_last (HoldsText g.O.Output.holds) s (items_from (g.P.Parts.items_left c.loop-item.items)) _ c.args.out c.loop-item.out c.put_gap_then.result
    (ap items_from c.in_default-next_item.ensures.0) (c.loop-item.invariant.put s l) (c.put_gap_then.ensures s l)

pub print_members-loop-key-init : goal.print_members-loop-key-init
print_members-loop-key-init g t c =
    record {
      within = omega (arith, ap (λ ps. members_weight (members_from ps)) c.in-Some.ensures);
      put = λ s l. members_first (HoldsText g.O.Output.holds) s (g.P.Parts.key_of c.in-Some.key) (g.P.Parts.tree_of c.in-Some.first) (members_from (g.P.Parts.members_left c.next_member.new.members)) (members_from (g.P.Parts.members_left c.args.members))
          c.args.out c.put_key-begun.result c.print_within-out.result (ap members_from c.in-Some.ensures)
          (c.put_key-begun.ensures (deeper s) (c.deeper-inner.ensures s l)) (c.print_within-out.ensures (deeper s) (c.deeper-inner.ensures s l));
    }

pub print_members-loop-key-preserved : goal.print_members-loop-key-preserved
print_members-loop-key-preserved g t c =
    record {
      within = omega (arith, c.loop-key.invariant.within, ap (λ ps. members_weight (members_from ps)) c.in-Some-next_member.ensures);
      put = λ s l. members_next (HoldsText g.O.Output.holds) s (g.P.Parts.key_of c.in-Some-next_member.key) (g.P.Parts.tree_of c.in-Some-next_member.value) (members_from (g.P.Parts.members_left c.next_member-in-loop-key.new.members)) (members_from (g.P.Parts.members_left c.loop-key.members)) _
          c.args.out c.loop-key.out c.put_key-begun-in-Some-next_member.result c.print_within-out-in-Some-next_member.result (ap members_from c.in-Some-next_member.ensures) (c.loop-key.invariant.put s l)
          (c.put_key-begun-in-Some-next_member.ensures (deeper s) (c.deeper-inner.ensures s l)) (c.print_within-out-in-Some-next_member.ensures (deeper s) (c.deeper-inner.ensures s l));
    }

pub print_members-returns : goal.print_members-returns
print_members-returns g t c s l =
    members_last (HoldsText g.O.Output.holds) s (members_from (g.P.Parts.members_left c.loop-key.members)) _ c.args.out c.loop-key.out c.put_gap_then.result
    (ap members_from c.in_default-next_member.ensures.0) (c.loop-key.invariant.put s l) (c.put_gap_then.ensures s l)

pub print_piled-loop-opened-preserved : goal.print_piled-loop-opened-preserved
print_piled-loop-opened-preserved g t c =
    let items = g.P.Parts.items_left in
    let members = g.P.Parts.members_left in
    record {
      within = omega (arith, c.loop-opened.invariant.within, c.further-out.ensures.fewer, ap (pile_weight items members) c.in-Some.ensures.items ∙ left_push items members c.pop.new.self.items c.in-Some.opened);
      put = λ s l. piled_on items members g.O.Output.holds s _ _ _ _ _ _ _ _ c.in-Some.ensures.items (c.loop-opened.invariant.put s l) c.further-out.ensures.piled;
    }

pub pile_up-returns-in-Ok-clause-piled : goal.pile_up-returns-in-Ok-clause-piled
pile_up-returns-in-Ok-clause-piled g t c =
    let items = g.P.Parts.items_left in
    let members = g.P.Parts.members_left in
    subst (λ q. PilesUp items members g.O.Output.holds c.args.pile.now.items c.args.out q c.args.out c.args.layout (λ s. laid s (ahead_tree items members c.args.ahead))) (sym c.in-Ok.ensures.items)
    (piled_up items members g.O.Output.holds c.args.pile.now.items c.args.out (record { ahead = c.args.ahead; layout = c.args.layout; is_begun = false }) refl)

pub pile_up-returns-in-Err-clause-piled : goal.pile_up-returns-in-Err-clause-piled
pile_up-returns-in-Err-clause-piled g t c =
    let items = g.P.Parts.items_left in
    let members = g.P.Parts.members_left in
    let same : c.in-Err.refused.value.ahead ≡ c.args.ahead = ap (λ o. o.ahead) c.in-Err.ensures.value_returned in
    subst (λ q. PilesUp items members g.O.Output.holds c.args.pile.now.items c.args.out q c.print_ahead.result c.args.layout (λ s. laid s (ahead_tree items members c.args.ahead))) (sym c.in-Err.ensures.items)
    (piled_print items members g.O.Output.holds c.args.pile.now.items c.args.out c.print_ahead.result c.args.layout (λ s. laid s (ahead_tree items members c.args.ahead))
    (λ s l. subst (λ a. AppendsText g.O.Output.holds c.args.out c.print_ahead.result (laid s (ahead_tree items members a))) same (c.print_ahead.ensures s l)))

pub further_item-returns-in_default-clause-piled : goal.further_item-returns-in_default-clause-piled
further_item-returns-in_default-clause-piled g t c =
    piled_print g.P.Parts.items_left g.P.Parts.members_left g.O.Output.holds c.args.pile.now.items c.args.out c.put_items_end.result c.args.layout (λ s. items_laid c.args.is_begun s (items_from (g.P.Parts.items_left c.args.items)))
    (λ s l. subst (λ pile_weight. AppendsText g.O.Output.holds c.args.out c.put_items_end.result (items_laid c.args.is_begun s (items_from pile_weight))) (sym c.in_default.ensures.0) (c.put_items_end.ensures s l))

pub further_item-returns-clause-piled : goal.further_item-returns-clause-piled
further_item-returns-clause-piled g t c =
    let items = g.P.Parts.items_left in
    let members = g.P.Parts.members_left in
    let holds = g.O.Output.holds in
    let put = stored c.push.result c.args.pile.now.items c.push.new.self.items ((record { ahead = ahead.Items c.next_item.new.items; layout = c.args.layout; is_begun = true }) ∷ []) (c.push.ensures.succeeds c.requires) c.push.ensures.items in
    piled_part items members holds c.args.pile.now.items c.print_part.new.pile.items (record { ahead = ahead.Items c.next_item.new.items; layout = c.args.layout; is_begun = true })
    c.args.out c.put_before_item-out.result c.print_part.result c.deeper-inner.result
    (λ s. items_mark c.args.is_begun ∷ gap s) (λ s. laid s (g.P.Parts.tree_of c.in-Some.item)) (λ s. items_laid c.args.is_begun s (items_from (g.P.Parts.items_left c.args.items)))
    c.deeper-inner.ensures c.put_before_item-out.ensures
    (subst (λ p. PilesUp items members holds p c.put_before_item-out.result c.print_part.new.pile.items c.print_part.result c.deeper-inner.result (λ s. laid s (g.P.Parts.tree_of c.in-Some.item))) put c.print_part.ensures.piled)
    (λ s. ap (λ pile_weight. items_laid c.args.is_begun s (items_from pile_weight)) c.in-Some.ensures ∙ items_laid-item c.args.is_begun s (g.P.Parts.tree_of c.in-Some.item) (items_from (g.P.Parts.items_left c.next_item.new.items)))

pub further_member-returns-in_default-clause-piled : goal.further_member-returns-in_default-clause-piled
further_member-returns-in_default-clause-piled g t c =
    piled_print g.P.Parts.items_left g.P.Parts.members_left g.O.Output.holds c.args.pile.now.items c.args.out c.put_members_end.result c.args.layout (λ s. members_laid c.args.is_begun s (members_from (g.P.Parts.members_left c.args.members)))
    (λ s l. subst (λ pile_weight. AppendsText g.O.Output.holds c.args.out c.put_members_end.result (members_laid c.args.is_begun s (members_from pile_weight))) (sym c.in_default.ensures.0) (c.put_members_end.ensures s l))

pub further_member-returns-clause-piled : goal.further_member-returns-clause-piled
further_member-returns-clause-piled g t c =
    let items = g.P.Parts.items_left in
    let members = g.P.Parts.members_left in
    let holds = g.O.Output.holds in
    let put = stored c.push.result c.args.pile.now.items c.push.new.self.items ((record { ahead = ahead.Members c.next_member.new.members; layout = c.args.layout; is_begun = true }) ∷ []) (c.push.ensures.succeeds c.requires) c.push.ensures.items in
    piled_part items members holds c.args.pile.now.items c.print_part.new.pile.items (record { ahead = ahead.Members c.next_member.new.members; layout = c.args.layout; is_begun = true })
    c.args.out c.put_before_member-out.result c.print_part.result c.deeper-inner.result
    (λ s. (members_mark c.args.is_begun ∷ gap s) ++ (quoted (g.P.Parts.key_of c.in-Some.key) ++ key_end s)) (λ s. laid s (g.P.Parts.tree_of c.in-Some.value)) (λ s. members_laid c.args.is_begun s (members_from (g.P.Parts.members_left c.args.members)))
    c.deeper-inner.ensures c.put_before_member-out.ensures
    (subst (λ p. PilesUp items members holds p c.put_before_member-out.result c.print_part.new.pile.items c.print_part.result c.deeper-inner.result (λ s. laid s (g.P.Parts.tree_of c.in-Some.value))) put c.print_part.ensures.piled)
    (λ s. ap (λ pile_weight. members_laid c.args.is_begun s (members_from pile_weight)) c.in-Some.ensures ∙ members_laid-member c.args.is_begun s (g.P.Parts.key_of c.in-Some.key) (g.P.Parts.tree_of c.in-Some.value) (members_from (g.P.Parts.members_left c.next_member.new.members)))

pub print_ahead-returns-in-Items : goal.print_ahead-returns-in-Items
print_ahead-returns-in-Items g t c s l =
    subst (λ a. AppendsText g.O.Output.holds c.args.out c.print_items.result (laid s (ahead_tree g.P.Parts.items_left g.P.Parts.members_left a))) (sym c.in-Items.is) (c.print_items.ensures s l)

pub print_ahead-returns-in-Members : goal.print_ahead-returns-in-Members
print_ahead-returns-in-Members g t c s l =
    subst (λ a. AppendsText g.O.Output.holds c.args.out c.print_members.result (laid s (ahead_tree g.P.Parts.items_left g.P.Parts.members_left a))) (sym c.in-Members.is) (c.print_members.ensures s l)
