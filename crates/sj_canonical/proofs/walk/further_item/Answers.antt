use Rattle.std.proofs.Common.{ap, true}
use Rattle.std.proofs.lemmas.Result.{on_ok_weaker}
use Rattle.sj_text_core.specs.Print.{compact}
use Rattle.sj_canonical.specs.Canonical.{canonical_by}
use Rattle.sj_canonical.specs.inner.Walks.{before_part, items_rest}
use Rattle.sj_canonical.specs.declared.walk.Ahead.TheVariants as ahead
use Rattle.sj_canonical.proofs.Rests.{part_next, moves_behind}
use Rattle.sj_canonical.proofs.walk.further_item.Goals as goal

pub returns-clause-ok : goal.returns-clause-ok
returns-clause-ok g c =
    let P = g.P.Parts in
    on_ok_weaker c.begin.result
    (λ m. moves_behind _ _ _ (before_part c.args.is_begun) _ _ _ c.in_ok-put_comma.ensures.ok
    (part_next c.args.choice P.items_left P.key_of P.tree_of c.args.pile.now.items c.push.new.self.items (record { ahead = ahead.Items c.next_item.new.items; is_begun = true }) _ (before_part c.args.is_begun) (compact (canonical_by c.args.choice (P.tree_of c.in-Some.item)))
    c.in_ok-push.ensures.items (ap (items_rest c.args.choice c.args.is_begun) c.in-Some.ensures)) m)
    c.begin.ensures.ok
