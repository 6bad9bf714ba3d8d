use Rattle.std.proofs.Common.{◌≡◌, true, false, rules, suc}
use Rattle.sj_text_core.specs.Tree.{depth}
use Rattle.sj_document.specs.inner.Reach.{ahead_depth, ahead_weight}
use Rattle.sj_document.proofs.Reach.{reached_all, reached_within, reached_none}
use Rattle.sj_document.proofs.value.depth.is_within_depth.Goals as goal

pub returns-then-not-branch-2 : goal.returns-then-not-branch-2
returns-then-not-branch-2 g c =
    let f : c.in_ok-further.field-0 ≡ false = search rules in
    reached_none g.P.Parts.items_left g.P.Parts.members_left c.args.levels (depth (g.P.Parts.tree_of c.args.value.now)) c.loop-ahead.pile.items c.pop.new.self.items c.in-Some.ahead c.in_ok-further.field-0 c.further.new.pile.items
    c.in-Some.ensures.items c.loop-ahead.invariant.same f c.in_ok-further.ensures

pub loop-ahead-preserved : goal.loop-ahead-preserved
loop-ahead-preserved g c =
    let items = g.P.Parts.items_left in
    let members = g.P.Parts.members_left in
    let f : c.in_ok-further.field-0 ≡ true = search rules in
    record {
      within = reached_within items members c.args.levels (suc (ahead_depth items members c.in-Some.ahead)) (suc (ahead_weight items members c.in-Some.ahead)) c.pop.new.self.items c.in_ok-further.field-0 c.further.new.pile.items f c.in_ok-further.ensures;
      same = reached_all items members c.args.levels (depth (g.P.Parts.tree_of c.args.value.now)) c.loop-ahead.pile.items c.pop.new.self.items c.in-Some.ahead c.in_ok-further.field-0 c.further.new.pile.items
          c.in-Some.ensures.items c.loop-ahead.invariant.same f c.in_ok-further.ensures;
    }
