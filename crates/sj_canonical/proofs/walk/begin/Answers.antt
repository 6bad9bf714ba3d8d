use Rattle.std.proofs.Common.{◌++◌, ◌∷◌, sym, ap, ◌∙◌, map, false}
use Rattle.std.proofs.lemmas.Result.{on_ok_weaker}
use Rattle.sj_text_core.specs.Print.{compact}
use Rattle.sj_text_core.specs.Scalars.{static_tree}
use Rattle.sj_canonical.specs.Canonical.{canonical_by}
use Rattle.sj_canonical.specs.inner.Walks.{members_rest, pair_of, canonical_rest}
use Rattle.sj_canonical.specs.declared.walk.Ahead.TheVariants as ahead
use Rattle.sj_canonical.proofs.Rests.{compact_some, canonical-static, list-rest, obj-rest, moves, opened}
use Rattle.sj_canonical.proofs.walk.begin.Goals as goal

pub returns-in-Static-clause-ok : goal.returns-in-Static-clause-ok
returns-in-Static-clause-ok g c =
    let left = canonical_rest c.args.choice g.P.Parts.items_left g.P.Parts.key_of g.P.Parts.tree_of c.args.pile.now.items in
    on_ok_weaker c.write_static.result
    (λ e. moves _ _ (compact (static_tree c.in-Static.node)) _ left e (compact_some (static_tree c.in-Static.node))
    (ap (λ t. compact t ++ left) (sym (canonical-static c.args.choice c.in-Static.node) ∙ ap (canonical_by c.args.choice) c.in-Static.ensures)))
    c.write_static.ensures.ok

pub returns-in_ok-push-in-Array-clause-ok : goal.returns-in_ok-push-in-Array-clause-ok
returns-in_ok-push-in-Array-clause-ok g c =
    opened c.args.choice g.P.Parts.items_left g.P.Parts.key_of g.P.Parts.tree_of c.args.pile.now.items c.push.new.self.items (record { ahead = ahead.Items c.in-Array.items; is_begun = false }) _ _ _ 91
    c.in_ok-push-in-Array.ensures.items c.in_ok-write-in-Array.ensures.ok
    (ap (λ t. compact (canonical_by c.args.choice t)) (sym c.in-Array.ensures) ∙ list-rest c.args.choice (g.P.Parts.items_left c.in-Array.items))

pub returns-in_ok-push-in-Object-clause-ok : goal.returns-in_ok-push-in-Object-clause-ok
returns-in_ok-push-in-Object-clause-ok g c =
    let pairs = map (pair_of g.P.Parts.key_of g.P.Parts.tree_of) in
    opened c.args.choice g.P.Parts.items_left g.P.Parts.key_of g.P.Parts.tree_of c.args.pile.now.items c.push-in-Object.new.self.items (record { ahead = ahead.Members c.into_iter.result; is_begun = false }) _ _ _ 123
    c.in_ok-push-in-Object.ensures.items c.in_ok-write-in-Object.ensures.ok
    (ap (λ t. compact (canonical_by c.args.choice t)) (sym c.in-Object.ensures) ∙ obj-rest c.args.choice (g.P.Parts.members_left c.in-Object.members) c.in_ok-pick-in-Object.ensures.texts
    ∙ ap (λ ps. 123 ∷ members_rest c.args.choice false ps) (sym c.in_ok-pick-in-Object.ensures.pairs ∙ ap pairs (sym c.into_iter.ensures.rest)))
