use Rattle.std.proofs.Common.{sym, ap, ◌∙◌, subst, arith}
use Rattle.sj_tape.specs.Stretches.{nodes_in}
use Rattle.sj_tape.proofs.Stretched.{few}
use Rattle.sj_object.specs.Builder.{AreMade}
use Rattle.sj_object.specs.inner.Piles.{first_mark, made_of, pile}
use Rattle.sj_object.proofs.PileEntries.{set_one, made_put}
use Rattle.sj_object.proofs.Piles.{whole_at}
use Rattle.sj_object.proofs.build.set_member.Goals as goal

pub width-requires : goal.width-requires
width-requires g c =
    let w = whole_at (nodes_in c.args.nodes) 0 _ (pile g.V.Made.tree c.args.made.now.items) c.at-node.ensures c.requires in
    omega (arith, w.wide, few c.args.nodes)

pub returns-clause-means : goal.returns-clause-means
returns-clause-means g c =
    let tree = g.V.Made.tree in
    let ns = nodes_in c.args.nodes in
    let ps = pile tree c.args.made.now.items in
    let w = whole_at ns 0 _ ps c.at-node.ensures c.requires in
    set_one tree c.args.text.now (made_of (first_mark ns) ps) (g.V.Map.MapOf.entries c.args.members.now) (g.V.Map.MapOf.entries c.set.new.self) c.in_ok-key.key _ c.in_ok-value.value c.in_ok-set.ensures c.in_ok-key.ensures.text
    (c.in_ok-value.ensures.means ∙ ap (λ m. made_of m ps) (sym w.first))

pub returns-clause-property : goal.returns-clause-property
returns-clause-property g c = λ made built.
    let d = c.in_ok-value.ensures.property built in
    (subst (AreMade g.Key.KeyMade.is_made g.V.Made.built) (sym c.in_ok-set.ensures) (made_put g.Key.KeyMade.is_made g.V.Made.built c.in_ok-key.key _ c.in_ok-value.value (g.V.Map.MapOf.entries c.args.members.now) c.in_ok-key.ensures.property d.0 made), d.1)
