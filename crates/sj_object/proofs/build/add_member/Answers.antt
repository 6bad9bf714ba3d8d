use Rattle.std.proofs.Common.{◌≡◌, false, sym, ap, ◌∙◌, arith}
use Rattle.sj_text_core.specs.Keep.{is_seen}
use Rattle.sj_tape.specs.Stretches.{nodes_in}
use Rattle.sj_tape.proofs.Stretched.{few}
use Rattle.sj_object.specs.Entries.{entry_texts}
use Rattle.sj_object.specs.inner.Piles.{first_mark, made_of, pile}
use Rattle.sj_object.proofs.PileEntries.{add_none, add_one}
use Rattle.sj_object.proofs.Piles.{whole_at}
use Rattle.sj_object.proofs.build.add_member.Goals as goal

pub width-requires : goal.width-requires
width-requires g c =
    let w = whole_at (nodes_in c.args.nodes) 0 _ (pile g.V.Made.tree c.args.made.now.items) c.at-node.ensures c.requires in
    omega (arith, w.wide, few c.args.nodes)

pub width-requires-2 : goal.width-requires-2
width-requires-2 g c =
    let w = whole_at (nodes_in c.args.nodes) 0 _ (pile g.V.Made.tree c.args.made.now.items) c.at-node-2.ensures c.requires in
    omega (arith, w.wide, few c.args.nodes)

pub returns-then-has_hashed-clause-means : goal.returns-then-has_hashed-clause-means
returns-then-has_hashed-clause-means g c =
    add_none g.V.Made.tree c.args.text.now _ (g.V.Map.MapOf.entries c.args.members.now) (sym c.has_hashed.ensures ∙ c.if-has_hashed.true)

pub returns-clause-means : goal.returns-clause-means
returns-clause-means g c =
    let tree = g.V.Made.tree in
    let es = g.V.Map.MapOf.entries c.args.members.now in
    let ns = nodes_in c.args.nodes in
    let ps = pile tree c.args.made.now.items in
    let w = whole_at ns 0 _ ps c.at-node-2.ensures c.requires in
    let absent : is_seen c.args.text.now (entry_texts es) ≡ false = sym c.has_hashed.ensures ∙ c.if-has_hashed.false in
    add_one tree c.args.text.now (made_of (first_mark ns) ps) es (g.V.Map.MapOf.entries c.add_hashed.new.self) c.in_ok-key.key _ c.in_ok-value.value absent c.in_ok-add_hashed.ensures c.in_ok-key.ensures.text
    (c.in_ok-value.ensures.means ∙ ap (λ m. made_of m ps) (sym w.first))
