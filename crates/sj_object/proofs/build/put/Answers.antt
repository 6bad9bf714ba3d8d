use Rattle.std.proofs.Common.{◌∷◌, [], arith, refl, sym, ap, ◌∙◌, subst}
use Rattle.sj_text_core.specs.Tree.{list, obj, items_from, members_from}
use Rattle.sj_tape.specs.Marks.{mark}
use Rattle.sj_tape.specs.Stretches.{nodes_in}
use Rattle.sj_object.specs.inner.Piles.{pile, taken, trees_left, taken_pairs, left_pairs, kept_by, grown, Needs, CanTakeItems, CanTakePairs}
use Rattle.sj_object.proofs.Piles.{array_on, object_on, begins_with, some_node}
use Rattle.sj_object.proofs.build.put.Goals as goal

pub at-requires : goal.at-requires
at-requires g c = some_node (nodes_in c.args.nodes) _ c.requires

pub from-requires : goal.from-requires
from-requires g c = omega (arith, some_node (nodes_in c.args.nodes) _ c.requires)

pub take_items-requires : goal.take_items-requires
take_items-requires g c κs = (
  (refl, tt),
  let ns = nodes_in c.args.nodes in
      let ps = pile g.V.Made.tree c.args.made.now.items in
      let whole = begins_with ns _ (some_node ns ps c.requires) (sym (ap (λ n. mark n) c.in-Array.is) ∙ c.at.ensures) in
      subst (λ l. CanTakeItems c.in-Array.len l ps) (sym c.from.ensures) (subst (λ l. Needs l ps) whole c.requires),
)

pub take_members-requires : goal.take_members-requires
take_members-requires g c κs = (
  (refl, tt),
  let ns = nodes_in c.args.nodes in
      let ps = pile g.V.Made.tree c.args.made.now.items in
      let whole = begins_with ns _ (some_node ns ps c.requires) (sym (ap (λ n. mark n) c.in-Object.is) ∙ c.at.ensures) in
      subst (λ l. CanTakePairs c.in-Object.len l ps) (sym c.from-in-Object.ensures) (subst (λ l. Needs l ps) whole c.requires),
)

pub returns-in_ok-push-in-Array-clause-means : goal.returns-in_ok-push-in-Array-clause-means
returns-in_ok-push-in-Array-clause-means g c =
    let tree = g.V.Made.tree in
    let ns = nodes_in c.args.nodes in
    let ps = pile tree c.args.made.now.items in
    let whole = begins_with ns _ (some_node ns ps c.requires) (sym (ap (λ n. mark n) c.in-Array.is) ∙ c.at.ensures) in
    array_on tree c.take_items.new.made.items c.push.new.self.items c.in_ok-from_vec-in-Array.field-0 c.in_ok-items-in-Array.items.items _ _ c.in_ok-items-in-Array.ensures.means c.in_ok-items-in-Array.ensures.rest c.in_ok-from_vec-in-Array.ensures.means c.in_ok-push-in-Array.ensures.items
    ∙ (λ i. list (items_from (taken c.in-Array.len (c.from.ensures i) ps)) ∷ trees_left c.in-Array.len (c.from.ensures i) ps)
    ∙ sym (ap (λ l. grown c.args.repeats l ps) whole)

pub returns-in_ok-push-in-Object-clause-means : goal.returns-in_ok-push-in-Object-clause-means
returns-in_ok-push-in-Object-clause-means g c =
    let tree = g.V.Made.tree in
    let ns = nodes_in c.args.nodes in
    let ps = pile tree c.args.made.now.items in
    let whole = begins_with ns _ (some_node ns ps c.requires) (sym (ap (λ n. mark n) c.in-Object.is) ∙ c.at.ensures) in
    object_on tree c.take_members.new.made.items c.push-in-Object.new.self.items c.in_ok-from_map-in-Object.field-0 (g.V.Map.MapOf.entries c.in_ok-members-in-Object.members) _ _ c.in_ok-members-in-Object.ensures.means c.in_ok-members-in-Object.ensures.rest c.in_ok-from_map-in-Object.ensures.means c.in_ok-push-in-Object.ensures.items
    ∙ (λ i. obj (members_from (kept_by c.args.repeats [] (taken_pairs c.in-Object.len (c.from-in-Object.ensures i) ps))) ∷ left_pairs c.in-Object.len (c.from-in-Object.ensures i) ps)
    ∙ sym (ap (λ l. grown c.args.repeats l ps) whole)
