use Rattle.std.proofs.Common.{ap, ◌∙◌, map, rules}
use Rattle.std.proofs.lemmas.Fn.{dedup_same}
use Rattle.std.proofs.lemmas.List.Sorted.{answers_always}
use Rattle.sj_canonical.specs.inner.Picks.{by_choice, sorted, thinned}
use Rattle.sj_canonical.specs.inner.Walks.{pair_of}
use Rattle.sj_canonical.proofs.Sorted.{sorts}
use Rattle.sj_canonical.proofs.Pairs.{by_key, by_key-order, same_key, in_order-pairs, pairs-deduped, pairs-choice}
use Rattle.sj_canonical.proofs.walk.pick.Goals as goal

pub returns-clause-pairs : goal.returns-clause-pairs
returns-clause-pairs g c =
    let key = g.P.Parts.key_of in
    let tree = g.P.Parts.tree_of in
    let pairs = map (pair_of key tree) in
    let order = by_key-order key tree in
    let answers = answers_always _ _ _ (λ f a r h k. search rules) in
    let first = c.put_first.new.list.items in
    let in_row = sorts (by_key key tree) order first c.sort_by.new.self.items (c.in_ok-sort_by.ensures.sorted (by_key key tree) order answers) (c.sort_by.ensures.stable (by_key key tree) order answers) in
    let once = dedup_same _ (same_key key tree) _ (λ x y b f' x' y' k. search rules) c.sort_by.new.self.items c.dedup_by.new.self.items c.dedup_by.ensures.filtered in
    ap pairs once ∙ pairs-deduped key tree c.sort_by.new.self.items
    ∙ ap thinned (ap pairs in_row ∙ in_order-pairs key tree first ∙ ap sorted (ap pairs c.put_first.ensures ∙ pairs-choice key tree c.args.choice c.in_ok-list.list.items ∙ ap (by_choice c.args.choice) c.in_ok-list.ensures.pairs))
