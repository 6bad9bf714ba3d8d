use Rattle.std.proofs.Common.{◌++◌, ◌∷◌, [], ap, ◌∙◌, true, map, append_assoc}
use Rattle.std.proofs.lemmas.Result.{on_ok_weaker}
use Rattle.sj_text_core.specs.Print.{quoted, compact}
use Rattle.sj_canonical.specs.Canonical.{canonical_by}
use Rattle.sj_canonical.specs.inner.Walks.{before_part, members_rest, pair_of}
use Rattle.sj_canonical.specs.declared.walk.Ahead.TheVariants as ahead
use Rattle.sj_canonical.proofs.Rests.{part_next, moves_behind, keyed}
use Rattle.sj_canonical.proofs.walk.further_member.Goals as goal

pub returns-clause-ok : goal.returns-clause-ok
returns-clause-ok g c =
    let P = g.P.Parts in
    let pairs = map (pair_of P.key_of P.tree_of) in
    let begun = before_part c.args.is_begun in
    let name = quoted (P.key_of c.in-Some.key) ++ 58 ∷ [] in
    on_ok_weaker c.begin.result
    (λ m. moves_behind _ _ _ (begun ++ name) _ _ _
    (c.in_ok-put_key.ensures.ok ∙ ap (λ l. l ++ name) c.in_ok-put_comma.ensures.ok ∙ append_assoc (g.G.BaseGenerator.written c.args.generator.now) begun name)
    (part_next c.args.choice P.items_left P.key_of P.tree_of c.args.pile.now.items c.push.new.self.items (record { ahead = ahead.Members c.next.new.self; is_begun = true }) _ (begun ++ name) (compact (canonical_by c.args.choice (P.tree_of c.in-Some.value)))
    c.in_ok-push.ensures.items (ap (λ l. members_rest c.args.choice c.args.is_begun (pairs l)) c.in-Some.ensures.items ∙ keyed begun (quoted (P.key_of c.in-Some.key)) _)) m)
    c.begin.ensures.ok
