use Rattle.std.proofs.Common.{◌++◌, ◌∷◌, [], map, sym, ap, ◌∙◌, subst, append-nil, append_assoc, IsUtf8}
use Rattle.std.proofs.lemmas.List.{map-append}
use Rattle.sj_canonical.specs.inner.Picks.{AreTexts}
use Rattle.sj_canonical.specs.inner.Walks.{pair_of}
use Rattle.sj_canonical.proofs.Picked.{texts-push}
use Rattle.sj_canonical.proofs.walk.collect.Goals as goal

pub returns-clause-texts : goal.returns-clause-texts
returns-clause-texts g c =
    let pairs = map (pair_of g.P.Parts.key_of g.P.Parts.tree_of) c.loop-member.list.items in
    subst AreTexts (sym (append-nil pairs) ∙ ap (λ l. pairs ++ l) (sym c.in_default.ensures.0) ∙ c.loop-member.invariant.collected) c.loop-member.invariant.texts

pub loop-member-preserved : goal.loop-member-preserved
loop-member-preserved g c =
    let pair = pair_of g.P.Parts.key_of g.P.Parts.tree_of in
    let pairs = map pair c.loop-member.list.items in
    let rest = g.P.Parts.members_left c.next_member.new.members in
    let pushed = ap (map pair) c.in_ok-push.ensures.items ∙ map-append pair c.loop-member.list.items (c.in-Some.member ∷ []) in
    record {
      collected = ap (λ l. l ++ rest) pushed ∙ append_assoc pairs (pair c.in-Some.member ∷ []) rest ∙ ap (λ l. pairs ++ l) (sym c.in-Some.ensures) ∙ c.loop-member.invariant.collected;
      texts = subst AreTexts (sym pushed) (texts-push pairs (pair c.in-Some.member) c.loop-member.invariant.texts (subst IsUtf8 c.key_text-text.ensures c.key_text-text.utf8));
    }
