use Rattle.std.proofs.Common.{◌≡◌, ◌<◌, length, map, refl, ◌∙◌, arith}
use Rattle.std.proofs.lemmas.List.{length-map}
use Rattle.sj_document.specs.Document.{document_tree}
use Rattle.sj_document.proofs.value.path.update_at.Goals as goal

pub returns-then-depth-path : goal.returns-then-depth-path
returns-then-depth-path g c =
    let f = g.W.Leads.step_of in
    let l : c.descend-up.result.1 < length (map f c.args.path.now) = omega (arith, c.if-depth-path.true, length-map c.args.path.now f) in
    record {
      changed = tt;
      absent = (refl, c.descend-up.ensures.missed l, c.climb.ensures ∙ c.descend-up.ensures.whole);
    }

pub returns : goal.returns
returns g c =
    let f = g.W.Leads.step_of in
    let e : c.descend-up.result.1 ≡ length (map f c.args.path.now) = omega (arith, c.if-depth-path.false, c.descend-up.ensures.within, length-map c.args.path.now f) in
    let there = c.descend-up.ensures.reached e in
    record {
      changed = (c.descend-up.new.value, c.change-answer.new.value, there.0, c.change-answer.ensures, c.climb-2.ensures ∙ there.1 (document_tree g.T.KeyText.text_of c.change-answer.new.value));
      absent = tt;
    }
