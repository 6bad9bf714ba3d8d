use Rattle.std.proofs.Common.{sym, ap, ◌∙◌}
use Rattle.sj_document.specs.Document.{document_tree}
use Rattle.sj_document.specs.inner.Piled.{whole_of}
use Rattle.sj_document.proofs.Piled.{whole_push}
use Rattle.sj_document.proofs.value.piled.make_piled.Goals as goal

pub loop-waiting-preserved : goal.loop-waiting-preserved
loop-waiting-preserved g c =
    let t = g.T.KeyText.text_of in
    let items = g.S.Source.items_left in
    let members = g.S.Source.members_left in
    c.in_ok-made-2.ensures.same ∙ sym (whole_push t items members c.pop.new.self.items c.in-Some.waiting (document_tree t c.loop-waiting.made))
    ∙ sym (ap (λ pile. whole_of t items members pile (document_tree t c.loop-waiting.made)) c.in-Some.ensures.items) ∙ c.loop-waiting.invariant
