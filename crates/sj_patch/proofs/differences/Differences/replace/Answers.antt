use Rattle.std.proofs.Common.{rules, ◌≡◌, map, ap, ◌∙◌}
use Rattle.std.proofs.lemmas.List.{map-append}
use Rattle.sj_tape.proofs.Compared.{denied}
use Rattle.sj_document.specs.Document.{document_tree}
use Rattle.sj_patch.specs.Meant.{meant}
use Rattle.sj_patch.specs.inner.Noted.{token_meant}
use Rattle.sj_patch.proofs.Noting.{single-tree, notes-nothing, notes-whole}
use Rattle.sj_patch.proofs.differences.Differences.replace.Goals as goal

pub returns-then-eq-clause-notes : goal.returns-then-eq-clause-notes
returns-then-eq-clause-notes g c =
    let t = g.T.KeyText.text_of in
    notes-nothing _ _ _ _ _ (single-tree t c.args.from.now) (single-tree t c.args.to.now) (c.eq.ensures.same.0 c.if-eq.true)

pub returns-clause-notes : goal.returns-clause-notes
returns-clause-notes g c =
    let t = g.T.KeyText.text_of in
    let path : c.in_ok-path.path ≡ map token_meant c.args.self.now.place.items = search rules in
    let value : document_tree t c.in_ok-value.value ≡ document_tree t c.args.to.now = search rules in
    notes-whole (map token_meant c.args.self.now.place.items) (map (meant t) c.args.self.now.operations.items) (map (meant t) c.push.new.self.items) c.in_ok-path.path (document_tree t c.args.from.now) (document_tree t c.args.to.now) (document_tree t c.in_ok-value.value)
    (single-tree t c.args.from.now) (single-tree t c.args.to.now) (ap (map (meant t)) c.in_ok-push.ensures.items ∙ map-append (meant t) _ _) path value (λ s. denied c.eq.result _ c.eq.ensures.same c.if-eq.false s)
