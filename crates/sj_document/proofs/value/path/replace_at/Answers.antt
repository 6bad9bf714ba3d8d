use Rattle.std.proofs.Common.{◌≡◌, List, ℕ, Some, None, Result, Ok, Err, IfOk, IfErr, map, string_bytes, sym, ap, ◌∙◌}
use Rattle.sj_text_core.specs.Tree.{Tree}
use Rattle.sj_text_core.specs.Paths.{Step, by_key, tree_at, set_at}
use Rattle.sj_text_core.proofs.Writes.{set_at-missing}
use Rattle.sj_document.specs.declared.value.Document.{Document}
use Rattle.sj_document.specs.declared.value.change.Replace.{Replace}
use Rattle.sj_document.specs.Document.{document_tree}
use Rattle.sj_document.proofs.value.path.replace_at.Goals as goal

replaced : {T : Type 0} (t : T → List ℕ) (p : List Step) (before after : Tree) (new : Document T) (r : Result (Document T) (Replace (Document T)))
    → IfOk r (λ answer. (v : Document T) × (w : Document T) × (tree_at p before ≡ Some (document_tree t v)) × ((answer ≡ v) × (w ≡ new)) × (after ≡ set_at p (document_tree t w) before))
    → IfErr r (λ back. (back ≡ record { value = new }) × (tree_at p before ≡ None) × (after ≡ before))
    → after ≡ set_at p (document_tree t new) before
replaced t p before after new (Ok x) h m = h.4 ∙ ap (λ w. set_at p (document_tree t w) before) h.3.1
replaced t p before after new (Err x) h m = m.2 ∙ sym (set_at-missing p (document_tree t new) before m.1)

pub returns : goal.returns
returns g c =
    let t = g.T.KeyText.text_of in
    replaced t (map (λ s. by_key (string_bytes s)) c.args.path.now) (document_tree t c.args.value.now) (document_tree t c.update_at.new.value) c.args.new c.update_at.result c.update_at.ensures.changed c.update_at.ensures.absent
