use Rattle.std.proofs.Common.{sym, ap, ◌∙◌}
use Rattle.sj_text_core.specs.Find.{nth, nth_item}
use Rattle.sj_document.specs.Document.{document_tree}
use Rattle.sj_document.proofs.Trees.{tree-Array}
use Rattle.sj_document.proofs.Arrays.{get_nth, items_seen}
use Rattle.sj_document.proofs.value.Document.get_idx.Goals as goal

pub returns-in-Array : goal.returns-in-Array
returns-in-Array g c =
    let t = g.T.KeyText.text_of in
    get_nth t (λ v. v.now) c.deref-in-Array.result.now c.args.index c.get.result c.get.ensures.lookup.3
    ∙ ap (λ vs. nth_item c.args.index (items_seen t vs)) (c.deref-in-Array.ensures.value ∙ ap (λ v. v.items) c.deref.ensures)
    ∙ sym (ap (nth c.args.index) (ap (document_tree t) c.in-Array.is ∙ tree-Array t c.in-Array.items))
