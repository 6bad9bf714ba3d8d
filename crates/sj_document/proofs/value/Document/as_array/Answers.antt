use Rattle.std.proofs.Common.{Some, sym, ap, ◌∙◌}
use Rattle.sj_text_core.specs.Reads.{as_items}
use Rattle.sj_document.specs.Document.{document_tree}
use Rattle.sj_document.proofs.Trees.{tree-Array}
use Rattle.sj_document.proofs.Arrays.{items_seen}
use Rattle.sj_document.proofs.value.Document.as_array.Goals as goal

pub returns-in-Array : goal.returns-in-Array
returns-in-Array g c =
    let t = g.T.KeyText.text_of in
    ap (λ v. Some (items_seen t v.items)) c.deref.ensures ∙ sym (ap as_items (ap (document_tree t) c.in-Array.is ∙ tree-Array t c.in-Array.items))
