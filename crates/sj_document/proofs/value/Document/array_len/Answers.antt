use Rattle.std.proofs.Common.{◌≡◌, Some, length, option_map, rules, sym, ap, ◌∙◌}
use Rattle.sj_text_core.specs.Tree.{items_len}
use Rattle.sj_text_core.specs.Reads.{as_items}
use Rattle.sj_document.specs.Document.{document_tree}
use Rattle.sj_document.proofs.Trees.{tree-Array}
use Rattle.sj_document.proofs.Arrays.{length-items}
use Rattle.sj_document.proofs.value.Document.array_len.Goals as goal

pub returns-in-Array : goal.returns-in-Array
returns-in-Array g c =
    let t = g.T.KeyText.text_of in
    let vs = c.in-Array.items.value.items in
    let counted : c.len.result ≡ length vs = search rules in
    ap Some (counted ∙ length-items (document_tree t) vs) ∙ sym (ap (λ u. option_map items_len (as_items u)) (ap (document_tree t) c.in-Array.is ∙ tree-Array t c.in-Array.items))
