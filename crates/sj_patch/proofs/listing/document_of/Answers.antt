use Rattle.std.proofs.Common.{rules, ◌≡◌, ◌∙◌, ap, map, arith}
use Rattle.std.proofs.lemmas.List.{take_all}
use Rattle.sj_text_core.specs.Tree.{list, items_from}
use Rattle.sj_document.specs.Document.{document_tree}
use Rattle.sj_document.proofs.Trees.{tree-Array}
use Rattle.sj_patch.specs.Listed.{listed_operation}
use Rattle.sj_patch.specs.Meant.{meant}
use Rattle.sj_patch.proofs.Lists.{listed_items}
use Rattle.sj_patch.proofs.listing.document_of.Goals as goal

pub returns : goal.returns
returns g c =
    let text = g.T.KeyText.text_of in
    let t = document_tree text in
    let boxed = c.in_ok-new.field-0 in
    let operations = c.args.operations.now in
    let same : boxed.value ≡ c.loop-operation.items = search rules in
    let all = take_all c.loop-operation.operation-index operations (omega (arith, c.loop-operation-test.false)) in
    let made = c.loop-operation.invariant ∙ ap (map (λ o. listed_operation (meant text o))) all in
    tree-Array text boxed ∙ ap (λ v. list (items_from (map t v.items))) same ∙ ap (λ ts. list (items_from ts)) made ∙ ap list (listed_items text operations)
