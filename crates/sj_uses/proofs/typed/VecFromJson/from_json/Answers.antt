use Rattle.std.proofs.Common.{◌+◌, Some, take, map, string_bytes, refl, ap, ◌∙◌, arith}
use Rattle.std.proofs.lemmas.List.{take_all}
use Rattle.sj_text_core.specs.Tree.{items_from}
use Rattle.sj_text_core.specs.Reads.{as_items, kind_of}
use Rattle.sj_text_core.specs.declared.value_type.ValueType.TheVariants as kind
use Rattle.sj_document.specs.Document.{document_tree}
use Rattle.sj_uses.proofs.Each.{each_pushed, each_of, one_more, list_means, was_read}
use Rattle.sj_uses.proofs.typed.VecFromJson.from_json.Goals as goal

pub loop-item-preserved : goal.loop-item-preserved
loop-item-preserved g c =
    let ds = c.deref-item-items.result.now in
    let i = c.loop-item.item-index in
    each_pushed (λ d x. g.T.Meant.means (document_tree string_bytes d) x) (take i ds) (take (i + 1) ds) c.loop-item.items.items c.push.new.self.items c.item-item.result c.in_ok-from_json.field-0
    c.loop-item.invariant c.in_ok-from_json.ensures (one_more ds i c.item-item.result (omega (arith, c.loop-item-test.true)) c.item-item.is) c.in_ok-push.ensures.items

pub returns : goal.returns
returns g c =
    let ds = c.deref-item-items.result.now in
    let i = c.loop-item.item-index in
    let u = document_tree string_bytes c.args.value.now in
    list_means (document_tree string_bytes) g.T.Meant.means (as_items u) ds c.loop-item.items.items
    (ap (λ l. Some (items_from (map (document_tree string_bytes) l))) c.deref-item-items.ensures.value ∙ was_read (as_items u) _ kind.Array (kind_of u) c.in_ok-try_as_array.ensures)
    (each_of (λ d x. g.T.Meant.means (document_tree string_bytes d) x) _ _ _ _ (take_all i ds (omega (arith, c.loop-item-test.false))) refl c.loop-item.invariant)
