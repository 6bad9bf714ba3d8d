use Rattle.std.proofs.Common.{rules, ◌≡◌, length, map, Option, Some, None, string_bytes, sym, ap, ◌∙◌}
use Rattle.sj_text_core.specs.Tree.{Tree, null, boolean, int, text, list, obj, Items, items_len, items_from}
use Rattle.sj_text_core.specs.Reads.{as_items}
use Rattle.sj_document.specs.Document.{document_tree}
use Rattle.sj_document.proofs.Arrays.{length-items}
use Rattle.sjconf.specs.Demands.{length_in}
use Rattle.sjconf.proofs.demand.length_of.Goals as goal

items-length : (t : Tree) (is : Items) → as_items t ≡ Some is → length_in t ≡ Some (items_len is)
items-length null is e = cc
items-length (boolean b) is e = cc
items-length (int n c) is e = cc
items-length (text s) is e = cc
items-length (list js) is e = ap (λ (o : Option Items). elim o [ Some ks ↦ Some (items_len ks) | None ↦ Some (items_len js) ]) e
items-length (obj ms) is e = cc

pub returns-in_ok-as_array-in-None : goal.returns-in_ok-as_array-in-None
returns-in_ok-as_array-in-None c =
    let vs = c.in_ok-as_array-in-None.field-0.now.items in
    let t = document_tree string_bytes c.args.value.now in
    let found : as_items t ≡ Some (items_from (map (document_tree string_bytes) vs)) = search (rules, c.as_array.ensures, c.in_ok-as_array-in-None.was) in
    let count : c.len.result ≡ length vs = search (rules, c.len.ensures) in
    ap Some (count ∙ length-items (document_tree string_bytes) vs) ∙ sym (items-length t (items_from (map (document_tree string_bytes) vs)) found)
