use Rattle.std.proofs.Common.{Some, option_map, option_and_then, map, string_bytes, sym, ap, ◌∙◌}
use Rattle.sj_text_core.specs.Tree.{listed}
use Rattle.sj_text_core.specs.Reads.{as_items}
use Rattle.sj_document.specs.Document.{document_tree}
use Rattle.sj_lazy.proofs.Lists.{listed-from}
use Rattle.sj_c.proofs.members.items_at.Goals as goal

pub returns-in-Some-as_array-clause-ok : goal.returns-in-Some-as_array-clause-ok
returns-in-Some-as_array-clause-ok c =
    ap (λ o. option_map listed (option_and_then as_items o)) (sym c.in-Some.ensures)
    ∙ ap (option_map listed) (sym c.in-Some-as_array.ensures)
    ∙ ap Some (listed-from (map (document_tree string_bytes) c.in-Some-as_array.items.now.items))
