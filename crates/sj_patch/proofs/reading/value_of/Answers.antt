use Rattle.std.proofs.Common.{◌≡◌, unwrap_or, option_map, codes, sym, ap, ◌∙◌}
use Rattle.sj_text_core.specs.Tree.{null}
use Rattle.sj_text_core.specs.Find.{find}
use Rattle.sj_text_core.proofs.Shapes.{obj_is}
use Rattle.sj_object.specs.Members.{entry_members}
use Rattle.sj_object.proofs.Shown.{lookup-entry_members}
use Rattle.sj_document.specs.Document.{document_tree}
use Rattle.sj_patch.proofs.Filling.{value_found}
use Rattle.sj_patch.proofs.reading.value_of.Goals as goal

pub returns-in-Some : goal.returns-in-Some
returns-in-Some g c =
    let t = g.T.KeyText.text_of in
    let k = codes "value" in
    let es = c.in-Some.members.entries in
    let u = document_tree t c.args.item in
    let found : option_map (document_tree t) c.remove.result ≡ find k u =
    ap (option_map (document_tree t)) c.remove.ensures.answer ∙ lookup-entry_members (document_tree t) k es ∙ ap (find k) (sym (obj_is u (entry_members (document_tree t) es) c.in-Some.ensures)) in
    value_found (document_tree t) c.remove.result c.unwrap_or_default.result c.unwrap_or_default.ensures ∙ ap (λ o. unwrap_or o null) found
