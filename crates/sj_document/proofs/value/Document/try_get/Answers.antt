use Rattle.std.proofs.Common.{Ok, option_map, sym, ap, ◌∙◌}
use Rattle.sj_text_core.specs.Find.{find}
use Rattle.sj_text_core.specs.Reads.{as_members, kind_of, found_in}
use Rattle.sj_object.specs.Edits.{lookup}
use Rattle.sj_object.proofs.Shown.{lookup-entry_members}
use Rattle.sj_document.specs.Document.{document_tree}
use Rattle.sj_document.proofs.Trees.{tree-Object, tree_of_ref}
use Rattle.sj_document.proofs.value.Document.try_get.Goals as goal

pub returns-in-Object : goal.returns-in-Object
returns-in-Object g c =
    let t = g.T.KeyText.text_of in
    let k = c.args.key.now in
    ap Ok (tree_of_ref t c.get.result ∙ ap (option_map (document_tree t)) (c.get.ensures ∙ ap (λ m. lookup k m.entries) c.deref.ensures) ∙ lookup-entry_members (document_tree t) k c.in-Object.members.value.entries)
    ∙ sym (ap (λ u. found_in (as_members u) (kind_of u) (find k u)) (ap (document_tree t) c.in-Object.is ∙ tree-Object t c.in-Object.members))
