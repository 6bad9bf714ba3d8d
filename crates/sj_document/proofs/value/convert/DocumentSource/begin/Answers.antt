use Rattle.std.proofs.Common.{sym, ap, ◌∙◌}
use Rattle.sj_text_core.specs.Tree.{obj, no_members}
use Rattle.sj_object.specs.Entries.{entries_of, entry_texts}
use Rattle.sj_object.specs.Members.{entry_members}
use Rattle.sj_object.specs.Texts.{no_repeats}
use Rattle.sj_object.proofs.Walks.{put_all-distinct}
use Rattle.sj_document.specs.Document.{document_tree}
use Rattle.sj_document.specs.Taken.{whole}
use Rattle.sj_document.proofs.Trees.{tree-Object}
use Rattle.sj_document.proofs.Levels.{members_seen}
use Rattle.sj_document.proofs.Piled.{rest_all}
use Rattle.sj_document.proofs.value.convert.DocumentSource.begin.Goals as goal

pub returns-in-Object : goal.returns-in-Object
returns-in-Object g c =
    let t = g.T.KeyText.text_of in
    let ps = c.into_iter-in-Object.result in (
      ap obj (members_seen t ps) ∙ ap (λ es. obj (entry_members (document_tree t) es)) c.into_iter-in-Object.ensures.into_iter_gives ∙ ap (λ m. obj (entry_members (document_tree t) m.entries)) c.into_inner-in-Object.ensures
          ∙ sym (ap (document_tree t) (c.take_apart.ensures ∙ ap whole c.in-Object.is) ∙ tree-Object t c.in-Object.members),
      rest_all t no_members ps ∙ put_all-distinct (document_tree t) (entries_of t ps) (ap (λ es. no_repeats (entry_texts es)) c.into_iter-in-Object.ensures.into_iter_gives ∙ c.into_inner-in-Object.result.distinct) ∙ sym (members_seen t ps),
    )
