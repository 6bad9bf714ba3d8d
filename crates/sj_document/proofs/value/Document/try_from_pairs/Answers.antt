use Rattle.std.proofs.Common.{ap, subst, ◌∙◌}
use Rattle.std.specs.Iterator.{Drains}
use Rattle.sj_text_core.specs.Tree.{obj, no_members}
use Rattle.sj_text_core.specs.Edits as members
use Rattle.sj_object.specs.Members.{entry_members}
use Rattle.sj_object.proofs.Shown.{entry_members-put}
use Rattle.sj_document.specs.Document.{document_tree}
use Rattle.sj_document.proofs.Pairs.{put_pairs-last}
use Rattle.sj_document.proofs.Trees.{tree-Object}
use Rattle.sj_document.proofs.value.Document.try_from_pairs.Goals as goal

pub loop-key-preserved : goal.loop-key-preserved
loop-key-preserved g c =
    let t = g.T.KeyText.text_of in
    let (can, finite, put) = c.loop-key.invariant in
    let goes = c.in-Some.ensures.goes.on finite in (
      goes.0,
      goes.1,
      ap (entry_members (document_tree t)) c.in_ok-set.ensures ∙ entry_members-put (document_tree t) (c.in-Some.key, t c.in-Some.key) c.in-Some.value c.loop-key.members.entries
          ∙ ap (members.put (t c.in-Some.key) (document_tree t c.in-Some.value)) put ∙ put_pairs-last t (document_tree t) no_members c.loop-key.yielded (c.in-Some.key, c.in-Some.value),
    )

pub returns : goal.returns
returns g c =
    let t = g.T.KeyText.text_of in
    let (can, finite, put) = c.loop-key.invariant in (
      c.loop-key.yielded,
      subst (λ s. Drains g.I.Iterator.next_gives s c.loop-key.yielded) c.into_iter-key-iterator.ensures.into_iter_gives (c.next.new.self, (c.loop-key.key-iterator, c.loop-key.yielded_by, c.in-None.ensures.steps)),
      tree-Object t c.in_ok-new.field-0 ∙ ap (λ m. obj (entry_members (document_tree t) m.entries)) c.in_ok-new.ensures.ok ∙ ap obj put,
    )
