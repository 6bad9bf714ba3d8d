use Rattle.std.proofs.Common.{◌≡◌, rules, Box, Global, ap, ◌∙◌}
use Rattle.sj_document.specs.Document.{document_tree}
use Rattle.sj_document.specs.declared.value.Document.{Object, the_lemmas}
use Rattle.sj_document.proofs.Trees.{Map}
use Rattle.sj_patch.specs.inner.Changed.{Reverts}
use Rattle.sj_patch.specs.declared.reversal.Reversal.TheVariants as reversal
use Rattle.sj_patch.proofs.Holders.{in_object}
use Rattle.sj_patch.proofs.reversal.put_back_member.Goals as goal

pub returns-in-Object : goal.returns-in-Object
returns-in-Object g c =
    let t = g.T.KeyText.text_of in
    let b : Box (Map g.row.T.Denot) Global = record c.in-Object.members { value = c.restore_member.new.members } in
    in_object t (λ u w. Reverts t (reversal.MemberBack c.args.room c.args.index c.args.key) (document_tree t c.args.value) c.args.token.now u w c.restore_member.result) _ _ c.in-Object.members c.deref_mut.result.now c.restore_member.new.members c.in-Object.is (c.deref_mut.ensures.value ∙ ap (λ b. b.value) c.in-Object.members-is) (let e : _ ≡ Object b = search (rules, the_lemmas) in e) c.restore_member.ensures
