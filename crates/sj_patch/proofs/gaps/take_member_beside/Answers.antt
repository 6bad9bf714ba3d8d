use Rattle.std.proofs.Common.{sym, subst, arith}
use Rattle.sj_text_core.specs.Tree.{obj}
use Rattle.sj_object.specs.Members.{entry_members}
use Rattle.sj_document.specs.Document.{document_tree}
use Rattle.sj_patch.specs.inner.Changed.{Takes}
use Rattle.sj_patch.specs.declared.gaps.Gap.TheVariants.{Member}
use Rattle.sj_patch.proofs.Taken.{took_member}
use Rattle.sj_patch.proofs.gaps.take_member_beside.Goals as goal

pub returns : goal.returns
returns g c =
    let t = g.T.KeyText.text_of in
    let es = c.args.members.now.entries in
    let fs = c.shift_remove_full.new.self.entries in
    let i = c.in_ok-index.index in
    let l = c.in_ok-index.key in
    let v = c.in_ok-index.value in
    let h = c.in_ok-index.ensures in
    subst (λ gs. Takes t gs c.args.key.now (obj (entry_members (document_tree t) es)) (obj (entry_members (document_tree t) fs)) (Member i l v)) (sym c.in-Members.is)
    (took_member t c.args.key.now i es fs c.in-Members.room l v h.answer h.entries h.back h.within c.args.members.now.distinct (omega (arith, c.if-len-places.false, c.len.ensures, c.places.ensures)))
