use Rattle.std.proofs.Common.{refl}
use Rattle.std.specs.Cow.{cow_str_bytes}
use Rattle.sj_document.specs.Document.{document_tree}
use Rattle.sj_borrowed.proofs.Objects.{there}
use Rattle.sj_borrowed.proofs.Members.{changed, put_changed}
use Rattle.sj_borrowed.proofs.known_key.KnownKey.change_or_insert.Goals as goal

pub returns-in-Ok-change_or_put-clause-present : goal.returns-in-Ok-change_or_put-clause-present
returns-in-Ok-change_or_put-clause-present g c =
    let t = g.T.KeyText.text_of in
    let n = c.change_or_put.new.map in
    let left = (rw c.in-Ok.is at (c.members_of.follows.holds n)) refl in
    changed t (λ v w. g.C.Change.makes c.args.change v w c.in-Ok-change_or_put.answer) (cow_str_bytes c.args.key.now) c.in-Ok.members.now n (document_tree t c.args.target.now) _ c.in-Ok.ensures.value left c.in-Ok-change_or_put.ensures.present

pub returns-in-Ok-change_or_put-clause-absent : goal.returns-in-Ok-change_or_put-clause-absent
returns-in-Ok-change_or_put-clause-absent g c =
    let t = g.T.KeyText.text_of in
    let n = c.change_or_put.new.map in
    let left = (rw c.in-Ok.is at (c.members_of.follows.holds n)) refl in
    put_changed t (λ v w. g.C.Change.makes c.args.change v w c.in-Ok-change_or_put.answer) (cow_str_bytes c.args.key.now) c.in-Ok.members.now n (document_tree t c.args.target.now) _ c.in-Ok.ensures.value left c.args.value c.in-Ok-change_or_put.ensures.absent

pub returns-in-Err-change_or_put-clause-succeeds : goal.returns-in-Err-change_or_put-clause-succeeds
returns-in-Err-change_or_put-clause-succeeds g c =
    let t = g.T.KeyText.text_of in
    λ h. c.in-Err-change_or_put.ensures.succeeds (there t c.in-Ok.members.now (cow_str_bytes c.args.key.now) (document_tree t c.args.target.now) c.in-Ok.ensures.value h)
