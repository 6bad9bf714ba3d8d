use Rattle.std.proofs.Common.{ap, ◌∙◌}
use Rattle.sj_text_core.specs.Tree.{obj}
use Rattle.sj_object.specs.Members.{entry_members}
use Rattle.sj_document.specs.Document.{document_tree}
use Rattle.sj_document.proofs.Trees.{tree-Object}
use Rattle.sj_document.proofs.Piled.{goes_member, goes_object}
use Rattle.sj_document.proofs.value.piled.on_members.Goals as goal

pub returns-in_ok-push-in-Some : goal.returns-in_ok-push-in-Some
returns-in_ok-push-in-Some g c =
    goes_member g.T.KeyText.text_of g.S.Source.items_left g.S.Source.members_left g.S.Source.tree_of c.args.pile.now.items c.push.new.self.items
    c.args.made c.in-Some.key c.args.ahead c.next_member.new.members c.in-Some.part (rw c.in-Some.is at c.in_ok-key.ensures) c.in_ok-push-in-Some.ensures.items

pub returns-in_ok-new-in-None : goal.returns-in_ok-new-in-None
returns-in_ok-new-in-None g c =
    goes_object g.T.KeyText.text_of g.S.Source.items_left g.S.Source.members_left g.S.Source.tree_of c.args.pile.now.items
    c.args.made c.args.ahead _ ((rw c.in-None.is at c.in_ok-key.ensures).0)
    (tree-Object g.T.KeyText.text_of c.in_ok-new-in-None.field-0 ∙ ap (λ m. obj (entry_members (document_tree g.T.KeyText.text_of) m.entries)) c.in_ok-new-in-None.ensures.ok)
