use Rattle.std.proofs.Common.{rules, ◌≡◌, ◌∙◌, ap}
use Rattle.sj_text_core.specs.Edits as members
use Rattle.sj_object.specs.Edits as entries
use Rattle.sj_object.specs.Members.{entry_members}
use Rattle.sj_object.proofs.Shown.{entry_members-put}
use Rattle.sj_document.specs.Document.{document_tree}
use Rattle.sj_patch.proofs.listing.set.Goals as goal

pub returns-in-Ok : goal.returns-in-Ok
returns-in-Ok g c =
    let t = g.T.KeyText.text_of in
    let old = c.args.members.now.entries in
    let key = c.in_ok-name_text.field-0 in
    let inserted : c.insert.new.self.entries ≡ entries.put_entry (key, t key) c.args.value old = search rules in
    let name : t key ≡ c.args.name.now = search rules in
    ap (entry_members (document_tree t)) inserted ∙ entry_members-put (document_tree t) (key, t key) c.args.value old ∙ ap (λ k. members.put k (document_tree t c.args.value) (entry_members (document_tree t) old)) name
