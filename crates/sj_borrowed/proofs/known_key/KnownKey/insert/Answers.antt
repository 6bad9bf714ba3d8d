use Rattle.std.proofs.Common.{sym, ap, ◌∙◌}
use Rattle.std.specs.Cow.{cow_str_bytes}
use Rattle.sj_text_core.specs.Tree.{obj}
use Rattle.sj_text_core.specs.Edits as members
use Rattle.sj_text_core.proofs.Shapes.{obj_is}
use Rattle.sj_object.specs.Members.{entry_members}
use Rattle.sj_object.proofs.Shown.{entry_members-put}
use Rattle.sj_document.specs.Document.{document_tree, with_member}
use Rattle.sj_borrowed.proofs.Objects.{found_in, there}
use Rattle.sj_borrowed.proofs.known_key.KnownKey.insert.Goals as goal

pub returns-in-Ok-clause-answer : goal.returns-in-Ok-clause-answer
returns-in-Ok-clause-answer c =
    let u = document_tree cow_str_bytes c.args.target.now in
    found_in cow_str_bytes c.in-Some.members.now (cow_str_bytes c.args.self.now) u c.in-Some.ensures.value c.in-Ok.before c.in-Ok.ensures.answer

pub returns-in-Ok-clause-after : goal.returns-in-Ok-clause-after
returns-in-Ok-clause-after c =
    let k = cow_str_bytes c.args.self.now in
    let m = c.in-Some.members.now in
    let w = document_tree cow_str_bytes c.args.value in
    let p = c.in-Ok.ensures.entries in
    let left = rw c.in-Some.is at (c.as_object_mut.follows.holds c.map_insert.new.map) in
    left ∙ ap (λ es. obj (entry_members (document_tree cow_str_bytes) es)) p.2
    ∙ ap obj (entry_members-put (document_tree cow_str_bytes) (p.0, cow_str_bytes p.0) c.args.value m.entries)
    ∙ ap (λ s. obj (members.put s w (entry_members (document_tree cow_str_bytes) m.entries))) p.1.0
    ∙ ap (with_member k w) (sym (obj_is _ _ c.in-Some.ensures.value))

pub returns-in-Err-clause-refused : goal.returns-in-Err-clause-refused
returns-in-Err-clause-refused c =
    let left = rw c.in-Some.is at (c.as_object_mut.follows.holds c.map_insert.new.map) in
    left ∙ ap (λ m. obj (entry_members (document_tree cow_str_bytes) m.entries)) c.in-Err.ensures.refused ∙ sym (obj_is _ _ c.in-Some.ensures.value)

pub returns-in-Err-clause-succeeds : goal.returns-in-Err-clause-succeeds
returns-in-Err-clause-succeeds c =
    let u = document_tree cow_str_bytes c.args.target.now in
    λ h. c.in-Err.ensures.succeeds (there cow_str_bytes c.in-Some.members.now (cow_str_bytes c.args.self.now) u c.in-Some.ensures.value h)
