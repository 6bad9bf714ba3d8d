use Rattle.sj_path.proofs.edits.InsertMemberChangeDocument.change.Goals as goal

pub returns : goal.returns
returns g c = record { answer = c.insert.ensures.answer; made = c.insert.ensures.after; refused = c.insert.ensures.refused; returned = c.insert.ensures.returned; kind = c.insert.ensures.kind; object = c.insert.ensures.object; succeeds = c.insert.ensures.succeeds }
