use Rattle.sj_path.proofs.edits.RemoveMemberChangeDocument.change.Goals as goal

pub returns : goal.returns
returns g c = record { answer = c.remove.ensures.answer; made = c.remove.ensures.after; refused = c.remove.ensures.refused; kind = c.remove.ensures.kind; object = c.remove.ensures.object }
