use Rattle.sj_path.proofs.edits.PopItemChangeDocument.change.Goals as goal

pub returns : goal.returns
returns g c = record { answer = c.pop.ensures.answer; made = c.pop.ensures.after; refused = c.pop.ensures.refused; kind = c.pop.ensures.kind; array = c.pop.ensures.array }
