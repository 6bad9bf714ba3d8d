use Rattle.sj_path.proofs.edits.PushItemChangeDocument.change.Goals as goal

pub returns : goal.returns
returns g c = record { made = c.push.ensures.after; refused = c.push.ensures.refused; returned = c.push.ensures.returned; kind = c.push.ensures.kind; array = c.push.ensures.array }
