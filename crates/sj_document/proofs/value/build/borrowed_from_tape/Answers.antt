use Rattle.sj_document.proofs.value.build.borrowed_from_tape.Goals as goal

pub returns-clause-tree : goal.returns-clause-tree
returns-clause-tree c = c.build_from_tape.ensures.means

pub returns-clause-lent : goal.returns-clause-lent
returns-clause-lent c = c.build_from_tape.ensures.property
