use Rattle.sj_object.proofs.build.put_member.Goals as goal

pub returns-in-First-clause-means : goal.returns-in-First-clause-means
returns-in-First-clause-means g c = rw c.in-First.is c.add_member.ensures.means

pub returns-in-Last-clause-means : goal.returns-in-Last-clause-means
returns-in-Last-clause-means g c = rw c.in-Last.is c.set_member.ensures.means
