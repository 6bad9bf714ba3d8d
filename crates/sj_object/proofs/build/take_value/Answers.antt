use Rattle.sj_object.proofs.Piles.{top_made}
use Rattle.sj_object.proofs.build.take_value.Goals as goal

pub returns-in-Array-clause-means : goal.returns-in-Array-clause-means
returns-in-Array-clause-means g c = rw c.in-Array.is (top_made g.V.Made.tree c.args.made.now.items c.take_top.new.made.items c.take_top.result c.take_top.ensures).0

pub returns-in-Array-clause-rest : goal.returns-in-Array-clause-rest
returns-in-Array-clause-rest g c = rw c.in-Array.is (top_made g.V.Made.tree c.args.made.now.items c.take_top.new.made.items c.take_top.result c.take_top.ensures).1

pub returns-in-Object-clause-means : goal.returns-in-Object-clause-means
returns-in-Object-clause-means g c = rw c.in-Object.is (top_made g.V.Made.tree c.args.made.now.items c.take_top-in-Object.new.made.items c.take_top-in-Object.result c.take_top-in-Object.ensures).0

pub returns-in-Object-clause-rest : goal.returns-in-Object-clause-rest
returns-in-Object-clause-rest g c = rw c.in-Object.is (top_made g.V.Made.tree c.args.made.now.items c.take_top-in-Object.new.made.items c.take_top-in-Object.result c.take_top-in-Object.ensures).1
