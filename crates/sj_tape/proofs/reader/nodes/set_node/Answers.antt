use Rattle.std.proofs.Common.{ap, set, ◌∙◌}
use Rattle.std.proofs.lemmas.List.{map-set}
use Rattle.sj_tape.specs.Marks.{packed_mark, packed_marks}
use Rattle.sj_tape.proofs.reader.nodes.set_node.Goals as goal

pub returns : goal.returns
returns c = map-set packed_mark c.args.nodes.now.items c.args.place c.of.result ∙ ap (λ m. set (packed_marks c.args.nodes.now.items) c.args.place m) c.of.ensures
