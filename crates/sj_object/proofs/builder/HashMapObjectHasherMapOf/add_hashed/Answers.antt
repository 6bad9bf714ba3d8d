use Rattle.sj_object.proofs.Position.{none_where_unseen}
use Rattle.sj_object.proofs.builder.HashMapObjectHasherMapOf.add_hashed.Goals as goal

pub append_hashed-requires-clause-absent : goal.append_hashed-requires-clause-absent
append_hashed-requires-clause-absent g c = none_where_unseen (g.K.KeyText.text_of c.args.key) c.args.self.now.entries c.requires.absent
