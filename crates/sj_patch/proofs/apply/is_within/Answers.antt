use Rattle.sj_patch.proofs.Begun.{begun}
use Rattle.sj_patch.proofs.apply.is_within.Goals as goal

pub returns : goal.returns
returns c = begun c.begins_with.result c.args.other.now c.args.path.now c.begins_with.ensures
