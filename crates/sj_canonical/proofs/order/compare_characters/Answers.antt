use Rattle.std.proofs.Common.{sym, ap₂, ◌∙◌, nat_cmp}
use Rattle.sj_canonical.proofs.Characters.{by_units}
use Rattle.sj_canonical.proofs.order.compare_characters.Goals as goal

pub returns : goal.returns
returns c = λ b d. by_units c.args.left c.args.right c.ranges.left.0 c.ranges.right.0 c.requires b d ∙ sym (c.cmp.ensures ∙ ap₂ nat_cmp c.rank_of.ensures c.rank_of-2.ensures)
