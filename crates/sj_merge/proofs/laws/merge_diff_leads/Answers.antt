use Rattle.std.proofs.Common.{Some}
use Rattle.sj_merge.proofs.Leads.{leads}
use Rattle.sj_merge.proofs.laws.merge_diff_leads.Goals as goal

pub returns : goal.returns
returns c = λ t u p a b e. leads (Some t) u p a b e
