use Rattle.std.proofs.Common.{refl, rules, length}
use Rattle.sj_run.proofs.SessionLemmas.{why_too_long, kept_answers, kept_passes}
use Rattle.sj_run.proofs.sessions.forms.session_borrowed.Goals as goal

pub returns-clause-ok : goal.returns-clause-ok
returns-clause-ok c = kept_answers _ _ _ _ _ _ _ _ (λ t. refl) c.in_ok-value.ensures.read c.in_ok-answer_all.ensures.ok

pub returns-in_err-answer_all-clause-too_long : goal.returns-in_err-answer_all-clause-too_long
returns-in_err-answer_all-clause-too_long c =
    λ e. kept_passes _ _ _ _ (length c.args.out.now.items) _ (λ t. refl) c.in_ok-value.ensures.read (c.in_err-answer_all.ensures.too_long (search (rules, e, why_too_long)))
