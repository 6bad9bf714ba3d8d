use Rattle.std.proofs.Common.{rules, length}
use Rattle.sj_commands.specs.Meant.{request_meant}
use Rattle.sj_run.proofs.CommandLemmas.{line_passes}
use Rattle.sj_run.proofs.sessions.answer.answer_line.Goals as goal

pub returns-in_err-answer-clause-too_long : goal.returns-in_err-answer-clause-too_long
returns-in_err-answer-clause-too_long g c =
    λ e. line_passes (g.V.Root.part c.args.value.now) c.args.line.now (length c.args.out.now.items) (request_meant c.in_ok-request.request) c.in_ok-request.ensures.only
    (c.in_err-answer.ensures.too_long (search (rules, e)))
