use Rattle.std.proofs.Common.{◌∙◌, sym, subst}
use Rattle.sj_commands.specs.Commands.{PlainCommand}
use Rattle.sj_commands.specs.CommandLines.{IsCommandOf}
use Rattle.sj_commands.proofs.command.line.command_of.Goals as goal

pub returns-clause-is : goal.returns-clause-is
returns-clause-is c = subst (λ (d : PlainCommand). IsCommandOf c.args.line.now d) (sym c.from.ensures) c.in_ok-request.ensures.is

pub returns-clause-only : goal.returns-clause-only
returns-clause-only c = λ d h. c.in_ok-request.ensures.only d h ∙ sym c.from.ensures
