use Rattle.sj_commands.proofs.OneCommand.{one-command}
use Rattle.sj_commands.proofs.laws.one_command.Goals as goal

pub returns : goal.returns
returns c = λ line. one-command line
