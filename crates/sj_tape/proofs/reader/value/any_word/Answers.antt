use Rattle.sj_tape.proofs.Gives.{ends_drop, static_gives}
use Rattle.sj_tape.proofs.reader.value.any_word.Goals as goal

pub returns-clause-ok : goal.returns-clause-ok
returns-clause-ok c = static_gives _ _ _ c.in_ok-word.word _ _ c.in_ok-word.ensures.ok c.split_at_mut-rest.ensures.back c.in_ok-push_node.ensures.marks

pub returns-clause-ends : goal.returns-clause-ends
returns-clause-ends c = ends_drop c.args.rest.now _ c.in_ok-word.end c.requires.ends c.split_at_mut-rest.ensures.back
