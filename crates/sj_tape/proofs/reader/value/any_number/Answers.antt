use Rattle.std.proofs.Common.{◌∙◌}
use Rattle.sj_text_core.specs.inner.Parse.{nothing_at}
use Rattle.sj_tape.proofs.Gives.{ends_drop, static_gives, number_is}
use Rattle.sj_tape.proofs.reader.value.any_number.Goals as goal

pub returns-clause-ok : goal.returns-clause-ok
returns-clause-ok c =
    static_gives _ _ _ c.in_ok-number.number _ _ (number_is nothing_at nothing_at c.args.rest.now c.requires.some c.requires.first c.requires.no_text ∙ c.in_ok-number.ensures.ok) c.split_at_mut-rest.ensures.back c.in_ok-push_node.ensures.marks

pub returns-clause-ends : goal.returns-clause-ends
returns-clause-ends c = ends_drop c.args.rest.now _ c.in_ok-number.end c.requires.ends c.split_at_mut-rest.ensures.back
