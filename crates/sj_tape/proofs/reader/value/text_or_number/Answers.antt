use Rattle.std.proofs.Common.{◌∙◌, ℕ, List, MutBor}
use Rattle.std.proofs.lemmas.Result.{IfOk-weaker}
use Rattle.sj_text_core.specs.inner.Parse.{nothing_at}
use Rattle.sj_tape.proofs.Gives.{ends_drop, behind_quote, static_gives, text_gives, number_is}
use Rattle.sj_tape.proofs.reader.value.text_or_number.Goals as goal

pub text-requires : goal.text-requires
text-requires c = behind_quote c.args.rest.now _ c.requires.ends c.if-rest-eq34.true c.split_at_mut-inside.ensures.back

pub returns-then-rest-eq34-clause-ok : goal.returns-then-rest-eq34-clause-ok
returns-then-rest-eq34-clause-ok c =
    IfOk-weaker {X = MutBor (List ℕ)} _ _ _ (λ r k. text_gives nothing_at nothing_at c.args.rest.now _ r.now _ _ c.requires.some c.if-rest-eq34.true c.split_at_mut-inside.ensures.back k) c.text.ensures.ok

pub returns-clause-ok : goal.returns-clause-ok
returns-clause-ok c =
    static_gives _ _ _ c.in-Some.number _ _ (number_is nothing_at nothing_at c.args.rest.now c.requires.some c.requires.first c.if-rest-eq34.false ∙ c.in-Some.ensures.some) c.split_at_mut-rest.ensures.back c.in_ok-push_node.ensures.marks

pub returns-clause-ends : goal.returns-clause-ends
returns-clause-ends c = ends_drop c.args.rest.now _ c.in-Some.end c.requires.ends c.split_at_mut-rest.ensures.back
