use Rattle.std.proofs.Common.{refl, arith}
use Rattle.std.proofs.lemmas.Bool.{OnTrue_from, eqb-true}
use Rattle.sj_print.specs.inner.Runs.{is_stop, is_plain}
use Rattle.sj_print.proofs.Runs.{two_vectors}
use Rattle.sj_print.proofs.output.plain.is_all_plain.Goals as goal

pub returns-then-stops_8-eq0 : goal.returns-then-stops_8-eq0
returns-then-stops_8-eq0 c = OnTrue_from _ _ (λ none.
    two_vectors is_stop is_plain (λ x. refl) c.args.text.now 8 (omega arith) (omega arith)
    (omega (arith, c.stops_8.ensures, c.if-stops_8-eq0.true)) (omega (arith, c.stops_8-then-stops_8-eq0.ensures, eqb-true _ _ none)))

pub returns-then-stops_4-eq0 : goal.returns-then-stops_4-eq0
returns-then-stops_4-eq0 c = OnTrue_from _ _ (λ none.
    two_vectors is_stop is_plain (λ x. refl) c.args.text.now 4 (omega arith) (omega arith)
    (omega (arith, c.stops_4.ensures, c.if-stops_4-eq0.true)) (omega (arith, c.stops_4-then-stops_4-eq0.ensures, eqb-true _ _ none)))
