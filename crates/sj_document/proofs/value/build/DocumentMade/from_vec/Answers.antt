use Rattle.sj_document.proofs.Passes.{passes-Array}
use Rattle.sj_document.proofs.value.build.DocumentMade.from_vec.Goals as goal

pub returns-clause-property : goal.returns-clause-property
returns-clause-property g c = passes-Array g.T.KeyMade.is_made c.in_ok-new.field-0 c.args.items c.in_ok-new.ensures.ok
