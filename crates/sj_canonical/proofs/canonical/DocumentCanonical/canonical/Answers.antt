use Rattle.std.proofs.Common.{◌≡◌, IfOk, string_bytes, subst}
use Rattle.sj_text_core.specs.Print.{compact}
use Rattle.sj_document.proofs.Kept.{tree_kept}
use Rattle.sj_canonical.specs.Canonical.{canonical}
use Rattle.sj_canonical.proofs.canonical.DocumentCanonical.canonical.Goals as goal

pub returns-clause-ok : goal.returns-clause-ok
returns-clause-ok g c = subst (λ t. IfOk c.encode.result (λ s. string_bytes s ≡ compact (canonical t))) (tree_kept g.T.KeyText.text_of c.args.self.now) c.encode.ensures.ok
