use Rattle.std.proofs.Common.{◌≡◌, ◌++◌, OnOk, subst}
use Rattle.sj_text_core.specs.Print.{compact}
use Rattle.sj_document.proofs.Kept.{tree_kept}
use Rattle.sj_canonical.specs.Canonical.{canonical}
use Rattle.sj_canonical.proofs.canonical.DocumentCanonical.write_canonical.Goals as goal

pub returns-clause-ok : goal.returns-clause-ok
returns-clause-ok g c =
    subst (λ t. OnOk c.write.result (c.write.new.out.items ≡ c.args.out.now.items ++ compact (canonical t))) (tree_kept g.T.KeyText.text_of c.args.self.now) c.write.ensures.ok
