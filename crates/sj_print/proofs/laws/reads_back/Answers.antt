use Rattle.sj_text_core.proofs.Back.{readable_back, same_by_back, same_kept_back, within_back}
use Rattle.sj_text_core.proofs.Printed.{spelled_by}
use Rattle.sj_print.proofs.laws.reads_back.Goals as goal

pub returns-clause-readable : goal.returns-clause-readable
returns-clause-readable g c = λ b e.
    let t = g.P.Parts.tree_of c.args.value.now in
    let s = spelled_by t b c.is_proper.ensures e in
    (λ r. within_back t b s r.0 r.1 r.2, readable_back t b s)

pub returns-clause-same : goal.returns-clause-same
returns-clause-same g c = λ b e choice u r.
    let t = g.P.Parts.tree_of c.args.value.now in
    let s = spelled_by t b c.is_proper.ensures e in
    (same_by_back t b s choice u r, same_kept_back t b s choice u r)
