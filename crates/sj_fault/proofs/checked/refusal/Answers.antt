use Rattle.std.proofs.Common.{List, ℕ, Err, ap, sym, subst}
use Rattle.sj_text_core.specs.Grammar.{IsReadable}
use Rattle.sj_text_core.proofs.Proper.{spells_utf8}
use Rattle.sj_fault.proofs.checked.refusal.Goals as goal

pub returns-in-Err-InvalidUtf8-clause-some : goal.returns-in-Err-InvalidUtf8-clause-some
returns-in-Err-InvalidUtf8-clause-some c = λ r.
    let s = subst (λ (b : List ℕ). IsReadable b) (sym c.deref_mut.ensures.value) r in
    c.in-Err-InvalidUtf8.ensures.utf8.0 (ap Err c.in-Err-InvalidUtf8.field-0-is) (spells_utf8 _ s.0 s.1)
