use Rattle.std.proofs.Common.{sym, ap, ◌∙◌}
use Rattle.std.specs.Cow.{cow_str_bytes}
use Rattle.sj_text_core.specs.Find.{nth_item}
use Rattle.sj_document.proofs.Arrays.{get_nth, items_seen}
use Rattle.sj_lazy.specs.Array.{lazy_items}
use Rattle.sj_lazy.proofs.array.Array.get.Goals as goal

pub returns-in-Value-clause-value : goal.returns-in-Value-clause-value
returns-in-Value-clause-value c =
    c.of_lent.ensures.value ∙ get_nth cow_str_bytes (λ v. v.now) c.deref.result.now c.args.index c.get-in-Value.result c.get-in-Value.ensures.lookup.3
    ∙ ap (λ vs. nth_item c.args.index (items_seen cow_str_bytes vs)) c.deref.ensures.value ∙ sym (ap (λ a. nth_item c.args.index (lazy_items a)) c.in-Value.is)

pub returns-in-Value-clause-choice : goal.returns-in-Value-clause-choice
returns-in-Value-clause-choice c = rw c.in-Value.is c.of_lent.ensures.choice

pub returns-in-Value-clause-form : goal.returns-in-Value-clause-form
returns-in-Value-clause-form c = rw c.in-Value.is c.of_lent.ensures.form
