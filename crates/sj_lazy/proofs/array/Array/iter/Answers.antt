use Rattle.std.proofs.Common.{map, sym, ap, ◌∙◌}
use Rattle.std.specs.Cow.{cow_str_bytes}
use Rattle.sj_text_core.specs.declared.repeats.Repeats.TheVariants.{First}
use Rattle.sj_text_core.specs.Tree.{listed}
use Rattle.sj_tape.specs.Items as tape
use Rattle.sj_document.specs.Document.{document_tree}
use Rattle.sj_lazy.specs.Array.{lazy_items}
use Rattle.sj_lazy.specs.Value.{of_lent, of_tape}
use Rattle.sj_lazy.proofs.Lists.{listed-from, parts-items, formed-items}
use Rattle.sj_lazy.proofs.array.Array.iter.Goals as goal

pub returns-in-Value-clause-items : goal.returns-in-Value-clause-items
returns-in-Value-clause-items c =
    ap (map (document_tree cow_str_bytes)) (c.iter-in-Value.ensures.rest ∙ c.deref.ensures.value) ∙ sym (listed-from (map (document_tree cow_str_bytes) c.in-Value.items.now.items)) ∙ sym (ap (λ a. listed (lazy_items a)) c.in-Value.is)

pub returns-in-Value-clause-parts : goal.returns-in-Value-clause-parts
returns-in-Value-clause-parts c =
    rw c.in-Value.is (ap (map (λ d. (of_lent, (First, document_tree cow_str_bytes d)))) (c.iter-in-Value.ensures.rest ∙ c.deref.ensures.value) ∙ parts-items (document_tree cow_str_bytes) c.in-Value.items.now.items)

pub returns-in-Tape-clause-parts : goal.returns-in-Tape-clause-parts
returns-in-Tape-clause-parts c =
    rw c.in-Tape.is (ap (map (λ p. (of_tape, p))) c.iter.ensures.parts ∙ formed-items (tape.array_choice c.in-Tape.items) (listed (tape.items c.in-Tape.items)))
