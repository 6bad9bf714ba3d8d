use Rattle.std.proofs.Common.{map, ap, ◌∙◌}
use Rattle.std.specs.Cow.{cow_str_bytes}
use Rattle.sj_text_core.specs.declared.repeats.Repeats.TheVariants.{First}
use Rattle.sj_text_core.specs.Tree.{paired}
use Rattle.sj_tape.specs.Members as tape
use Rattle.sj_document.specs.Document.{document_tree}
use Rattle.sj_lazy.proofs.Lists.{values-members, formed-values}
use Rattle.sj_lazy.specs.Value.{of_lent, of_tape}
use Rattle.sj_lazy.proofs.object.Object.values.Goals as goal

pub returns-in-Value : goal.returns-in-Value
returns-in-Value c =
    rw c.in-Value.is (ap (map (λ d. (of_lent, (First, document_tree cow_str_bytes d)))) c.values-in-Value.ensures ∙ values-members (document_tree cow_str_bytes) c.in-Value.members.now.entries)

pub returns-in-Tape : goal.returns-in-Tape
returns-in-Tape c =
    rw c.in-Tape.is (ap (map (λ p. (of_tape, p))) c.values.ensures.parts ∙ formed-values (tape.chosen_pairs (tape.object_choice c.in-Tape.members) (paired (tape.members c.in-Tape.members))))
