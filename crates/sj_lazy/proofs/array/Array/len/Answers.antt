use Rattle.std.proofs.Common.{◌≡◌, length, rules, sym, ap, ◌∙◌}
use Rattle.std.specs.Cow.{cow_str_bytes}
use Rattle.sj_text_core.specs.Tree.{items_len}
use Rattle.sj_document.specs.Document.{document_tree}
use Rattle.sj_document.proofs.Arrays.{length-items}
use Rattle.sj_lazy.specs.Array.{lazy_items}
use Rattle.sj_lazy.proofs.array.Array.len.Goals as goal

pub returns-in-Value : goal.returns-in-Value
returns-in-Value c =
    (let e : c.len-in-Value.result ≡ length c.in-Value.items.now.items = search rules in e) ∙ length-items (document_tree cow_str_bytes) c.in-Value.items.now.items ∙ sym (ap (λ a. items_len (lazy_items a)) c.in-Value.is)
