use Rattle.std.proofs.Common.{map, ap, sym, ◌∙◌}
use Rattle.std.specs.Cow.{cow_str_bytes}
use Rattle.sj_object.specs.Entries.{entry_texts, keys}
use Rattle.sj_lazy.proofs.Lists.{keys-texts}
use Rattle.sj_lazy.proofs.object.keys_of.Goals as goal

pub returns : goal.returns
returns c =
    ap (map cow_str_bytes) (c.keys.ensures ∙ ap keys (sym c.iter-pairs.ensures)) ∙ keys-texts cow_str_bytes c.iter-pairs.result ∙ ap entry_texts c.iter-pairs.ensures
