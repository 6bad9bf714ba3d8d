use Rattle.std.proofs.Common.{rules, ◌≡◌, map, ap, ◌∙◌}
use Rattle.sj_text_core.specs.Tree.{obj}
use Rattle.sj_object.specs.Members.{entry_members}
use Rattle.sj_object.proofs.Shown.{entry_members-map}
use Rattle.sj_tests.specs.Plain.{tree}
use Rattle.sj_tests.specs.declared.plain.Plain.{Members, the_lemmas}
use Rattle.sj_tests.proofs.plain.PlainMadeString.from_map.Goals as goal

pub returns-clause-means : goal.returns-clause-means
returns-clause-means c =
    let m = c.args.members in
    let e : tree (Members m) ≡ obj (entry_members (λ u. u) (map (λ e. (e.0, tree e.1)) m.entries)) = search (rules, the_lemmas) in
    e ∙ ap obj (entry_members-map tree (λ u. u) m.entries)
