use Rattle.std.proofs.Common.{◌+◌, ap, sym, ◌∙◌, option_map, List, ℕ, length}
use Rattle.sj_text_core.specs.Repeats.{find_member_by, visited_by}
use Rattle.sj_text_core.specs.Tree.{Tree}
use Rattle.sj_text_core.specs.declared.repeats.Repeats.{Repeats}
use Rattle.sj_tape.specs.inner.Lookup.{first_value, last_value, keys_compared}
use Rattle.sj_tape.specs.Members.{members, object_choice}
use Rattle.sj_tape.proofs.Lookups.{first_value-chosen, last_value-chosen, compared-chosen, length-chosen}
use Rattle.sj_tape.proofs.search.find_plain.Goals as goal

pub returns-in-First-clause-value : goal.returns-in-First-clause-value
returns-in-First-clause-value g c =
    let o = c.args.object.now in
    let by = sym c.in-First.is ∙ c.repeats.ensures in
    c.first_plain.ensures.value ∙ ap (first_value c.args.key.now) c.iter.ensures.parts ∙ first_value-chosen (object_choice o) c.args.key.now (members o)
    ∙ ap (λ d. option_map (λ (t : Tree). (object_choice o, t)) (find_member_by d c.args.key.now (members o))) by

pub returns-in-First-clause-exact : goal.returns-in-First-clause-exact
returns-in-First-clause-exact g c =
    let o = c.args.object.now in
    let by = sym c.in-First.is ∙ c.repeats.ensures in
    c.first_plain.ensures.exact ∙ ap (λ n. c.args.steps.now + n) (ap (keys_compared c.args.key.now) c.iter.ensures.parts ∙ compared-chosen (object_choice o) c.args.key.now (members o) ∙ ap (λ d. visited_by d c.args.key.now (members o)) by)

pub returns-in-Last-clause-value : goal.returns-in-Last-clause-value
returns-in-Last-clause-value g c =
    let o = c.args.object.now in
    let by = sym c.in-Last.is ∙ c.repeats.ensures in
    c.last_plain.ensures.value ∙ ap (last_value c.args.key.now) c.iter-in-Last.ensures.parts ∙ last_value-chosen (object_choice o) c.args.key.now (members o)
    ∙ ap (λ d. option_map (λ (t : Tree). (object_choice o, t)) (find_member_by d c.args.key.now (members o))) by

pub returns-in-Last-clause-exact : goal.returns-in-Last-clause-exact
returns-in-Last-clause-exact g c =
    let o = c.args.object.now in
    let by = sym c.in-Last.is ∙ c.repeats.ensures in
    c.last_plain.ensures.exact ∙ ap (λ n. c.args.steps.now + n) (ap (λ (qs : List (List ℕ × (Repeats × Tree))). length qs) c.iter-in-Last.ensures.parts ∙ length-chosen (object_choice o) c.args.key.now (members o) ∙ ap (λ d. visited_by d c.args.key.now (members o)) by)
