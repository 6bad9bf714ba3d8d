use Rattle.std.proofs.Common.{ap, sym, ◌∙◌, arith}
use Rattle.sj_text_core.specs.Nodes.{members_in}
use Rattle.sj_text_core.specs.Repeats.{find_member_by, visited_by}
use Rattle.sj_tape.specs.Marks.{packed_marks}
use Rattle.sj_tape.proofs.search.place_exact.Goals as goal

pub returns-in-First-clause-value : goal.returns-in-First-clause-value
returns-in-First-clause-value g c =
    let by = sym c.in-First.is ∙ c.repeats.ensures in
    c.place_counted.ensures.value ∙ ap (λ d. find_member_by d c.args.key.now (members_in (packed_marks c.args.nodes.now))) by

pub returns-in-First-clause-exact : goal.returns-in-First-clause-exact
returns-in-First-clause-exact g c =
    let by = sym c.in-First.is ∙ c.repeats.ensures in
    omega (arith, c.place_counted.ensures.exact, ap (λ d. visited_by d c.args.key.now (members_in (packed_marks c.args.nodes.now))) by)

pub returns-in-Last-clause-value : goal.returns-in-Last-clause-value
returns-in-Last-clause-value g c =
    let by = sym c.in-Last.is ∙ c.repeats.ensures in
    c.last_place_counted.ensures.value ∙ ap (λ d. find_member_by d c.args.key.now (members_in (packed_marks c.args.nodes.now))) by

pub returns-in-Last-clause-exact : goal.returns-in-Last-clause-exact
returns-in-Last-clause-exact g c =
    let by = sym c.in-Last.is ∙ c.repeats.ensures in
    omega (arith, c.last_place_counted.ensures.exact, ap (λ d. visited_by d c.args.key.now (members_in (packed_marks c.args.nodes.now))) by)
