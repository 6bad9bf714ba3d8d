use Rattle.std.proofs.Common.{ap, ◌∙◌, arith, option_map}
use Rattle.sj_text_core.specs.Nodes.{members_in}
use Rattle.sj_text_core.specs.Repeats.{find_member_by, visited_by}
use Rattle.sj_text_core.specs.Tree.{Tree}
use Rattle.sj_tape.specs.Marks.{packed_marks}
use Rattle.sj_tape.specs.Members.{members, object_choice}
use Rattle.sj_tape.proofs.Ahead.{parts_there}
use Rattle.sj_tape.proofs.Lookups.{found_by}
use Rattle.sj_tape.proofs.search.find_counted.Goals as goal

pub returns-in-Some-clause-value : goal.returns-in-Some-clause-value
returns-in-Some-clause-value g c =
    let o = c.args.object.now in
    (found_by (object_choice o) c.value_there.result (find_member_by (object_choice o) c.args.key.now (members o))
    (c.value_there.ensures ∙ parts_there (object_choice o) (packed_marks c.in-Some.nodes.now) c.place_exact.result _ c.place_exact.ensures.value
    ∙ ap (λ ns. option_map (λ (t : Tree). (object_choice o, t)) (find_member_by (object_choice o) c.args.key.now (members_in ns))) c.in-Some.ensures.nodes)).value

pub returns-in-Some-clause-choice : goal.returns-in-Some-clause-choice
returns-in-Some-clause-choice g c =
    let o = c.args.object.now in
    (found_by (object_choice o) c.value_there.result (find_member_by (object_choice o) c.args.key.now (members o))
    (c.value_there.ensures ∙ parts_there (object_choice o) (packed_marks c.in-Some.nodes.now) c.place_exact.result _ c.place_exact.ensures.value
    ∙ ap (λ ns. option_map (λ (t : Tree). (object_choice o, t)) (find_member_by (object_choice o) c.args.key.now (members_in ns))) c.in-Some.ensures.nodes)).choice_is

pub returns-in-None-clause-value : goal.returns-in-None-clause-value
returns-in-None-clause-value g c = (found_by (object_choice c.args.object.now) c.find_plain.result _ c.find_plain.ensures.value).value

pub returns-in-None-clause-choice : goal.returns-in-None-clause-choice
returns-in-None-clause-choice g c = (found_by (object_choice c.args.object.now) c.find_plain.result _ c.find_plain.ensures.value).choice_is

pub returns-in-Some-clause-exact : goal.returns-in-Some-clause-exact
returns-in-Some-clause-exact g c =
    let o = c.args.object.now in
    omega (arith, c.place_exact.ensures.exact, ap (λ ns. visited_by (object_choice o) c.args.key.now (members_in ns)) c.in-Some.ensures.nodes)
