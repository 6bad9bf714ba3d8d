use Rattle.std.proofs.Common.{rules, ◌∙◌, length, ap}
use Rattle.sj_lazy.specs.Value.{value_part}
use Rattle.sj_commands.specs.Lines.{full_lines, line_texts}
use Rattle.sj_run.proofs.SessionLemmas.{why_too_long, answers_from, passes_from}
use Rattle.sj_run.proofs.sessions.forms.session_lazy.Goals as goal

pub returns-clause-ok : goal.returns-clause-ok
returns-clause-ok c = record {
  tree = c.in_ok-tape.tape;
  spelled = c.in_ok-tape.ensures.spelled;
  within = c.in_ok-tape.ensures.within;
  last = _;
  answers = answers_from (ap value_part c.from_tape-value.ensures ∙ (λ j. (c.as_value_repeats.ensures.choice j, c.as_value_repeats.ensures.tree j))) c.in_ok-answer_all.ensures.ok;
}

pub returns-in_err-answer_all-clause-too_long : goal.returns-in_err-answer_all-clause-too_long
returns-in_err-answer_all-clause-too_long c = λ e. record {
  tree = c.in_ok-tape.tape;
  spelled = c.in_ok-tape.ensures.spelled;
  within = c.in_ok-tape.ensures.within;
  passes = passes_from (line_texts (full_lines c.args.lines.now)) (length c.args.out.now.items) (ap value_part c.from_tape-value.ensures ∙ (λ j. (c.as_value_repeats.ensures.choice j, c.as_value_repeats.ensures.tree j))) (c.in_err-answer_all.ensures.too_long (search (rules, e, why_too_long)));
}
