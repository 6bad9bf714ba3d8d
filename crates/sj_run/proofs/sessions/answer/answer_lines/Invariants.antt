use Rattle.std.proofs.Common.{length, ◌-◌, ◌≡◌, ◌≤◌, ℕ, List, drop}
use Rattle.sj_text_core.specs.Tree.{Tree}
use Rattle.sj_text_core.specs.declared.repeats.Repeats.{Repeats}
use Rattle.sj_run.specs.Answered.{AnswersLines, PassesLines}
use Rattle.sj_text_core.specs.inner.Begun.{IsBegunBy}
use Rattle.sj_commands.specs.Lines.{full_lines, line_texts}
use Rattle.sj_run.proofs.sessions.answer.answer_lines.Given as goal

abbrev pub invariant-loop-at : goal.invariant-loop-at
invariant-loop-at g l =
    let part = g.V.Root.part in
    let all = line_texts (full_lines l.initial.lines) in
    let left = line_texts (full_lines (drop l.at l.initial.lines)) in
    record {
      within : l.at ≤ length l.initial.lines;
      same_length : length l.lines ≡ length l.initial.lines;
      ahead : drop l.at l.lines ≡ drop l.at l.initial.lines;
      begun : IsBegunBy l.fn.out.items l.out.items;
      told : (u : Repeats × Tree) (new : List ℕ) → AnswersLines (part l.value) left u l.out.items new → AnswersLines (part l.fn.value) all u l.fn.out.items new;
      passes : PassesLines (part l.value) left (length l.out.items) → PassesLines (part l.fn.value) all (length l.fn.out.items);
    }

abbrev pub decreases-loop-at : goal.decreases-loop-at
decreases-loop-at g l = length l.initial.lines - l.at
