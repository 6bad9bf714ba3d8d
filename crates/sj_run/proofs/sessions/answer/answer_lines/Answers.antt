use Rattle.std.proofs.Common.{ℕ, ◌+◌, List, drop, take, length, arith, rules, subst, sym, ap, ◌∙◌}
use Rattle.std.proofs.lemmas.List.{length-drop, drop-drop}
use Rattle.sj_text_core.proofs.Begun.{begun, begun-on}
use Rattle.sj_run.specs.Answered.{PassesLines}
use Rattle.sj_run.specs.inner.Answered.{AnswersLine, PassesLine}
use Rattle.sj_commands.specs.Lines.{full_lines, line_texts}
use Rattle.sj_commands.proofs.LineLemmas.{line_at}
use Rattle.sj_run.proofs.SessionLemmas.{TextAt, text_at, text_ahead, text-none, text-some, told-more, told-passed, passes_first, passes_more, line_taken, behind_line, written_length, part_length}
use Rattle.sj_run.proofs.sessions.answer.answer_lines.Goals as goal

pub loop-at-preserved-in_ok-answer_line : goal.loop-at-preserved-in_ok-answer_line
loop-at-preserved-in_ok-answer_line g c =
    let b = c.args.lines.now in
    let a = c.loop-at.lines in
    let at = c.loop-at.at in
    let len = c.line_len.result in
    let n = c.text_len.result in
    let i = c.loop-at.invariant in
    let h : TextAt b at len n = text_ahead a b at len n i.ahead (text_at a at len n (line_at a at len c.line_len.ensures.within c.line_len.ensures.first) c.text_len.ensures.within c.text_len.ensures.text) in
    let t = g.V.Root.part c.loop-at.value in
    let v = g.V.Root.part c.answer_line.new.value in
    let out = c.loop-at.out.items in
    let mid = c.answer_line.new.out.items in
    let line = take n (drop at b) in
    let rest = line_texts (full_lines (drop (at + len) b)) in
    let some = text-some b at len n (omega arith) h in
    let a1 : AnswersLine t line v out mid = subst (λ (l : List ℕ). AnswersLine t l v out mid) (line_taken a b at n i.ahead) c.in_ok-answer_line.ensures.ok in
    record {
      within = omega (arith, h.line.within, length-drop at b);
      same_length = written_length a at n c.answer_line.new.line (omega (arith, h.line.within, h.within, length-drop at b, i.same_length)) c.answer_line.auto.line ∙ i.same_length;
      ahead = behind_line a b c.answer_line.new.line at n len (omega arith) h.within (c.answer_line.auto.line ∙ part_length a at n (omega (arith, h.line.within, h.within, length-drop at b, i.same_length))) i.ahead;
      begun = begun-on c.args.out.now.items out mid i.begun (begun out _ mid a1.shows);
      told = told-more (g.V.Root.part c.args.value.now) t v (line_texts (full_lines b)) rest (line_texts (full_lines (drop at b))) line c.args.out.now.items out mid i.told some a1;
      passes = λ k. i.passes (subst (λ (ls : List (List ℕ)). PassesLines t ls (length out)) (sym some) (passes_more t v line rest out mid a1 k));
    }

pub loop-at-preserved : goal.loop-at-preserved
loop-at-preserved g c =
    let b = c.args.lines.now in
    let a = c.loop-at.lines in
    let at = c.loop-at.at in
    let len = c.line_len.result in
    let n = c.text_len.result in
    let i = c.loop-at.invariant in
    let h : TextAt b at len n = text_ahead a b at len n i.ahead (text_at a at len n (line_at a at len c.line_len.ensures.within c.line_len.ensures.first) c.text_len.ensures.within c.text_len.ensures.text) in
    let t = g.V.Root.part c.loop-at.value in
    let out = c.loop-at.out.items in
    let none = text-none b at len (subst (λ (k : ℕ). TextAt b at len k) (omega (arith, c.if-at-stop.false)) h) in
    record {
      within = omega (arith, h.line.within, length-drop at b);
      same_length = i.same_length;
      ahead = sym (drop-drop len at a) ∙ ap (λ r. drop len r) i.ahead ∙ drop-drop len at b;
      begun = i.begun;
      told = told-passed (g.V.Root.part c.args.value.now) t (line_texts (full_lines b)) (line_texts (full_lines (drop (at + len) b))) (line_texts (full_lines (drop at b))) c.args.out.now.items out i.told none;
      passes = λ k. i.passes (subst (λ (ls : List (List ℕ)). PassesLines t ls (length out)) (sym none) k);
    }

pub returns-in_err-answer_line-clause-too_long : goal.returns-in_err-answer_line-clause-too_long
returns-in_err-answer_line-clause-too_long g c =
    let b = c.args.lines.now in
    let a = c.loop-at.lines in
    let at = c.loop-at.at in
    let len = c.line_len.result in
    let n = c.text_len.result in
    let i = c.loop-at.invariant in
    let h : TextAt b at len n = text_ahead a b at len n i.ahead (text_at a at len n (line_at a at len c.line_len.ensures.within c.line_len.ensures.first) c.text_len.ensures.within c.text_len.ensures.text) in
    let t = g.V.Root.part c.loop-at.value in
    let m = length c.loop-at.out.items in
    let some = text-some b at len n (omega arith) h in
    λ e.
    let one : PassesLine t (take n (drop at b)) m = subst (λ (l : List ℕ). PassesLine t l m) (line_taken a b at n i.ahead) (c.in_err-answer_line.ensures.too_long (search (rules, e))) in
    i.passes (subst (λ (ls : List (List ℕ)). PassesLines t ls m) (sym some) (passes_first t (take n (drop at b)) (line_texts (full_lines (drop (at + len) b))) m one))
