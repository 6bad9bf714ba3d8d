use Rattle.std.proofs.Common.{rules, ◌≡◌, ℕ, suc, ◌+◌, ◌<◌, ◌≤◌, ◌∷◌, List, length, take, sym, ◌∙◌, ap, add-one, arith, length-take}
use Rattle.sj_lines.specs.Lines.{full_lines, line_text, numbered}
use Rattle.sj_lines.proofs.Steps.{First, given, passed}
use Rattle.sj_lines.proofs.lines.LinesIterator.next.Goals as goal

pub returns-then-len-gt0-clause-steps : goal.returns-then-len-gt0-clause-steps
returns-then-len-gt0-clause-steps c =
    let k = c.loop-self.self.line in
    let rest = c.take-rest.result.now in
    let line = c.split_at_mut-line.result.0.now in
    let behind = c.split_at_mut-line.result.1.now in
    let text = c.split_at_mut-text.result.0.now in
    let f : First rest line behind = record { n = c.line_len-len.result; first = c.line_len-len.ensures.first; line_is = c.split_at_mut-line.ensures.front; behind_is = c.split_at_mut-line.ensures.back } in
    let t : text ≡ line_text line = search rules in
    let some : 0 < length text = omega (arith, c.split_at_mut-text.ensures.front_len, c.if-len-gt0.true) in
    let e : suc k ≡ k + 1 = sym (add-one k) in
    let took : c.loop-self.self.rest.now ≡ rest = search (c.take-rest.ensures.value, c.take-rest.ensures.after, rules) in
    c.loop-self.invariant ∙ ap (λ (r : List ℕ). numbered (suc k) (full_lines r)) took ∙ given k rest line behind text f t some ∙ (λ i. (e i, text) ∷ numbered (suc (e i)) (full_lines behind))

pub returns-then-len-gt0-clause-goes : goal.returns-then-len-gt0-clause-goes
returns-then-len-gt0-clause-goes c =
    let left = ap (λ (l : List (ℕ × List ℕ)). length l) (returns-then-len-gt0-clause-steps c) in
    search (rules, left)

pub loop-self-preserved : goal.loop-self-preserved
loop-self-preserved c =
    let k = c.loop-self.self.line in
    let rest = c.take-rest.result.now in
    let line = c.split_at_mut-line.result.0.now in
    let behind = c.split_at_mut-line.result.1.now in
    let f : First rest line behind = record { n = c.line_len-len.result; first = c.line_len-len.ensures.first; line_is = c.split_at_mut-line.ensures.front; behind_is = c.split_at_mut-line.ensures.back } in
    let t : take c.text_len-len.result line ≡ line_text line = search rules in
    let none : length (take c.text_len-len.result line) ≤ 0 = omega (arith, length-take c.text_len-len.result line, c.if-len-gt0.false) in
    let e : suc k ≡ k + 1 = sym (add-one k) in
    let took : c.loop-self.self.rest.now ≡ rest = search (c.take-rest.ensures.value, c.take-rest.ensures.after, rules) in
    c.loop-self.invariant ∙ ap (λ (r : List ℕ). numbered (suc k) (full_lines r)) took ∙ passed k rest line behind _ f t none ∙ (λ i. numbered (suc (e i)) (full_lines behind))
