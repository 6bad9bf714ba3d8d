use Rattle.std.proofs.Common.{◌∙◌, bytes_eq}
use lib.Pointwise.{pointwise}
use Rattle.sj_pointer.proofs.Shown.{same_tokens, tokens_decide}
use Rattle.sj_pointer.proofs.ends.PointerPartialEq.eq.Goals as goal

pub returns-clause-answer : goal.returns-clause-answer
returns-clause-answer c =
    same_tokens c.self.inside.tokens.items c.other.inside.tokens.items c.eq.result c.eq.ensures ∙ (λ i. pointwise bytes_eq (c.self.view_is i) (c.other.view_is i))

pub returns-clause-same : goal.returns-clause-same
returns-clause-same c =
    let d = tokens_decide c.args.self.now c.args.other.now c.eq.result
    (same_tokens c.self.inside.tokens.items c.other.inside.tokens.items c.eq.result c.eq.ensures ∙ (λ i. pointwise bytes_eq (c.self.view_is i) (c.other.view_is i))) in
    (λ e. d.0 e, λ e. d.1 e)
