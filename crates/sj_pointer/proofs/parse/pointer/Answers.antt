use Rattle.std.proofs.Common.{None, refl, sym, ◌∙◌, lit<}
use Rattle.std.proofs.lemmas.Bool.{true≢false}
use Rattle.std.proofs.lemmas.Str.Pattern.{strip_prefix_char}
use Rattle.sj_pointer.proofs.Texts.{not_begun}
use Rattle.sj_pointer.proofs.parse.pointer.Goals as goal

pub returns-in-None-2-clause-no_slash : goal.returns-in-None-2-clause-no_slash
returns-in-None-2-clause-no_slash c = (λ _. not_begun c.args.text.now (strip_prefix_char 47 c.args.text.now None c.in-None.ensures.cases (lit< tt)) (sym c.if-is_empty.ensures), λ _. refl)

pub returns-in-None-2-clause-bad_tilde : goal.returns-in-None-2-clause-bad_tilde
returns-in-None-2-clause-bad_tilde c =
    (λ e. cc, λ h. absurd (true≢false (sym h.0 ∙ not_begun c.args.text.now (strip_prefix_char 47 c.args.text.now None c.in-None.ensures.cases (lit< tt)) (sym c.if-is_empty.ensures))))
