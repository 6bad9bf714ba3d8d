use Rattle.std.proofs.Common.{◌∷◌, None, refl, sym, ap, ◌∙◌, lit<}
use Rattle.std.proofs.lemmas.Str.Pattern.{strip_prefix_char}
use Rattle.sj_pointer.specs.Tokens.{decoded}
use Rattle.sj_pointer.proofs.Texts.{decoded_else}
use Rattle.sj_pointer.proofs.parse.escape.Goals as goal

pub returns-in-None-clause-decoded : goal.returns-in-None-clause-decoded
returns-in-None-clause-decoded c =
    let s = c.args.text.now in
    decoded_else s c.strip_prefix-in-None.result c.args.text refl (strip_prefix_char 49 s None c.in-None.ensures.cases (lit< tt)) (strip_prefix_char 48 s _ c.strip_prefix-in-None.ensures.cases (lit< tt))
    ∙ ap (λ x. 126 ∷ decoded x.now) (sym c.unwrap_or.ensures)
