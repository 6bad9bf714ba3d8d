use Rattle.std.proofs.Common.{◌∷◌, [], ◌++◌, Some, None, rules, sym, ap, ◌∙◌, lit<}
use Rattle.std.proofs.lemmas.Str.Pattern.{split_parts}
use Rattle.std.proofs.Output.{has_written_append, has_written_of_eq}
use Rattle.sj_pointer.specs.inner.Shown.{tildes_text}
use Rattle.sj_pointer.proofs.Shown.{token_whole, one_slash}
use Rattle.sj_pointer.proofs.show.write_token.Goals as goal

pub loop-part-preserved : goal.loop-part-preserved
loop-part-preserved g c =
    let parts = split_parts 47 c.loop-part.rest.now (Some (c.in-Some.part, c.in-Some.tail)) c.in-Some.ensures.cases (lit< tt) in (
      search rules,
      λ p.
          let i = c.loop-part.invariant.1 p in (
            (i.0 ++ tildes_text c.in-Some.part.now) ++ (126 ∷ 49 ∷ []),
            has_written_append _ _ _ c.write_part.new.f _ _ (has_written_append _ _ _ c.loop-part.f _ _ i.1 (search rules)) (search rules),
            one_slash i.0 _ c.in-Some.part.now c.in-Some.tail.now c.loop-part.rest.now i.2 parts.0 parts.1,
          ),
    )

pub returns : goal.returns
returns g c = λ p ok.
    let i = c.loop-part.invariant.1 p in
    let rest = c.loop-part.rest.now in
    has_written_of_eq _ _ _ _ _ (ap (λ x. i.0 ++ x) (sym (token_whole rest (split_parts 47 rest None c.in_default.ensures.cases (lit< tt)))) ∙ sym i.2)
    (has_written_append _ _ _ c.loop-part.f _ _ i.1 (search rules))
