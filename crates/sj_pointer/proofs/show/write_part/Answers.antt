use Rattle.std.proofs.Common.{◌∷◌, [], ◌++◌, Some, None, rules, sym, ap, ◌∙◌, lit<}
use Rattle.std.proofs.lemmas.Str.Pattern.{split_parts}
use Rattle.std.proofs.Output.{has_written_append, has_written_of_eq}
use Rattle.sj_pointer.proofs.Shown.{tildes_whole, one_tilde}
use Rattle.sj_pointer.proofs.show.write_part.Goals as goal

pub loop-plain-preserved : goal.loop-plain-preserved
loop-plain-preserved g c =
    let parts = split_parts 126 c.loop-plain.rest.now (Some (c.in-Some.plain, c.in-Some.tail)) c.in-Some.ensures.cases (lit< tt) in (
      search rules,
      λ p.
          let i = c.loop-plain.invariant.1 p in (
            (i.0 ++ c.in-Some.plain.now) ++ (126 ∷ 48 ∷ []),
            has_written_append _ _ _ c.write_str.new.self _ _ (has_written_append _ _ _ c.loop-plain.f _ _ i.1 (search rules)) (search rules),
            one_tilde i.0 _ c.in-Some.plain.now c.in-Some.tail.now c.loop-plain.rest.now i.2 parts.0 parts.1,
          ),
    )

pub returns : goal.returns
returns g c = λ p ok.
    let i = c.loop-plain.invariant.1 p in
    let rest = c.loop-plain.rest.now in
    has_written_of_eq _ _ _ _ _ (ap (λ x. i.0 ++ x) (sym (tildes_whole rest (split_parts 126 rest None c.in_default.ensures.cases (lit< tt)))) ∙ sym i.2)
    (has_written_append _ _ _ c.loop-plain.f _ _ i.1 (search rules))
