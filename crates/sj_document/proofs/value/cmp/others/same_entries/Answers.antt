use Rattle.std.proofs.Common.{sym, ◌∙◌, refl, subst}
use Rattle.std.specs.Prelude.{MatchOption}
use Rattle.sj_object.specs.Edits.{lookup}
use Rattle.sj_tape.proofs.Compared.{denied}
use Rattle.sj_document.specs.inner.SameWith.{EachFound}
use Rattle.sj_document.proofs.FoundTexts.{names_apart, each_from_same}
use Rattle.sj_document.proofs.Maps.{entries_same, entries_len}
use Rattle.sj_document.proofs.value.cmp.others.same_entries.Goals as goal

pub returns-then-len : goal.returns-then-len
returns-then-len g c =
    let t = g.K.KeyText.text_of in
    let apart = names_apart t g.K.PartialEq.eq g.met.K.KeyText.equal_texts c.args.map.now.entries c.len-2.ensures.unique in
    (λ f. absurd (cc), λ h. absurd (c.if-len.true (c.len.ensures ∙ entries_len g.X.SameWith.same_with t c.args.members.now.entries c.args.map.now.entries c.args.members.now.distinct apart h ∙ sym c.len-2.ensures.len)))

pub returns-then-not-has_same : goal.returns-then-not-has_same
returns-then-not-has_same g c =
    let t = g.K.KeyText.text_of in
    let R = g.X.SameWith.same_with in
    let es = c.args.members.now.entries in
    let apart = names_apart t g.K.PartialEq.eq g.met.K.KeyText.equal_texts c.args.map.now.entries c.len-2.ensures.unique in (
      λ f. absurd (cc),
      λ h. absurd (denied c.has_same.result _ c.has_same.ensures c.if-not-has_same.true
          (let each = subst (EachFound R t (λ k. lookup k es)) c.in-Some.ensures.steps (c.loop-key.invariant.off (each_from_same R t (λ k. lookup k es) c.args.map.now.entries apart h)) in
          subst (λ k. MatchOption (lookup k es) ⊥ (λ d. R d c.in-Some.value.now)) (sym c.text.ensures) each.0)),
    )

pub returns : goal.returns
returns g c =
    let t = g.K.KeyText.text_of in
    let R = g.X.SameWith.same_with in
    let es = c.args.members.now.entries in
    let apart = names_apart t g.K.PartialEq.eq g.met.K.KeyText.equal_texts c.args.map.now.entries c.len-2.ensures.unique in
    let all = c.loop-key.invariant.on (subst (EachFound R t (λ k. lookup k es)) (sym c.in-None.ensures.steps.0) tt) in
    (λ _. entries_same R t es c.args.map.now.entries apart (sym c.len.ensures ∙ c.if-len.false ∙ c.len-2.ensures.len) all, λ h. refl)
