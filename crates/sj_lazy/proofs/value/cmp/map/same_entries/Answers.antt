use Rattle.std.proofs.Common.{sym, ◌∙◌, arith, true≢false}
use Rattle.sj_text_core.specs.Tree.{paired}
use Rattle.sj_text_core.specs.Agree.{pair_keys}
use Rattle.sj_document.proofs.FoundTexts.{names_apart, same_from_each, keys_from_same, each_from_same, len_from_same}
use Rattle.sj_lazy.specs.Object.{lazy_members, lazy_object_choice}
use Rattle.sj_lazy.proofs.Mapped.{keys_len, there}
use Rattle.sj_lazy.specs.SameMap.{counted}
use Rattle.sj_lazy.proofs.value.cmp.map.same_entries.Goals as goal

pub returns-then-len : goal.returns-then-len
returns-then-len g c =
    let t = g.K.KeyText.text_of in
    let d = lazy_object_choice c.args.object.now in
    let ms = lazy_members c.args.object.now in
    let ps = c.args.entries.now.entries in
    let apart = names_apart t g.K.PartialEq.eq g.met.K.KeyText.equal_texts ps c.len-2.ensures.unique in (
      λ f. absurd (true≢false (sym f)),
      λ h. absurd (omega (arith, c.if-len.true, c.len.ensures, c.len-2.ensures.len, keys_len ms, len_from_same (λ u x. g.X.SameAsLazy.same_lazy (d, u) x) t (counted d ms) (pair_keys (paired ms)) (there d ms) ps apart h)),
    )

pub returns-then-each_found : goal.returns-then-each_found
returns-then-each_found g c =
    let t = g.K.KeyText.text_of in
    let d = lazy_object_choice c.args.object.now in
    let ms = lazy_members c.args.object.now in
    let ps = c.args.entries.now.entries in (
      λ f. same_from_each (λ u x. g.X.SameAsLazy.same_lazy (d, u) x) t (counted d ms) (pair_keys (paired ms)) (there d ms) ps (c.each_found.ensures.0 c.if-each_found.true) (c.has_keys.ensures.0 f),
      λ h. c.has_keys.ensures.1 (keys_from_same (λ u x. g.X.SameAsLazy.same_lazy (d, u) x) t (counted d ms) (pair_keys (paired ms)) (there d ms) ps h),
    )

pub returns-else-each_found : goal.returns-else-each_found
returns-else-each_found g c =
    let t = g.K.KeyText.text_of in
    let d = lazy_object_choice c.args.object.now in
    let apart = names_apart t g.K.PartialEq.eq g.met.K.KeyText.equal_texts c.args.entries.now.entries c.len-2.ensures.unique in (
      λ f. absurd (true≢false (sym f ∙ c.if-each_found.false)),
      λ h. c.each_found.ensures.1 (each_from_same (λ u x. g.X.SameAsLazy.same_lazy (d, u) x) t (counted d (lazy_members c.args.object.now)) c.args.entries.now.entries apart h),
    )
