use Rattle.std.proofs.Common.{◌≡◌, length, sym, ap, ◌∙◌}
use Rattle.std.specs.Cow.{cow_str_bytes}
use Rattle.std.proofs.lemmas.Bool.{eqb-true, eq-eqb}
use Rattle.sj_object.specs.Texts.{no_repeats}
use Rattle.sj_text_core.specs.Tree.{members_len}
use Rattle.sj_document.specs.Document.{document_tree}
use Rattle.sj_document.proofs.FoundTexts.{names_apart, keys_from_len, len_from_keys}
use Rattle.sj_lazy.specs.Object.{lazy_members, lazy_object_choice}
use Rattle.sj_lazy.proofs.Lists.{texts-members}
use Rattle.sj_text_core.specs.Tree.{paired}
use Rattle.sj_text_core.specs.Agree.{pair_keys}
use Rattle.sj_object.proofs.Shown.{length-members}
use Rattle.sj_lazy.specs.SameMap.{counted}
use Rattle.sj_lazy.proofs.Mapped.{keys_len, there}
use Rattle.sj_lazy.proofs.value.cmp.map.has_keys.Goals as goal

pub returns-in-Value : goal.returns-in-Value
returns-in-Value g c =
    let t = g.K.KeyText.text_of in
    let d = lazy_object_choice c.args.object.now in
    let ms = lazy_members c.args.object.now in
    let es = c.in-Value.members.now.entries in
    let ps = c.args.entries.now.entries in
    let apart = names_apart t g.K.PartialEq.eq g.met.K.KeyText.equal_texts ps c.len-in-Value.ensures.unique in
    let many : c.len.result ≡ length (pair_keys (paired ms)) = c.len.ensures ∙ length-members (document_tree cow_str_bytes) es ∙ sym (ap (λ o. members_len (lazy_members o)) c.in-Value.is) ∙ sym (keys_len ms) in
    let once : no_repeats (pair_keys (paired ms)) ≡ _ = ap (λ o. no_repeats (pair_keys (paired (lazy_members o)))) c.in-Value.is ∙ ap no_repeats (sym (texts-members (document_tree cow_str_bytes) es)) ∙ c.in-Value.members.now.distinct in (
      λ f. keys_from_len (λ u x. g.X.SameAsLazy.same_lazy (d, u) x) t (counted d ms) (pair_keys (paired ms)) (there d ms) ps apart (sym many ∙ eqb-true _ _ f ∙ c.len-in-Value.ensures.len) c.requires,
      λ n. eq-eqb _ _ (many ∙ len_from_keys (λ u x. g.X.SameAsLazy.same_lazy (d, u) x) t (counted d ms) (pair_keys (paired ms)) (there d ms) ps apart once c.requires n ∙ sym c.len-in-Value.ensures.len),
    )
