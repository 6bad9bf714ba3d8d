-- Members put one after another, in the order of a map.
use Rattle.std.proofs.Common.{◌≡◌, ℕ, true, false, ◌||◌, List, [], ◌∷◌, ◌++◌, refl, sym, ap, ◌∙◌, append_assoc, append-nil, bytes_eq}
use Rattle.std.specs.Bool.{if◌then◌else◌}
use Rattle.std.proofs.lemmas.Bool.{or_parts}
use Rattle.sj_text_core.specs.Tree.{Tree, Members, member}
use Rattle.sj_text_core.specs.Edits as members
use Rattle.sj_text_core.specs.Keep.{is_seen}
use Rattle.sj_text_core.proofs.Texts.{bytes_eq-sym}
use Rattle.sj_object.specs.Texts.{no_repeats}
use Rattle.sj_object.specs.inner.Texts.{not_and}
use Rattle.sj_object.specs.Entries.{Entry, entry_texts}
use Rattle.sj_object.specs.Members.{entry_members}

unseen_at : {K V : Type 0} (x : List ℕ) (ds : List (Entry K V)) (e : Entry K V) (es : List (Entry K V)) → is_seen x (entry_texts (ds ++ e ∷ es)) ≡ false → bytes_eq x e.0.1 ≡ false
unseen_at x [] e es h = (or_parts (bytes_eq x e.0.1) _ h).0
unseen_at x (d ∷ ds) e es h = unseen_at x ds e es (or_parts (bytes_eq x d.0.1) _ h).1

-- where no text stands twice, that of an entry is none before it
unseen_before : {K V : Type 0} (ds : List (Entry K V)) (e : Entry K V) (es : List (Entry K V)) → no_repeats (entry_texts (ds ++ e ∷ es)) ≡ true → is_seen e.0.1 (entry_texts ds) ≡ false
unseen_before [] e es h = refl
unseen_before (d ∷ ds) e es h =
    let n = not_and (is_seen d.0.1 (entry_texts (ds ++ e ∷ es))) _ h in
    λ i. (bytes_eq-sym d.0.1 e.0.1 (unseen_at d.0.1 ds e es n.0)) i || (unseen_before ds e es n.1) i

module _ {K V : Type 0} (tree : V → Tree) where
  abbrev all : List (Entry K V) → Members
  all es = entry_members tree es

  abbrev pub put_all : Members → List (Entry K V) → Members
  put_all ms [] = ms
  put_all ms (e ∷ es) = put_all (members.put e.0.1 (tree e.1) ms) es

  put_last : (ds : List (Entry K V)) (e : Entry K V) → is_seen e.0.1 (entry_texts ds) ≡ false → members.put e.0.1 (tree e.1) (all ds) ≡ all (ds ++ e ∷ [])
  put_last [] e h = refl
  put_last (d ∷ ds) e h =
      let r = or_parts (bytes_eq e.0.1 d.0.1) _ h in
      (λ i. if r.0 i then member d.0.1 (tree e.1) (all ds) else member d.0.1 (tree d.1) (members.put e.0.1 (tree e.1) (all ds))) ∙ ap (member d.0.1 (tree d.1)) (put_last ds e r.1)

  put_all-onto : (ds es : List (Entry K V)) → no_repeats (entry_texts (ds ++ es)) ≡ true → put_all (all ds) es ≡ all (ds ++ es)
  put_all-onto ds [] h = ap all (sym (append-nil ds))
  put_all-onto ds (e ∷ es) h =
      let a = append_assoc ds (e ∷ []) es in
      ap (λ ms. put_all ms es) (put_last ds e (unseen_before ds e es h)) ∙ put_all-onto (ds ++ e ∷ []) es (ap (λ l. no_repeats (entry_texts l)) a ∙ h) ∙ ap all a

  -- where no text stands twice, each goes last
  pub put_all-distinct : (es : List (Entry K V)) → no_repeats (entry_texts es) ≡ true → put_all (all []) es ≡ all es
  put_all-distinct es h = put_all-onto [] es h
