-- Documents whose texts all pass a test.
use Rattle.std.proofs.Common.{◌≡◌, Bool, true, false, ◌&&◌, List, [], ◌∷◌, map, All, Box, Vec, Global, refl, ap, ◌∙◌, rules, true≢false, sym}
use Rattle.std.specs.List.{list_all}
use Rattle.std.proofs.lemmas.List.Elements.{All-head, All-tail}
use Rattle.sj_object.specs.Entries.{Entry}
use Rattle.sj_document.specs.Document.{all_texts}
use Rattle.sj_document.specs.declared.value.Document.{Document, Array, Object, the_lemmas}
use Rattle.sj_document.proofs.Trees.{Map}

and_true : (a b : Bool) → a ≡ true → b ≡ true → a && b ≡ true
and_true true b e f = f
and_true false b e f = absurd (true≢false (sym e))

module _ {T : Type 0} (is_made : T → Bool) where
  abbrev Is : Document T → Type 0
  Is v = all_texts is_made v ≡ true

  all_items : (vs : List (Document T)) → All Is vs → list_all (λ b. b) (map (all_texts is_made) vs) ≡ true
  all_items [] h = refl
  all_items (v ∷ vs) h = and_true _ _ (All-head Is v vs h) (all_items vs (All-tail Is v vs h))

  abbrev Member : Entry T (Document T) → Type 0
  Member e = (is_made e.0.0 ≡ true) × Is e.1

  all_members : (es : List (Entry T (Document T))) → All Member es → list_all (λ (e : Entry T Bool). is_made e.0.0 && e.1) (map (λ (e : Entry T (Document T)). (e.0, all_texts is_made e.1)) es) ≡ true
  all_members [] h = refl
  all_members (e ∷ es) h = and_true _ _ (let m = All-head Member e es h in and_true _ _ m.0 m.1) (all_members es (All-tail Member e es h))

  pub passes-Array : (b : Box (Vec (Document T) Global) Global) (v : Vec (Document T) Global) → b.value ≡ v → All Is v.items → Is (Array b)
  passes-Array b v e h =
      let folded : all_texts is_made (Array b) ≡ list_all (λ b. b) (map (all_texts is_made) b.value.items) = search (rules, the_lemmas) in
      folded ∙ ap (λ (w : Vec (Document T) Global). list_all (λ b. b) (map (all_texts is_made) w.items)) e ∙ all_items v.items h

  pub passes-Object : (b : Box (Map T) Global) (m : Map T) → b.value ≡ m → All Member m.entries → Is (Object b)
  passes-Object b m e h =
      let folded : all_texts is_made (Object b) ≡ list_all (λ (e : Entry T Bool). is_made e.0.0 && e.1) (map (λ (e : Entry T (Document T)). (e.0, all_texts is_made e.1)) b.value.entries) = search (rules, the_lemmas) in
      folded ∙ ap (λ (w : Map T). list_all (λ (e : Entry T Bool). is_made e.0.0 && e.1) (map (λ (e : Entry T (Document T)). (e.0, all_texts is_made e.1)) w.entries)) e ∙ all_members m.entries h
