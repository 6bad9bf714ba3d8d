-- In UTF-8 what the reader takes for a string is one.
use Rattle.std.proofs.Common.{◌≡◌, ℕ, ◌+◌, ◌<◌, true, false, List, [], ◌∷◌, ◌++◌, length, drop, get_or, IsUtf8, refl, sym, ap, subst, ◌∙◌, arith, append_assoc, length-append}
use Rattle.std.proofs.lemmas.Str.{IsUtf8-drop, IsUtf8-take, IsCharBoundary-after_ascii, IsCharBoundary-before_ascii}
use Rattle.std.proofs.lemmas.List.{drop_at, take_at, get_or_at}
use Rattle.sj_text_core.specs.Tree.{Tree, null, boolean, int, text, list, obj, Items, no_items, item, Members, no_members, member}
use Rattle.sj_text_core.specs.Grammar.{IsString, Spaced, Spelling, SpellsItems, MoreItems, SpellsMembers, MoreMembers}
use Rattle.sj_tape.proofs.Bytewise as raw
use Rattle.sj_text_core.proofs.parse.Strings.{string_is}

-- an ASCII byte cuts UTF-8 in two
pub cut : (a b : List ℕ) (c : ℕ) → c < 128 → IsUtf8 (a ++ (c ∷ b)) → IsUtf8 a × IsUtf8 b
cut a b c h u =
    let at : get_or (a ++ (c ∷ b)) (length a) 0 < 128 = omega (arith, get_or_at a c b 0 (length a) refl) in
    let lt : length a < length (a ++ (c ∷ b)) = omega (arith, length-append a (c ∷ b)) in (
      subst (λ l. IsUtf8 l) (take_at a (c ∷ b) (length a) refl) (IsUtf8-take (a ++ (c ∷ b)) (length a) u (IsCharBoundary-before_ascii (a ++ (c ∷ b)) (length a) lt at)),
      subst (λ l. IsUtf8 l) (ap (λ l. drop (length a + 1) l) (sym (append_assoc a (c ∷ []) b)) ∙ drop_at (a ++ c ∷ []) b (length a + 1) (length-append a (c ∷ [])))
          (IsUtf8-drop (a ++ (c ∷ b)) (length a + 1) u (IsCharBoundary-after_ascii (a ++ (c ∷ b)) (length a) u lt at)),
    )

-- a string anywhere in UTF-8
a_string : (p s x y : List ℕ) → raw.IsString p s → IsUtf8 (x ++ (p ++ y)) → IsString p s
a_string p s x y h u =
    let e : x ++ (p ++ y) ≡ x ++ (34 ∷ (h.inside ++ (34 ∷ y))) = ap (λ l. x ++ (l ++ y)) h.is ∙ ap (λ l. x ++ (34 ∷ l)) (append_assoc h.inside (34 ∷ []) y) in
    subst (λ l. IsString l s) (sym h.is)
    (string_is h.inside h.rest s (cut h.inside y 34 (omega arith) (cut x (h.inside ++ (34 ∷ y)) 34 (omega arith) (subst (λ l. IsUtf8 l) e u)).1).0 h.was)

respaced : (b : List ℕ) (V W : List ℕ → Type 0) → (s : Spaced V b) → W s.word → Spaced W b
respaced b V W s w = record { before = s.before; word = s.word; after = s.after; is = s.is; blank_before = s.blank_before; spelled = w; blank_after = s.blank_after }

inner : (x o i c y : List ℕ) → x ++ ((o ++ (i ++ c)) ++ y) ≡ (x ++ o) ++ (i ++ (c ++ y))
inner x o i c y = simp append_assoc

spaced : (x b w a r y : List ℕ) → x ++ (((b ++ (w ++ a)) ++ r) ++ y) ≡ (x ++ b) ++ (w ++ (a ++ (r ++ y)))
spaced x b w a r y = simp append_assoc

behind : (x f r y : List ℕ) → x ++ ((f ++ r) ++ y) ≡ (x ++ f) ++ (r ++ y)
behind x f r y = simp append_assoc

colon : (x k r y : List ℕ) → x ++ ((k ++ (58 ∷ r)) ++ y) ≡ (x ++ (k ++ 58 ∷ [])) ++ (r ++ y)
colon x k r y = simp append_assoc

mutual
  pub lift : (t : Tree) (p x y : List ℕ) → raw.Spelling t p → IsUtf8 (x ++ (p ++ y)) → Spelling t p
  lift null p x y h u = h
  lift (boolean true) p x y h u = h
  lift (boolean false) p x y h u = h
  lift (int n c) p x y h u = h
  lift (text s) p x y h u = a_string p s x y h u
  lift (list is) p x y h u = (
    h.0,
    h.1,
    lift_items is h.0 (x ++ 91 ∷ []) (93 ∷ y) h.2
        (subst (λ l. IsUtf8 l) (ap (λ l. x ++ (l ++ y)) h.1 ∙ inner x (91 ∷ []) h.0 (93 ∷ []) y) u),
  )
  lift (obj ms) p x y h u = (
    h.0,
    h.1,
    lift_members ms h.0 (x ++ 123 ∷ []) (125 ∷ y) h.2
        (subst (λ l. IsUtf8 l) (ap (λ l. x ++ (l ++ y)) h.1 ∙ inner x (123 ∷ []) h.0 (125 ∷ []) y) u),
  )

  lift_items : (is : Items) (p x y : List ℕ) → raw.SpellsItems is p → IsUtf8 (x ++ (p ++ y)) → SpellsItems is p
  lift_items no_items p x y h u = h
  lift_items (item t is) p x y h u = (
    h.0,
    h.1,
    h.2,
    respaced h.0 (λ w. raw.Spelling t w) (λ w. Spelling t w) h.3 (lift t h.3.word (x ++ h.3.before) (h.3.after ++ (h.1 ++ y)) h.3.spelled
        (subst (λ l. IsUtf8 l) (ap (λ l. x ++ (l ++ y)) (h.2 ∙ ap (λ l. l ++ h.1) h.3.is) ∙ spaced x h.3.before h.3.word h.3.after h.1 y) u)),
    lift_more is h.1 (x ++ h.0) y h.4 (subst (λ l. IsUtf8 l) (ap (λ l. x ++ (l ++ y)) h.2 ∙ behind x h.0 h.1 y) u),
  )

  lift_more : (is : Items) (p x y : List ℕ) → raw.MoreItems is p → IsUtf8 (x ++ (p ++ y)) → MoreItems is p
  lift_more no_items p x y h u = h
  lift_more (item t is) p x y h u = (
    h.0,
    h.1,
    h.2,
    respaced h.0 (λ w. raw.Spelling t w) (λ w. Spelling t w) h.3 (lift t h.3.word ((x ++ 44 ∷ []) ++ h.3.before) (h.3.after ++ (h.1 ++ y)) h.3.spelled
        (subst (λ l. IsUtf8 l) (ap (λ l. x ++ (l ++ y)) (h.2 ∙ ap (λ l. 44 ∷ (l ++ h.1)) h.3.is) ∙ (sym (append_assoc x (44 ∷ []) (((h.3.before ++ (h.3.word ++ h.3.after)) ++ h.1) ++ y)) ∙ spaced (x ++ 44 ∷ []) h.3.before h.3.word h.3.after h.1 y)) u)),
    lift_more is h.1 (x ++ (44 ∷ h.0)) y h.4 (subst (λ l. IsUtf8 l) (ap (λ l. x ++ (l ++ y)) h.2 ∙ behind x (44 ∷ h.0) h.1 y) u),
  )

  lift_members : (ms : Members) (p x y : List ℕ) → raw.SpellsMembers ms p → IsUtf8 (x ++ (p ++ y)) → SpellsMembers ms p
  lift_members no_members p x y h u = h
  lift_members (member k t ms) p x y h u = (
    h.0,
    h.1,
    h.2,
    h.3,
    respaced h.0 (λ w. raw.IsString w k) (λ w. IsString w k) h.4 (a_string h.4.word k (x ++ h.4.before) (h.4.after ++ ((58 ∷ (h.1 ++ h.2)) ++ y)) h.4.spelled
        (subst (λ l. IsUtf8 l) (ap (λ l. x ++ (l ++ y)) (h.3 ∙ ap (λ l. l ++ (58 ∷ (h.1 ++ h.2))) h.4.is) ∙ spaced x h.4.before h.4.word h.4.after (58 ∷ (h.1 ++ h.2)) y) u)),
    respaced h.1 (λ w. raw.Spelling t w) (λ w. Spelling t w) h.5 (lift t h.5.word ((x ++ (h.0 ++ 58 ∷ [])) ++ h.5.before) (h.5.after ++ (h.2 ++ y)) h.5.spelled
        (subst (λ l. IsUtf8 l) (ap (λ l. x ++ (l ++ y)) h.3 ∙ (colon x h.0 (h.1 ++ h.2) y ∙ (ap (λ l. (x ++ (h.0 ++ 58 ∷ [])) ++ ((l ++ h.2) ++ y)) h.5.is ∙ spaced (x ++ (h.0 ++ 58 ∷ [])) h.5.before h.5.word h.5.after h.2 y))) u)),
    lift_more_members ms h.2 ((x ++ (h.0 ++ 58 ∷ [])) ++ h.1) y h.6
        (subst (λ l. IsUtf8 l) (ap (λ l. x ++ (l ++ y)) h.3 ∙ (colon x h.0 (h.1 ++ h.2) y ∙ behind (x ++ (h.0 ++ 58 ∷ [])) h.1 h.2 y)) u),
  )

  lift_more_members : (ms : Members) (p x y : List ℕ) → raw.MoreMembers ms p → IsUtf8 (x ++ (p ++ y)) → MoreMembers ms p
  lift_more_members no_members p x y h u = h
  lift_more_members (member k t ms) p x y h u =
      let e : x ++ (p ++ y) ≡ (x ++ 44 ∷ []) ++ ((h.0 ++ (58 ∷ (h.1 ++ h.2))) ++ y) = ap (λ l. x ++ (l ++ y)) h.3 ∙ sym (append_assoc x (44 ∷ []) ((h.0 ++ (58 ∷ (h.1 ++ h.2))) ++ y)) in (
        h.0,
        h.1,
        h.2,
        h.3,
        respaced h.0 (λ w. raw.IsString w k) (λ w. IsString w k) h.4 (a_string h.4.word k ((x ++ 44 ∷ []) ++ h.4.before) (h.4.after ++ ((58 ∷ (h.1 ++ h.2)) ++ y)) h.4.spelled
            (subst (λ l. IsUtf8 l) (e ∙ (ap (λ l. (x ++ 44 ∷ []) ++ ((l ++ (58 ∷ (h.1 ++ h.2))) ++ y)) h.4.is ∙ spaced (x ++ 44 ∷ []) h.4.before h.4.word h.4.after (58 ∷ (h.1 ++ h.2)) y)) u)),
        respaced h.1 (λ w. raw.Spelling t w) (λ w. Spelling t w) h.5 (lift t h.5.word (((x ++ 44 ∷ []) ++ (h.0 ++ 58 ∷ [])) ++ h.5.before) (h.5.after ++ (h.2 ++ y)) h.5.spelled
            (subst (λ l. IsUtf8 l) (e ∙ (colon (x ++ 44 ∷ []) h.0 (h.1 ++ h.2) y ∙ (ap (λ l. ((x ++ 44 ∷ []) ++ (h.0 ++ 58 ∷ [])) ++ ((l ++ h.2) ++ y)) h.5.is ∙ spaced ((x ++ 44 ∷ []) ++ (h.0 ++ 58 ∷ [])) h.5.before h.5.word h.5.after h.2 y))) u)),
        lift_more_members ms h.2 (((x ++ 44 ∷ []) ++ (h.0 ++ 58 ∷ [])) ++ h.1) y h.6
            (subst (λ l. IsUtf8 l) (e ∙ (colon (x ++ 44 ∷ []) h.0 (h.1 ++ h.2) y ∙ behind ((x ++ 44 ∷ []) ++ (h.0 ++ 58 ∷ [])) h.1 h.2 y)) u),
      )
