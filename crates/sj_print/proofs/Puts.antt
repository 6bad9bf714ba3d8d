-- What one call after another appends.
use Rattle.std.proofs.Common.{◌≡◌, ℕ, List, [], ◌++◌, IsUtf8, flat_map, sym, ap, ◌∙◌, subst, append_assoc, append-nil}
use Rattle.std.proofs.lemmas.Str.{IsUtf8-append}
use Rattle.sj_text_core.specs.Print.{escaped}
use Rattle.sj_print.proofs.Utf8.{IsUtf8-escaped}
use Rattle.sj_print.specs.Outputs.{Appends, AppendsText}
use Rattle.sj_print.specs.inner.Outputs.{Towards}

module _ {S O : Type 0} (holds : S → O → List ℕ → Type 0) where
  pub appends_nothing : (a : O) → Appends holds a a []
  appends_nothing a start b h = subst (holds start a) (sym (append-nil b)) h

  pub appends_both : (a b c : O) (p q : List ℕ) → Appends holds a b p → Appends holds b c q → Appends holds a c (p ++ q)
  appends_both a b c p q f g start x h = subst (holds start c) (append_assoc x p q) (g start (x ++ p) (f start x h))

  pub appends_text : (a b : O) (p : List ℕ) → Appends holds a b p → IsUtf8 p → AppendsText holds a b p
  appends_text a b p f u start x h = (IsUtf8-append x p h.0 u, f start x h.1)

  -- the same, of a text that has these bytes
  pub appends_as : (a b : O) (p q : List ℕ) → p ≡ q → Appends holds a b p → IsUtf8 p → AppendsText holds a b q
  appends_as a b p q e f u = subst (AppendsText holds a b) e (appends_text a b p f u)

  -- a text with its escapes, between two others
  pub appends_escaped : (a b : O) (o t e before key behind : List ℕ) → o ≡ before → t ≡ key → e ≡ behind → IsUtf8 o → IsUtf8 t → IsUtf8 e
      → Appends holds a b (o ++ (flat_map escaped t ++ e)) → AppendsText holds a b (before ++ (flat_map escaped key ++ behind))
  appends_escaped a b o t e before key behind p q r u v w f =
      subst (AppendsText holds a b) (ap (λ l. l ++ (flat_map escaped t ++ e)) p ∙ ap (λ l. before ++ (flat_map escaped l ++ e)) q ∙ ap (λ l. before ++ (flat_map escaped key ++ l)) r)
      (appends_text a b (o ++ (flat_map escaped t ++ e)) f (IsUtf8-append o _ u (IsUtf8-append _ e (IsUtf8-escaped t v) w)))

  pub begin : (a b : O) (part rest whole : List ℕ) → Appends holds a b part → part ++ rest ≡ whole → Towards holds a b rest whole
  begin a b part rest whole f e = record { done = part; put = f; makes = e }

  pub step : (a b c : O) (part left rest whole : List ℕ) → Towards holds a b left whole → Appends holds b c part → left ≡ part ++ rest → Towards holds a c rest whole
  step a b c part left rest whole t f e = record {
    done = t.done ++ part;
    put = appends_both a b c t.done part t.put f;
    makes = append_assoc t.done part rest ∙ ap (λ l. t.done ++ l) (sym e) ∙ t.makes;
  }

  pub end : (a b c : O) (part left whole : List ℕ) → Towards holds a b left whole → Appends holds b c part → left ≡ part → Appends holds a c whole
  end a b c part left whole t f e = subst (Appends holds a c) (ap (λ l. t.done ++ l) (sym e) ∙ t.makes) (appends_both a b c t.done part t.put f)
