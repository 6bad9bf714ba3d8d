-- A map of std compared with the members of an object.
use Rattle.std.proofs.Common.{◌≡◌, ℕ, true, List, length, Option, is_some, sym, ◌∙◌}
use Rattle.sj_text_core.specs.Keep.{is_seen}
use Rattle.sj_object.specs.Texts.{no_repeats}
use Rattle.sj_object.specs.Entries.{Entry, entry_texts}
use Rattle.sj_object.specs.Edits.{lookup}
use Rattle.sj_object.proofs.Position.{is_some-lookup}
use Rattle.sj_document.specs.SameWith.{SameTexts}
use Rattle.sj_document.specs.inner.SameWith.{EachFound}
use Rattle.sj_document.proofs.Compared.{texts_len}
use Rattle.sj_document.proofs.FoundTexts.{names, each_from_same, same_from_each, keys_from_same, keys_from_len, len_from_keys}

module _ {K D L X : Type 0} (R : D → X → Type 0) (text : L → List ℕ) (es : List (Entry K D)) (ps : List (L × X)) where
  abbrev at : List ℕ → Option D
  at k = lookup k es

  there : (k : List ℕ) → is_some (at k) ≡ is_seen k (entry_texts es)
  there k = is_some-lookup k es

  -- as many, and each there: the same at every text
  pub entries_same : no_repeats (names text ps) ≡ true → length es ≡ length ps → EachFound R text at ps → SameTexts R text at ps
  entries_same d e h = same_from_each R text at (entry_texts es) there ps h (keys_from_len R text at (entry_texts es) there ps d (texts_len es ∙ e) h)

  -- the same at every text: as many
  pub entries_len : no_repeats (entry_texts es) ≡ true → no_repeats (names text ps) ≡ true → SameTexts R text at ps → length es ≡ length ps
  entries_len d f h = sym (texts_len es) ∙ len_from_keys R text at (entry_texts es) there ps f d (each_from_same R text at ps f h) (keys_from_same R text at (entry_texts es) there ps h)
