-- What a token finds and sets, where it is read as a key, and where it names a position.
use Rattle.std.proofs.Common.{◌≡◌, ℕ, List, Option, Some, None, option_and_then, refl, ap}
use Rattle.sj_text_core.specs.Tree.{Tree, null, boolean, int, text, list, obj}
use Rattle.sj_text_core.specs.Find.{find, nth}
use Rattle.sj_text_core.specs.Reads.{as_items}
use Rattle.sj_text_core.specs.Places.{position_of}
use Rattle.sj_text_core.specs.Paths.{by_key, by_place, by_token, set_found, set_placed}
use Rattle.sj_text_core.specs.declared.repeats.Repeats.TheVariants.{First}
use Rattle.sj_pointer.specs.Pointed.{token_into}

-- the position that a token names, on an array
abbrev pub place_in : List ℕ → Tree → Option ℕ
place_in k t = option_and_then (λ _. position_of k) (as_items t)

module _ (k : List ℕ) where
  pub found_by_key : (t : Tree) → None ≡ place_in k t → find k t ≡ token_into First k t
  found_by_key null e = refl
  found_by_key (boolean b) e = refl
  found_by_key (int n c) e = refl
  found_by_key (text s) e = refl
  found_by_key (list is) e = ap (option_and_then (λ i. nth i (list is))) e
  found_by_key (obj ms) e = refl

  pub set_by_key : (u t : Tree) → None ≡ place_in k t → set_found (by_key k) u t ≡ set_found (by_token k) u t
  set_by_key u null e = refl
  set_by_key u (boolean b) e = refl
  set_by_key u (int n c) e = refl
  set_by_key u (text s) e = refl
  set_by_key u (list is) e = ap (λ o. list (set_placed o u is)) e
  set_by_key u (obj ms) e = refl

  pub found_by_place : (i : ℕ) (t : Tree) → Some i ≡ place_in k t → nth i t ≡ token_into First k t
  found_by_place i null e = cc
  found_by_place i (boolean b) e = cc
  found_by_place i (int n c) e = cc
  found_by_place i (text s) e = cc
  found_by_place i (list is) e = ap (option_and_then (λ j. nth j (list is))) e
  found_by_place i (obj ms) e = cc

  pub set_by_place : (i : ℕ) (u t : Tree) → Some i ≡ place_in k t → set_found (by_place i) u t ≡ set_found (by_token k) u t
  set_by_place i u null e = cc
  set_by_place i u (boolean b) e = cc
  set_by_place i u (int n c) e = cc
  set_by_place i u (text s) e = cc
  set_by_place i u (list is) e = ap (λ o. list (set_placed o u is)) e
  set_by_place i u (obj ms) e = cc
