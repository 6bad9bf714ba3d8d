-- Places of items that are kept. Only private clauses cite it.
use Rattle.std.specs.Prelude.{◌≡◌, ℕ, zero, suc, ◌+◌, ◌*◌, ◌<◌, List, get_or, take, drop, length}
use Rattle.sj_text_core.specs.Nodes.{Mark, nothing, width}
use Rattle.sj_tape.specs.declared.item_places.ArrayPlaces.{ArrayPlaces}

-- where the item at position i begins, counted by widths
unfoldable pub item_at : List Mark → ℕ → ℕ
item_at ns zero = 0
item_at ns (suc i) = item_at ns i + width (get_or ns (item_at ns i) nothing)

-- places of items, one for each sixty-four
abbrev pub ArePlaces : List Mark → List ℕ → Type 0
ArePlaces ns places = (j : ℕ) → j < length places → get_or places j 0 ≡ item_at ns (j * 64)

-- those of an array among the nodes
abbrev pub IsArrayPlaced : List Mark → ArrayPlaces → Type 0
IsArrayPlaced ns a = ArePlaces (drop a.start (take a.end ns)) a.places.items

abbrev pub AllPlaced : List Mark → List ArrayPlaces → Type 0
AllPlaced ns arrays = (k : ℕ) (d : ArrayPlaces) → k < length arrays → IsArrayPlaced ns (get_or arrays k d)
