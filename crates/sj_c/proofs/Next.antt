-- What is said of one more item or member.
use Rattle.std.proofs.Common.{◌≡◌, ◌⊎◌, inl, inr, ℕ, ◌+◌, ◌<◌, ◌≤◌, List, [], ◌∷◌, Option, Some, None, option_map, length, map, get_or, slice_set, refl, sym, ap, ◌∙◌, subst, arith}
use Rattle.std.specs.Prelude.{◌≢◌, IfSome}
use Rattle.std.proofs.Math.Nat.{eq-or-lt_of_le}
use Rattle.std.specs.List.{slice_get}
use Rattle.std.proofs.lemmas.List.{get_or-set_same, get_or-set_other, length-set, length-map}
use Rattle.std.proofs.lemmas.Option.{slice_get-get_or, slice_get-map, slice_get_within, slice_get_read, slice_get_cases}
use Rattle.sj_text_core.specs.Tree.{Tree, paired}
use Rattle.sj_object.specs.Entries.{Entry}
use Rattle.sj_object.specs.Members.{entry_members}
use Rattle.sj_c.specs.Shown.{ShowsFrom}

there : {F : Type 0} (xs : List F) (i : ℕ) (f : F) → i < length xs → slice_get (slice_set xs i f) i ≡ Some f
there xs i f within = slice_get-get_or (slice_set xs i f) i f (omega (arith, within, length-set xs i f)) ∙ ap Some (get_or-set_same xs i f f within)

elsewhere : {F : Type 0} (xs : List F) (i k : ℕ) (f g : F) → k ≢ i → slice_get xs k ≡ Some g → slice_get (slice_set xs i f) k ≡ Some g
elsewhere xs i k f g other is =
    let within = slice_get_within xs k g is in
    slice_get-get_or (slice_set xs i f) k g (omega (arith, within, length-set xs i f)) ∙ ap Some (get_or-set_other xs i k f g other) ∙ sym (slice_get-get_or xs k g within) ∙ is

-- what is written in the place of the next one is said too
pub shown_next : {F A : Type 0} (says : F → A → Type 0) (from at : ℕ) (found : List F) (all : List A) (f : F) (a : A)
    → at < length found → slice_get all (from + at) ≡ Some a → says f a → ShowsFrom says from at found all → ShowsFrom says from (at + 1) (slice_set found at f) all
shown_next {F = F} {A = A} says from at found all f a within is said before k l = next (eq-or-lt_of_le (omega (arith, l)))
  where
    next : (k ≡ at) ⊎ (k < at) → (g : F) × (b : A) × (slice_get (slice_set found at f) k ≡ Some g) × (slice_get all (from + k) ≡ Some b) × says g b
    next (inl e) = (f, a, ap (λ i. slice_get (slice_set found at f) i) e ∙ there found at f within, ap (λ i. slice_get all (from + i)) e ∙ is, said)
    next (inr less) =
        let b = before k less in
        (b.0, b.1, elsewhere found at k f b.0 (omega (arith, less)) b.2, b.3, b.4)

-- the members that entries mean, as pairs
paired-entries : {K V : Type 0} (f : V → Tree) (es : List (Entry K V)) → paired (entry_members f es) ≡ map (λ (e : Entry K V). (e.0.1, f e.1)) es
paired-entries f [] = refl
paired-entries f (e ∷ es) = ap (λ ps. (e.0.1, f e.1) ∷ ps) (paired-entries f es)

pub paired-len : {K V : Type 0} (f : V → Tree) (es : List (Entry K V)) → length (paired (entry_members f es)) ≡ length es
paired-len f es = ap length (paired-entries f es) ∙ length-map es (λ e. (e.0.1, f e.1))

-- the pair that an entry means
abbrev pub meant_pair : {K V : Type 0} → (V → Tree) → Entry K V → List ℕ × Tree
meant_pair f e = (e.0.1, f e.1)

pub paired-get : {K V : Type 0} (f : V → Tree) (es : List (Entry K V)) (i : ℕ) (o : Option (Entry K V)) → o ≡ slice_get es i → slice_get (paired (entry_members f es)) i ≡ option_map (meant_pair f) o
paired-get f es i o is = ap (λ ps. slice_get ps i) (paired-entries f es) ∙ slice_get-map (meant_pair f) es i ∙ ap (option_map (meant_pair f)) (sym is)

-- an item's tree among those of all
pub item-at : {V : Type 0} (f : V → Tree) (vs : List V) (i : ℕ) (v : V) → i < length vs → v ≡ get_or vs i v → slice_get (map f vs) i ≡ Some (f v)
item-at f vs i v within is = slice_get-map f vs i ∙ ap (option_map f) (slice_get_read vs (length vs) i v refl within is)

-- the same, where what is written is told by what stands at its number
pub told_next : {F A : Type 0} (says : F → A → Type 0) (from at : ℕ) (found : List F) (all : List A) (f : F)
    → at < length found → from + at < length all → IfSome (slice_get all (from + at)) (says f) → ShowsFrom says from at found all → ShowsFrom says from (at + 1) (slice_set found at f) all
told_next {F = F} {A = A} says from at found all f room there told before = by_case (slice_get_cases all (from + at)).1
  where
    by_case : ((x : A) × (from + at < length all) × (slice_get all (from + at) ≡ Some x) × (get_or all (from + at) x ≡ x)) ⊎ ((length all ≤ from + at) × (slice_get all (from + at) ≡ None)) → ShowsFrom says from (at + 1) (slice_set found at f) all
    by_case (inl s) = shown_next says from at found all f s.0 room s.2 (subst (λ o. IfSome o (says f)) s.2 told) before
    by_case (inr s) = absurd (omega (arith, s.0, there))
