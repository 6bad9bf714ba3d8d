-- Parts with a choice, cut to their trees.
use Rattle.std.proofs.Common.{◌≡◌, ℕ, List, [], ◌∷◌, map, refl, sym, ap, ◌∙◌}
use Rattle.sj_text_core.specs.Tree.{Tree}
use Rattle.sj_text_core.specs.declared.repeats.Repeats.{Repeats}
use Rattle.sj_tape.specs.Members.{chosen_pairs}

abbrev Part : Type 0
Part = Repeats × Tree

abbrev pub trees : List Part → List Tree
trees ps = map (λ (p : Repeats × Tree). p.1) ps

abbrev pub pairs : List (List ℕ × Part) → List (List ℕ × Tree)
pairs ps = map (λ (p : List ℕ × (Repeats × Tree)). (p.0, p.1.1)) ps

pub trees_of : (c : Repeats) (ts : List Tree) → trees (map {B = Repeats × Tree} (λ t. (c, t)) ts) ≡ ts
trees_of c [] = refl
trees_of c (t ∷ ts) = ap (λ l. t ∷ l) (trees_of c ts)

pub pairs_of : (c : Repeats) (ps : List (List ℕ × Tree)) → pairs (chosen_pairs c ps) ≡ ps
pairs_of c [] = refl
pairs_of c (p ∷ ps) = ap (λ l. p ∷ l) (pairs_of c ps)

-- one item, and those behind it
pub item_step : (c d : Repeats) (p : Part) (ts us : List Tree) → map {B = Repeats × Tree} (λ t. (c, t)) ts ≡ p ∷ map {B = Repeats × Tree} (λ t. (d, t)) us → ts ≡ p.1 ∷ us
item_step c d p ts us e = sym (trees_of c ts) ∙ ap trees e ∙ ap (λ l. p.1 ∷ l) (trees_of d us)

pub items_end : (c : Repeats) (ts : List Tree) → map {B = Repeats × Tree} (λ t. (c, t)) ts ≡ [] → ts ≡ []
items_end c ts e = sym (trees_of c ts) ∙ ap trees e

-- one member, and those behind it
pub member_step : (c d : Repeats) (k : List ℕ) (p : Part) (ps qs : List (List ℕ × Tree)) → chosen_pairs c ps ≡ (k, p) ∷ chosen_pairs d qs → ps ≡ (k, p.1) ∷ qs
member_step c d k p ps qs e = sym (pairs_of c ps) ∙ ap pairs e ∙ ap (λ l. (k, p.1) ∷ l) (pairs_of d qs)

pub members_end : (c : Repeats) (ps : List (List ℕ × Tree)) → chosen_pairs c ps ≡ [] → ps ≡ []
members_end c ps e = sym (pairs_of c ps) ∙ ap pairs e
