-- Items and members as lists.
use Rattle.std.proofs.Common.{◌≡◌, ℕ, List, [], ◌∷◌, map, refl, ap, suc, Some, option_map, IsTrue, ◌↔◌, nat_eq, true≢false, sym, ◌∙◌}
use Rattle.std.proofs.Math.Dec.{eqb-suc-zero}
use Rattle.sj_text_core.specs.Tree.{Tree, null, boolean, int, text, list, obj, Items, no_items, item, items_from, items_len, members_len, Members, no_members, member, listed, paired}
use Rattle.sj_text_core.specs.Keep.{keep_items}
use Rattle.sj_text_core.specs.Repeats.{keep_by, keep_last_items}
use Rattle.sj_text_core.specs.Reads.{as_items}
use Rattle.sj_text_core.specs.declared.repeats.Repeats.{Repeats}
use Rattle.sj_text_core.specs.declared.repeats.Repeats.TheVariants.{First, Last}
use Rattle.sj_tape.specs.Members.{chosen_pairs}
use Rattle.sj_object.specs.Entries.{Entry, entries_of, entry_texts, keys, values}
use Rattle.sj_object.specs.Members.{entry_members}
use Rattle.sj_lazy.specs.Value.{Form, of_tape, of_lent}

pub listed-from : (ts : List Tree) → listed (items_from ts) ≡ ts
listed-from [] = refl
listed-from (t ∷ ts) = ap (λ l. t ∷ l) (listed-from ts)

pub paired-members : {K V : Type 0} (t : K → List ℕ) (f : V → Tree) (ps : List (K × V)) → map (λ (p : K × V). (t p.0, f p.1)) ps ≡ paired (entry_members f (entries_of t ps))
paired-members t f [] = refl
paired-members t f (p ∷ ps) = ap (λ l. (t p.0, f p.1) ∷ l) (paired-members t f ps)

pub no_items-empty : (is : Items) → IsTrue (nat_eq (items_len is) 0) ↔ (is ≡ no_items)
no_items-empty no_items = (λ e. refl, λ e. refl)
no_items-empty (item t is) = (λ e. absurd (true≢false (sym e ∙ eqb-suc-zero _)), λ e. cc)

pub no_members-empty : (ms : Members) → IsTrue (nat_eq (members_len ms) 0) ↔ (ms ≡ no_members)
no_members-empty no_members = (λ e. refl, λ e. refl)
no_members-empty (member k t ms) = (λ e. absurd (true≢false (sym e ∙ eqb-suc-zero _)), λ e. cc)

-- the same, each with the form and the choice of a lent document
pub parts-items : {A : Type 0} (f : A → Tree) (vs : List A) → map {B = Form × (Repeats × Tree)} (λ v. (of_lent, (First, f v))) vs ≡ map (λ t. (of_lent, (First, t))) (listed (items_from (map f vs)))
parts-items f [] = refl
parts-items f (v ∷ vs) = ap (λ (l : List (Form × (Repeats × Tree))). (of_lent, (First, f v)) ∷ l) (parts-items f vs)

pub parts-members : {K V : Type 0} (t : K → List ℕ) (f : V → Tree) (ps : List (K × V))
    → map {B = List ℕ × (Form × (Repeats × Tree))} (λ (p : K × V). (t p.0, (of_lent, (First, f p.1)))) ps ≡ map (λ (p : List ℕ × (Repeats × Tree)). (p.0, (of_lent, p.1))) (chosen_pairs First (paired (entry_members f (entries_of t ps))))
parts-members t f [] = refl
parts-members t f (p ∷ ps) = ap (λ (l : List (List ℕ × (Form × (Repeats × Tree)))). (t p.0, (of_lent, (First, f p.1))) ∷ l) (parts-members t f ps)

-- and with those of a part of a tape
pub formed-items : (c : Repeats) (ts : List Tree) → map {B = Form × (Repeats × Tree)} (λ (p : Repeats × Tree). (of_tape, p)) (map (λ t. (c, t)) ts) ≡ map (λ t. (of_tape, (c, t))) ts
formed-items c [] = refl
formed-items c (t ∷ ts) = ap (λ (l : List (Form × (Repeats × Tree))). (of_tape, (c, t)) ∷ l) (formed-items c ts)

pub formed-values : (ps : List (List ℕ × (Repeats × Tree))) → map {B = Form × (Repeats × Tree)} (λ (p : Repeats × Tree). (of_tape, p)) (map (λ p. p.1) ps) ≡ map (λ p. (of_tape, p.1)) ps
formed-values [] = refl
formed-values (p ∷ ps) = ap (λ (l : List (Form × (Repeats × Tree))). (of_tape, p.1) ∷ l) (formed-values ps)

pub keys-texts : {K V : Type 0} (t : K → List ℕ) (ps : List (K × V)) → map t (keys (entries_of t ps)) ≡ entry_texts (entries_of t ps)
keys-texts t [] = refl
keys-texts t (p ∷ ps) = ap (λ l. t p.0 ∷ l) (keys-texts t ps)

pub texts-members : {K V : Type 0} (f : V → Tree) (es : List (Entry K V)) → entry_texts es ≡ map (λ (p : List ℕ × Tree). p.0) (paired (entry_members f es))
texts-members f [] = refl
texts-members f (e ∷ es) = ap (λ l. e.0.1 ∷ l) (texts-members f es)

pub values-members : {K V : Type 0} (f : V → Tree) (es : List (Entry K V)) → map {B = Form × (Repeats × Tree)} (λ v. (of_lent, (First, f v))) (values es) ≡ map (λ (p : List ℕ × (Repeats × Tree)). (of_lent, p.1)) (chosen_pairs First (paired (entry_members f es)))
values-members f [] = refl
values-members f (e ∷ es) = ap (λ (l : List (Form × (Repeats × Tree))). (of_lent, (First, f e.1)) ∷ l) (values-members f es)

items_len-keep : (is : Items) → items_len (keep_items is) ≡ items_len is
items_len-keep no_items = refl
items_len-keep (item t is) = ap suc (items_len-keep is)

items_len-keep_last : (is : Items) → items_len (keep_last_items is) ≡ items_len is
items_len-keep_last no_items = refl
items_len-keep_last (item t is) = ap suc (items_len-keep_last is)

-- what is kept of an array has as many items
pub array_len-keep_by : (c : Repeats) (t : Tree) → option_map items_len (as_items (keep_by c t)) ≡ option_map items_len (as_items t)
array_len-keep_by First (list is) = ap Some (items_len-keep is)
array_len-keep_by First null = refl
array_len-keep_by First (boolean b) = refl
array_len-keep_by First (int n c) = refl
array_len-keep_by First (text s) = refl
array_len-keep_by First (obj ms) = refl
array_len-keep_by Last (list is) = ap Some (items_len-keep_last is)
array_len-keep_by Last null = refl
array_len-keep_by Last (boolean b) = refl
array_len-keep_by Last (int n c) = refl
array_len-keep_by Last (text s) = refl
array_len-keep_by Last (obj ms) = refl
