-- A tree is stored as its preorder.
use Rattle.std.specs.Prelude.{◌≡◌, ◌⊎◌, ℕ, zero, suc, ℤ, Bool, List, [], refl, ⊤}
use Rattle.std.proofs.Common.{inl, inr, ap, ◌∙◌, sym, append-nil}
use Rattle.std.specs.Coded.{Coded, code_by, coded×, coded⊎, coded_ℕ, coded_ℤ, coded_bool, coded_list}
use base.Stored.{coded_unit}
use Rattle.sj_text_core.specs.Tree.{Carrier, i64, u64, i128, u128, Tree}
use Rattle.sj_text_core.specs.Nodes.{Mark, nothing, truth, number, string, array, object, flat, tree_of, first_tree}
use Rattle.sj_text_core.specs.inner.Flat.{trees_of-flat}

abbrev carrier_number : Carrier → ℕ
carrier_number i64 = 0
carrier_number u64 = 1
carrier_number i128 = 2
carrier_number u128 = 3

abbrev numbered_carrier : ℕ → Carrier
numbered_carrier zero = i64
numbered_carrier (suc zero) = u64
numbered_carrier (suc (suc zero)) = i128
numbered_carrier (suc (suc (suc n))) = u128

pub numbered-carrier_number : (c : Carrier) → numbered_carrier (carrier_number c) ≡ c
numbered-carrier_number i64 = refl
numbered-carrier_number u64 = refl
numbered-carrier_number i128 = refl
numbered-carrier_number u128 = refl

abbrev pub carrier_code : Coded Carrier
carrier_code = code_by ℕ coded_ℕ carrier_number numbered_carrier numbered-carrier_number

abbrev MarkParts : Type 0
MarkParts = ⊤ ⊎ (Bool ⊎ ((ℤ × Carrier) ⊎ (List ℕ ⊎ ((ℕ × ℕ) ⊎ (ℕ × ℕ)))))

abbrev parts_of : Mark → MarkParts
parts_of nothing = inl tt
parts_of (truth b) = inr (inl b)
parts_of (number n c) = inr (inr (inl (n, c)))
parts_of (string s) = inr (inr (inr (inl s)))
parts_of (array l n) = inr (inr (inr (inr (inl (l, n)))))
parts_of (object l n) = inr (inr (inr (inr (inr (l, n)))))

abbrev mark_of : MarkParts → Mark
mark_of (inl u) = nothing
mark_of (inr (inl b)) = truth b
mark_of (inr (inr (inl p))) = number p.0 p.1
mark_of (inr (inr (inr (inl s)))) = string s
mark_of (inr (inr (inr (inr (inl p))))) = array p.0 p.1
mark_of (inr (inr (inr (inr (inr p))))) = object p.0 p.1

pub mark_of-parts_of : (m : Mark) → mark_of (parts_of m) ≡ m
mark_of-parts_of nothing = refl
mark_of-parts_of (truth b) = refl
mark_of-parts_of (number n c) = refl
mark_of-parts_of (string s) = refl
mark_of-parts_of (array l n) = refl
mark_of-parts_of (object l n) = refl

abbrev pub mark_code : Coded Mark
mark_code =
    code_by MarkParts (coded⊎ coded_unit (coded⊎ coded_bool (coded⊎ (coded× coded_ℤ carrier_code) (coded⊎ (coded_list coded_ℕ) (coded⊎ (coded× coded_ℕ coded_ℕ) (coded× coded_ℕ coded_ℕ))))))
    parts_of mark_of mark_of-parts_of

pub tree_of-flat : (t : Tree) → tree_of (flat t) ≡ t
tree_of-flat t = ap (λ ns. tree_of ns) (sym (append-nil (flat t))) ∙ ap first_tree (trees_of-flat t [])

abbrev pub tree_code : Coded Tree
tree_code = code_by (List Mark) (coded_list mark_code) flat tree_of tree_of-flat
