-- Lookups among the members of an object with a choice.
use Rattle.std.proofs.Common.{◌≡◌, ℕ, suc, Bool, true, false, List, [], ◌∷◌, map, length, Option, Some, None, option_map, if◌then◌else◌, bytes_eq, refl, ap, ◌∙◌}
use Rattle.std.specs.Option.{option_or}
use Rattle.sj_text_core.specs.Tree.{Tree, Members, no_members, member, members_len, paired}
use Rattle.sj_text_core.specs.Find.{find_member}
use Rattle.sj_text_core.specs.Repeats.{find_last_member, visited}
use Rattle.sj_text_core.specs.declared.repeats.Repeats.{Repeats}
use Rattle.sj_tape.specs.inner.Lookup.{first_value, last_value, keys_compared}
use Rattle.sj_tape.specs.Members.{chosen_pairs}
use Rattle.sj_tape.specs.Value.{tape_tree, tape_choice, tape_part}
use Rattle.sj_tape.specs.declared.value.Value.{Value}
use Rattle.std.specs.Option.{IfSome, unwrap_or}

module _ (c : Repeats) (k : List ℕ) where
  abbrev with_choice : Option Tree → Option (Repeats × Tree)
  with_choice o = option_map (λ t. (c, t)) o

  first_by : (b : Bool) (t : Tree) (r : Option (Repeats × Tree)) (s : Option Tree) → r ≡ with_choice s → (if b then Some (c, t) else r) ≡ with_choice (if b then Some t else s)
  first_by true t r s e = refl
  first_by false t r s e = e

  pub first_value-chosen : (ms : Members) → first_value k (chosen_pairs c (paired ms)) ≡ with_choice (find_member k ms)
  first_value-chosen no_members = refl
  first_value-chosen (member l t ms) = first_by (bytes_eq k l) t _ _ (first_value-chosen ms)

  or_by : (o : Option Tree) (b : Bool) (t : Tree) → option_or (with_choice o) (if b then Some (c, t) else None) ≡ with_choice (option_or o (if b then Some t else None))
  or_by None true t = refl
  or_by None false t = refl
  or_by (Some u) b t = refl

  pub last_value-chosen : (ms : Members) → last_value k (chosen_pairs c (paired ms)) ≡ with_choice (find_last_member k ms)
  last_value-chosen no_members = refl
  last_value-chosen (member l t ms) = ap (λ o. option_or o (if bytes_eq k l then Some (c, t) else None)) (last_value-chosen ms) ∙ or_by (find_last_member k ms) (bytes_eq k l) t

  pub compared-chosen : (ms : Members) → keys_compared k (chosen_pairs c (paired ms)) ≡ visited k ms
  compared-chosen no_members = refl
  compared-chosen (member l t ms) = ap (λ (n : ℕ). if bytes_eq k l then 1 else suc n) (compared-chosen ms)

  pub length-chosen : (ms : Members) → length (chosen_pairs c (paired ms)) ≡ members_len ms
  length-chosen no_members = refl
  length-chosen (member l t ms) = ap suc (length-chosen ms)

pub keys-chosen : (c : Repeats) (ps : List (List ℕ × Tree)) → map (λ (p : List ℕ × (Repeats × Tree)). p.0) (chosen_pairs c ps) ≡ map (λ (p : List ℕ × Tree). p.0) ps
keys-chosen c [] = refl
keys-chosen c (p ∷ ps) = ap (λ l. p.0 ∷ l) (keys-chosen c ps)

-- what is found, and its choice
pub record Found (c : Repeats) (r : Option Value) (o : Option Tree) : Type 0 where
  pub value : option_map tape_tree r ≡ o
  pub choice_is : IfSome r (λ v. tape_choice v ≡ c)

pub found_by : (c : Repeats) (r : Option Value) (o : Option Tree) → option_map tape_part r ≡ option_map (λ t. (c, t)) o → Found c r o
found_by c None None e = record { value = refl; choice_is = tt }
found_by c None (Some t) e = cc
found_by c (Some v) None e = cc
found_by c (Some v) (Some t) e =
    let f : tape_part v ≡ (c, t) = ap (λ o. unwrap_or o (tape_part v)) e in
    record { value = ap (λ (p : Repeats × Tree). Some p.1) f; choice_is = ap (λ (p : Repeats × Tree). p.0) f }
