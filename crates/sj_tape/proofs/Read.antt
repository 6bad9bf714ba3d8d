-- A typed read of what was found under a key.
use Rattle.std.proofs.Common.{◌≡◌, Option, Some, None, option_map, Result, Ok, Err, refl, sym, ap, ◌∙◌, true≢false}
use Rattle.std.specs.Result.{IsErr, IsErrAnd, result_map_both}
use Rattle.sj_text_core.specs.Tree.{Tree}
use Rattle.sj_text_core.specs.Reads.{as_members, kind_of, found_in, read_as, some_as, member_read_in, try_member_as}
use Rattle.sj_text_core.specs.declared.value_type.ValueType.{ValueType}
use Rattle.sj_text_core.specs.declared.value_type.ValueType.TheVariants as kind
use Rattle.sj_text_core.specs.declared.value_type.TryTypeError.{TryTypeError}

module _ {P A : Type 0} (read : Tree → Option A) (expected got : ValueType) where
  none_read : (m : Option P) (found : Option Tree) → Ok None ≡ found_in m got found → Ok None ≡ member_read_in read expected m got found
  none_read None found e = cc
  none_read (Some ms) None e = refl
  none_read (Some ms) (Some u) e = cc

  some_read : (m : Option P) (found : Option Tree) (u : Tree) → Ok (Some u) ≡ found_in m got found → some_as (read u) expected (kind_of u) ≡ member_read_in read expected m got found
  some_read None found u e = cc
  some_read (Some ms) None u e = cc
  some_read (Some ms) (Some v) u e = let s : u ≡ v = cc in ap (λ u. some_as (read u) expected (kind_of u)) s

there_as : {A : Type 0} (o : Option A) (x : A) (expected got : ValueType) → Ok x ≡ read_as o expected got → Ok (Some x) ≡ some_as o expected got
there_as None x expected got e = cc
there_as (Some y) x expected got e = let s : x ≡ y = cc in ap (λ x. Ok (Some x)) s

pub no_object : {P A : Type 0} (read : Tree → Option A) (expected got : ValueType) (m : Option P) (found : Option Tree) (e : TryTypeError) → Err e ≡ found_in m got found → Err e ≡ member_read_in read expected m got found
no_object read expected got None found e h = let s : e ≡ record { expected = kind.Object; got = got } = cc in ap Err s
no_object read expected got (Some ms) found e h = cc

not_there_as : {A : Type 0} (o : Option A) (e : TryTypeError) (expected got : ValueType) → Err e ≡ read_as o expected got → Err e ≡ some_as o expected got
not_there_as None e expected got h = let s : e ≡ record { expected = expected; got = got } = cc in ap Err s
not_there_as (Some x) e expected got h = cc

pub fault_is : {A E : Type 0} (r : Result A E) (x : E) → IsErr r × IsErrAnd r (λ e. e ≡ x) → r ≡ Err x
fault_is (Ok a) x h = absurd (true≢false (sym h.0))
fault_is (Err e) x h = ap Err h.1

-- what is read of the member that was found in the whole, or of none
module _ {A : Type 0} (read : Tree → Option A) (expected : ValueType) (whole : Tree) (found : Option Tree) where
  pub reads_none : {V : Type 0} {o : Option V} → o ≡ None → (tree : V → Tree) → Ok (option_map tree o) ≡ found_in (as_members whole) (kind_of whole) found → Ok None ≡ try_member_as read expected whole found
  reads_none is tree f = none_read read expected (kind_of whole) (as_members whole) found (ap (λ o. Ok (option_map tree o)) (sym is) ∙ f)

  pub reads_there : {V : Type 0} {o : Option V} (v : V) (x : A) → o ≡ Some v → (tree : V → Tree) → Ok (option_map tree o) ≡ found_in (as_members whole) (kind_of whole) found
      → Ok x ≡ read_as (read (tree v)) expected (kind_of (tree v)) → Ok (Some x) ≡ try_member_as read expected whole found
  reads_there v x is tree f e =
      there_as (read (tree v)) x expected (kind_of (tree v)) e ∙ some_read read expected (kind_of whole) (as_members whole) found (tree v) (ap (λ o. Ok (option_map tree o)) (sym is) ∙ f)

  -- a fault that is passed on
  module _ {B : Type 0} (r : Result (Option B) TryTypeError) (e : TryTypeError) (faults : IsErr r × IsErrAnd r (λ f. f ≡ e)) (shown : B → A) where
    pub reads_no_object : Err e ≡ found_in (as_members whole) (kind_of whole) found → result_map_both (option_map shown) (λ e. e) r ≡ try_member_as read expected whole found
    reads_no_object n = ap (result_map_both (option_map shown) (λ e. e)) (fault_is r e faults) ∙ no_object read expected (kind_of whole) (as_members whole) found e n

    pub reads_other : {V : Type 0} {o : Option V} (v : V) → o ≡ Some v → (tree : V → Tree) → Ok (option_map tree o) ≡ found_in (as_members whole) (kind_of whole) found
        → Err e ≡ read_as (read (tree v)) expected (kind_of (tree v)) → result_map_both (option_map shown) (λ e. e) r ≡ try_member_as read expected whole found
    reads_other v is tree f n =
        ap (result_map_both (option_map shown) (λ e. e)) (fault_is r e faults) ∙ not_there_as (read (tree v)) e expected (kind_of (tree v)) n
        ∙ some_read read expected (kind_of whole) (as_members whole) found (tree v) (ap (λ o. Ok (option_map tree o)) (sym is) ∙ f)
