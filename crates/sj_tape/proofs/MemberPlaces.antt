-- Where the members of an object begin among its nodes.
use Rattle.std.proofs.Common.{◌≡◌, ℕ, zero, suc, ◌+◌, ◌*◌, ◌<◌, ◌≤◌, List, [], ◌∷◌, ◌++◌, length, take, drop, get_or, inl, inr, refl, sym, ap, ◌∙◌, subst, arith, length-append}
use Rattle.std.proofs.lemmas.List.{length-drop, get_or_append_left, get_or-drop, take-append-drop, drop-drop}
use Rattle.std.proofs.Math.Seq.{get_or-append_seam}
use Rattle.std.proofs.lemmas.Bool.{cases_lt}
use Rattle.sj_text_core.proofs.Shapes.{members_from-paired}
use Rattle.sj_text_core.specs.Tree.{Tree, members_len, members_from, paired}
use Rattle.sj_text_core.specs.Nodes.{Mark, nothing, string, width, flat_members, members_in, tree_of}
use Rattle.sj_text_core.specs.inner.Nodes.{AreMembers}
use Rattle.sj_tape.specs.inner.Tags.{MembersFrom, AreTags, AreMemberPlaces, member_node, key_tag}
use Rattle.sj_tape.proofs.Compared.{length-paired}
use Rattle.sj_tape.proofs.Splits.{first_width, first_member, next_member, members_len-le, BeginsTree-member}

pub first_members : (ns : List Mark) → AreMembers ns → MembersFrom ns 0 0
first_members ns a = record { inside = omega arith; are = a; members = refl }

has_member : (ns : List Mark) (i place : ℕ) → MembersFrom ns i place → i < members_len (members_in ns) → 0 < length (drop place ns)
has_member ns i place h more =
    let l = drop place ns in
    let left : 0 < members_len (members_in l) =
    omega (arith, more, ap (λ (ps : List (List ℕ × Tree)). length ps) h.members, length-drop i (paired (members_in ns)), length-paired (members_in ns), length-paired (members_in l)) in
    omega (arith, left, members_len-le (members_in l), ap (λ (ms : List Mark). length ms) h.are)

-- where members are left, the node behind the first one's key says where the next one begins
pub record NextMemberPlace (ns : List Mark) (i place : ℕ) : Type 0 where
  pub key : List ℕ
  pub value : Tree
  pub behind : place + 1 < length ns
  pub fits : place + 1 + width (get_or ns (place + 1) nothing) ≤ length ns
  pub text : get_or ns place nothing ≡ string key
  pub first : drop i (paired (members_in ns)) ≡ (key, value) ∷ drop (i + 1) (paired (members_in ns))
  pub next : MembersFrom ns (i + 1) (place + 1 + width (get_or ns (place + 1) nothing))

pub next_member_place : (ns : List Mark) (i place : ℕ) → MembersFrom ns i place → i < members_len (members_in ns) → NextMemberPlace ns i place
next_member_place ns i place h more =
    let l = drop place ns in
    let long = has_member ns i place h more in
    let m = first_member l h.are long in
    let values = drop 1 l in
    let named : l ≡ string m.name ∷ values = m.are ∙ ap (λ (ms : List Mark). string m.name ∷ drop 1 ms) (sym m.are) in
    let first = first_width values (BeginsTree-member l values m.name h.are named) in
    let w = width (get_or values 0 nothing) in
    let step = next_member l values m.name (take w values) (drop w values) h.are named first.whole (sym (take-append-drop w values)) in
    let there : values ≡ drop (place + 1) ns = drop-drop 1 place ns in
    let same : w ≡ width (get_or ns (place + 1) nothing) = ap (λ ms. width (get_or ms 0 nothing)) there ∙ ap width (get_or-drop (place + 1) ns 0 nothing) ∙ ap (λ k. width (get_or ns k nothing)) (omega arith) in
    let rest : drop w values ≡ drop (place + 1 + width (get_or ns (place + 1) nothing)) ns = ap (λ ms. drop w ms) there ∙ drop-drop w (place + 1) ns ∙ ap (λ n. drop (place + 1 + n) ns) same in
    let lens = length-drop (place + 1) ns in
    let many = ap (λ (ms : List Mark). length ms) there in
    let ahead : drop i (paired (members_in ns)) ≡ (m.name, tree_of (take w values)) ∷ paired (members_in (drop w values)) = sym h.members ∙ ap paired step.members in
    let others : drop (i + 1) (paired (members_in ns)) ≡ paired (members_in (drop w values)) = sym (drop-drop 1 i (paired (members_in ns))) ∙ ap (λ (ps : List (List ℕ × Tree)). drop 1 ps) ahead in
    record {
      key = m.name;
      value = tree_of (take w values);
      behind = omega (arith, first.some, many, lens);
      fits = omega (arith, first.some, first.fits, same, many, lens);
      text = ap (λ k. get_or ns k nothing) (omega arith) ∙ sym (get_or-drop place ns 0 nothing) ∙ ap (λ (ms : List Mark). get_or ms 0 nothing) named;
      first = ahead ∙ ap (λ ps. (m.name, tree_of (take w values)) ∷ ps) (sym others);
      next = record {
        inside = omega (arith, first.some, first.fits, same, many, lens);
        are = subst AreMembers rest step.rest_are;
        members = ap (λ ms. paired (members_in ms)) (sym rest) ∙ sym others;
      };
    }

-- a member begins where the widths in front of it end
pub member_from : (ns : List Mark) → AreMembers ns → (i : ℕ) → i ≤ members_len (members_in ns) → MembersFrom ns i (member_node ns i)
unfolding member_node
member_from ns a zero l = first_members ns a
member_from ns a (suc i) l =
    let next = next_member_place ns i (member_node ns i) (member_from ns a i (omega (arith, l))) (omega (arith, l)) in
    subst (λ k. MembersFrom ns k (member_node ns i + 1 + width (get_or ns (member_node ns i + 1) nothing))) (omega arith) next.next

-- a member begins at one place alone
pub one_member_place : (ns : List Mark) (i p q : ℕ) → MembersFrom ns i p → MembersFrom ns i q → p ≡ q
one_member_place ns i p q h k =
    let same : members_in (drop p ns) ≡ members_in (drop q ns) = sym (members_from-paired (members_in (drop p ns))) ∙ ap members_from (h.members ∙ sym k.members) ∙ members_from-paired (members_in (drop q ns)) in
    let long = ap (λ (ms : List Mark). length ms) (h.are ∙ ap flat_members same ∙ sym k.are) in
    omega (arith, long, length-drop p ns, length-drop q ns, h.inside, k.inside)

-- one tag more is kept
pub tagged_with : (ns : List Mark) (tags more : List ℕ) (place t : ℕ) → AreMembers ns → MembersFrom ns (length tags) place → length tags < members_len (members_in ns) → more ≡ tags ++ t ∷ [] → t ≡ key_tag (get_or ns place nothing)
    → AreTags ns tags → AreTags ns more
tagged_with ns tags more place t a h some e is there j l = elim (cases_lt j (length tags)) [
  | inl low ↦ ap (λ ts. get_or ts j 0) e ∙ get_or_append_left tags (t ∷ []) 0 j low ∙ there j low
  | inr high ↦
      let last : j ≡ length tags = omega (arith, l, high, ap (λ (ts : List ℕ). length ts) e, length-append tags (t ∷ [])) in
      let here : place ≡ member_node ns (length tags) = one_member_place ns (length tags) place (member_node ns (length tags)) h (member_from ns a (length tags) (omega (arith, some))) in
      ap (λ ts. get_or ts j 0) e ∙ ap (λ k. get_or (tags ++ t ∷ []) k 0) last ∙ get_or-append_seam tags t [] 0 ∙ is ∙ ap (λ p. key_tag (get_or ns p nothing)) here ∙ ap (λ k. key_tag (get_or ns (member_node ns k) nothing)) (sym last)
]

-- one place more is kept
pub placed_with : (ns : List Mark) (places more : List ℕ) (place : ℕ) → more ≡ places ++ place ∷ [] → place ≡ member_node ns (length places * 64) → AreMemberPlaces ns places → AreMemberPlaces ns more
placed_with ns places more place e here there j l = elim (cases_lt j (length places)) [
  | inl low ↦ ap (λ ps. get_or ps j 0) e ∙ get_or_append_left places (place ∷ []) 0 j low ∙ there j low
  | inr high ↦
      let last : j ≡ length places = omega (arith, l, high, ap (λ (ps : List ℕ). length ps) e, length-append places (place ∷ [])) in
      ap (λ ps. get_or ps j 0) e ∙ ap (λ k. get_or (places ++ place ∷ []) k 0) last ∙ get_or-append_seam places place [] 0 ∙ here ∙ ap (λ k. member_node ns (k * 64)) (sym last)
]
