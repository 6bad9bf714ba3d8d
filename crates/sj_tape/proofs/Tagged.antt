-- Look-ups by key that pass members by their tags.
use Rattle.std.proofs.Common.{◌≡◌, ◌==◌, ℕ, zero, suc, ◌+◌, ◌<◌, ◌≤◌, Bool, true, false, List, length, take, drop, get_or, bytes_eq, refl, sym, ap, ◌∙◌, arith}
use Rattle.std.proofs.lemmas.List.{drop_more}
use Rattle.std.proofs.lemmas.Slice.Eq.{bytes_eq-Decides}
use Rattle.std.proofs.lemmas.Bool.{eq-eqb, or_parts}
use Rattle.sj_text_core.specs.Find.{find_member}
use Rattle.sj_text_core.specs.Repeats.{visited}
use Rattle.sj_text_core.specs.Tree.{members_len}
use Rattle.sj_text_core.specs.Nodes.{Mark, members_in}
use Rattle.sj_text_core.specs.inner.Nodes.{AreMembers}
use Rattle.sj_tape.specs.inner.Ahead.{members_at}
use Rattle.sj_tape.specs.inner.Tags.{AreTags, member_node, key_tag, tag, has_tag}
use Rattle.sj_tape.proofs.Ahead.{next_at, at_next, find_pass, visit_pass}

other_key : (k key : List ℕ) (u : ℕ) (b : Bool) → bytes_eq k key ≡ b → u ≡ tag key → (u == tag k) ≡ false → b ≡ false
other_key k key u true d its e = absurd (let f : true ≡ false = sym (eq-eqb u (tag k) (its ∙ ap tag (sym ((bytes_eq-Decides k key).0 d)))) ∙ e in cc)
other_key k key u false d its e = refl

-- a look-up from one position on is one from another, where none between has the key
pub record Passes (ns : List Mark) (k : List ℕ) (i j : ℕ) : Type 0 where
  pub found : find_member k (members_at ns (member_node ns j)) ≡ find_member k (members_at ns (member_node ns i))
  pub fewer : visited k (members_at ns (member_node ns j)) ≤ visited k (members_at ns (member_node ns i))

module _ (ns : List Mark) (k : List ℕ) (tags : List ℕ) (are : AreMembers ns) (some : length tags ≤ members_len (members_in ns)) (tagged : AreTags ns tags) where
  pass_one : (i : ℕ) → i < length tags → (get_or tags i 0 == tag k) ≡ false → Passes ns k i (i + 1)
  pass_one i l e =
      let m = next_at ns are i (omega (arith, l, some)) in
      let other : bytes_eq k m.key ≡ false = other_key k m.key (get_or tags i 0) (bytes_eq k m.key) refl (tagged i l ∙ ap key_tag m.text) e in
      let there = at_next ns i (member_node ns i) refl in
      record {
        found = ap (λ p. find_member k (members_at ns p)) (sym there) ∙ sym (find_pass k m.key _ _ _ m.members other);
        fewer = omega (arith, ap (λ p. visited k (members_at ns p)) there, visit_pass k m.key _ _ _ m.members other);
      }

  pub pass_some : (n i : ℕ) → i + n ≤ length tags → has_tag (tag k) (take n (drop i tags)) ≡ false → Passes ns k i (i + n)
  pass_some zero i l e =
      let here : i + 0 ≡ i = omega arith in
      record {
        found = ap (λ j. find_member k (members_at ns (member_node ns j))) here;
        fewer = omega (arith, ap (λ j. visited k (members_at ns (member_node ns j))) here);
      }
  pass_some (suc n) i l e =
      let both = or_parts (get_or tags i 0 == tag k) (has_tag (tag k) (take n (drop (i + 1) tags))) (ap (λ ts. has_tag (tag k) (take (suc n) ts)) (sym (drop_more tags i 0 (omega (arith, l)))) ∙ e) in
      let one = pass_one i (omega (arith, l)) both.0 in
      let others = pass_some n (i + 1) (omega (arith, l)) both.1 in
      let end : i + suc n ≡ i + 1 + n = omega arith in
      record {
        found = ap (λ j. find_member k (members_at ns (member_node ns j))) end ∙ others.found ∙ one.found;
        fewer = omega (arith, one.fewer, others.fewer, ap (λ j. visited k (members_at ns (member_node ns j))) end);
      }
