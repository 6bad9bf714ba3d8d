-- Steps over the members that begin at a place.
use Rattle.std.proofs.Common.{◌≡◌, ℕ, suc, ◌+◌, ◌<◌, ◌≤◌, Bool, true, false, if◌then◌else◌, List, ◌∷◌, length, take, drop, get_or, Option, Some, None, option_map, bytes_eq, refl, sym, ap, ◌∙◌, subst, arith}
use Rattle.std.proofs.lemmas.List.{length-drop, get_or-drop, drop-drop}
use Rattle.sj_text_core.specs.Tree.{Tree, Members, member, members_len}
use Rattle.sj_text_core.specs.Find.{find_member}
use Rattle.std.specs.Option.{option_or, IfSome}
use Rattle.sj_text_core.specs.Repeats.{visited, find_last_member}
use Rattle.sj_text_core.specs.Nodes.{Mark, nothing, string, width, members_in}
use Rattle.sj_text_core.specs.inner.Nodes.{AreMembers}
use Rattle.sj_text_core.specs.declared.repeats.Repeats.{Repeats}
use Rattle.sj_tape.specs.inner.Ahead.{MembersAhead, members_at, tree_from, part_from}
use Rattle.sj_tape.specs.inner.Fronts.{BeginsTree}
use Rattle.sj_tape.specs.inner.Tags.{member_node}
use Rattle.sj_tape.proofs.MemberPlaces.{member_from, next_member_place}
use Rattle.sj_tape.proofs.Splits.{first_member, next_member, BeginsTree-member, tree_at}

-- where members are left, the node behind the first one's key says where the next one begins
pub record NextAhead (ns : List Mark) (place : ℕ) : Type 0 where
  pub key : List ℕ
  pub behind : place + 1 < length ns
  pub fits : place + 1 + width (get_or ns (place + 1) nothing) ≤ length ns
  pub text : get_or ns place nothing ≡ string key
  pub begins : BeginsTree (drop (place + 1) ns)
  pub members : members_at ns place ≡ member key (tree_from ns (place + 1)) (members_at ns (place + 1 + width (get_or ns (place + 1) nothing)))
  pub next : MembersAhead ns (place + 1 + width (get_or ns (place + 1) nothing))

pub next_ahead : (ns : List Mark) (place : ℕ) → MembersAhead ns place → place < length ns → NextAhead ns place
next_ahead ns place h more =
    let l = drop place ns in
    let long : 0 < length l = omega (arith, more, length-drop place ns) in
    let m = first_member l h.are long in
    let values = drop 1 l in
    let named : l ≡ string m.name ∷ values = m.are ∙ ap (λ (ms : List Mark). string m.name ∷ drop 1 ms) (sym m.are) in
    let there : values ≡ drop (place + 1) ns = drop-drop 1 place ns in
    let begins : BeginsTree (drop (place + 1) ns) = subst BeginsTree there (BeginsTree-member l values m.name h.are named) in
    let t = tree_at (place + 1) ns begins in
    let w = width (get_or ns (place + 1) nothing) in
    let step = next_member l values m.name (drop (place + 1) (take (place + 1 + w) ns)) (drop (place + 1 + w) ns) h.are named t.whole (there ∙ t.all) in
    record {
      key = m.name;
      behind = t.some;
      fits = t.fits;
      text = ap (λ k. get_or ns k nothing) (omega arith) ∙ sym (get_or-drop place ns 0 nothing) ∙ ap (λ (ms : List Mark). get_or ms 0 nothing) named;
      begins = begins;
      members = step.members;
      next = record { inside = t.fits; are = step.rest_are };
    }

-- a node is one text
pub one_text : (m : Mark) (s t : List ℕ) → m ≡ string s → m ≡ string t → s ≡ t
one_text m s t e f = let h : string s ≡ string t = sym e ∙ f in cc

-- look-ups pass a member with another key
pub find_pass : (k key : List ℕ) (t : Tree) (ms rest : Members) → ms ≡ member key t rest → bytes_eq k key ≡ false → find_member k ms ≡ find_member k rest
find_pass k key t ms rest e b = ap (find_member k) e ∙ ap (λ c. if c then Some t else find_member k rest) b

pub visit_pass : (k key : List ℕ) (t : Tree) (ms rest : Members) → ms ≡ member key t rest → bytes_eq k key ≡ false → visited k ms ≡ suc (visited k rest)
visit_pass k key t ms rest e b = ap (visited k) e ∙ ap (λ c. if c then 1 else suc (visited k rest)) b

-- and end at one with their own
pub find_hit : (k key : List ℕ) (t : Tree) (ms rest : Members) → ms ≡ member key t rest → bytes_eq k key ≡ true → find_member k ms ≡ Some t
find_hit k key t ms rest e b = ap (find_member k) e ∙ ap (λ c. if c then Some t else find_member k rest) b

pub visit_hit : (k key : List ℕ) (t : Tree) (ms rest : Members) → ms ≡ member key t rest → bytes_eq k key ≡ true → visited k ms ≡ 1
visit_hit k key t ms rest e b = ap (visited k) e ∙ ap (λ c. if c then 1 else suc (visited k rest)) b

-- of those that are met the last one counts
or_step : (f : Option Tree) (b : Bool) (t : Tree) (tf : ℕ → Tree) (p : ℕ) (last : Option ℕ) → t ≡ tf p → option_or f (option_map tf (if b then Some p else last)) ≡ option_or (option_or f (if b then Some t else None)) (option_map tf last)
or_step (Some u) b t tf p last e = refl
or_step None true t tf p last e = ap Some (sym e)
or_step None false t tf p last e = refl

pub last_pass : (k key : List ℕ) (t : Tree) (ms rest : Members) (b : Bool) (tf : ℕ → Tree) (p : ℕ) (last : Option ℕ) → ms ≡ member key t rest → b ≡ bytes_eq k key → t ≡ tf p
    → option_or (find_last_member k rest) (option_map tf (if b then Some p else last)) ≡ option_or (find_last_member k ms) (option_map tf last)
last_pass k key t ms rest b tf p last e is same =
    or_step (find_last_member k rest) b t tf p last same ∙ ap (λ c. option_or (option_or (find_last_member k rest) (if c then Some t else None)) (option_map tf last)) is ∙ ap (λ l. option_or (find_last_member k l) (option_map tf last)) (sym e)

by_later : (b : Bool) (p : ℕ) (last : Option ℕ) (P : ℕ → Type 0) → P p → IfSome last P → IfSome (if b then Some p else last) P
by_later true p last P h i = h
by_later false p last P h i = i

pub later_holds : (r : Option ℕ) (b : Bool) (p : ℕ) (last : Option ℕ) (P : ℕ → Type 0) → r ≡ (if b then Some p else last) → P p → IfSome last P → IfSome r P
later_holds r b p last P e h i = subst (λ o. IfSome o P) (sym e) (by_later b p last P h i)

-- a member begins where the widths in front of it end
pub at_ahead : (ns : List Mark) → AreMembers ns → (i : ℕ) → i ≤ members_len (members_in ns) → MembersAhead ns (member_node ns i)
at_ahead ns a i l = let m = member_from ns a i l in record { inside = m.inside; are = m.are }

pub at_more : (ns : List Mark) → AreMembers ns → (i : ℕ) → i < members_len (members_in ns) → member_node ns i < length ns
at_more ns a i l = omega (arith, (next_member_place ns i (member_node ns i) (member_from ns a i (omega (arith, l))) l).behind)

pub next_at : (ns : List Mark) → AreMembers ns → (i : ℕ) → i < members_len (members_in ns) → NextAhead ns (member_node ns i)
next_at ns a i l = next_ahead ns (member_node ns i) (at_ahead ns a i (omega (arith, l))) (at_more ns a i l)

pub at_next : (ns : List Mark) (i p : ℕ) → p ≡ member_node ns i → p + 1 + width (get_or ns (p + 1) nothing) ≡ member_node ns (i + 1)
unfolding member_node
at_next ns i p e = let n : suc i ≡ i + 1 = omega arith in ap (λ q. q + 1 + width (get_or ns (q + 1) nothing)) e ∙ ap (member_node ns) n

-- what is found, with a choice
pub parts_there : (c : Repeats) (ns : List Mark) (o : Option ℕ) (f : Option Tree) → option_map (tree_from ns) o ≡ f → option_map (part_from c ns) o ≡ option_map (λ (t : Tree). (c, t)) f
parts_there c ns None f e = ap (λ (o : Option Tree). option_map (λ (t : Tree). (c, t)) o) e
parts_there c ns (Some p) f e = ap (λ (o : Option Tree). option_map (λ (t : Tree). (c, t)) o) e

pub first_at : (ns : List Mark) → 0 ≡ member_node ns 0
unfolding member_node
first_at ns = refl
