-- What is left of a canonical print, part by part.
use Rattle.std.proofs.Common.{◌≡◌, ℕ, zero, suc, ◌/◌, ◌%◌, ◌<◌, ◌==◌, pos, negsuc, Bool, true, false, List, [], ◌∷◌, ◌++◌, length, if◌then◌else◌, refl, sym, ap, ◌∙◌, append_assoc, append-nil, length-append, arith}
use Rattle.std.specs.Fmt.{digits, digits_onto, digit_glyph, decimal}
use Rattle.sj_text_core.specs.Tree.{Tree, null, boolean, int, text, list, obj, Items, no_items, item, items_from, no_members, member, members_from}
use Rattle.sj_text_core.specs.Print.{quoted, compact, compact_items, compact_members}
use Rattle.sj_text_core.specs.Scalars.{static_tree}
use Rattle.sj_text_core.specs.declared.static_node.StaticNode.{StaticNode}
use Rattle.sj_text_core.specs.declared.static_node.StaticNode.TheVariants as static
use Rattle.sj_text_core.specs.Keep.{keep, keep_items}
use Rattle.sj_text_core.specs.Repeats.{keep_last, keep_last_items}
use Rattle.sj_text_core.specs.declared.repeats.Repeats.{Repeats}
use Rattle.sj_text_core.specs.declared.repeats.Repeats.TheVariants.{First, Last}
use Rattle.sj_canonical.proofs.Picked.{valued, picked-canonical}
use Rattle.sj_canonical.specs.Canonical.{canonical, canonical_items, canonical_by}
use Rattle.sj_canonical.specs.inner.Picks.{picked, AreTexts}
use Rattle.sj_canonical.specs.inner.Walks.{Moves, items_rest, members_rest, open_rest, canonical_rest}
use Rattle.sj_canonical.specs.declared.walk.Open.{Open}

-- no print is empty
onto : (k base : ℕ) (upper : Bool) (n x : ℕ) (acc : List ℕ) → 0 < length (digits_onto k base upper n (x ∷ acc))
onto zero base upper n x acc = omega arith
onto (suc k) base upper n x acc = by_test (n / base == 0) (onto k base upper (n / base) (digit_glyph upper (n % base)) (x ∷ acc))
  where
    by_test : (b : Bool) → 0 < length (digits_onto k base upper (n / base) (digit_glyph upper (n % base) ∷ x ∷ acc))
        → 0 < length (if b then digit_glyph upper (n % base) ∷ x ∷ acc else digits_onto k base upper (n / base) (digit_glyph upper (n % base) ∷ x ∷ acc))
    by_test true h = omega arith
    by_test false h = h

decimal_some : (n : ℕ) → 0 < length (decimal n)
unfolding digits
decimal_some n = by_test (n / 10 == 0)
  where
    by_test : (b : Bool) → 0 < length (if b then digit_glyph false (n % 10) ∷ [] else digits_onto 63 10 false (n / 10) (digit_glyph false (n % 10) ∷ []))
    by_test true = omega arith
    by_test false = onto 63 10 false (n / 10) (digit_glyph false (n % 10)) []

pub compact_some : (t : Tree) → 0 < length (compact t)
compact_some null = omega arith
compact_some (boolean true) = omega arith
compact_some (boolean false) = omega arith
compact_some (int (pos n) c) = decimal_some n
compact_some (int (negsuc n) c) = omega arith
compact_some (text s) = omega arith
compact_some (list no_items) = omega arith
compact_some (list (item t is)) = omega arith
compact_some (obj no_members) = omega arith
compact_some (obj (member k t ms)) = omega arith

pub canonical-static : (c : Repeats) (s : StaticNode) → canonical_by c (static_tree s) ≡ static_tree s
canonical-static First static.Null = refl
canonical-static First (static.Bool b) = refl
canonical-static First (static.I64 n) = refl
canonical-static First (static.U64 n) = refl
canonical-static First (static.I128 n) = refl
canonical-static First (static.U128 n) = refl
canonical-static Last static.Null = refl
canonical-static Last (static.Bool b) = refl
canonical-static Last (static.I64 n) = refl
canonical-static Last (static.U64 n) = refl
canonical-static Last (static.I128 n) = refl
canonical-static Last (static.U128 n) = refl

-- the items, each in canonical form
valued_items : Repeats → List Tree → Items
valued_items c [] = no_items
valued_items c (t ∷ ts) = item (canonical_by c t) (valued_items c ts)

first_items : (ts : List Tree) → canonical_items (keep_items (items_from ts)) ≡ valued_items First ts
unfolding valued_items
first_items [] = refl
first_items (t ∷ ts) = ap (item (canonical (keep t))) (first_items ts)

last_items : (ts : List Tree) → canonical_items (keep_last_items (items_from ts)) ≡ valued_items Last ts
unfolding valued_items
last_items [] = refl
last_items (t ∷ ts) = ap (item (canonical (keep_last t))) (last_items ts)

list-valued : (c : Repeats) (ts : List Tree) → canonical_by c (list (items_from ts)) ≡ list (valued_items c ts)
list-valued First ts = ap list (first_items ts)
list-valued Last ts = ap list (last_items ts)

module _ (c : Repeats) where
  -- behind the first item
  items_rest-more : (ts : List Tree) → items_rest c true ts ≡ compact_items (valued_items c ts) ++ 93 ∷ []
  unfolding valued_items
  items_rest-more [] = refl
  items_rest-more (t ∷ ts) = ap (λ l. 44 ∷ (compact (canonical_by c t) ++ l)) (items_rest-more ts) ∙ ap (λ l. 44 ∷ l) (sym (append_assoc (compact (canonical_by c t)) (compact_items (valued_items c ts)) (93 ∷ [])))

  items-rest : (ts : List Tree) → compact (list (valued_items c ts)) ≡ 91 ∷ items_rest c false ts
  unfolding valued_items
  items-rest [] = refl
  items-rest (t ∷ ts) =
      ap (λ l. 91 ∷ l) (append_assoc (compact (canonical_by c t)) (compact_items (valued_items c ts)) (93 ∷ []) ∙ ap (λ l. compact (canonical_by c t) ++ l) (sym (items_rest-more ts)))

  pub list-rest : (ts : List Tree) → compact (canonical_by c (list (items_from ts))) ≡ 91 ∷ items_rest c false ts
  list-rest ts = ap compact (list-valued c ts) ∙ items-rest ts

  members_rest-more : (ps : List (List ℕ × Tree)) → members_rest c true ps ≡ compact_members (valued c ps) ++ 125 ∷ []
  members_rest-more [] = refl
  members_rest-more (p ∷ ps) =
      ap (λ l. 44 ∷ (quoted p.0 ++ 58 ∷ (compact (canonical_by c p.1) ++ l))) (members_rest-more ps)
      ∙ ap (λ l. 44 ∷ (quoted p.0 ++ 58 ∷ l)) (sym (append_assoc (compact (canonical_by c p.1)) (compact_members (valued c ps)) (125 ∷ [])))
      ∙ ap (λ l. 44 ∷ l) (sym (append_assoc (quoted p.0) (58 ∷ (compact (canonical_by c p.1) ++ compact_members (valued c ps))) (125 ∷ [])))

  members-rest : (ps : List (List ℕ × Tree)) → compact (obj (valued c ps)) ≡ 123 ∷ members_rest c false ps
  members-rest [] = refl
  members-rest (p ∷ ps) =
      ap (λ l. 123 ∷ (quoted p.0 ++ 58 ∷ l)) (append_assoc (compact (canonical_by c p.1)) (compact_members (valued c ps)) (125 ∷ []) ∙ ap (λ l. compact (canonical_by c p.1) ++ l) (sym (members_rest-more ps)))

  pub obj-rest : (ps : List (List ℕ × Tree)) → AreTexts ps → compact (canonical_by c (obj (members_from ps))) ≡ 123 ∷ members_rest c false (picked c ps)
  obj-rest ps h = ap compact (picked-canonical c ps h) ∙ members-rest (picked c ps)

-- bytes that were put
pub moves : (old new part left now : List ℕ) → new ≡ old ++ part → 0 < length part → part ++ now ≡ left → Moves old new left now
moves old new part left now e h f = record { done = part; some = h; put = e; makes = f }

-- and others before
pub moves_behind : (old mid new part left middle now : List ℕ) → mid ≡ old ++ part → left ≡ part ++ middle → Moves mid new middle now → Moves old new left now
moves_behind old mid new part left middle now e f m = record {
  done = part ++ m.done;
  some = omega (arith, m.some, length-append part m.done);
  put = m.put ∙ ap (λ l. l ++ m.done) e ∙ append_assoc old part m.done;
  makes = append_assoc part m.done now ∙ ap (λ l. part ++ l) m.makes ∙ sym f;
}

module _ {I K V : Type 0} (c : Repeats) (items : I → List Tree) (key : K → List ℕ) (tree : V → Tree) where
  pub rest_push : (p : List (Open I K V)) (e : Open I K V) → canonical_rest c items key tree (p ++ e ∷ []) ≡ open_rest c items key tree e ++ canonical_rest c items key tree p
  rest_push [] e = sym (append-nil (open_rest c items key tree e))
  rest_push (x ∷ p) e = ap (λ l. l ++ open_rest c items key tree x) (rest_push p e) ∙ append_assoc (open_rest c items key tree e) (canonical_rest c items key tree p) (open_rest c items key tree x)

  -- a container that was begun and stands on the pile
  pub opened : (p q : List (Open I K V)) (e : Open I K V) (old new whole : List ℕ) (z : ℕ) → q ≡ p ++ e ∷ [] → new ≡ old ++ z ∷ [] → whole ≡ z ∷ open_rest c items key tree e
      → Moves old new (whole ++ canonical_rest c items key tree p) (canonical_rest c items key tree q)
  opened p q e old new whole z f g h =
      moves old new (z ∷ []) (whole ++ canonical_rest c items key tree p) (canonical_rest c items key tree q) g (omega arith)
      (ap (λ l. z ∷ l) (ap (canonical_rest c items key tree) f ∙ rest_push p e) ∙ sym (ap (λ l. l ++ canonical_rest c items key tree p) h))

-- with what is left the bytes are as before
pub moves-whole : (old new left now : List ℕ) → Moves old new left now → new ++ now ≡ old ++ left
moves-whole old new left now m = ap (λ l. l ++ now) m.put ∙ append_assoc old m.done now ∙ ap (λ l. old ++ l) m.makes

pub moves-fewer : (old new left now : List ℕ) → Moves old new left now → length now < length left
moves-fewer old new left now m = omega (arith, m.some, length-append m.done now, ap (λ l. length l) m.makes)

module _ {I K V : Type 0} (c : Repeats) (items : I → List Tree) (key : K → List ℕ) (tree : V → Tree) where
  -- what is left where the container goes back onto the pile, and a part of it comes next
  pub part_next : (p q : List (Open I K V)) (e : Open I K V) (whole before part : List ℕ) → q ≡ p ++ e ∷ [] → whole ≡ before ++ (part ++ open_rest c items key tree e)
      → whole ++ canonical_rest c items key tree p ≡ before ++ (part ++ canonical_rest c items key tree q)
  part_next p q e whole before part f h =
      ap (λ l. l ++ canonical_rest c items key tree p) h ∙ append_assoc before (part ++ open_rest c items key tree e) (canonical_rest c items key tree p)
      ∙ ap (λ l. before ++ l) (append_assoc part (open_rest c items key tree e) (canonical_rest c items key tree p) ∙ ap (λ l. part ++ l) (sym (ap (canonical_rest c items key tree) f ∙ rest_push c items key tree p e)))

-- a key and a colon behind what stands before them
pub keyed : (before name behind : List ℕ) → before ++ (name ++ 58 ∷ behind) ≡ (before ++ (name ++ 58 ∷ [])) ++ behind
keyed before name behind = ap (λ l. before ++ l) (sym (append_assoc name (58 ∷ []) behind)) ∙ sym (append_assoc before (name ++ 58 ∷ []) behind)
