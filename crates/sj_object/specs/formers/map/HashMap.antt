-- `HashMap` as a type that may hold the type that holds it, by its values.
use Rattle.std.specs.Prelude.{◌≡◌, ℕ, true, List, [], ◌∷◌, map, length, Option, None}
use Rattle.std.proofs.Common.{arith}
use Rattle.std.proofs.lemmas.List.{length-map}
use mathlib.Core.Path.{PathP, refl, sym, ap, ◌∙◌, subst}
use mathlib.Core.HLevel.{is_prop→PathP}
use mathlib.Core.Logic.{inl, inr}
use mathlib.Core.Former.{Former, Count, Row, over, one_more, this, const, pair, or, via, such, list, children}
use base.Stored.{gnil, gcons, coded×, coded_list, coded_ℕ, coded_bool, Coded-set, code_map}
use denote.RattleType.{RattleType}
use denote.Struct.Tuple.{tuple_type}
use denote.Struct.Declared as declared
use denote.HoleLaws.{Alike}
use base.Fml.{ftrue}
use denote.Memory.{part_of}
use denote.RawPtr.{Ptr}
use denote.Sharing.{nothing}
use denote.HolePlaces.{Recodes, struct_places, enum_places, eachs, laid, one_value}
use denote.Hole.Carrier.{listed}
use denote.Hole.Fix as fix
use denote.Param.Weighed.{Weighed, w_pair, w_const, w_list}
use denote.Model.Placed.{held, view_places}
use Rattle.std.specs.formers.vec.Vec as vec
use Rattle.std.specs.contracts.vec.Vec as vec_contracts
use Rattle.std.specs.formers.vec.deque.VecDeque as deque
use Rattle.std.specs.declared.boxed.Box.{Box}
use Rattle.std.specs.contracts.boxed.Box as box
use Rattle.std.specs.declared.alloc.Global.{Global}
use Rattle.std.specs.contracts.alloc.Global as heap
use Rattle.std.specs.contracts.impls.GlobalAllocator.TheImpl.{ghosts}
use Rattle.std.specs.declared.cmp.PartialEq as eq
use Rattle.std.specs.Coded.{coded_option}
use Rattle.sj_object.specs.declared.key.KeyText as text
use Rattle.sj_object.specs.declared.hasher.KeyHasher as hasher
use Rattle.sj_object.specs.Texts.{no_repeats}
use Rattle.sj_object.specs.Entries.{Entry, entry_texts, entries_of}
use Rattle.sj_object.specs.HashMap.{Contents, same_contents}
use Rattle.sj_object.specs.Index.{HasRoom}
use Rattle.sj_object.specs.inner.Index.{HasRoom-prop}
use Rattle.sj_object.specs.Stored.{IsIndexOf, stored_members, pairs_of, buckets_of}
use Rattle.sj_object.specs.inner.Stored.{IsIndexOf-prop}
use Rattle.sj_object.specs.declared.map.index.Table.{Table}
use Rattle.sj_object.specs.declared.map.members.Members.{Members}
use Rattle.sj_object.specs.declared.map.members.Members.TheVariants.{Listed, Ring}
use Rattle.sj_object.specs.declared.map.store.Store.{Store}
use Rattle.sj_object.specs.declared.map.store.Store.TheVariants.{Plain, Hashed}
use Rattle.sj_object.specs.declared.map.store.Hashed.{Hashed as Beside}
use Rattle.sj_object.specs.contracts.map.members.Members as member_contracts
use Rattle.sj_object.specs.contracts.map.store.Store as store_contracts
use Rattle.sj_object.specs.contracts.map.store.Hashed as beside_contracts
use Rattle.sj_object.specs.declared.map.HashMap.TheInside.{Inside}
use Rattle.sj_object.specs.declared.map.HashMap.TheView.{view, invariant}
use Rattle.sj_object.specs.contracts.map.HashMap as C
use Rattle.sj_object.specs.contracts.map.HashMap.TheInside as I

abbrev pub entry : Former {0} → Type 0 → Former {0}
entry g K = pair (const K) g

abbrev pub on_value : {K X Y : Type 0} → (X → Y) → K × X → K × Y
on_value h p = (p.0, h p.1)

-- ---- the value

pub texts-map : {K X Y : Type 0} (h : X → Y) (es : List (Entry K X)) → entry_texts (map (on_value h) es) ≡ entry_texts es
texts-map h [] = refl
texts-map h (e ∷ es) = ap (λ l. e.0.1 ∷ l) (texts-map h es)

-- what entries have to be for so many buckets
abbrev pub Fits : {K X : Type 0} → Option ℕ → List (Entry K X) → Type 0
Fits o es = (no_repeats (entry_texts es) ≡ true) × HasRoom (length es) o

pub Fits-prop : {K X : Type 0} (o : Option ℕ) (es : List (Entry K X)) → IsProp (Fits o es)
Fits-prop o es p q = λ i. (Coded-set coded_bool _ _ p.0 q.0 i, HasRoom-prop (length es) o p.1 q.1 i)

pub Fits-map : {K X Y : Type 0} (o : Option ℕ) (h : X → Y) (es : List (Entry K X)) → Fits o es → Fits o (map (on_value h) es)
Fits-map o h es p = (ap no_repeats (texts-map h es) ∙ p.0, subst (λ n. HasRoom n o) (sym (length-map es (on_value h))) p.1)

-- entries that are the same once seen through h
pub Fits-seen : {K X Y : Type 0} (o : Option ℕ) (h : X → Y) (es : List (Entry K X)) (fs : List (Entry K Y)) → map (on_value h) es ≡ fs → Fits o fs → Fits o es
Fits-seen o h es fs e p = (ap no_repeats (sym (texts-map h es) ∙ ap entry_texts e) ∙ p.0, subst (λ n. HasRoom n o) (sym (ap length e) ∙ length-map es (on_value h)) p.1)

module _ {K S : Type 0} where
  module _ {X Y : Type 0} (m : Contents K X S) where
    abbrev pub holding : (es : List (Entry K Y)) → Fits m.buckets es → Contents K Y S
    holding es ok = record { entries = es; hasher = m.hasher; buckets = m.buckets; distinct = ok.0; room = ok.1 }

    pub Fits-along : (es fs : List (Entry K Y)) (e : es ≡ fs) (p : Fits m.buckets es) (q : Fits m.buckets fs) → PathP (λ i. Fits m.buckets (e i)) p q
    Fits-along es fs e = is_prop→PathP (λ i. Fits m.buckets (e i)) (λ i. Fits-prop m.buckets (e i))

    abbrev pub holding_along : (es fs : List (Entry K Y)) (e : es ≡ fs) (p : Fits m.buckets es) (q : Fits m.buckets fs) → holding es p ≡ holding fs q
    holding_along es fs e p q = λ i. holding (e i) (Fits-along es fs e p q i)

  abbrev pub mapped : {X Y : Type 0} → (X → Y) → Contents K X S → Contents K Y S
  mapped h m = holding m (map (on_value h) m.entries) (Fits-map m.buckets h m.entries (m.distinct, m.room))

abbrev pub fitting : {K X S : Type 0} (m : Contents K X S) → Fits m.buckets m.entries
fitting m = (m.distinct, m.room)

module _ (g : Former {0}) (K S : Type 0) where
  abbrev entries : Former {0}
  entries = list (entry g (K × List ℕ))

  pub fits_got : (X : Type 0) (a : Contents K g.Shape S) (n : Count) (v : Row X (entries.count a.entries n)) → Fits a.buckets (entries.get X a.entries n v).0
  fits_got X a n v = Fits-seen a.buckets (g.shape X) (entries.get X a.entries n v).0 a.entries (λ i. (entries.put-get X a.entries n v i).0) (a.distinct, a.room)

  abbrev pub got : (X : Type 0) (a : Contents K g.Shape S) (n : Count) → Row X (entries.count a.entries n) → Contents K (g.Of X) S × Row X n
  got X a n v = let r : List (Entry K (g.Of X)) × Row X n = entries.get X a.entries n v in (holding a r.0 (fits_got X a n v), r.1)

  pub got-put : (X : Type 0) (m : Contents K (g.Of X) S) (n : Count) (t : Row X n) → got X (mapped (g.shape X) m) n (entries.put X m.entries n t) ≡ (m, t)
  got-put X m n t = λ i. (holding_along m _ _ (λ j. (entries.get-put X m.entries n t j).0) (fitting (got X (mapped (g.shape X) m) n (entries.put X m.entries n t)).0) (fitting m) i, (entries.get-put X m.entries n t i).1)

  pub put-got : (X : Type 0) (a : Contents K g.Shape S) (n : Count) (v : Row X (entries.count a.entries n))
      → ◌≡◌ {A = (b : Contents K g.Shape S) × Row X (entries.count b.entries n)} (mapped (g.shape X) (got X a n v).0, entries.put X (got X a n v).0.entries n (got X a n v).1) (a, v)
  put-got X a n v = λ i. (holding_along a _ _ (λ j. (entries.put-get X a.entries n v j).0) (fitting (mapped (g.shape X) (got X a n v).0)) (fitting a) i, (entries.put-get X a.entries n v i).1)

  pub got-map : (X Y : Type 0) (h : X → Y) (a : Contents K g.Shape S) (n : Count) (v : Row X (entries.count a.entries n))
      → got Y a n (over h (entries.count a.entries n) v) ≡ (mapped (g.map X Y h) (got X a n v).0, over h n (got X a n v).1)
  got-map X Y h a n v = λ i. (holding_along a _ _ (λ j. (entries.get-map X Y h a.entries n v j).0) (fitting (got Y a n (over h (entries.count a.entries n) v)).0) (fitting (mapped (g.map X Y h) (got X a n v).0)) i, (entries.get-map X Y h a.entries n v i).1)

  abbrev pub the_former : Former {0}
  the_former = record {
    Of = λ X. Contents K (g.Of X) S;
    Shape = Contents K g.Shape S;
    count = λ a. entries.count a.entries;
    shape = λ X. mapped (g.shape X);
    put = λ X m. entries.put X m.entries;
    get = got;
    map = λ X Y h. mapped (g.map X Y h);
    get-put = got-put;
    put-get = put-got;
    get-map = got-map;
  }

abbrev pub the_weighed : {g : Former {0}} → Weighed g → (K S : Type 0) → Weighed (the_former g K S)
the_weighed w K S =
    let v = w_list (w_pair (w_const (K × List ℕ)) w) in
    record { weight = λ X μ m. v.weight X μ m.entries; puts = λ X μ m. v.puts X μ m.entries }

pub the_empty : (K S : Type 0) → K → S → Contents K ⊥ S
the_empty K S k s = record { entries = []; hasher = s; buckets = None; distinct = refl; room = omega arith }

abbrev pub the_items : (K S X : Type 0) → Contents K X S → List X
the_items K S X m = map (λ p. p.1) m.entries

values_listed : (K X : Type 0) (ps : List (K × X)) → listed _ (children (list (entry this K)) X ps) ≡ map (λ p. p.1) ps
values_listed K X [] = refl
values_listed K X (p ∷ ps) = ap (λ l. p.1 ∷ l) (values_listed K X ps)

pub the_items_listed : (K S X : Type 0) (m : Contents K X S) → listed _ (children (the_former this K S) X m) ≡ the_items K S X m
the_items_listed K S X m = values_listed (K × List ℕ) X m.entries

-- ---- the fields

entries_of-map : {K X Y : Type 0} (t : K → List ℕ) (h : X → Y) (ps : List (K × X)) → entries_of t (map (on_value h) ps) ≡ map (on_value h) (entries_of t ps)
entries_of-map t h [] = refl
entries_of-map t h (p ∷ ps) = ap (λ l. ((p.0, t p.0), h p.1) ∷ l) (entries_of-map t h ps)

entries_of-held : {K X : Type 0} (t : K → List ℕ) (ps : List (K × X)) → held (list (entry this (K × List ℕ))) X (entries_of t ps) ≡ held (list (entry this K)) X ps
entries_of-held {K} {X} t [] = refl
entries_of-held {K} {X} t (p ∷ ps) = λ i. (one_more (entries_of-held t ps i).0, (p.1, (entries_of-held t ps i).1))

keys-map : {K X Y B : Type 0} (f : K → B) (h : X → Y) (ps : List (K × X)) → map (λ p. f p.0) (map (on_value h) ps) ≡ map (λ p. f p.0) ps
keys-map f h [] = refl
keys-map f h (p ∷ ps) = ap (λ l. f p.0 ∷ l) (keys-map f h ps)

-- ---- what stores the members
module _ (K : Type 0) where
  abbrev list_cells : Former {0}
  list_cells = vec.the_former (entry this K) Global

  abbrev member_cells : Former {0}
  member_cells = or list_cells (deque.the_former (entry this K) Global)

  abbrev split_members : (X : Type 0) → Members K X → member_cells.Of X
  split_members X (Listed v) = inl v
  split_members X (Ring r) = inr r

  abbrev join_members : (X : Type 0) → member_cells.Of X → Members K X
  join_members X (inl v) = Listed v
  join_members X (inr r) = Ring r

  abbrev cells : Former {0}
  cells = or list_cells (pair member_cells (const (Table × (Ptr × Global))))

  abbrev split : (X : Type 0) → Store K X → cells.Of X
  split X (Plain v) = inl v
  split X (Hashed b) = inr (split_members X b.value.members, (b.value.table, (b.ptr, b.alloc)))

  abbrev join : (X : Type 0) → cells.Of X → Store K X
  join X (inl v) = Plain v
  join X (inr c) = Hashed (record { ptr = c.1.1.0; alloc = c.1.1.1; value = record { members = join_members X c.0; table = c.1.0 } })

  -- so many members in the place of those in a box
  abbrev in_box : {X Y : Type 0} → Box (Beside K X) Global → Members K Y → Store K Y
  in_box b m = Hashed (record { ptr = b.ptr; alloc = b.alloc; value = record { members = m; table = b.value.table } })

  join_split_members : (X : Type 0) (m : Members K X) → join_members X (split_members X m) ≡ m
  join_split_members X (Listed v) = refl
  join_split_members X (Ring r) = refl

  split_join_members : (X : Type 0) (c : member_cells.Of X) → split_members X (join_members X c) ≡ c
  split_join_members X (inl v) = refl
  split_join_members X (inr r) = refl

  join-split : (X : Type 0) (s : Store K X) → join X (split X s) ≡ s
  join-split X (Plain v) = refl
  join-split X (Hashed b) = ap (in_box b) (join_split_members X b.value.members)

  split-join : (X : Type 0) (c : cells.Of X) → split X (join X c) ≡ c
  split-join X (inl v) = refl
  split-join X (inr c) = λ i. inr (split_join_members X c.0 i, c.1)

  abbrev store : Former {0}
  store = via cells (λ X. Store K X) split join join-split split-join

module _ {K X Y : Type 0} (h : X → Y) where
  abbrev mapped_members : Members K X → Members K Y
  mapped_members m = join_members K Y ((member_cells K).map X Y h (split_members K X m))

  abbrev stored : Store K X → Store K Y
  stored = (store K).map X Y h

  members-mapped : (m : Members K X) → stored_members (mapped_members m) ≡ map (on_value h) (stored_members m)
  members-mapped (Listed v) = refl
  members-mapped (Ring r) = refl

  pairs-stored : (s : Store K X) → pairs_of (stored s) ≡ map (on_value h) (pairs_of s)
  pairs-stored (Plain v) = refl
  pairs-stored (Hashed b) = members-mapped b.value.members

  buckets-stored : (s : Store K X) → buckets_of (stored s) ≡ buckets_of s
  buckets-stored (Plain v) = refl
  buckets-stored (Hashed b) = refl

  index-stored : (hs : List ℕ) (s : Store K X) → IsIndexOf hs s → IsIndexOf hs (stored s)
  index-stored hs (Plain v) i = i
  index-stored hs (Hashed b) i = i

  index-seen : (hs : List ℕ) (s : Store K X) → IsIndexOf hs (stored s) → IsIndexOf hs s
  index-seen hs (Plain v) i = i
  index-seen hs (Hashed b) i = i

held_of-members : {K X : Type 0} (t : K → List ℕ) (b : Box (Beside K X) Global) (m : Members K X) → held (list (entry this (K × List ℕ))) X (entries_of t (stored_members m)) ≡ held (store K) X (in_box K b m)
held_of-members t b (Listed v) = entries_of-held t v.items
held_of-members t b (Ring r) = entries_of-held t r.items

held_of-store : {K X : Type 0} (t : K → List ℕ) (s : Store K X) → held (list (entry this (K × List ℕ))) X (entries_of t (pairs_of s)) ≡ held (store K) X s
held_of-store t (Plain v) = entries_of-held t v.items
held_of-store t (Hashed b) = held_of-members t b b.value.members

module _ (K S : Type 0) (G : text.Ghosts K) (E : eq.Ghosts K) (H : hasher.Ghosts S) where
  abbrev In : Type 0 → Type 0
  In X = Inside K X S G E H

  -- what a store has to be
  abbrev Sound : {X : Type 0} → Store K X → Type 0
  Sound s = Fits (buckets_of s) (entries_of G.text_of (pairs_of s))

  Sound-prop : {X : Type 0} (s : Store K X) → IsProp (Sound s)
  Sound-prop s = Fits-prop (buckets_of s) (entries_of G.text_of (pairs_of s))

  entries-stored : {X Y : Type 0} (h : X → Y) (s : Store K X) → entries_of G.text_of (pairs_of (stored h s)) ≡ map (on_value h) (entries_of G.text_of (pairs_of s))
  entries-stored h s = ap (entries_of G.text_of) (pairs-stored h s) ∙ entries_of-map G.text_of h (pairs_of s)

  Sound-map : {X Y : Type 0} (h : X → Y) (s : Store K X) → Sound s → Sound (stored h s)
  Sound-map h s p = coe 1 0 (i. Fits (buckets-stored h s i) (entries-stored h s i)) (Fits-map (buckets_of s) h (entries_of G.text_of (pairs_of s)) p)

  Sound-seen : {X Y : Type 0} (h : X → Y) (s : Store K X) → Sound (stored h s) → Sound s
  Sound-seen h s p = Fits-seen (buckets_of s) h (entries_of G.text_of (pairs_of s)) _ refl (coe 0 1 (i. Fits (buckets-stored h s i) (entries-stored h s i)) p)

  seen_members : (X : Type 0) (m : Members K X) → join_members K (Unit {0}) ((member_cells K).shape X (split_members K X m)) ≡ mapped_members (λ x. tt) m
  seen_members X (Listed v) = refl
  seen_members X (Ring r) = refl

  seen_at : (X : Type 0) (s : Store K X) → join K (Unit {0}) ((store K).shape X s) ≡ stored (λ x. tt) s
  seen_at X (Plain v) = refl
  seen_at X (Hashed b) = ap (in_box K b) (seen_members X b.value.members)

  abbrev parts : Former {0}
  parts = such (pair (store K) (const S)) (λ X x. Sound x.0) (λ a. Sound (join K (Unit {0}) a.0)) (λ X x. Sound-prop x.0) (λ a. Sound-prop (join K (Unit {0}) a.0))
      (λ X x p. subst Sound (sym (seen_at X x.0)) (Sound-map (λ x. tt) x.0 p))
      (λ X x q. Sound-seen (λ x. tt) x.0 (subst Sound (seen_at X x.0) q))

  abbrev fields : Former {0}
  fields = via parts In (λ X m. ((m.store, m.hasher), (m.distinct, m.room))) (λ X p. record { store = p.0.0; hasher = p.0.1; distinct = p.1.0; room = p.1.1 }) (λ X m. refl) (λ X p. refl)

module _ (K S : RattleType) (G : text.Ghosts K.Denot) (E : eq.Ghosts K.Denot) (H : hasher.Ghosts S.Denot) (R R' : RattleType) (h : R.Denot → R'.Denot) where
  abbrev pair_of : RattleType → RattleType
  pair_of X = declared.row (tuple_type (K ∷ X ∷ []))

  pair_places : Alike R R' h → Alike (pair_of R) (pair_of R') (on_value h)
  pair_places a = struct_places (tuple_type (K ∷ R ∷ [])) (tuple_type (K ∷ R' ∷ [])) (λ k. k, (h, tt)) _ (λ d. refl) refl ((refl, (λ n. refl, λ n. refl)), (laid _ _ _ a, tt))

  list_places : Alike R R' h → Alike (vec_contracts.the_row (pair_of R) heap.the_row ghosts) (vec_contracts.the_row (pair_of R') heap.the_row ghosts) (vec.mapped (on_value h))
  list_places a = vec.the_places heap.the_row ghosts (pair_of R) (pair_of R') (on_value h) (pair_places a)

  as_members : (d : Members K.Denot R.Denot) → member_contracts.as_values K R' (mapped_members h d) ≡ eachs (member_contracts.enum K R).parts (member_contracts.enum K R').parts ((vec.mapped (on_value h), tt), ((deque.mapped (on_value h), tt), tt)) (member_contracts.as_values K R d)
  as_members (Listed v) = refl
  as_members (Ring r) = refl

  members_places : Alike R R' h → Alike (member_contracts.the_row K R) (member_contracts.the_row K R') (mapped_members h)
  members_places a = enum_places (member_contracts.enum K R) (member_contracts.enum K R') ((vec.mapped (on_value h), tt), ((deque.mapped (on_value h), tt), tt)) (mapped_members h) as_members refl
      ((laid _ _ _ (list_places a), tt), ((laid _ _ _ (deque.the_places heap.the_row ghosts (pair_of R) (pair_of R') (on_value h) (pair_places a)), tt), tt))

  abbrev beside_of : RattleType → RattleType
  beside_of X = beside_contracts.the_row K X

  abbrev beside_mapped : Beside K.Denot R.Denot → Beside K.Denot R'.Denot
  beside_mapped r = record { members = mapped_members h r.members; table = r.table }

  beside_places : Alike R R' h → Alike (beside_of R) (beside_of R') beside_mapped
  beside_places a = struct_places (beside_contracts.the_type K R) (beside_contracts.the_type K R') (mapped_members h, (λ n. n, tt)) _ (λ d. refl) refl
      (laid _ _ _ (members_places a), ((refl, (λ n. refl, λ n. refl)), tt))

  abbrev box_of : RattleType → RattleType
  box_of X = box.the_row X heap.the_row ghosts

  abbrev with_value : {X Y : Type 0} → Box X Global → Y → Box Y Global
  with_value b y = record { ptr = b.ptr; alloc = b.alloc; value = y }

  box_places : {X Y : RattleType} (k : X.Denot → Y.Denot) → Alike X Y k → Alike (box_of X) (box_of Y) (λ b. with_value b (k b.value))
  unfolding part_of
  box_places {X} k a = record {
    mir_same = λ i. (box_of (one_value X (a.mir_same i) (λ _. ftrue) (λ _ _. nothing) gnil)).mir;
    own_same = λ b i. (box_of (one_value X (a.mir_same i) (a.own_same b.value i) (a.shr_same b.value i) gnil)).own_val (with_value b tt);
    shr_same = λ b i. (box_of (one_value X (a.mir_same i) (a.own_same b.value i) (a.shr_same b.value i) gnil)).shr_at (with_value b tt);
  }

  as_stored : (d : Store K.Denot R.Denot) → store_contracts.as_values K R' (stored h d) ≡ eachs (store_contracts.enum K R).parts (store_contracts.enum K R').parts ((vec.mapped (on_value h), tt), ((λ b. with_value b (beside_mapped b.value), tt), tt)) (store_contracts.as_values K R d)
  as_stored (Plain v) = refl
  as_stored (Hashed b) = refl

  store_places : Alike R R' h → Alike (store_contracts.the_row K R) (store_contracts.the_row K R') (stored h)
  store_places a = enum_places (store_contracts.enum K R) (store_contracts.enum K R') ((vec.mapped (on_value h), tt), ((λ b. with_value b (beside_mapped b.value), tt), tt)) (stored h) as_stored refl
      ((laid _ _ _ (list_places a), tt), ((laid _ _ _ (box_places beside_mapped (beside_places a)), tt), tt))

  abbrev hash_by : S.Denot → K.Denot → ℕ
  hash_by s k = H.hash_of s (G.text_of k)

  abbrev hashes : (X : Type 0) → In K.Denot S.Denot G E H X → List ℕ
  hashes X m = map (λ (p : K.Denot × X). hash_by m.hasher p.0) (pairs_of m.store)

  hashes-stored : (s : S.Denot) (m : Store K.Denot R.Denot) → map (λ (p : K.Denot × R'.Denot). hash_by s p.0) (pairs_of (stored h m)) ≡ map (λ (p : K.Denot × R.Denot). hash_by s p.0) (pairs_of m)
  hashes-stored s m = ap (map (λ (p : K.Denot × R'.Denot). hash_by s p.0)) (pairs-stored h m) ∙ keys-map (hash_by s) h (pairs_of m)

  pub the_places : Alike R R' h → Alike (C.the_row K R S G E H) (C.the_row K R' S G E H) ((the_former this K.Denot S.Denot).map R.Denot R'.Denot h)
  the_places a = view_places (fields K.Denot S.Denot G E H) (the_former this K.Denot S.Denot) (λ X. view K.Denot X S.Denot G E H)
      (λ X Y k u. same_contents _ _ (λ i. ((ap (entries_of G.text_of) (pairs-stored k u.store) ∙ entries_of-map G.text_of k (pairs_of u.store)) i, (u.hasher, buckets-stored k u.store i))))
      (λ X u. held_of-store G.text_of u.store)
      R.Denot R'.Denot h (C.the_row K R S G E H).coded (C.the_row K R' S G E H).coded
      (invariant K.Denot R.Denot S.Denot G E H) (invariant K.Denot R'.Denot S.Denot G E H) (λ u. IsIndexOf-prop (hashes R.Denot u) u.store) (λ u. IsIndexOf-prop (hashes R'.Denot u) u.store)
      (λ u k. subst (λ hs. IsIndexOf hs (stored h u.store)) (sym (hashes-stored u.hasher u.store)) (index-stored h (hashes R.Denot u) u.store k))
      (λ u k. index-seen h (hashes R.Denot u) u.store (subst (λ hs. IsIndexOf hs (stored h u.store)) (hashes-stored u.hasher u.store) k))
      (fix.over (I.the_row K R S G E H)) (fix.over (I.the_row K R' S G E H))
      (struct_places (I.the_type K R S G E H) (I.the_type K R' S G E H) (stored h, (λ n. n, tt)) _ (λ d. refl) refl
      (laid _ _ _ (store_places a), ((refl, (λ n. refl, λ n. refl)), tt)))

  pub the_codes_placed : Recodes R R' h → Recodes (C.the_row K R S G E H) (C.the_row K R' S G E H) ((the_former this K.Denot S.Denot).map R.Denot R'.Denot h)
  the_codes_placed e m = ap (λ x. gcons x ((coded× S.coded (coded_option coded_ℕ)).code (m.hasher, m.buckets)))
      (sym (code_map (coded× (coded× K.coded (coded_list coded_ℕ)) R.coded).code (coded× (coded× K.coded (coded_list coded_ℕ)) R'.coded).code (on_value h) (λ x i. gcons ((coded× K.coded (coded_list coded_ℕ)).code x.0) (sym (e x.1) i)) m.entries))
