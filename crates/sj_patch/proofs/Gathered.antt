-- Gaps of a container, filled.
use Rattle.std.proofs.Common.{◌≡◌, ◌≤◌, ◌-◌, ◌&&◌, ◌⊎◌, rules, ℕ, suc, Bool as Boolean, true, false, not, Global, Vec, String as Owned, List, [], ◌∷◌, ◌++◌, length, map, take, string_bytes, Some, Ok, if◌then◌else◌, refl, sym, inl, inr, ap, ◌∙◌, arith}
use Rattle.std.specs.List.{insert}
use Rattle.std.specs.Option.{is_some}
use Rattle.std.specs.Vec.{vec_capacity}
use Rattle.sj_text_core.specs.Tree.{Tree, text, list, obj, Items, items_len, Members, members_len}
use Rattle.sj_document.specs.Document.{document_tree}
use Rattle.sj_text_core.specs.Scalars.{static_tree}
use Rattle.sj_text_core.specs.declared.static_node.StaticNode.{StaticNode}
use Rattle.sj_text_core.specs.declared.static_node.StaticNode.TheVariants.{Null, Bool, I64, U64, I128, U128}
use Rattle.sj_document.specs.declared.value.Document.{Document, Static, String, the_lemmas}
use Rattle.sj_document.proofs.Trees.{tree-Static, is_some-option_map}
use Rattle.sj_document.specs.Items.{insert_at}
use Rattle.std.proofs.lemmas.List.{map-append}
use Rattle.sj_text_core.proofs.Writes.{set_at-same}
use Rattle.sj_pointer.specs.Pointed.{path_of, pointed, set_pointed}
use Rattle.sj_text_core.specs.Find.{find_member}
use Rattle.sj_object.specs.Edits.{lookup}
use Rattle.sj_object.specs.Entries.{Entry}
use Rattle.sj_object.specs.Members.{entry_members}
use Rattle.sj_object.specs.Rooms.{places, takes, restored, restored_all}
use Rattle.sj_object.specs.declared.map.kept_room.Room.{Room}
use Rattle.sj_object.proofs.Shown.{lookup-entry_members, length-members}
use Rattle.sj_patch.specs.Patch.{removed}
use Rattle.sj_document.proofs.Arrays.{items_seen, length-items}
use Rattle.sj_document.proofs.Placed.{items-insert}
use Rattle.sj_patch.specs.inner.Changed.{stepped, filled_below, or_same, is_placed, where_so, insert_member, member_back, item_back, member_step, item_step, items_filled, gaps_filled, gap_filled, IsFirstGap, Takes, reversed_in, reversed_whole, undone_at}
use Rattle.sj_patch.specs.declared.gaps.Gap.{Gap}
use Rattle.sj_patch.specs.declared.gaps.Gap.TheVariants as gap
use Rattle.sj_patch.specs.declared.gaps.Gaps.{Gaps}
use Rattle.sj_patch.specs.declared.gaps.Gaps.TheVariants as gaps
use Rattle.sj_patch.specs.declared.change.Change.TheVariants.{Take}
use Rattle.sj_patch.specs.declared.reversal.Reversal.{Reversal}
use Rattle.sj_patch.specs.declared.reversal.Reversal.TheVariants as reversal
use Rattle.sj_patch.proofs.Within.{changed_below}
use Rattle.sj_patch.proofs.Logged.{take-removed}
use Rattle.sj_patch.proofs.Stepped.{stepped-last, stepped-none, filled-after, filled-last, full}
use Rattle.sj_patch.proofs.Backs.{members-insert, placed-within}

-- whatever the token
pub member_any : (n i : ℕ) (k l m : List ℕ) (v u : Tree) → member_back n i k v l u ≡ member_back n i k v m u
member_any n i k l m v (obj ms) = refl
member_any n i k l m v u = refl

pub item_any : (n i : ℕ) (l m : List ℕ) (v u : Tree) → item_back n i v l u ≡ item_back n i v m u
item_any n i l m v (list is) = refl
item_any n i l m v u = refl

step_by : (b : Boolean) (u w : Tree) → b ≡ true → or_same u (where_so b w) ≡ w
step_by b u w e = ap (λ b. or_same u (where_so b w)) e

stay_by : (b : Boolean) (u w : Tree) → b ≡ false → or_same u (where_so b w) ≡ u
stay_by b u w e = ap (λ b. or_same u (where_so b w)) e

module _ {T : Type 0} (t : T → List ℕ) where
  -- an item with a place
  pub item_placed : (n i : ℕ) (v : Document T) (is : Items) → is_placed (items_len is) n i ≡ true → item_step t n (i, v) (list is) ≡ list (insert_at i (document_tree t v) is)
  item_placed n i v is e = step_by _ (list is) _ e

  -- an item without one
  pub item_unplaced : (n i : ℕ) (v : Document T) (is : Items) → is_placed (items_len is) n i ≡ false → item_step t n (i, v) (list is) ≡ list is
  item_unplaced n i v is e = stay_by _ (list is) _ e

  -- one more item goes back
  pub fill_placed : (n i : ℕ) (v : Document T) (vs ws : List (Document T)) (gs fs : List (ℕ × Document T)) → is_placed (length vs) n i ≡ true → ws ≡ insert vs i v → gs ≡ fs ++ (i, v) ∷ []
      → items_filled t n fs (list (items_seen t ws)) ≡ items_filled t n gs (list (items_seen t vs))
  fill_placed n i v vs ws gs fs q w e =
      let is = items_seen t vs in
      ap (λ l. items_filled t n fs (list (items_seen t l))) w
      ∙ ap (items_filled t n fs) (ap list (items-insert t vs i v (placed-within _ n i q)) ∙ sym (item_placed n i v is (ap (λ m. is_placed m n i) (sym (length-items (document_tree t) vs)) ∙ q)))
      ∙ sym (stepped-last (item_step t n) fs (i, v) (list is)) ∙ ap (λ gs. items_filled t n gs (list is)) (sym e)

  -- one has no place
  pub fill_unplaced : (n i : ℕ) (v : Document T) (vs : List (Document T)) (gs fs : List (ℕ × Document T)) → is_placed (length vs) n i ≡ false → gs ≡ fs ++ (i, v) ∷ []
      → items_filled t n fs (list (items_seen t vs)) ≡ items_filled t n gs (list (items_seen t vs))
  fill_unplaced n i v vs gs fs q e =
      let is = items_seen t vs in
      ap (items_filled t n fs) (sym (item_unplaced n i v is (ap (λ m. is_placed m n i) (sym (length-items (document_tree t) vs)) ∙ q)))
      ∙ sym (stepped-last (item_step t n) fs (i, v) (list is)) ∙ ap (λ gs. items_filled t n gs (list is)) (sym e)

  -- none has a place where all are taken
  pub fill_full : (n : ℕ) (vs : List (Document T)) (gs : List (ℕ × Document T)) → n ≤ length vs → items_filled t n gs (list (items_seen t vs)) ≡ list (items_seen t vs)
  fill_full n vs gs h = stepped-none (item_step t n) gs (list (items_seen t vs)) (λ g. item_unplaced n g.0 g.1 (items_seen t vs) (full _ n g.0 (omega (arith, h, length-items (document_tree t) vs))))

  -- gaps of members are none of an array's, nor those of items an object's
  pub members_in_list : (n : ℕ) (gs : List (ℕ × T × Document T)) (is : Items) → stepped (member_step t n) gs (list is) ≡ list is
  members_in_list n gs is = stepped-none (member_step t n) gs (list is) (λ g. refl)

  pub items_in_object : (n : ℕ) (gs : List (ℕ × Document T)) (ms : Members) → items_filled t n gs (obj ms) ≡ obj ms
  items_in_object n gs ms = stepped-none (item_step t n) gs (obj ms) (λ g. refl)

  none_filled : (gs : Gaps T) (u : Tree) → ((n : ℕ) (g : ℕ × T × Document T) → member_step t n g u ≡ u) → ((n : ℕ) (g : ℕ × Document T) → item_step t n g u ≡ u) → gaps_filled t gs u ≡ u
  none_filled (gaps.Members room taken) u f h = stepped-none (member_step t (places room)) taken.items u (f (places room))
  none_filled (gaps.Items room taken) u f h = stepped-none (item_step t (vec_capacity room)) taken.items u (h (vec_capacity room))

  static_filled : (gs : Gaps T) (s : StaticNode) → gaps_filled t gs (static_tree s) ≡ static_tree s
  static_filled gs Null = none_filled gs (static_tree Null) (λ n g. refl) (λ n g. refl)
  static_filled gs (Bool b) = none_filled gs (static_tree (Bool b)) (λ n g. refl) (λ n g. refl)
  static_filled gs (I64 n) = none_filled gs (static_tree (I64 n)) (λ n g. refl) (λ n g. refl)
  static_filled gs (U64 n) = none_filled gs (static_tree (U64 n)) (λ n g. refl) (λ n g. refl)
  static_filled gs (I128 n) = none_filled gs (static_tree (I128 n)) (λ n g. refl) (λ n g. refl)
  static_filled gs (U128 n) = none_filled gs (static_tree (U128 n)) (λ n g. refl) (λ n g. refl)

  -- a scalar has no gaps
  pub scalar_filled : (gs : Gaps T) (d : Document T) → ((s : StaticNode) × (d ≡ Static s)) ⊎ ((s : T) × (d ≡ String s)) → document_tree t d ≡ gaps_filled t gs (document_tree t d)
  scalar_filled gs d (inl h) = let e = ap (document_tree t) h.1 ∙ tree-Static t h.0 in e ∙ sym (static_filled gs h.0) ∙ ap (gaps_filled t gs) (sym e)
  scalar_filled gs d (inr h) =
      let e : document_tree t d ≡ text (t h.0) = ap (document_tree t) h.1 ∙ search (rules, the_lemmas) in
      e ∙ sym (none_filled gs (text (t h.0)) (λ n g. refl) (λ n g. refl)) ∙ ap (gaps_filled t gs) (sym e)

  -- one that was taken out, filled
  back_by : (gs : Gaps T) (k : List ℕ) (u v : Tree) (g : Gap T) → Takes t gs k u v g → gap_filled t gs g v ≡ u
  back_by (gaps.Members room taken) k u v (gap.Member i l x) h = ap (or_same v) (member_any (places room) i (t l) [] k (document_tree t x) v ∙ h.undo)
  back_by (gaps.Items room taken) k u v (gap.Item i x) h = ap (or_same v) (item_any (vec_capacity room) i [] k (document_tree t x) v ∙ h.undo)
  back_by (gaps.Members room taken) k u v (gap.Item i x) h = absurd h
  back_by (gaps.Items room taken) k u v (gap.Member i l x) h = absurd h

  -- with one more, the gaps filled give what they gave
  pub taken_back : (old new : Gaps T) (ls : List (List ℕ)) (k : List ℕ) (before after u v : Tree) (g : Gap T) → pointed ls before ≡ Some u → after ≡ set_pointed ls v before → Takes t old k u v g
      → ((w : Tree) → gaps_filled t new w ≡ gaps_filled t old (gap_filled t old g w)) → filled_below (gaps_filled t new) ls after ≡ filled_below (gaps_filled t old) ls before
  taken_back old new ls k before after u v g p e h more =
      filled-after (gaps_filled t old) (gaps_filled t new) ls before after u v p e (more v ∙ ap (gaps_filled t old) (back_by old k u v g h))

  -- and it was removed
  pub taken_removed : (gs : Gaps T) (ls : List (List ℕ)) (k : List ℕ) (before after u v : Tree) (g : Gap T) → pointed ls before ≡ Some u → after ≡ set_pointed ls v before → Takes t gs k u v g
      → removed (ls ++ k ∷ []) before ≡ Ok after
  taken_removed (gaps.Members room taken) ls k before after u v (gap.Member i l x) p e h =
      sym (take-removed t (ls ++ k ∷ []) before) ∙ (changed_below t Take ls k before after u v (Ok (record { undo = reversal.MemberBack room i l; taken = x })) p e h).made
  taken_removed (gaps.Items room taken) ls k before after u v (gap.Item i x) p e h =
      sym (take-removed t (ls ++ k ∷ []) before) ∙ (changed_below t Take ls k before after u v (Ok (record { undo = reversal.ItemBack room i; taken = x })) p e h).made
  taken_removed (gaps.Members room taken) ls k before after u v (gap.Item i x) p e h = absurd h
  taken_removed (gaps.Items room taken) ls k before after u v (gap.Member i l x) p e h = absurd h

  -- a removal is the first of several gaps
  pub first_member : (room : Room T (Document T)) (taken : Vec (ℕ × T × Document T) Global) (i : ℕ) (k : T) (v : Document T) → taken.items ≡ (i, k, v) ∷ [] → IsFirstGap t (reversal.MemberBack room i k) v (gaps.Members room taken)
  first_member room taken i k v e l u = ap (λ gs. stepped (member_step t (places room)) gs u) e ∙ ap (or_same u) (member_any (places room) i (t k) [] l (document_tree t v) u)

  pub first_item : (room : Vec (Document T) Global) (taken : Vec (ℕ × Document T) Global) (i : ℕ) (v : Document T) → taken.items ≡ (i, v) ∷ [] → IsFirstGap t (reversal.ItemBack room i) v (gaps.Items room taken)
  first_item room taken i v e l u = ap (λ gs. stepped (item_step t (vec_capacity room)) gs u) e ∙ ap (or_same u) (item_any (vec_capacity room) i [] l (document_tree t v) u)

  -- and fills what the removal left at tokens
  pub gathered_gap : (gs : Gaps T) (r : Reversal T) (v : Document T) (ls : List (List ℕ)) (k : List ℕ) (u : Tree) → IsFirstGap t r v gs → filled_below (gaps_filled t gs) ls u ≡ undone_at t r (document_tree t v) (ls ++ k ∷ []) u
  gathered_gap gs r v ls k u h = filled-last (reversed_whole t r (document_tree t v)) (reversed_in t r (document_tree t v)) (gaps_filled t gs) ls k u (h k)

  -- what a map makes of a member that goes back is what the tree makes of it
  taken_seen : (n i : ℕ) (k : List ℕ) (es : List (Entry T (Document T))) → (is_placed (members_len (entry_members (document_tree t) es)) n i && not (is_some (find_member k (entry_members (document_tree t) es)))) ≡ takes n i k es
  taken_seen n i k es =
      let found : is_some (find_member k (entry_members (document_tree t) es)) ≡ is_some (lookup k es) = ap is_some (sym (lookup-entry_members (document_tree t) k es)) ∙ is_some-option_map (document_tree t) (lookup k es) in
      (λ j. is_placed (sym (length-members (document_tree t) es) j) n i && not (found j))

  placed_of : (a b : Boolean) → a && b ≡ true → a ≡ true
  placed_of true b e = refl
  placed_of false b e = e

  step_seen : (n i : ℕ) (k : T) (v : Document T) (es : List (Entry T (Document T))) (b : Boolean) → takes n i (t k) es ≡ b
      → obj (entry_members (document_tree t) (if b then insert es i ((k, t k), v) else es)) ≡ or_same (obj (entry_members (document_tree t) es)) (where_so b (obj (insert_member i (t k) (document_tree t v) (entry_members (document_tree t) es))))
  step_seen n i k v es true e = ap obj (members-insert (document_tree t) es i ((k, t k), v) (placed-within _ n i (placed_of _ _ e)))
  step_seen n i k v es false e = refl

  restored_seen : (n i : ℕ) (k : T) (v : Document T) (es : List (Entry T (Document T))) → obj (entry_members (document_tree t) (restored n i (k, t k) v es)) ≡ member_step t n (i, k, v) (obj (entry_members (document_tree t) es))
  restored_seen n i k v es =
      let ms = entry_members (document_tree t) es in
      step_seen n i k v es (takes n i (t k) es) refl ∙ ap (λ b. or_same (obj ms) (where_so b (obj (insert_member i (t k) (document_tree t v) ms)))) (sym (taken_seen n i (t k) es))

  -- so too of several
  pub restored_all-seen : (n : ℕ) (gs : List (ℕ × T × Document T)) (es : List (Entry T (Document T))) → obj (entry_members (document_tree t) (restored_all t n gs es)) ≡ stepped (member_step t n) gs (obj (entry_members (document_tree t) es))
  restored_all-seen n [] es = refl
  restored_all-seen n (g ∷ gs) es = restored_seen n g.0 g.1 g.2 (restored_all t n gs es) ∙ ap (member_step t n g) (restored_all-seen n gs es)

-- the last of what is not empty
pub ends : {A : Type 0} (xs : List A) → 1 ≤ length xs → (x : A) × (xs ≡ take (length xs - 1) xs ++ x ∷ [])
ends [] h = absurd (omega (arith, h))
ends (x ∷ []) h = (x, refl)
ends (x ∷ y ∷ xs) h =
    let r = ends (y ∷ xs) (omega arith) in
    let e : length (x ∷ y ∷ xs) - 1 ≡ suc (length (y ∷ xs) - 1) = omega arith in
    (r.0, ap (λ l. x ∷ l) r.1 ∙ ap (λ n. take n (x ∷ y ∷ xs) ++ r.0 ∷ []) (sym e))

-- tokens, as those in front of the last and the last
pub ends_tokens : (xs : List (Owned Global)) → 1 ≤ length xs → (k : List ℕ) × (map string_bytes xs ≡ map string_bytes (take (length xs - 1) xs) ++ k ∷ [])
ends_tokens xs h = let r = ends xs h in (string_bytes r.0, ap (map string_bytes) r.1 ∙ map-append string_bytes (take (length xs - 1) xs) (r.0 ∷ []))

-- where what was found is as it was, all is
pub left_same : (ls : List (List ℕ)) (before after u v : Tree) → pointed ls before ≡ Some u → after ≡ set_pointed ls v before → v ≡ u → after ≡ before
left_same ls before after u v p e q = e ∙ ap (λ x. set_pointed ls x before) q ∙ set_at-same (path_of ls) u before p
