-- What a change in a document makes, and what undoes it. Only private clauses cite it.
use Rattle.std.specs.Prelude.{◌≡◌, ◌<◌, ◌&&◌, ℕ, zero, suc, Bool, true, false, not, List, [], ◌∷◌, map, string_bytes, Option, Some, option_map, unwrap_or, Result, Ok, Err, MatchOption, nat_le, nat_lt, ⊤}
use Rattle.std.specs.Option.{is_some}
use Rattle.std.specs.Vec.{vec_len, vec_capacity}
use Rattle.std.specs.Result.{MatchResult}
use Rattle.std.specs.declared.alloc.AllocError.{AllocError}
use Rattle.sj_text_core.specs.Tree.{Tree, null, list, obj, items_len, Members, no_members, member, members_len}
use Rattle.sj_text_core.specs.Find.{find_member, nth, nth_item}
use Rattle.sj_text_core.specs.declared.refused.Refused.{Refused}
use Rattle.sj_text_core.specs.declared.repeats.Repeats.TheVariants.{First}
use Rattle.sj_object.specs.Rooms.{places}
use Rattle.sj_pointer.specs.Pointed.{token_into, pointed, set_pointed}
use Rattle.sj_document.specs.Document.{document_tree}
use Rattle.sj_document.specs.declared.value.Document.{Document}
use Rattle.sj_document.specs.Items.{insert_at, remove_at}
use Rattle.sj_patch.specs.Patch.{within, onwards, added_in, added, removed_in, removed, or_missing}
use Rattle.sj_patch.specs.inner.Patch.{swapped_in}
use Rattle.sj_text_core.specs.declared.patch_fault.OperationFault.{OperationFault}
use Rattle.sj_text_core.specs.declared.patch_fault.OperationFault.TheVariants.{Missing, Whole}
use Rattle.sj_text_core.specs.inner.Find.{or_null}
use Rattle.sj_patch.specs.declared.error.Refusal.{Refusal}
use Rattle.sj_patch.specs.declared.error.Refusal.TheVariants as refusal
use Rattle.sj_patch.specs.declared.change.Change.{Change}
use Rattle.sj_patch.specs.declared.change.Change.TheVariants as change
use Rattle.sj_patch.specs.declared.change.Done.{Done}
use Rattle.sj_patch.specs.declared.reversal.Reversal.{Reversal}
use Rattle.sj_patch.specs.declared.reversal.Reversal.TheVariants as reversal
use Rattle.sj_patch.specs.declared.gaps.Gap.{Gap}
use Rattle.sj_patch.specs.declared.gaps.Gap.TheVariants as gap
use Rattle.sj_patch.specs.declared.gaps.Gaps.{Gaps}
use Rattle.sj_patch.specs.declared.gaps.Gaps.TheVariants as gaps
use Rattle.sj_patch.specs.declared.steps.Undo.{Undo}
use Rattle.sj_patch.specs.declared.steps.Undo.TheVariants as undo

-- an array without its i-th item, whatever the token
abbrev pub without_item : ℕ → List ℕ → Tree → Result Tree OperationFault
without_item i k (list is) = or_missing (option_map (λ _. list (remove_at i is)) (nth_item i is))
without_item i k _ = Err Missing

-- the members with u under k in front of the i-th, and behind all where there is none
abbrev pub insert_member : ℕ → List ℕ → Tree → Members → Members
insert_member i k u no_members = member k u no_members
insert_member zero k u (member l t ms) = member k u (member l t ms)
insert_member (suc i) k u (member l t ms) = member l t (insert_member i k u ms)

abbrev pub where_so : Bool → Tree → Result Tree OperationFault
where_so true t = Ok t
where_so false t = Err Missing

-- whether what has so many parts takes one more at the i-th place, in room for n
abbrev pub is_placed : ℕ → ℕ → ℕ → Bool
is_placed len n i = nat_lt len n && nat_le i len

-- a member back at its place, whatever the token
abbrev pub member_back : ℕ → ℕ → List ℕ → Tree → List ℕ → Tree → Result Tree OperationFault
member_back n i k u l (obj ms) = where_so (is_placed (members_len ms) n i && not (is_some (find_member k ms))) (obj (insert_member i k u ms))
member_back n i k u l _ = Err Missing

-- an item back at its place, whatever the token
abbrev pub item_back : ℕ → ℕ → Tree → List ℕ → Tree → Result Tree OperationFault
item_back n i u l (list is) = where_so (is_placed (items_len is) n i) (list (insert_at i u is))
item_back n i u l _ = Err Missing

-- v itself
abbrev pub became : Tree → List ℕ → Tree → Result Tree OperationFault
became v k t = Ok v

-- the definition refuses so; a change that wants no memory is not refused for want of it
abbrev pub Refuses : Type 0 → Refusal → Result Tree OperationFault → Type 0
Refuses Wants refusal.OutOfMemory r = Wants
Refuses Wants (refusal.Fault w) r = r ≡ Err w

-- what is left where a change is refused: the tree as it was
abbrev pub or_same : Tree → Result Tree OperationFault → Tree
or_same t (Err w) = t
or_same t (Ok u) = u

-- what is made of the whole document where there are no tokens, and by f in a container where there are
abbrev pub at_tokens : Result Tree OperationFault → (List ℕ → Tree → Result Tree OperationFault) → List (List ℕ) → Tree → Result Tree OperationFault
at_tokens whole f [] u = whole
at_tokens whole f (k ∷ ks) u = within f k ks u

-- what f says of the container to which all tokens but the last lead; f is given the last
abbrev pub seen_within : (List ℕ → Tree → Tree) → List ℕ → List (List ℕ) → Tree → Tree
seen_within f k [] u = f k u
seen_within f k (l ∷ ks) u = or_null (option_map (λ w. seen_within f l ks w) (token_into First k u))

-- what is found, removed, and then added
abbrev pub carried : List (List ℕ) → List (List ℕ) → Tree → Result Tree OperationFault
carried from to t = onwards (removed from t) (λ u. onwards (or_missing (pointed from t)) (λ v. added to v u))

-- steps in a row, the last one first
abbrev pub stepped : {G : Type 0} → (G → Tree → Tree) → List G → Tree → Tree
stepped step [] u = u
stepped step (g ∷ gs) u = step g (stepped step gs u)

-- f in what tokens find; where they find nothing all stays
abbrev pub filled_below : (Tree → Tree) → List (List ℕ) → Tree → Tree
filled_below f ks u = unwrap_or (option_map (λ c. set_pointed ks (f c) u) (pointed ks u)) u

-- a removal that was made, or none
abbrev pub RemovesIf : Bool → List (List ℕ) → Tree → Tree → Type 0
RemovesIf true ks before after = removed ks before ≡ Ok after
RemovesIf false ks before after = after ≡ before

-- so too, and none where memory is refused
abbrev pub RemovesBeside : List (List ℕ) → Tree → Tree → Result Bool AllocError → Type 0
RemovesBeside ks before after r = MatchResult r (λ b. RemovesIf b ks before after) (λ _. after ≡ before)

module _ {T : Type 0} (t : T → List ℕ) where
  -- what an undo makes of a container, at a token, given the value that the change took out
  abbrev pub reversed_in : Reversal T → Tree → List ℕ → Tree → Result Tree OperationFault
  reversed_in reversal.Swap v = swapped_in v
  reversed_in reversal.Out v = removed_in
  reversed_in (reversal.OutItem i) v = without_item i
  reversed_in reversal.Become v = became v
  reversed_in (reversal.MemberBack room i k) v = member_back (places room) i (t k) v
  reversed_in (reversal.ItemBack room i) v = item_back (vec_capacity room) i v

  -- what it takes out of the container; a null where that is nothing
  abbrev pub taken_in : Reversal T → List ℕ → Tree → Tree
  taken_in reversal.Swap k u = or_null (token_into First k u)
  taken_in reversal.Out k u = or_null (token_into First k u)
  taken_in (reversal.OutItem i) k u = or_null (nth i u)
  taken_in reversal.Become k u = u
  taken_in (reversal.MemberBack room i l) k u = null
  taken_in (reversal.ItemBack room i) k u = null

  -- what it makes of the whole document
  abbrev pub reversed_whole : Reversal T → Tree → Result Tree OperationFault
  reversed_whole reversal.Swap v = Err Missing
  reversed_whole reversal.Out v = Err Missing
  reversed_whole (reversal.OutItem i) v = Err Missing
  reversed_whole reversal.Become v = Ok v
  reversed_whole (reversal.MemberBack room i k) v = Err Missing
  reversed_whole (reversal.ItemBack room i) v = Err Missing

  -- the same at tokens of which there may be none
  abbrev pub reversed_at : Reversal T → Tree → List (List ℕ) → Tree → Result Tree OperationFault
  reversed_at r v ks u = at_tokens (reversed_whole r v) (reversed_in r v) ks u

  abbrev pub taken_at : Reversal T → List (List ℕ) → Tree → Tree
  taken_at r [] u = u
  taken_at r (k ∷ ks) u = seen_within (taken_in r) k ks u

  -- an undo in a container answers what it takes out; refused, the tree is as it was
  abbrev pub Reverts : Reversal T → Tree → List ℕ → Tree → Tree → Result (Document T) OperationFault → Type 0
  Reverts r v k before after result =
      MatchResult result (λ taken. (reversed_in r v k before ≡ Ok after) × (document_tree t taken ≡ taken_in r k before)) (λ w. (after ≡ before) × (reversed_in r v k before ≡ Err w))

  -- what a change makes of a container
  abbrev pub change_in : Change T → List ℕ → Tree → Result Tree OperationFault
  change_in (change.Put v) = added_in (document_tree t v)
  change_in change.Take = removed_in
  change_in (change.Swap v) = swapped_in (document_tree t v)
  change_in (change.Undo r v) = reversed_in r (document_tree t v)

  -- what it makes of the whole document
  abbrev pub changed_whole : Change T → Result Tree OperationFault
  changed_whole (change.Put v) = Ok (document_tree t v)
  changed_whole change.Take = Err Whole
  changed_whole (change.Swap v) = Ok (document_tree t v)
  changed_whole (change.Undo r v) = reversed_whole r (document_tree t v)

  abbrev pub change_at : Change T → List (List ℕ) → Tree → Result Tree OperationFault
  change_at c ks u = at_tokens (changed_whole c) (change_in c) ks u

  -- whether a change may want memory
  abbrev pub Wants : Change T → Type 0
  Wants (change.Put v) = ⊤
  Wants change.Take = ⊤
  Wants (change.Swap v) = ⊥
  Wants (change.Undo r v) = ⊥

  abbrev pub IsNoUndo : Change T → Type 0
  IsNoUndo (change.Put v) = ⊤
  IsNoUndo change.Take = ⊤
  IsNoUndo (change.Swap v) = ⊤
  IsNoUndo (change.Undo r v) = ⊥

  -- what is asked of an undo is asked of those of changes, and not of those of undos
  abbrev pub Undoes : Change T → Type 0 → Type 0
  Undoes (change.Put v) Reverts = Reverts
  Undoes change.Take Reverts = Reverts
  Undoes (change.Swap v) Reverts = Reverts
  Undoes (change.Undo r v) Reverts = ⊤

  -- what undoes a put takes the value out; a removal and an undo answer what they took out
  abbrev pub AnswersChange : Change T → List (List ℕ) → Tree → Tree → Done T → Type 0
  AnswersChange (change.Put v) ks before after done = taken_at done.undo ks after ≡ document_tree t v
  AnswersChange change.Take ks before after done = pointed ks before ≡ Some (document_tree t done.taken)
  AnswersChange (change.Swap v) ks before after done = ⊤
  AnswersChange (change.Undo r v) ks before after done = document_tree t done.taken ≡ taken_at r ks before

  -- what a change at tokens made: the tree afterwards, and an undo that gives the tree back
  pub record Does (c : Change T) (ks : List (List ℕ)) (before after : Tree) (done : Done T) : Type 0 where
    pub made : change_at c ks before ≡ Ok after
    pub undo : Undoes c (reversed_at done.undo (document_tree t done.taken) ks after ≡ Ok before)
    pub answer : AnswersChange c ks before after done

  -- refused, the tree is as it was
  abbrev pub Changes : Change T → List (List ℕ) → Tree → Tree → Result (Done T) Refusal → Type 0
  Changes c ks before after r =
      MatchResult r (λ done. Does c ks before after done) (λ e. (after ≡ before) × Refuses (Wants c) e (change_at c ks before))

  -- a refusal hands back what was to be put
  abbrev pub Returns : Change T → Document T → Type 0
  Returns (change.Put v) back = back ≡ v
  Returns change.Take back = ⊤
  Returns (change.Swap v) back = ⊤
  Returns (change.Undo r v) back = ⊤

  abbrev pub ChangesOrReturns : Change T → List (List ℕ) → Tree → Tree → Result (Done T) (Refused Refusal (Document T)) → Type 0
  ChangesOrReturns c ks before after r =
      MatchResult r (λ done. Does c ks before after done) (λ e. (after ≡ before) × (Refuses (Wants c) e.why (change_at c ks before) × Returns c e.value))

  -- a change of the whole document wants no memory
  abbrev pub ChangesWhole : Change T → Tree → Tree → Result (Done T) OperationFault → Type 0
  ChangesWhole c before after r = MatchResult r (λ done. Does c [] before after done) (λ w. (after ≡ before) × (changed_whole c ≡ Err w))

  -- the tree after an undo; the tree itself where it is refused
  abbrev pub undone_at : Reversal T → Tree → List (List ℕ) → Tree → Tree
  undone_at r v ks u = or_same u (reversed_at r v ks u)

  -- the tree after a gap is filled with what was taken out of u, where that left a tree
  abbrev pub refilled : Reversal T → List (List ℕ) → Tree → Tree → Result Tree OperationFault → Tree
  refilled gap from taken u (Err e) = u
  refilled gap from taken u (Ok w) = undone_at gap taken from w

  -- a member back at its place, where it has one
  abbrev pub member_step : ℕ → ℕ × T × Document T → Tree → Tree
  member_step n g u = or_same u (member_back n g.0 (t g.1) (document_tree t g.2) [] u)

  -- an item back at its place, where it has one
  abbrev pub item_step : ℕ → ℕ × Document T → Tree → Tree
  item_step n g u = or_same u (item_back n g.0 (document_tree t g.1) [] u)

  -- items that were taken out one after another, back at their places, the last one first
  abbrev pub items_filled : ℕ → List (ℕ × Document T) → Tree → Tree
  items_filled n gs u = stepped (item_step n) gs u

  -- gaps filled, the last one first
  abbrev pub gaps_filled : Gaps T → Tree → Tree
  gaps_filled (gaps.Members room taken) u = stepped (member_step (places room)) taken.items u
  gaps_filled (gaps.Items room taken) u = items_filled (vec_capacity room) taken.items u

  -- a gap filled beside others
  abbrev pub gap_filled : Gaps T → Gap T → Tree → Tree
  gap_filled (gaps.Members room taken) (gap.Member i k v) u = member_step (places room) (i, k, v) u
  gap_filled (gaps.Items room taken) (gap.Item i v) u = item_step (vec_capacity room) (i, v) u
  gap_filled _ _ u = u

  -- the gap is of their kind
  abbrev pub IsGapOf : Gaps T → Gap T → Type 0
  IsGapOf (gaps.Members room taken) (gap.Member i k v) = ⊤
  IsGapOf (gaps.Items room taken) (gap.Item i v) = ⊤
  IsGapOf _ _ = ⊥

  -- they do in a container what the reversal does alone
  abbrev pub IsFirstGap : Reversal T → Document T → Gaps T → Type 0
  IsFirstGap r v gs = (k : List ℕ) (u : Tree) → gaps_filled gs u ≡ or_same u (reversed_in r (document_tree t v) k u)

  -- one more has a place among them
  abbrev pub HasPlace : Gaps T → Type 0
  HasPlace (gaps.Members room taken) = vec_len taken < vec_capacity taken
  HasPlace (gaps.Items room taken) = vec_len taken < vec_capacity taken

  -- what was taken out at a token goes back in the room of the gaps
  abbrev pub Takes : Gaps T → List ℕ → Tree → Tree → Gap T → Type 0
  Takes (gaps.Members room taken) k before after (gap.Member i l v) = Does change.Take (k ∷ []) before after (record { undo = reversal.MemberBack room i l; taken = v })
  Takes (gaps.Items room taken) k before after (gap.Item i v) = Does change.Take (k ∷ []) before after (record { undo = reversal.ItemBack room i; taken = v })
  Takes _ k before after g = ⊥

  abbrev pub TakesBeside : Gaps T → List ℕ → Tree → Tree → Option (Gap T) → Type 0
  TakesBeside gs k before after o = MatchOption o (after ≡ before) (λ g. Takes gs k before after g)

  abbrev pub undo_one : Undo T → Tree → Tree
  undo_one (undo.Change tokens r v) u = undone_at r (document_tree t v) (map string_bytes tokens.now) u
  undo_one (undo.Move from gap path r v) u =
      refilled gap (map string_bytes from.now) (taken_at r (map string_bytes path.now) u) u (reversed_at r (document_tree t v) (map string_bytes path.now) u)
  undo_one (undo.Gaps path gs) u = filled_below (gaps_filled gs) (map string_bytes path.now) u

  -- undone from the last to the first
  abbrev pub undone : List (Undo T) → Tree → Tree
  undone [] u = u
  undone (x ∷ xs) u = undo_one x (undone xs u)
