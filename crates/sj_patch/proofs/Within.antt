-- A change in the container to which tokens lead.
use Rattle.std.proofs.Common.{◌≡◌, ℕ, List, [], ◌∷◌, ◌++◌, Option, option_and_then, option_map, Some, None, Result, Ok, Err, refl, sym, ap, ◌∙◌, subst}
use Rattle.std.proofs.lemmas.List.{map-append}
use Rattle.sj_text_core.specs.Tree.{Tree}
use Rattle.sj_text_core.specs.Paths.{by_token, set_found, change_found, tree_at}
use Rattle.sj_text_core.specs.declared.repeats.Repeats.TheVariants.{First}
use Rattle.sj_text_core.proofs.Writes.{tree_at-set, set_at-same, set_at-twice, tree_at-join}
use Rattle.sj_pointer.specs.Pointed.{path_of, token_into, pointed, set_pointed}
use Rattle.sj_patch.specs.Patch.{or_missing, onwards}
use Rattle.sj_patch.specs.inner.Changed.{Refuses, Wants, Undoes, AnswersChange, ChangesOrReturns, at_tokens, seen_within, change_in, changed_whole, change_at, taken_in, taken_at}
use Rattle.sj_text_core.specs.declared.refused.Refused.{Refused}
use Rattle.sj_text_core.specs.declared.patch_fault.OperationFault.{OperationFault}
use Rattle.sj_text_core.specs.declared.patch_fault.OperationFault.TheVariants.{Missing}
use Rattle.sj_text_core.specs.inner.Find.{or_null}
use Rattle.sj_patch.specs.declared.error.Refusal.{Refusal}
use Rattle.sj_patch.specs.declared.error.Refusal.TheVariants.{Fault, OutOfMemory}
use Rattle.sj_patch.specs.declared.change.Change.{Change}
use Rattle.sj_patch.specs.declared.change.Change.TheVariants.{Put, Take, Swap, Undo}
use Rattle.sj_patch.specs.declared.change.Done.{Done}
use Rattle.sj_patch.specs.declared.reversal.Reversal.{Reversal}
use Rattle.sj_document.specs.declared.value.Document.{Document}
use Rattle.sj_patch.proofs.Local.{onwards-Ok, set_on}

-- f at a token of what tokens find, put back in its place
abbrev at_last : (List ℕ → Tree → Result Tree OperationFault) → List (List ℕ) → List ℕ → Tree → Result Tree OperationFault
at_last f ls k t = onwards (or_missing (pointed ls t)) (λ u. onwards (f k u) (λ w. Ok (set_pointed ls w t)))

below_by : (f : List ℕ → Tree → Result Tree OperationFault) (l : List ℕ) (ls : List (List ℕ)) (k : List ℕ) (t u : Tree) (o : Option Tree)
    → onwards (onwards (or_missing o) (λ x. onwards (f k x) (λ w. Ok (set_pointed ls w u)))) (λ w. Ok (set_found (by_token l) w t))
    ≡ onwards (or_missing o) (λ x. onwards (f k x) (λ w. Ok (set_found (by_token l) (set_pointed ls w u) t)))
below_by f l ls k t u None = refl
below_by f l ls k t u (Some x) = set_on (f k x) (λ w. set_pointed ls w u) (λ w. set_found (by_token l) w t)

step_by : (x : Result Tree OperationFault) (f : List ℕ → Tree → Result Tree OperationFault) (l : List ℕ) (ls : List (List ℕ)) (k : List ℕ) (t : Tree) (o : Option Tree) → ((u : Tree) → at_tokens x f (ls ++ k ∷ []) u ≡ at_last f ls k u)
    → onwards (or_missing o) (λ u. onwards (at_tokens x f (ls ++ k ∷ []) u) (λ w. Ok (set_found (by_token l) w t)))
    ≡ onwards (or_missing (option_and_then (pointed ls) o)) (λ x. onwards (f k x) (λ w. Ok (change_found o (by_token l) (set_pointed ls w) t)))
step_by x f l ls k t None ih = refl
step_by x f l ls k t (Some u) ih = ap (λ r. onwards r (λ w. Ok (set_found (by_token l) w t))) (ih u) ∙ below_by f l ls k t u (pointed ls u)

-- a change at tokens is one at the last of what the others find
pub at-last : (x : Result Tree OperationFault) (f : List ℕ → Tree → Result Tree OperationFault) (ls : List (List ℕ)) (k : List ℕ) (t : Tree) → at_tokens x f (ls ++ k ∷ []) t ≡ at_last f ls k t
at-last x f [] k t = sym (onwards-Ok (f k t))
at-last x f (l ∷ []) k t = step_by x f l [] k t (token_into First l t) (λ u. at-last x f [] k u)
at-last x f (l ∷ m ∷ ls) k t = step_by x f l (m ∷ ls) k t (token_into First l t) (λ u. at-last x f (m ∷ ls) k u)

-- what f says of what tokens find
seen_by : (f : List ℕ → Tree → Tree) (ls : List (List ℕ)) (k : List ℕ) (o : Option Tree) (seen : Tree → Tree) → ((u : Tree) → seen u ≡ or_null (option_map (f k) (pointed ls u)))
    → or_null (option_map seen o) ≡ or_null (option_map (f k) (option_and_then (pointed ls) o))
seen_by f ls k None seen ih = refl
seen_by f ls k (Some u) seen ih = ih u

seen-last : (f : List ℕ → Tree → Tree) (l : List ℕ) (ls : List (List ℕ)) (k : List ℕ) (t : Tree) → seen_within f l (ls ++ k ∷ []) t ≡ or_null (option_map (f k) (pointed (l ∷ ls) t))
seen-last f l [] k t = seen_by f [] k (token_into First l t) (seen_within f k []) (λ u. refl)
seen-last f l (m ∷ ls) k t = seen_by f (m ∷ ls) k (token_into First l t) (seen_within f m (ls ++ k ∷ [])) (λ u. seen-last f m ls k u)

-- a refusal goes on
pub refuses_as : (W : Type 0) (e : Refusal) (r s : Result Tree OperationFault) → s ≡ r → Refuses W e r → Refuses W e s
refuses_as W e r s q h = subst (Refuses W e) (sym q) h

pub refuses_onwards : (W : Type 0) (e : Refusal) (r : Result Tree OperationFault) (f : Tree → Result Tree OperationFault) → Refuses W e r → Refuses W e (onwards r f)
refuses_onwards W OutOfMemory r f h = h
refuses_onwards W (Fault w) r f h = ap (λ r. onwards r f) h

-- the same of equal trees
pub by_equal : (R : Tree → Tree → Type 0) (old old' left left' : Tree) → old' ≡ old → left' ≡ left → R old left → R old' left'
by_equal R old old' left left' e f h = subst (λ x. R old' x) (sym f) (subst (λ x. R x left) (sym e) h)

module _ {T : Type 0} (t : T → List ℕ) where
  undoes_map : (c : Change T) (P Q : Type 0) → (P → Q) → Undoes t c P → Undoes t c Q
  undoes_map (Put v) P Q f h = f h
  undoes_map Take P Q f h = f h
  undoes_map (Swap v) P Q f h = f h
  undoes_map (Undo r v) P Q f h = tt

  changed_tokens : (c : Change T) (ls : List (List ℕ)) (k : List ℕ) (u : Tree) → change_at t c (ls ++ k ∷ []) u ≡ at_last (change_in t c) ls k u
  changed_tokens c ls k u = at-last (changed_whole t c) (change_in t c) ls k u

  -- where tokens find a container
  changed_there : (c : Change T) (ls : List (List ℕ)) (k : List ℕ) (before u : Tree) → pointed ls before ≡ Some u → change_at t c (ls ++ k ∷ []) before ≡ onwards (change_in t c k u) (λ w. Ok (set_pointed ls w before))
  changed_there c ls k before u f = changed_tokens c ls k before ∙ ap (λ o. onwards (or_missing o) (λ u. onwards (change_in t c k u) (λ w. Ok (set_pointed ls w before)))) f

  taken_there : (r : Reversal T) (ls : List (List ℕ)) (k : List ℕ) (before u : Tree) → pointed ls before ≡ Some u → taken_at t r (ls ++ k ∷ []) before ≡ taken_in t r k u
  taken_there r [] k before u f = ap (λ o. or_null (option_map (taken_in t r k) o)) f
  taken_there r (l ∷ ls) k before u f = seen-last (taken_in t r) l ls k before ∙ ap (λ o. or_null (option_map (taken_in t r k) o)) f

  -- what gives the container back gives the whole back
  changed_back : (c : Change T) (ls : List (List ℕ)) (k : List ℕ) (before u v : Tree) → pointed ls before ≡ Some u → change_in t c k v ≡ Ok u → change_at t c (ls ++ k ∷ []) (set_pointed ls v before) ≡ Ok before
  changed_back c ls k before u v f h =
      let p = path_of ls in
      changed_there c ls k (set_pointed ls v before) v (tree_at-set p v u before f) ∙ ap (λ r. onwards r (λ w. Ok (set_pointed ls w (set_pointed ls v before)))) h
      ∙ ap Ok (set_at-twice p u v before ∙ set_at-same p u before f)

  -- what is answered of the container is answered of the whole
  answers_below : (c : Change T) (ls : List (List ℕ)) (k : List ℕ) (before after u v : Tree) (done : Done T) → pointed ls before ≡ Some u → after ≡ set_pointed ls v before
      → AnswersChange t c (k ∷ []) u v done → AnswersChange t c (ls ++ k ∷ []) before after done
  answers_below (Put w) ls k before after u v done f e h = ap (taken_at t done.undo (ls ++ k ∷ [])) e ∙ taken_there done.undo ls k (set_pointed ls v before) v (tree_at-set (path_of ls) v u before f) ∙ h
  answers_below Take ls k before after u v done f e h =
      ap (λ p. tree_at p before) (map-append by_token ls (k ∷ [])) ∙ tree_at-join (path_of ls) (path_of (k ∷ [])) before ∙ ap (option_and_then (tree_at (path_of (k ∷ [])))) f ∙ h
  answers_below (Swap w) ls k before after u v done f e h = tt
  answers_below (Undo r w) ls k before after u v done f e h = h ∙ sym (taken_there r ls k before u f)

  -- where tokens find a container, the change is made there
  pub changed_below : (c : Change T) (ls : List (List ℕ)) (k : List ℕ) (before after u v : Tree) (r : Result (Done T) (Refused Refusal (Document T))) → pointed ls before ≡ Some u → after ≡ set_pointed ls v before
      → ChangesOrReturns t c (k ∷ []) u v r → ChangesOrReturns t c (ls ++ k ∷ []) before after r
  changed_below c ls k before after u v (Ok done) f e h = record {
    made = changed_there c ls k before u f ∙ ap (λ r. onwards r (λ w. Ok (set_pointed ls w before))) h.made ∙ ap Ok (sym e);
    undo = undoes_map c _ _ (λ b. ap (change_at t (Undo done.undo done.taken) (ls ++ k ∷ [])) e ∙ changed_back (Undo done.undo done.taken) ls k before u v f b) h.undo;
    answer = answers_below c ls k before after u v done f e h.answer;
  }
  changed_below c ls k before after u v (Err w) f e h = (
    e ∙ ap (λ x. set_pointed ls x before) h.0 ∙ set_at-same (path_of ls) u before f,
    (refuses_as (Wants t c) w.why _ _ (changed_there c ls k before u f) (refuses_onwards (Wants t c) w.why (change_in t c k u) (λ w. Ok (set_pointed ls w before)) h.1.0), h.1.1),
  )

  -- where they find none, it is refused
  pub changed_missing : (c : Change T) (ls : List (List ℕ)) (k : List ℕ) (before : Tree) → pointed ls before ≡ None → change_at t c (ls ++ k ∷ []) before ≡ Err Missing
  changed_missing c ls k before f = changed_tokens c ls k before ∙ ap (λ o. onwards (or_missing o) (λ u. onwards (change_in t c k u) (λ w. Ok (set_pointed ls w before)))) f
