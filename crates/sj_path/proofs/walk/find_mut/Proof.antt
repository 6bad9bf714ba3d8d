-- `find_mut` lends a part out of the part before, token by token. Assumes `Logic`.
use Rattle.std.proofs.Common.{◌≡◌, ℕ, zero, suc, ◌+◌, ◌<◌, ◌^◌, List, [], ◌∷◌, ◌++◌, Option, Some, None, option_map, length, drop as behind, refl, sym, ap, ◌∙◌, subst, MutBor}
use Rattle.sj_document.proofs.LoanSteps.{proved, Ura, id⊢, emp, ent, sep, Fml, GName, ftrue, flft, w64, Fn, Args, Dict, a_type, dcons, dnil, named, inst_fn, Val, vptr, vint, of_list, suc-ne-zero, lit<, after, fact, fact_i, ◌⊑◌, Running, tables, Model, Logic, sem, Env, Item, Sq, prop, ‵, raw, ◌⊛◌, some, later, given, ◌$◌, ◌∵◌, !, qed, move, keep, drop, use0, use1, use2, split, join, fjoin, learn, pick, await, rewrite, suffices, frame, at_ret, done, enter, addr, lit, of_opd, bin, fld, stop, first, blocks, jumps, exec, returns, returns_within, no_more, and_then, loops, again, whole, agg, live, vrt, in_variant, by_variants, alloc_all, pass_all, free_all, look_at, get, get_in, get_tag, through, sets, sets_last, lands_as, env, holding, forget_but, usize, uint_Makes, yes, no, bounded, param, RattleType, NamedLft, MutRef, ShrRef, mut_vals, mut_Tells, shr_vals, shr_Tells, shr_copy, Bor, shr_slice_vals, plain, mut_ref_to, shr_ref_to, nothing, heard, peeks, only, owned, shows, Str, str-laws, calls_at, Ended, Clauses, lasts, triple_of, framed, Stays, walk_of, says, stay_dropped, Goes-dropped, Goes-spent_ref, ends_at, follows_so}
use Rattle.std.specs.List.{slice_get}
use mathlib.Core.WellFounded.InvImage
use mathlib.Core.Option as maybe
use lib.WfN.{lt-wf_rel}
use contract.Running.{tables_of}
use prog.Wp.{after_turn}
use denote.Triple.Statement.{Contract}
use Rattle.std.specs.Option.{ghost_name_of, OnSome, IfSome}
use Rattle.std.specs.contracts.option.Option as option
use Rattle.std.specs.declared.cmp.Eq as total
use Rattle.std.specs.declared.cmp.PartialEq as eq
use Rattle.sj_text_core.specs.Tree.{Tree}
use Rattle.sj_text_core.specs.Paths.{by_token, set_found}
use Rattle.sj_text_core.specs.declared.repeats.Repeats.TheVariants.{First}
use Rattle.sj_pointer.specs.Pointed.{token_into, pointed, set_pointed}
use Rattle.sj_document.specs.Document.{document_tree}
use Rattle.sj_document.specs.declared.value.Document.{Document}
use Rattle.sj_object.specs.declared.key.KeyText as key
use Rattle.sj_document.specs.contracts.value.Document.{the_row}
use Rattle.sj_pointer.specs.contracts.tokens.Pointer.{the_row as pointer_row}
use Rattle.sj_pointer.proofs.tokens.Pointer.TheLaws as pointer_laws
use Rattle.sj_path.specs.contracts.walk.find_mut as f
use Rattle.sj_path.specs.contracts.walk.token_at as g
use Rattle.sj_path.specs.contracts.walk.step_mut as h
use Rattle.sj_path.proofs.walk.find_mut.Statement.{statement}
use Rattle.sj_path.proofs.walk.find_mut.Code as code
use Rattle.sj_path.proofs.walk.token_at.Met as g-met
use Rattle.sj_path.proofs.walk.step_mut.Met as h-met
use Rattle.sj_document.proofs.Loans.{lent_weaker, some_in, none_in, option_out}
use Rattle.sj_document.proofs.Results.{lent_so}
use Rattle.sj_path.proofs.Loans.{lent_itself}
use Rattle.sj_path.proofs.Ways.{Carries, drop_one, drop_all, shorter, find_further, find_nothing, carries_further}

module _ (T : RattleType) (k : key.Ghosts T.Denot) (kd : Dict) (e : total.Ghosts T.Denot) (ed : Dict) (p : eq.Ghosts T.Denot) (pd : Dict) where
  abbrev args : Args
  args = bounded (a_type ∷ []) (T, tt) (dcons kd (dcons ed (dcons pd dnil)))

  abbrev function : Fn
  function = inst_fn args code.function

  abbrev end : Ended
  end = f.ended T k kd e ed p pd

  abbrev Doc : RattleType
  Doc = the_row (param 0 T) k p

  abbrev stayed : Stays end.signature.params end.kept
  stayed = (stay_dropped (mut_ref_to (0 ∷ []) tt (plain (λ _. Doc))) no, (stay_dropped (shr_ref_to (1 ∷ []) tt (plain (λ _. pointer_row))) yes, tt))

module _ {M : Type 1} {𝓤 : Ura M} (𝓛 : Logic 𝓤) (𝓜 : Model 𝓤 𝓛.H) (𝓡 : Running 𝓤 𝓛.H 𝓜) (T : RattleType) (k : key.Ghosts T.Denot) (kd : Dict) (e : total.Ghosts T.Denot) (ed : Dict) (p : eq.Ghosts T.Denot) (pd : Dict) where
  abbrev held : Clauses 𝓤 (end T k kd e ed p pd)
  held = f.clauses T k kd e ed p pd 𝓛 𝓜.mem 𝓡.returns

  abbrev Walk : Contract 𝓤
  Walk = walk_of 𝓛 (end T k kd e ed p pd) (stayed T k kd e ed p pd) held

  module _ (y : Walk.Ghost) where
    abbrev old : Tree
    old = document_tree k.text_of y.0.3.0.now

    abbrev ks : List (List ℕ)
    ks = y.0.3.1.0.now

    abbrev Lent : (m : maybe.Option GName) → (Tree → Tree → Type 0) → Fml
    Lent m P = follows_so (Doc T k kd e ed p pd) (Doc T k kd e ed p pd) y.0.3.0.ghost_name m (λ w n. P (document_tree k.text_of w) (document_tree k.text_of n)) (λ n. document_tree k.text_of n ≡ old)

    abbrev Part : RattleType
    Part = MutRef (named 0) y.0.0.0 (Doc T k kd e ed p pd)

    abbrev Token : ℕ → Fml
    Token zero = flft y.0.0.0 y.0.1.0
    Token (suc zero) = flft y.0.0.1.0 y.0.1.1.0
    Token (suc (suc n)) = flft y.0.0.1.1.0 y.0.1.1.1.0

    -- the walk ends at the part that is lent
    ends_found : (x : MutBor (Document T.Denot)) → Some (document_tree k.text_of x.now) ≡ pointed ks old
        → Sq 𝓛 (‵ (Part.own_val x (mut_vals x)) ∷ ‵ (Lent (maybe.some x.ghost_name) (λ w n. n ≡ set_pointed ks w old)) ∷ ‵ (Token 0) ∷ ‵ (Token 1) ∷ ‵ (Token 2) ∷ []) (prop (Walk.post y (live 1 (of_list (mut_vals x)))))
    ends_found x shown =
        use1 𝓛 (‵ ((option.the_row Part).own_val (Some x) (live 1 (of_list (mut_vals x)) ∷ []))) (some_in 𝓛 Part x (vptr x.ref_ptr.0 x.ref_ptr.1)) $
        keep ! (0 ∷ 2 ∷ 3 ∷ 4 ∷ 1 ∷ []) $
        suffices ! _ (ends_at 𝓛 (end T k kd e ed p pd) (stayed T k kd e ed p pd) held y (live 1 (of_list (mut_vals x))) (Some x) (tt, (tt, tt)) (tt, (tt, tt))) $
        nothing ! $ nothing ! $ fjoin ! $ nothing ! $ fjoin ! $ join ! $ nothing ! $ move ! (4 ∷ 0 ∷ []) $ join ! $ move ! (3 ∷ 0 ∷ []) $ join ! $ move ! (2 ∷ 0 ∷ []) $ join ! $ join ! $ frame ! $
        says ! shown $ done !

    -- the walk ends where a token finds nothing
    ends_nowhere : None ≡ pointed ks old → Sq 𝓛 (‵ (Lent maybe.none (λ w n. Unit {0})) ∷ (‵ (Token 0) ⊛ ‵ (Token 1) ⊛ ‵ (Token 2) ⊛ ‵ ftrue) ∷ []) (prop (Walk.post y (live 0 (of_list []))))
    ends_nowhere shown =
        use0 𝓛 (‵ ((option.the_row Part).own_val None (live 0 (of_list []) ∷ []))) (none_in 𝓛 Part) $
        suffices ! _ (ends_at 𝓛 (end T k kd e ed p pd) (stayed T k kd e ed p pd) held y (live 0 (of_list [])) None (tt, (tt, tt)) (tt, (tt, tt))) $
        nothing ! $ nothing ! $ fjoin ! $ nothing ! $ fjoin ! $ join ! $ move ! (2 ∷ 0 ∷ []) $ join ! $ frame ! $
        says ! shown $ done !

    -- what is said of the whole where all tokens were gone
    says_found : (γ : GName) (rest : List (List ℕ)) (shown : Tree) → rest ≡ [] → ent 𝓤 (sem 𝓛 (Lent (maybe.some γ) (λ w n. Carries ks rest old shown w n))) (sem 𝓛 (Lent (maybe.some γ) (λ w n. n ≡ set_pointed ks w old)))
    says_found γ rest shown q = lent_weaker 𝓛 (Doc T k kd e ed p pd) (Doc T k kd e ed p pd) (Doc T k kd e ed p pd) y.0.3.0.ghost_name (maybe.some γ) _ _
        (λ w n. document_tree k.text_of n ≡ set_pointed ks (document_tree k.text_of w) old) (λ n. document_tree k.text_of n ≡ old) (λ w n m. m.0 (document_tree k.text_of w) (ap (λ rs. set_pointed rs (document_tree k.text_of w) shown) (sym q))) (λ n r. r)

    -- and where one more token found a part, or nothing
    module _ (γ : GName) (key : List ℕ) (rest : List (List ℕ)) (shown : Tree) where
      abbrev Step : (m : maybe.Option GName) → (Tree → Tree → Type 0) → Fml
      Step m P = follows_so (Doc T k kd e ed p pd) (Doc T k kd e ed p pd) γ m (λ w s. P (document_tree k.text_of w) (document_tree k.text_of s)) (λ s. document_tree k.text_of s ≡ shown)

      says_further : (γ' : GName) (way : List (List ℕ)) (next : Tree) → way ≡ key ∷ rest → token_into First key shown ≡ Some next
          → ent 𝓤 (sep 𝓤 (sem 𝓛 (Lent (maybe.some γ) (λ w n. Carries ks way old shown w n))) (sem 𝓛 (Step (maybe.some γ') (λ w s. s ≡ set_found (by_token key) w shown)))) (sem 𝓛 (Lent (maybe.some γ') (λ w n. Carries ks rest old next w n)))
      says_further γ' way next here there = lent_so 𝓛 (Doc T k kd e ed p pd) (Doc T k kd e ed p pd) (Doc T k kd e ed p pd) y.0.3.0.ghost_name γ _ _ (maybe.some γ') _ _
          (λ w n. Carries ks rest old next (document_tree k.text_of w) (document_tree k.text_of n)) (λ n. document_tree k.text_of n ≡ old)
          (λ w s n f m. carries_further key ks rest old shown next (document_tree k.text_of w) (document_tree k.text_of s) (document_tree k.text_of n) there f (subst (λ rs. Carries ks rs old shown (document_tree k.text_of s) (document_tree k.text_of n)) here m)) (λ s n f m. m.1 f)

      says_nowhere : (way : List (List ℕ)) → ent 𝓤 (sep 𝓤 (sem 𝓛 (Lent (maybe.some γ) (λ w n. Carries ks way old shown w n))) (sem 𝓛 (Step maybe.none (λ w s. Unit {0})))) (sem 𝓛 (Lent maybe.none (λ w n. Unit {0})))
      says_nowhere way = lent_so 𝓛 (Doc T k kd e ed p pd) (Doc T k kd e ed p pd) (Doc T k kd e ed p pd) y.0.3.0.ghost_name γ _ _ maybe.none _ _ (λ w n. Unit {0}) (λ n. document_tree k.text_of n ≡ old) (λ w s n f m. tt) (λ s n f m. m.1 f)

pub find_mut_spec : {M : Type 1} → statement M
unfolding tables_of after_turn
find_mut_spec 𝓤 𝓛 𝓜 𝓡 wired T L k kd e ed p pd mk me mp =
    let c = f.clauses T k kd e ed p pd 𝓛 𝓜.mem 𝓡.returns in
    let hs = stayed T k kd e ed p pd in
    let End = end T k kd e ed p pd in
    let D = Doc T k kd e ed p pd in
    let W = walk_of 𝓛 End hs c in
    let 𝓣 = tables 𝓤 𝓛.H 𝓜 𝓡 𝓡.env in
    proved 𝓛 End hs c 𝓜 𝓡 (Goes-spent_ref 𝓛 3 (0 ∷ []) tt (plain (λ _. D)), (Goes-dropped 𝓛 3 (shr_ref_to (1 ∷ []) tt (plain (λ _. pointer_row))) yes (λ κs x w. refl), tt))
    (f.Key.name (args T k kd e ed p pd)) (function T k kd e ed p pd) (code.unfolded 𝓤 𝓛.H 𝓜 𝓡 wired (T, tt) kd ed pd)
    (λ κs. (mut_vals, (shr_vals, tt))) (λ κs. (mut_Tells (named 0) κs.0 D, (shr_Tells (named 1) κs.1.0 pointer_row, tt))) (λ κs qs bounds a _ are.
    let us = mut_vals a.0 in let ws = shr_vals a.1.0 in let old = document_tree k.text_of a.0.now in let ks = a.1.0.now in
    let y : W.Ghost = ((κs, qs, bounds, a, (us, (ws, tt))), tt) in
    qed 𝓛 (((‵ (flft κs.0 qs.0) ⊛ ‵ (flft κs.1.0 qs.1.0) ⊛ ‵ (flft κs.1.1.0 qs.1.1.0) ⊛ ‵ ftrue) ⊛ ‵ ((MutRef (named 0) κs.0 D).own_val a.0 us) ⊛ ‵ ((ShrRef (named 1) κs.1.0 pointer_row).own_val a.1.0 ws) ⊛ ‵ ftrue) ∷ (given (κs.1.1.0 ⊑ T.lives) (‵ ftrue) ⊛ ‵ ftrue) ∷ []) ∵
    move ! (1 ∷ []) $ split ! $ learn ! (λ lives. drop ! $ drop ! $
    split ! $ split ! $ move ! (1 ∷ []) $ split ! $ move ! (1 ∷ []) $ split ! $ move ! (4 ∷ []) $ split ! $ move ! (1 ∷ []) $ split ! $ keep ! (2 ∷ 0 ∷ 6 ∷ 5 ∷ 3 ∷ []) $
    -- [self; the pointer; the tokens of self, of the pointer and of T]
    use0 𝓛 (‵ (follows_so D D a.0.ghost_name (maybe.some a.0.ghost_name) (λ w n. Carries ks ks old old (document_tree k.text_of w) (document_tree k.text_of n)) (λ n. document_tree k.text_of n ≡ old)))
    (lent_itself 𝓛 D a.0.ghost_name a.0.now _ _ (λ w. ((λ u q. q), (λ q. q))) refl) $
    enter ! _ _ _ _ _ $ alloc_all ! (λ l. pass_all ! refl ((tt, tt), ((tt, tt), tt)) $
    sets ! (of_opd ! (get ! refl)) refl (tt, tt) $ sets ! (of_opd ! (lit ! tt)) refl (tt, record { fits = lit< tt }) $
    let En : Env 𝓤 𝓛.H = env (function T k kd e ed p pd).locals l in
    let Post = W.post y in
    let At : Type 0 = (i : ℕ) × (x : MutBor (Document T.Denot)) × (i < 2 ^ 64) × (pointed (behind i ks) (document_tree k.text_of x.now) ≡ pointed ks old) in
    let Nearer : At → At → Type 0 = λ t u. length (behind t.0 ks) < length (behind u.0 ks) in
    let Now : At → List (Item 𝓤) = λ t.
    ‵ (follows_so D D a.0.ghost_name (maybe.some t.1.ghost_name) (λ w n. Carries ks (behind t.0 ks) old (document_tree k.text_of t.1.now) (document_tree k.text_of w) (document_tree k.text_of n)) (λ n. document_tree k.text_of n ≡ old))
    ∷ ‵ ((MutRef (named 0) κs.0 D).own_val t.1 (mut_vals t.1)) ∷ ‵ ((ShrRef (named 1) κs.1.0 pointer_row).own_val a.1.0 ws) ∷ ‵ (flft κs.0 qs.0) ∷ ‵ (flft κs.1.0 qs.1.0) ∷ ‵ (flft κs.1.1.0 qs.1.1.0)
    ∷ holding 𝓛 En ((1, vptr a.0.ref_ptr.0 a.0.ref_ptr.1) ∷ (2, vptr a.1.0.ref_ptr.0 a.1.0.ref_ptr.1) ∷ (3, vptr t.1.ref_ptr.0 t.1.ref_ptr.1) ∷ (4, vint w64 t.0) ∷ []) in
    first ! $ blocks ! $ loops ! (tables_of 𝓤 𝓛.H 𝓜 𝓣) Nearer (InvImage.wf (λ (t : At). length (behind t.0 ks)) lt-wf_rel.wf) Now (λ t.
    let i = t.0 in let x = t.1 in let shown = document_tree k.text_of x.now in
    move ! (2 ∷ []) $ use1 𝓛 (‵ ((ShrRef (named 1) κs.1.0 pointer_row).own_val a.1.0 ws) ⊛ ‵ ((ShrRef (named 1) κs.1.0 pointer_row).own_val a.1.0 ws)) ((shr_copy 𝓛 (named 1) κs.1.0 pointer_row pointer_laws.the_row_laws.shr_laws).twice a.1.0 ws) $ split ! $
    owned ! usize _ (uint_Makes 𝓛 w64) i (vint w64 i ∷ []) (refl, t.2) $
    nothing ! $ move ! (1 ∷ 0 ∷ []) $ join ! $ move ! (1 ∷ 0 ∷ []) $ join ! $
    nothing ! $ move ! (6 ∷ 0 ∷ []) $ join ! $ join ! $
    let G = triple_of 𝓛 g.signature (g.spec 𝓛 𝓜.mem 𝓡.returns) in
    let z : G.Ghost = (((κs.1.0, tt), (qs.1.0, tt), tt, (a.1.0, (i, tt)), (ws, (vint w64 i ∷ [], tt))), tt) in
    nothing ! $ move ! (1 ∷ 0 ∷ []) $ use2 𝓛 (raw (G.pre z)) (id⊢ 𝓤 _) $
    -- [what the call asks; the pointer; what is said; the part; the tokens of self and T]
    calls_at ! (framed 𝓤 𝓛.H 𝓜 𝓣) G (g-met.met 𝓤 𝓛 𝓜 𝓡 (code.calls-sj_path::walk::token_at 𝓡.env wired)) z (and_then ! (get ! refl) (and_then ! (get ! refl) (no_more !))) (λ v.
    use1 𝓛 (later (some (λ (r : Option (Bor (List ℕ))). ((‵ (flft κs.1.0 qs.1.0) ⊛ ‵ ftrue) ⊛ ‵ ((option.the_row (Str (named 0) κs.1.0)).own_val r (v ∷ []))) ⊛
    some (λ (ends : Unit {0} × (Unit {0} × Unit {0})). ‵ (lasts g.ended z.0.0 z.0.3 ends) ⊛ (raw (fact 𝓤 (option_map (λ t. t.now) r ≡ slice_get ks i)) ⊛ raw (fact 𝓤 (IfSome r (λ _. i + 1 < 2 ^ 64)))))))) (id⊢ 𝓤 _) $
    await ! tt $ pick ! (λ r. split ! $ split ! $ split ! $ move ! (3 ∷ []) $ pick ! (λ ends. split ! $ drop ! $ split ! $ heard ! _ (λ read. heard ! _ (λ fits.
    move ! (1 ∷ []) $ drop ! $ move ! (1 ∷ []) $
    -- [what is read; the pointer's token; the pointer; what is said; the part; the tokens of self and T]
    option_out ! (Str (named 0) κs.1.0) r (v ∷ [])
    (λ is_none spelled.
    let ended : behind i ks ≡ [] = drop_all i ks (sym read ∙ ap (option_map (λ t. t.now)) is_none) in
    let word = vptr x.ref_ptr.0 x.ref_ptr.1 in
    lands_as ! (ap only spelled) refl (tt, (record { fits = lit< tt }, tt)) $
    by_variants ! 12 (whole !) (get_tag ! (vrt ! refl (fld ! refl (stop !))) (whole !)) tt (
      (λ one. absurd (suc-ne-zero 0 (sym one))),
      (
        (λ _. jumps ! $ exec ! 𝓣.C 𝓣.Λ En (after 3 (function T k kd e ed p pd).body) (at_ret En Post) $
            sets ! (addr ! (through ! refl (stop !))) refl (tt, tt) $
            sets ! (agg ! (and_then ! (lit ! tt) (and_then ! (get ! refl) (no_more !)))) refl (tt, (record { fits = lit< tt }, (tt, tt))) $
            returns ! (look_at ! 0 refl) $ free_all ! refl $
            move ! (2 ∷ []) $ use1 𝓛 (‵ (Lent 𝓛 𝓜 𝓡 T k kd e ed p pd y (maybe.some x.ghost_name) (λ w n. n ≡ set_pointed ks w old))) (says_found 𝓛 𝓜 𝓡 T k kd e ed p pd y x.ghost_name (behind i ks) shown ended) $
            keep ! (3 ∷ 0 ∷ 4 ∷ 1 ∷ 5 ∷ []) $ ends_found 𝓛 𝓜 𝓡 T k kd e ed p pd y x (ap (λ rs. pointed rs shown) (sym ended) ∙ t.3)),
        tt,
      ),
    ))
    (λ token xs is_some spelled.
    peeks ! (Str (named 0) κs.1.0) _ (shows 𝓛 (Str (named 0) κs.1.0)) token xs (λ is.
    let text : NamedLft = record { mir = named 0; lft = κs.1.0 } in
    let told = (str-laws text).tells token xs is in
    let here = drop_one i ks token.now (sym read ∙ ap (option_map (λ t. t.now)) is_some) in
    let less = shorter (behind i ks) (behind (i + 1) ks) token.now here in
    let fit : i + 1 < 2 ^ 64 = subst (λ (o : Option (Bor (List ℕ))). IfSome o (λ _. i + 1 < 2 ^ 64)) is_some fits in
    rewrite ! 0 (λ (vs : List Val). ‵ ((Str (named 0) κs.1.0).own_val token vs)) told refl $
    peeks ! (Str (named 0) κs.1.0) _ (shows 𝓛 (Str (named 0) κs.1.0)) token (shr_slice_vals token) (λ so.
    let typed = (((str-laws text).lawful 𝓛).typed token (shr_slice_vals token) so).0 in
    lands_as ! (ap only spelled ∙ ap (λ (vs : List Val). live 1 (of_list (vs ++ []))) told) refl (tt, (record { fits = lit< tt }, (typed.1, tt))) $
    by_variants ! 13 (whole !) (get_tag ! (vrt ! refl (fld ! refl (stop !))) (whole !)) tt (
      (λ _. sets ! (of_opd ! (get_in ! (vrt ! refl (fld ! refl (stop !))) (in_variant ! 1 0 refl refl (whole !)))) refl typed $
          sets ! (bin ! (get ! refl) (lit ! tt) (record { fits = fit })) refl (tt, record { fits = fit }) $
          sets ! (addr ! (through ! refl (stop !))) refl (tt, tt) $
          let G' = triple_of 𝓛 (h.signature T k kd e ed p pd) (h.spec T k kd e ed p pd 𝓛 𝓜.mem 𝓡.returns) in
          let z' : G'.Ghost = ((κs, qs, bounds, (x, (token, tt)), (mut_vals x, (shr_slice_vals token, tt))), tt) in
          nothing ! $ move ! (1 ∷ 0 ∷ []) $ join ! $ move ! (4 ∷ 0 ∷ []) $ join ! $
          nothing ! $ move ! (6 ∷ 0 ∷ []) $ join ! $ move ! (2 ∷ 0 ∷ []) $ join ! $ move ! (4 ∷ 0 ∷ []) $ join ! $ join ! $
          nothing ! $ use0 𝓛 (given (κs.1.1.0 ⊑ T.lives) (‵ ftrue)) (fact_i 𝓤 _ (emp 𝓤) lives) $ join ! $ move ! (1 ∷ 0 ∷ []) $ use2 𝓛 (raw (G'.pre z')) (id⊢ 𝓤 _) $
          -- [what the call asks; the pointer; what is said]
          calls_at ! (framed 𝓤 𝓛.H 𝓜 𝓣) G' (h-met.met 𝓤 𝓛 𝓜 𝓡 (code.calls-sj_path::walk::step_mut 𝓡.env wired) T L k kd e ed p pd mk me mp) z' (and_then ! (get ! refl) (and_then ! (get ! refl) (no_more !))) (λ v'.
          use1 𝓛 (later (some (λ (r' : Option (MutBor (Document T.Denot))). ((‵ (flft κs.0 qs.0) ⊛ ‵ (flft κs.1.0 qs.1.0) ⊛ ‵ (flft κs.1.1.0 qs.1.1.0) ⊛ ‵ ftrue) ⊛ ‵ ((option.the_row (MutRef (named 0) κs.0 D)).own_val r' (v' ∷ []))) ⊛
          some (λ (ends : Unit {0} × (Unit {0} × Unit {0})). ‵ (lasts (h.ended T k kd e ed p pd) z'.0.0 z'.0.3 ends) ⊛ (‵ (follows_so D D x.ghost_name (ghost_name_of r') (λ w s. OnSome r' (document_tree k.text_of s ≡ set_found (by_token token.now) (document_tree k.text_of w) shown)) (λ s. document_tree k.text_of s ≡ shown))
          ⊛ raw (fact 𝓤 (option_map (λ v. document_tree k.text_of v.now) r' ≡ token_into First token.now shown))))))) (id⊢ 𝓤 _) $
          await ! tt $ pick ! (λ r'. split ! $ split ! $ move ! (2 ∷ []) $ pick ! (λ ends. split ! $ drop ! $ split ! $ move ! (1 ∷ []) $ heard ! _ (λ found.
          -- [what the call says; the tokens; what it found; the pointer; what is said]
          move ! (2 ∷ []) $ option_out ! (MutRef (named 0) κs.0 D) r' (v' ∷ [])
          (λ is_none' spelled'.
          let missing : token_into First token.now shown ≡ None = sym found ∙ ap (option_map (λ v. document_tree k.text_of v.now)) is_none' in
          rewrite ! 0 (λ (o : Option (MutBor (Document T.Denot))). ‵ (follows_so D D x.ghost_name (ghost_name_of o) (λ w s. OnSome o (document_tree k.text_of s ≡ set_found (by_token token.now) (document_tree k.text_of w) shown)) (λ s. document_tree k.text_of s ≡ shown))) is_none' refl $
          move ! (3 ∷ 0 ∷ []) $ use2 𝓛 (‵ (Lent 𝓛 𝓜 𝓡 T k kd e ed p pd y maybe.none (λ w n. Unit {0}))) (says_nowhere 𝓛 𝓜 𝓡 T k kd e ed p pd y x.ghost_name token.now (behind (i + 1) ks) shown (behind i ks)) $
          lands_as ! (ap only spelled') refl (tt, (record { fits = lit< tt }, tt)) $
          by_variants ! 7 (whole !) (get_tag ! (vrt ! refl (fld ! refl (stop !))) (whole !)) tt (
            (λ one. absurd (suc-ne-zero 0 (sym one))),
            (
              (λ _. sets ! (agg ! (and_then ! (lit ! tt) (no_more !))) refl (tt, (record { fits = lit< tt }, tt)) $
                  returns_within ! Post refl (look_at ! 0 refl) $ free_all ! refl $
                  keep ! (0 ∷ 1 ∷ []) $ ends_nowhere 𝓛 𝓜 𝓡 T k kd e ed p pd y (sym (find_nothing token.now (behind (i + 1) ks) shown missing) ∙ ap (λ rs. pointed rs shown) (sym here) ∙ t.3)),
              tt,
            ),
          ))
          (λ x' xs' is_some' spelled'.
          peeks ! (MutRef (named 0) κs.0 D) _ (shows 𝓛 (MutRef (named 0) κs.0 D)) x' xs' (λ is'.
          let told' = mut_Tells (named 0) κs.0 D x' xs' is' in
          let next = document_tree k.text_of x'.now in
          let there : token_into First token.now shown ≡ Some next = sym found ∙ ap (option_map (λ v. document_tree k.text_of v.now)) is_some' in
          rewrite ! 0 (λ (vs : List Val). ‵ ((MutRef (named 0) κs.0 D).own_val x' vs)) told' refl $
          rewrite ! 1 (λ (o : Option (MutBor (Document T.Denot))). ‵ (follows_so D D x.ghost_name (ghost_name_of o) (λ w s. OnSome o (document_tree k.text_of s ≡ set_found (by_token token.now) (document_tree k.text_of w) shown)) (λ s. document_tree k.text_of s ≡ shown))) is_some' refl $
          move ! (4 ∷ 1 ∷ []) $ use2 𝓛 (‵ (Lent 𝓛 𝓜 𝓡 T k kd e ed p pd y (maybe.some x'.ghost_name) (λ w n. Carries ks (behind (i + 1) ks) old next w n)))
          (says_further 𝓛 𝓜 𝓡 T k kd e ed p pd y x.ghost_name token.now (behind (i + 1) ks) shown x'.ghost_name (behind i ks) next here there) $
          lands_as ! (ap only spelled' ∙ ap (λ (vs : List Val). live 1 (of_list (vs ++ []))) told') refl (tt, (record { fits = lit< tt }, (tt, tt))) $
          by_variants ! 8 (whole !) (get_tag ! (vrt ! refl (fld ! refl (stop !))) (whole !)) tt (
            (λ _. sets ! (of_opd ! (get_in ! (vrt ! refl (fld ! refl (stop !))) (in_variant ! 1 0 refl refl (whole !)))) refl (tt, tt) $
                sets_last ! (addr ! (through ! refl (stop !))) refl (tt, tt) $
                move ! (2 ∷ []) $ split ! $ move ! (1 ∷ []) $ split ! $ move ! (1 ∷ []) $ split ! $ move ! (1 ∷ []) $ drop ! $
                move ! (3 ∷ 4 ∷ 5 ∷ 2 ∷ 1 ∷ 0 ∷ []) $
                forget_but ! En (1 ∷ 2 ∷ 3 ∷ 4 ∷ []) refl $
                again ! Nearer Now t (i + 1, x', fit, sym (find_further token.now (behind (i + 1) ks) shown next there) ∙ ap (λ rs. pointed rs shown) (sym here) ∙ t.3) less),
            ((λ one. absurd (suc-ne-zero 0 one)), tt),
          )))))))),
      ((λ one. absurd (suc-ne-zero 0 one)), tt),
    )))))))))) (0, a.0, lit< tt, refl))))
