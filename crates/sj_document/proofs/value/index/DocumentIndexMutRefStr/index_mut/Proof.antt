-- `index_mut` lends what `get_mut` lends, where it is there. Assumes `Logic`.
use Rattle.std.proofs.Common.{◌≡◌, List, [], ◌∷◌, ◌++◌, Option, option_map, refl, sym, ap, ◌∙◌, MutBor}
use Rattle.sj_document.proofs.LoanSteps.{proved, id⊢, emp, ftrue, flft, Fn, Args, Dict, a_type, dcons, dnil, named, inst_fn, Val, vptr, of_list, suc-ne-zero, lit<, after, fact, fact_i, ◌⊑◌, tables, ‵, raw, ◌⊛◌, some, later, given, ◌$◌, ◌∵◌, !, qed, move, keep, drop, use0, use1, use2, split, join, fjoin, learn, pick, await, rewrite, suffices, frame, at_ret, done, enter, addr, of_opd, fld, stop, first, exec, returns, no_more, and_then, whole, live, vrt, in_variant, by_variants, alloc_all, pass_all, free_all, look_at, get, get_in, get_tag, through, sets, sets_last, lands_as, env, shr_slice_vals, StrRefOf, Str, str-laws, yes, no, bounded, param, RattleType, MutRef, mut_vals, mut_Tells, plain, mut_ref_to, nothing, heard, peeks, only, shows, calls_at, Ended, lasts, triple_of, framed, Stays, walk_of, says, stay_dropped, Goes-dropped, Goes-spent_ref, ends_at, follows_so}
use mathlib.Core.Option as maybe
use Rattle.std.specs.Option.{ghost_name_of, OnSome, IsSome}
use Rattle.std.specs.contracts.option.Option as option
use Rattle.sj_text_core.specs.Find.{find}
use Rattle.sj_text_core.specs.Paths.{by_key, set_found}
use Rattle.sj_document.specs.Document.{document_tree}
use Rattle.sj_document.specs.declared.value.Document.{Document}
use Rattle.std.specs.declared.cmp.Eq as total
use Rattle.std.specs.declared.cmp.PartialEq as eq
use Rattle.sj_object.specs.declared.key.KeyText as key
use Rattle.sj_document.specs.contracts.value.Document.{the_row}
use Rattle.sj_document.specs.contracts.value.index.DocumentIndexMutRefStr.index_mut as f
use Rattle.sj_document.specs.contracts.value.Document.get_mut as g
use Rattle.sj_document.proofs.value.index.DocumentIndexMutRefStr.index_mut.Statement.{statement}
use Rattle.sj_document.proofs.value.index.DocumentIndexMutRefStr.index_mut.Code as code
use Rattle.sj_document.proofs.value.Document.get_mut.Met as g-met
use Rattle.sj_document.proofs.Loans.{lent_weaker, option_out, none_there}

module _ (T : RattleType) (k : key.Ghosts T.Denot) (kd : Dict) (e : total.Ghosts T.Denot) (ed : Dict) (p : eq.Ghosts T.Denot) (pd : Dict) where
  abbrev args : Args
  args = bounded (a_type ∷ []) (T, tt) (dcons kd (dcons ed (dcons pd dnil)))

  abbrev function : Fn
  function = inst_fn args code.function

  abbrev end : Ended
  end = f.ended T k kd e ed p pd

  abbrev Doc : RattleType
  Doc = the_row (param 0 T) k p

  abbrev stayed : Stays end.signature.params end.kept
  stayed = (stay_dropped (mut_ref_to (0 ∷ []) tt (plain (λ _. Doc))) no, (stay_dropped (StrRefOf (1 ∷ []) tt) yes, tt))

pub index_mut_spec : {M : Type 1} → statement M
index_mut_spec 𝓤 𝓛 𝓜 𝓡 wired T L k kd e ed p pd mk me mp =
    let c = f.clauses T k kd e ed p pd 𝓛 𝓜.mem 𝓡.returns in
    let hs = stayed T k kd e ed p pd in
    let End = end T k kd e ed p pd in
    let D = Doc T k kd e ed p pd in
    let W = walk_of 𝓛 End hs c in
    let 𝓣 = tables 𝓤 𝓛.H 𝓜 𝓡 𝓡.env in
    proved 𝓛 End hs c 𝓜 𝓡 (Goes-spent_ref 𝓛 3 (0 ∷ []) tt (plain (λ _. D)), (Goes-dropped 𝓛 3 (StrRefOf (1 ∷ []) tt) yes (λ κs x w. refl), tt))
    (f.Key.name (args T k kd e ed p pd)) (function T k kd e ed p pd) (code.unfolded 𝓤 𝓛.H 𝓜 𝓡 wired (T, tt) kd ed pd)
    (λ κs. (mut_vals, (shr_slice_vals, tt))) (λ κs. (mut_Tells (named 0) κs.0 D, ((str-laws (record { mir = named 1; lft = κs.1.0 })).tells, tt))) (λ κs qs bounds a _ are.
    let us = mut_vals a.0 in let ws = shr_slice_vals a.1.0 in let old = document_tree k.text_of a.0.now in
    let y : W.Ghost = ((κs, qs, bounds, a, (us, (ws, tt))), tt) in
    let G = triple_of 𝓛 (g.signature T k kd e ed p pd) (g.spec T k kd e ed p pd 𝓛 𝓜.mem 𝓡.returns) in
    let z : G.Ghost = ((κs, qs, bounds, a, (us, (ws, tt))), tt) in
    qed 𝓛 (((‵ (flft κs.0 qs.0) ⊛ ‵ (flft κs.1.0 qs.1.0) ⊛ ‵ (flft κs.1.1.0 qs.1.1.0) ⊛ ‵ ftrue) ⊛ ‵ ((MutRef (named 0) κs.0 D).own_val a.0 us) ⊛ ‵ ((Str (named 1) κs.1.0).own_val a.1.0 ws) ⊛ ‵ ftrue) ∷ (given (κs.1.1.0 ⊑ T.lives) (‵ ftrue) ⊛ given (IsSome (find a.1.0.now old)) (‵ ftrue)) ∷ []) ∵
    move ! (1 ∷ []) $ split ! $ learn ! (λ lives. drop ! $ learn ! (λ there. drop ! $
    split ! $ split ! $ move ! (1 ∷ []) $ split ! $ move ! (1 ∷ []) $ split ! $ move ! (4 ∷ []) $ split ! $ move ! (1 ∷ []) $ split ! $ keep ! (2 ∷ 0 ∷ 6 ∷ 5 ∷ 3 ∷ []) $
    -- [self; the key; the tokens]
    enter ! _ _ _ _ _ $ alloc_all ! (λ l. pass_all ! refl ((tt, tt), ((((str-laws (record { mir = named 1; lft = κs.1.0 })).lawful 𝓛).typed a.1.0 ws are.1.0).0, tt)) $
    sets ! (addr ! (through ! refl (stop !))) refl (tt, tt) $
    nothing ! $ move ! (2 ∷ 0 ∷ []) $ join ! $ move ! (1 ∷ 0 ∷ []) $ join ! $
    nothing ! $ move ! (4 ∷ 0 ∷ []) $ join ! $ move ! (3 ∷ 0 ∷ []) $ join ! $ move ! (2 ∷ 0 ∷ []) $ join ! $ join ! $
    nothing ! $ use0 𝓛 (given (κs.1.1.0 ⊑ T.lives) (‵ ftrue)) (fact_i 𝓤 _ (emp 𝓤) lives) $ join ! $ move ! (1 ∷ 0 ∷ []) $ use2 𝓛 (raw (G.pre z)) (id⊢ 𝓤 _) $
    calls_at ! (framed 𝓤 𝓛.H 𝓜 𝓣) G (g-met.met 𝓤 𝓛 𝓜 𝓡 (code.calls-sj_document::value::Document::get_mut 𝓡.env wired) T L k kd e ed p pd mk me mp) z (and_then ! (get ! refl) (and_then ! (get ! refl) (no_more !))) (λ v.
    use1 𝓛 (later (some (λ (r : Option (MutBor (Document T.Denot))). ((‵ (flft κs.0 qs.0) ⊛ ‵ (flft κs.1.0 qs.1.0) ⊛ ‵ (flft κs.1.1.0 qs.1.1.0) ⊛ ‵ ftrue) ⊛ ‵ ((option.the_row (MutRef (named 0) κs.0 D)).own_val r (v ∷ []))) ⊛
    some (λ (ends : Unit {0} × (Unit {0} × Unit {0})). ‵ (lasts (g.ended T k kd e ed p pd) z.0.0 z.0.3 ends) ⊛ (‵ (follows_so D D a.0.ghost_name (ghost_name_of r) (λ w n. OnSome r (document_tree k.text_of n ≡ set_found (by_key a.1.0.now) (document_tree k.text_of w) old)) (λ n. document_tree k.text_of n ≡ old))
    ⊛ raw (fact 𝓤 (option_map (λ v. document_tree k.text_of v.now) r ≡ find a.1.0.now old))))))) (id⊢ 𝓤 _) $
    await ! tt $ pick ! (λ r. split ! $ split ! $ move ! (2 ∷ []) $ pick ! (λ ends. split ! $ drop ! $ split ! $ move ! (1 ∷ []) $ heard ! _ (λ shown.
    -- [what r owns; what the call says; the tokens]
    move ! (2 ∷ []) $ option_out ! (MutRef (named 0) κs.0 D) r (v ∷ [])
    (λ is_none spelled. absurd (none_there (find a.1.0.now old) (ap (option_map (λ v. document_tree k.text_of v.now)) (sym is_none) ∙ shown) there))
    (λ x xs is_some spelled.
    peeks ! (MutRef (named 0) κs.0 D) _ (shows 𝓛 (MutRef (named 0) κs.0 D)) x xs (λ is.
    let told = mut_Tells (named 0) κs.0 D x xs is in
    rewrite ! 0 (λ (vs : List Val). ‵ ((MutRef (named 0) κs.0 D).own_val x vs)) told refl $
    rewrite ! 1 (λ (x : Option (MutBor (Document T.Denot))). ‵ (follows_so D D a.0.ghost_name (ghost_name_of x) (λ w n. OnSome x (document_tree k.text_of n ≡ set_found (by_key a.1.0.now) (document_tree k.text_of w) old)) (λ n. document_tree k.text_of n ≡ old))) is_some refl $
    move ! (1 ∷ []) $ use1 𝓛 (‵ (follows_so D D a.0.ghost_name (maybe.some x.ghost_name) (λ w n. document_tree k.text_of n ≡ set_found (by_key a.1.0.now) (document_tree k.text_of w) old) (λ n. Unit {0})))
    (lent_weaker 𝓛 D D D a.0.ghost_name (maybe.some x.ghost_name) _ _ _ _ (λ w n f. f) (λ n f. tt)) $ move ! (1 ∷ []) $
    lands_as ! (ap only spelled ∙ ap (λ (vs : List Val). live 1 (of_list (vs ++ []))) told) refl (tt, (record { fits = lit< tt }, (tt, tt))) $
    first ! $ by_variants ! 9 (whole !) (get_tag ! (vrt ! refl (fld ! refl (stop !))) (whole !)) tt (
      (λ _. sets ! (of_opd ! (get_in ! (vrt ! refl (fld ! refl (stop !))) (in_variant ! 1 0 refl refl (whole !)))) refl (tt, tt) $
          sets_last ! (addr ! (through ! refl (stop !))) refl (tt, tt) $
          exec ! 𝓣.C 𝓣.Λ (env (function T k kd e ed p pd).locals l) (after 3 (function T k kd e ed p pd).body) (at_ret _ (W.post y)) $
          sets ! (of_opd ! (get ! refl)) refl (tt, tt) $ returns ! (look_at ! 0 refl) $ free_all ! refl $
          suffices ! _ (ends_at 𝓛 End hs c y (vptr x.ref_ptr.0 x.ref_ptr.1) x (tt, (tt, tt)) (tt, (tt, tt))) $
          nothing ! $ nothing ! $ fjoin ! $ nothing ! $ fjoin ! $ join ! $ move ! (2 ∷ 0 ∷ []) $ join ! $ frame ! $
          says ! (ap (option_map (λ v. document_tree k.text_of v.now)) (sym is_some) ∙ shown) $ done !),
      ((λ one. absurd (suc-ne-zero 0 one)), tt),
    )))))))))))
