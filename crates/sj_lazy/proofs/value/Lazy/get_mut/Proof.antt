-- `get_mut` lends the document, and out of it the value of the key. Assumes `Logic`.
use Rattle.std.proofs.Common.{◌≡◌, ℕ, List, [], ◌∷◌, ◌++◌, Option, Some, None, Result, Ok, Err, IfOk, IsOk, OnErr, option_map, refl, sym, ap, ◌∙◌, subst, Vec, Global, MutBor}
use Rattle.sj_document.proofs.LoanSteps.{proved, ok_of, err_of, heap_val, heap_Tells, id⊢, emp, ftrue, flft, Fn, Args, Dict, a_type, dcons, dnil, named, inst_fn, Val, of_list, suc-ne-zero, lit<, after, fact, fact_i, ◌⊑◌, tables, ‵, raw, ◌⊛◌, some, later, given, ◌$◌, ◌∵◌, !, qed, move, keep, drop, use0, use1, use2, split, join, fjoin, learn, pick, await, rewrite, suffices, frame, at_ret, done, enter, addr, of_opd, fld, stop, lit, first, exec, returns, no_more, and_then, whole, agg, live, vrt, in_variant, by_variants, alloc_all, pass_all, free_all, look_at, get, get_in, get_tag, through, sets, sets_last, lands_as, env, shr_slice_vals, StrRefOf, Str, str-laws, yes, no, bounded, param, RattleType, MutRef, mut_vals, mut_Tells, mut_Lawful, plain, mut_ref_to, nothing, heard, peeks, only, shows, calls_at, Ended, lasts, triple_of, framed, Stays, walk_of, stay_dropped, Goes-dropped, Goes-spent_ref, ends_at, follows_so}
use mathlib.Core.Option as maybe
use denote.Struct.Laws as struct
use Rattle.std.specs.Option.{ghost_name_of, OnSome, IsSome}
use Rattle.std.specs.Borrow.{name_if_ok}
use Rattle.std.specs.contracts.option.Option as option
use Rattle.std.specs.contracts.result.Result as result
use Rattle.std.specs.declared.alloc.AllocError.{AllocError}
use Rattle.std.specs.contracts.alloc.AllocError as fault
use Rattle.std.proofs.alloc.AllocError.TheLaws as fault_laws
use Rattle.std.specs.contracts.alloc.Global as heap
use Rattle.std.proofs.alloc.Global.TheLaws as heap_laws
use Rattle.sj_text_core.specs.Find.{find}
use Rattle.sj_text_core.specs.Paths.{by_key, set_found}
use Rattle.sj_document.specs.Document.{document_tree}
use Rattle.sj_document.specs.declared.value.Document.{Document}
use Rattle.sj_document.specs.Rows.{document_row}
use Rattle.sj_lazy.specs.Value.{lazy_kept, owned}
use Rattle.sj_lazy.specs.Rows.{lazy_row}
use Rattle.std.specs.declared.cmp.Eq as total
use Rattle.std.specs.declared.cmp.PartialEq as eq
use Rattle.sj_object.specs.declared.key.KeyText as key
use Rattle.sj_lazy.specs.declared.upgrade.Upgrade as upgrade
use Rattle.sj_lazy.specs.declared.upgrade.Lent as lent
use Rattle.sj_lazy.specs.contracts.value.Lazy.get_mut as f
use Rattle.sj_lazy.specs.contracts.value.Lazy.as_mut as g
use Rattle.sj_document.specs.contracts.value.Document.get_mut as h
use Rattle.sj_lazy.proofs.value.Lazy.get_mut.Statement.{statement}
use Rattle.sj_lazy.proofs.value.Lazy.get_mut.Code as code
use Rattle.sj_lazy.proofs.value.Lazy.as_mut.Met as g-met
use Rattle.sj_document.proofs.value.Document.get_mut.Met as h-met
use Rattle.sj_document.proofs.Loans.{lent_none}
use Rattle.sj_document.proofs.Results.{lent_so, result_out, option_lawful, result_lawful, on_some}

module _ (P B T : RattleType) (u : upgrade.Ghosts P.Denot T.Denot) (ud : Dict) (n : lent.Ghosts B.Denot T.Denot) (nd : Dict) (k : key.Ghosts T.Denot) (kd : Dict) (e : total.Ghosts T.Denot) (ed : Dict) (p : eq.Ghosts T.Denot) (pd Pd Bd Td : Dict) where
  abbrev args : Args
  args = bounded (a_type ∷ a_type ∷ a_type ∷ []) (P, (B, (T, tt))) (dcons ud (dcons nd (dcons kd (dcons ed (dcons pd (dcons Pd (dcons Bd (dcons Td dnil))))))))

  abbrev function : Fn
  function = inst_fn args code.function

  abbrev end : Ended
  end = f.ended P B T u ud n nd k kd e ed p pd Pd Bd Td

  abbrev Lender : RattleType
  Lender = lazy_row (param 0 P) (param 1 B) (param 2 T) (record { text_of = k.text_of; eq = p.eq })

  abbrev Doc : RattleType
  Doc = document_row (param 2 T) (record { text_of = k.text_of; eq = p.eq })

  abbrev Part : RattleType
  Part = document_row (param 2 T) (record { text_of = k.text_of; eq = p.eq })

  abbrev stayed : Stays end.signature.params end.kept
  stayed = (stay_dropped (mut_ref_to (0 ∷ []) tt (plain (λ _. Lender))) no, (stay_dropped (plain (λ _. heap.the_row)) yes, (stay_dropped (StrRefOf (1 ∷ []) tt) yes, tt)))

pub get_mut_spec : {M : Type 1} → statement M
get_mut_spec 𝓤 𝓛 𝓜 𝓡 wired P B T LP LB LT u ud n nd k kd e ed p pd Pd Bd Td mu mn mk me mp mP mB mT =
    let c = f.clauses P B T u ud n nd k kd e ed p pd Pd Bd Td 𝓛 𝓜.mem 𝓡.returns in
    let hs = stayed P B T u ud n nd k kd e ed p pd Pd Bd Td in
    let End = end P B T u ud n nd k kd e ed p pd Pd Bd Td in
    let S = Lender P B T u ud n nd k kd e ed p pd Pd Bd Td in let D = Doc P B T u ud n nd k kd e ed p pd Pd Bd Td in let X = Part P B T u ud n nd k kd e ed p pd Pd Bd Td in let E = fault.the_row in let t = k.text_of in
    let W = walk_of 𝓛 End hs c in
    let 𝓣 = tables 𝓤 𝓛.H 𝓜 𝓡 𝓡.env in
    proved 𝓛 End hs c 𝓜 𝓡 (Goes-spent_ref 𝓛 5 (0 ∷ []) tt (plain (λ _. S)), (Goes-dropped 𝓛 5 (plain (λ _. heap.the_row)) yes (λ κs x w. refl), (Goes-dropped 𝓛 5 (StrRefOf (1 ∷ []) tt) yes (λ κs x w. refl), tt)))
    (f.Key.name (args P B T u ud n nd k kd e ed p pd Pd Bd Td)) (function P B T u ud n nd k kd e ed p pd Pd Bd Td) (code.unfolded 𝓤 𝓛.H 𝓜 𝓡 wired (P, (B, (T, tt))) ud nd kd ed pd Pd Bd Td)
    (λ κs. (mut_vals, ((λ _. heap_val ∷ []), (shr_slice_vals, tt)))) (λ κs. (mut_Tells (named 0) κs.0 S, (heap_Tells, ((str-laws (record { mir = named 1; lft = κs.1.0 })).tells, tt)))) (λ κs qs bounds a _ are.
    let Found = option.the_row (MutRef (named 0) κs.0 X) in let Answer = result.the_row Found E in
    let us = mut_vals a.0 in let ks = shr_slice_vals a.1.1.0 in let old = a.0.now in let kept = lazy_kept u.part_kept n.lent_tree t old in
    let y : W.Ghost = ((κs, qs, bounds, a, (us, (heap_val ∷ [], (ks, tt)))), tt) in
    let G = triple_of 𝓛 (g.signature P B T u ud n nd k kd e ed p pd Pd Bd Td) (g.spec P B T u ud n nd k kd e ed p pd Pd Bd Td 𝓛 𝓜.mem 𝓡.returns) in
    let z : G.Ghost = (((κs.0, (κs.1.1.0, (κs.1.1.1.0, (κs.1.1.1.1.0, tt)))), (qs.0, (qs.1.1.0, (qs.1.1.1.0, (qs.1.1.1.1.0, tt)))), bounds, (a.0, (a.1.0, tt)), (us, (heap_val ∷ [], tt))), tt) in
    qed 𝓛 (((‵ (flft κs.0 qs.0) ⊛ ‵ (flft κs.1.0 qs.1.0) ⊛ ‵ (flft κs.1.1.0 qs.1.1.0) ⊛ ‵ (flft κs.1.1.1.0 qs.1.1.1.0) ⊛ ‵ (flft κs.1.1.1.1.0 qs.1.1.1.1.0) ⊛ ‵ ftrue) ⊛ ‵ ((MutRef (named 0) κs.0 S).own_val a.0 us) ⊛ ‵ (heap.the_row.own_val a.1.0 (heap_val ∷ [])) ⊛ ‵ ((Str (named 1) κs.1.0).own_val a.1.1.0 ks) ⊛ ‵ ftrue) ∷ (given (κs.1.1.0 ⊑ P.lives) (‵ ftrue) ⊛ given (κs.1.1.1.0 ⊑ B.lives) (‵ ftrue) ⊛ given (κs.1.1.1.1.0 ⊑ T.lives) (‵ ftrue) ⊛ ‵ ftrue) ∷ []) ∵
    move ! (1 ∷ []) $ split ! $ learn ! (λ livesP. drop ! $ split ! $ learn ! (λ livesB. drop ! $ split ! $ learn ! (λ livesT. drop ! $ drop ! $
    split ! $ split ! $ move ! (1 ∷ []) $ split ! $ move ! (1 ∷ []) $ split ! $ move ! (1 ∷ []) $ split ! $ move ! (1 ∷ []) $ split ! $ move ! (6 ∷ []) $ split ! $ move ! (1 ∷ []) $ split ! $ move ! (1 ∷ []) $ split ! $ keep ! (3 ∷ 2 ∷ 0 ∷ 9 ∷ 8 ∷ 7 ∷ 6 ∷ 4 ∷ []) $
    -- [self; the allocator; the key; the tokens]
    enter ! _ _ _ _ _ $ alloc_all ! (λ l. pass_all ! refl ((tt, tt), (((struct.lawful heap.the_type heap_laws.the_laws 𝓛).typed a.1.0 (heap_val ∷ []) are.1.0).0, ((((str-laws (record { mir = named 1; lft = κs.1.0 })).lawful 𝓛).typed a.1.1.0 ks are.1.1.0).0, tt))) $
    sets ! (addr ! (through ! refl (stop !))) refl (tt, tt) $
    nothing ! $ move ! (2 ∷ 0 ∷ []) $ join ! $ move ! (1 ∷ 0 ∷ []) $ join ! $
    nothing ! $ move ! (7 ∷ 0 ∷ []) $ join ! $ move ! (6 ∷ 0 ∷ []) $ join ! $ move ! (5 ∷ 0 ∷ []) $ join ! $ move ! (3 ∷ 0 ∷ []) $ join ! $ join ! $
    nothing ! $ use0 𝓛 (given (κs.1.1.1.1.0 ⊑ T.lives) (‵ ftrue)) (fact_i 𝓤 _ (emp 𝓤) livesT) $ join ! $ use0 𝓛 (given (κs.1.1.1.0 ⊑ B.lives) (‵ ftrue)) (fact_i 𝓤 _ (emp 𝓤) livesB) $ join ! $ use0 𝓛 (given (κs.1.1.0 ⊑ P.lives) (‵ ftrue)) (fact_i 𝓤 _ (emp 𝓤) livesP) $ join ! $ move ! (1 ∷ 0 ∷ []) $ use2 𝓛 (raw (G.pre z)) (id⊢ 𝓤 _) $
    calls_at ! (framed 𝓤 𝓛.H 𝓜 𝓣) G (g-met.met 𝓤 𝓛 𝓜 𝓡 (code.calls-sj_lazy::value::Lazy::as_mut 𝓡.env wired) P B T LP LB LT u ud n nd k kd e ed p pd Pd Bd Td mu mn mk me mp mP mB mT) z (and_then ! (get ! refl) (and_then ! (get ! refl) (no_more !))) (λ v.
    use1 𝓛 (later (some (λ (r : Result (MutBor D.Denot) AllocError). ((‵ (flft κs.0 qs.0) ⊛ ‵ (flft κs.1.1.0 qs.1.1.0) ⊛ ‵ (flft κs.1.1.1.0 qs.1.1.1.0) ⊛ ‵ (flft κs.1.1.1.1.0 qs.1.1.1.1.0) ⊛ ‵ ftrue) ⊛ ‵ ((result.the_row (MutRef (named 0) κs.0 D) E).own_val r (v ∷ []))) ⊛
    some (λ (ends : Unit {0} × (Unit {0} × Unit {0})). ‵ (lasts (g.ended P B T u ud n nd k kd e ed p pd Pd Bd Td) z.0.0 z.0.3 ends) ⊛ (‵ (follows_so S D a.0.ghost_name (name_if_ok (λ x. x.ghost_name) r) (λ w n. IsOk r → owned t n ≡ Some (document_tree t w)) (λ n. OnErr r (n ≡ old)))
    ⊛ raw (fact 𝓤 (IfOk r (λ v. document_tree t v.now ≡ kept))) ⊛ raw (fact 𝓤 (IsSome (owned t old) → IsOk r))))))) (id⊢ 𝓤 _) $
    await ! tt $ pick ! (λ r. split ! $ split ! $ move ! (2 ∷ []) $ pick ! (λ ends. split ! $ drop ! $ split ! $ move ! (1 ∷ []) $ split ! $ heard ! _ (λ shown. heard ! _ (λ succeeds. move ! (2 ∷ []) $
    -- [what r owns; what the call says; the tokens; the key; its token]
    result_out ! (MutRef (named 0) κs.0 D) E r (v ∷ [])
    (λ x xs is_ok spelled.
    peeks ! (MutRef (named 0) κs.0 D) _ (shows 𝓛 (MutRef (named 0) κs.0 D)) x xs (λ is.
    let told = mut_Tells (named 0) κs.0 D x xs is in
    let same : document_tree t x.now ≡ kept = subst (λ (r : Result (MutBor D.Denot) AllocError). IfOk r (λ v. document_tree t v.now ≡ kept)) is_ok shown in
    rewrite ! 0 (λ (vs : List Val). ‵ ((MutRef (named 0) κs.0 D).own_val x vs)) told refl $
    rewrite ! 1 (λ (r : Result (MutBor D.Denot) AllocError). ‵ (follows_so S D a.0.ghost_name (name_if_ok (λ x. x.ghost_name) r) (λ w n. IsOk r → owned t n ≡ Some (document_tree t w)) (λ n. OnErr r (n ≡ old)))) is_ok refl $
    lands_as ! (ap only spelled ∙ ap (λ (vs : List Val). live 0 (of_list (vs ++ []))) told) refl (tt, (record { fits = lit< tt }, (tt, tt))) $
    first ! $ by_variants ! 13 (whole !) (get_tag ! (vrt ! refl (fld ! refl (stop !))) (whole !)) tt (
      (λ _. sets ! (of_opd ! (get_in ! (vrt ! refl (fld ! refl (stop !))) (in_variant ! 0 0 refl refl (whole !)))) refl (tt, tt) $
          sets ! (addr ! (through ! refl (stop !))) refl (tt, tt) $
          let G' = triple_of 𝓛 (h.signature T k kd e ed p pd) (h.spec T k kd e ed p pd 𝓛 𝓜.mem 𝓡.returns) in
          let z' : G'.Ghost = (((κs.0, (κs.1.0, (κs.1.1.1.1.0, tt))), (qs.0, (qs.1.0, (qs.1.1.1.1.0, tt))), bounds.1.1, (x, (a.1.1.0, tt)), (mut_vals x, (ks, tt))), tt) in
          move ! (2 ∷ []) $ split ! $ move ! (1 ∷ []) $ split ! $ move ! (1 ∷ []) $ split ! $ move ! (1 ∷ []) $ split ! $
          nothing ! $ move ! (8 ∷ 0 ∷ []) $ join ! $ move ! (6 ∷ 0 ∷ []) $ join ! $
          nothing ! $ move ! (2 ∷ 0 ∷ []) $ join ! $ move ! (7 ∷ 0 ∷ []) $ join ! $ move ! (5 ∷ 0 ∷ []) $ join ! $ join ! $
          nothing ! $ use0 𝓛 (given (κs.1.1.1.1.0 ⊑ T.lives) (‵ ftrue)) (fact_i 𝓤 _ (emp 𝓤) livesT) $ join ! $ move ! (1 ∷ 0 ∷ []) $ use2 𝓛 (raw (G'.pre z')) (id⊢ 𝓤 _) $
          calls_at ! (framed 𝓤 𝓛.H 𝓜 𝓣) G' (h-met.met 𝓤 𝓛 𝓜 𝓡 (code.calls-sj_document::value::Document::get_mut 𝓡.env wired) T LT k kd e ed p pd mk me mp) z' (and_then ! (get ! refl) (and_then ! (get ! refl) (no_more !))) (λ v'.
          use1 𝓛 (later (some (λ (r' : Option (MutBor X.Denot)). ((‵ (flft κs.0 qs.0) ⊛ ‵ (flft κs.1.0 qs.1.0) ⊛ ‵ (flft κs.1.1.1.1.0 qs.1.1.1.1.0) ⊛ ‵ ftrue) ⊛ ‵ (Found.own_val r' (v' ∷ []))) ⊛
          some (λ (ends : Unit {0} × (Unit {0} × (Unit {0}))). ‵ (lasts (h.ended T k kd e ed p pd) z'.0.0 z'.0.3 ends) ⊛ (‵ (follows_so D X x.ghost_name (ghost_name_of r') (λ w s. OnSome r' (document_tree t s ≡ set_found (by_key a.1.1.0.now) (document_tree t w) (document_tree t x.now))) (λ s. document_tree t s ≡ document_tree t x.now))
          ⊛ raw (fact 𝓤 (option_map (λ v. document_tree t v.now) r' ≡ find a.1.1.0.now (document_tree t x.now)))))))) (id⊢ 𝓤 _) $
          await ! tt $ pick ! (λ r'. split ! $ split ! $ move ! (2 ∷ []) $ pick ! (λ ends. split ! $ drop ! $ split ! $ move ! (1 ∷ []) $ heard ! _ (λ found.
          move ! (2 ∷ []) $ peeks ! Found _ (shows 𝓛 Found) r' (v' ∷ []) (λ is'.
          lands_as ! refl refl (((option_lawful 𝓛 (MutRef (named 0) κs.0 X) (mut_Lawful 𝓛 (named 0) κs.0 X)).typed r' (v' ∷ []) is').0) $
          use1 𝓛 (‵ (Answer.own_val (Ok r') (live 0 (of_list (v' ∷ [])) ∷ []))) (ok_of 𝓛 Found E r' v') $
          peeks ! Answer _ (shows 𝓛 Answer) (Ok r') (live 0 (of_list (v' ∷ [])) ∷ []) (λ made.
          let ok : Result (Option (MutBor X.Denot)) AllocError = Ok r' in
          let fits = ((result_lawful 𝓛 Found E (option_lawful 𝓛 (MutRef (named 0) κs.0 X) (mut_Lawful 𝓛 (named 0) κs.0 X)) (struct.lawful fault.the_type fault_laws.the_laws 𝓛)).typed (Ok r') (live 0 (of_list (v' ∷ [])) ∷ []) made).0 in
          sets_last ! (agg ! (and_then ! (lit ! tt) (and_then ! (get ! refl) (no_more !)))) refl fits $
          exec ! 𝓣.C 𝓣.Λ (env (function P B T u ud n nd k kd e ed p pd Pd Bd Td).locals l) (after 3 (function P B T u ud n nd k kd e ed p pd Pd Bd Td).body) (at_ret _ (W.post y)) $
          sets ! (of_opd ! (get ! refl)) refl fits $ returns ! (look_at ! 0 refl) $ free_all ! refl $
          move ! (6 ∷ 1 ∷ []) $ use2 𝓛 (‵ (follows_so S X a.0.ghost_name (ghost_name_of r') (λ w n. OnSome r' (owned t n ≡ Some (set_found (by_key a.1.1.0.now) (document_tree t w) kept))) (λ n. owned t n ≡ Some kept)))
          (lent_so 𝓛 S D X a.0.ghost_name x.ghost_name _ _ (ghost_name_of r') (λ w s. OnSome r' (document_tree t s ≡ set_found (by_key a.1.1.0.now) (document_tree t w) (document_tree t x.now))) (λ s. document_tree t s ≡ document_tree t x.now) (λ w n. OnSome r' (owned t n ≡ Some (set_found (by_key a.1.1.0.now) (document_tree t w) kept))) (λ n. owned t n ≡ Some kept)
          (λ w s n found lent. on_some r' (λ f. lent refl ∙ ap Some (f ∙ ap (set_found (by_key a.1.1.0.now) (document_tree t w)) same)) found) (λ s n stays lent. lent refl ∙ ap Some (stays ∙ same))) $
          move ! (2 ∷ []) $ split ! $ move ! (1 ∷ []) $ split ! $ move ! (1 ∷ []) $ split ! $ keep ! (5 ∷ 0 ∷ 7 ∷ 8 ∷ 2 ∷ 3 ∷ 4 ∷ []) $
          suffices ! _ (ends_at 𝓛 End hs c y (live 0 (of_list (v' ∷ []))) ok (tt, (tt, (tt, tt))) (tt, (tt, (tt, tt)))) $
          nothing ! $ nothing ! $ fjoin ! $ nothing ! $ fjoin ! $ nothing ! $ fjoin ! $ join ! $ nothing ! $ move ! (2 ∷ 0 ∷ []) $ join ! $ move ! (2 ∷ 0 ∷ []) $ join ! $ move ! (2 ∷ 0 ∷ []) $ join ! $ move ! (2 ∷ 0 ∷ []) $ join ! $ move ! (2 ∷ 0 ∷ []) $ join ! $ join ! $ frame ! $
          use0 𝓛 (raw (fact 𝓤 (IsSome (owned t old) → IsOk ok))) (fact_i 𝓤 _ (emp 𝓤) (λ h. refl)) $ use0 𝓛 (raw (fact 𝓤 (option_map (λ v. document_tree t v.now) r' ≡ find a.1.1.0.now kept))) (fact_i 𝓤 _ (emp 𝓤) (found ∙ ap (find a.1.1.0.now) same)) $
          join ! $ move ! (1 ∷ 0 ∷ []) $ join ! $ done !))))))),
      ((λ one. absurd (suc-ne-zero 0 (sym one))), tt),
    )))
    (λ why ys is_err spelled.
    peeks ! E _ (shows 𝓛 E) why ys (λ is.
    let told = struct.tells fault.the_type fault_laws.the_laws why ys is in
    let word = struct.val fault.the_type fault_laws.the_laws why in
    let failed : Result (Option (MutBor X.Denot)) AllocError = Err why in
    rewrite ! 0 (λ (vs : List Val). ‵ (E.own_val why vs)) told refl $
    rewrite ! 1 (λ (r : Result (MutBor D.Denot) AllocError). ‵ (follows_so S D a.0.ghost_name (name_if_ok (λ x. x.ghost_name) r) (λ w n. IsOk r → owned t n ≡ Some (document_tree t w)) (λ n. OnErr r (n ≡ old)))) is_err refl $
    lands_as ! (ap only spelled ∙ ap (λ (vs : List Val). live 1 (of_list (vs ++ []))) told) refl (tt, (record { fits = lit< tt }, (tt, tt))) $
    first ! $ by_variants ! 13 (whole !) (get_tag ! (vrt ! refl (fld ! refl (stop !))) (whole !)) tt (
      (λ zero. absurd (suc-ne-zero 0 zero)),
      (
        (λ _. sets ! (of_opd ! (get_in ! (vrt ! refl (fld ! refl (stop !))) (in_variant ! 1 0 refl refl (whole !)))) refl (tt, tt) $
            sets_last ! (agg ! (and_then ! (lit ! tt) (and_then ! (get ! refl) (no_more !)))) refl (tt, (record { fits = lit< tt }, (tt, tt))) $
            exec ! 𝓣.C 𝓣.Λ (env (function P B T u ud n nd k kd e ed p pd Pd Bd Td).locals l) (after 3 (function P B T u ud n nd k kd e ed p pd Pd Bd Td).body) (at_ret _ (W.post y)) $
            sets ! (of_opd ! (get ! refl)) refl (tt, (record { fits = lit< tt }, (tt, tt))) $ returns ! (look_at ! 0 refl) $ free_all ! refl $
            use1 𝓛 (‵ (Answer.own_val (Err why) (live 1 (of_list (word ∷ [])) ∷ []))) (err_of 𝓛 Found E why word) $ move ! (1 ∷ []) $
            use1 𝓛 (‵ (follows_so S X a.0.ghost_name maybe.none (λ w n. Unit {0}) (λ n. n ≡ old))) (lent_none 𝓛 S D X a.0.ghost_name _ _ (λ w n. Unit {0}) (λ n. n ≡ old) (λ w n x. tt) (λ n x. x)) $
            move ! (2 ∷ []) $ split ! $ move ! (1 ∷ []) $ split ! $ move ! (1 ∷ []) $ split ! $ move ! (1 ∷ []) $ split ! $ keep ! (6 ∷ 0 ∷ 2 ∷ 3 ∷ 8 ∷ 4 ∷ 5 ∷ []) $
            suffices ! _ (ends_at 𝓛 End hs c y (live 1 (of_list (word ∷ []))) failed (tt, (tt, (tt, tt))) (tt, (tt, (tt, tt)))) $
            nothing ! $ nothing ! $ fjoin ! $ nothing ! $ fjoin ! $ nothing ! $ fjoin ! $ join ! $ nothing ! $ move ! (2 ∷ 0 ∷ []) $ join ! $ move ! (2 ∷ 0 ∷ []) $ join ! $ move ! (2 ∷ 0 ∷ []) $ join ! $ move ! (2 ∷ 0 ∷ []) $ join ! $ move ! (2 ∷ 0 ∷ []) $ join ! $ join ! $ frame ! $
            use0 𝓛 (raw (fact 𝓤 (IsSome (owned t old) → IsOk failed))) (fact_i 𝓤 _ (emp 𝓤) (subst (λ (r : Result (MutBor D.Denot) AllocError). IsSome (owned t old) → IsOk r) is_err succeeds)) $ use0 𝓛 (raw (fact 𝓤 (Unit {0}))) (fact_i 𝓤 _ (emp 𝓤) tt) $
            join ! $ move ! (1 ∷ 0 ∷ []) $ join ! $ done !),
        tt,
      ),
    )))))))))))))
