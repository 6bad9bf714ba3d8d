-- `get_mut` lends the map of the object, and out of it the value of the key. Assumes `Logic`.
use Rattle.std.proofs.Common.{◌≡◌, List, [], ◌∷◌, ◌++◌, Option, Some, None, option_map, refl, sym, ap, ◌∙◌, MutBor}
use Rattle.sj_document.proofs.LoanSteps.{proved, id⊢, emp, ftrue, flft, Fn, Args, Dict, a_type, dcons, dnil, named, inst_fn, Val, vptr, of_list, spot_of, suc-ne-zero, lit<, after, fact, fact_i, ◌⊑◌, tables, ‵, raw, ◌⊛◌, some, later, given, ◌$◌, ◌∵◌, !, qed, move, keep, drop, use0, use1, use2, split, join, fjoin, learn, pick, await, rewrite, suffices, frame, at_ret, done, enter, addr, lit, of_opd, fld, stop, first, exec, returns, no_more, and_then, whole, agg, live, vrt, in_variant, by_variants, alloc_all, pass_all, free_all, look_at, get, get_in, get_tag, through, sets, sets_last, lands_as, lands_last, env, yes, no, bounded, param, RattleType, MutRef, mut_vals, mut_Tells, shr_slice_vals, plain, mut_ref_to, nothing, heard, peeks, only, shows, StrRefOf, Str, str-laws, calls_at, calls_at_last, Ended, lasts, triple_of, framed, Stays, walk_of, says, stay_dropped, Goes-dropped, Goes-spent_ref, ends_at, follows_so, follows_if}
use mathlib.Core.Option as maybe
use Rattle.std.specs.Option.{ghost_name_of, OnSome, option_copied_mut}
use Rattle.std.specs.contracts.option.Option as option
use Rattle.sj_text_core.specs.Tree.{obj}
use Rattle.sj_text_core.specs.Reads.{as_members}
use Rattle.sj_text_core.specs.Paths.{by_key, set_found}
use Rattle.sj_object.specs.Edits.{lookup, with_value}
use Rattle.sj_object.specs.Members.{entry_members}
use Rattle.sj_document.specs.Document.{document_tree}
use Rattle.sj_document.specs.declared.value.Document.{Document}
use Rattle.sj_document.specs.Rows.{object_row}
use Rattle.sj_document.proofs.Trees.{Map}
use Rattle.std.specs.declared.cmp.Eq as total
use Rattle.std.specs.declared.cmp.PartialEq as eq
use Rattle.sj_object.specs.declared.key.KeyText as key
use Rattle.sj_document.specs.contracts.value.Document.{the_row}
use Rattle.sj_document.specs.contracts.value.Document.get_mut as f
use Rattle.sj_document.specs.contracts.value.Document.as_object_mut as g
use Rattle.sj_document.specs.contracts.value.Document.value_of as h
use Rattle.sj_document.proofs.value.Document.get_mut.Statement.{statement}
use Rattle.sj_document.proofs.value.Document.get_mut.Code as code
use Rattle.sj_document.proofs.value.Document.as_object_mut.Met as g-met
use Rattle.sj_document.proofs.value.Document.value_of.Met as h-met
use Rattle.sj_document.proofs.Loans.{fits_as, lent_then, lent_none, some_in, none_in, option_out}
use Rattle.sj_document.proofs.Lent.{no_members_found, object_of, member_shown, member_written}

module _ (T : RattleType) (k : key.Ghosts T.Denot) (kd : Dict) (e : total.Ghosts T.Denot) (ed : Dict) (p : eq.Ghosts T.Denot) (pd : Dict) where
  abbrev args : Args
  args = bounded (a_type ∷ []) (T, tt) (dcons kd (dcons ed (dcons pd dnil)))

  abbrev function : Fn
  function = inst_fn args code.function

  abbrev end : Ended
  end = f.ended T k kd e ed p pd

  abbrev Doc : RattleType
  Doc = the_row (param 0 T) k p

  abbrev stayed : Stays end.signature.params end.kept
  stayed = (stay_dropped (mut_ref_to (0 ∷ []) tt (plain (λ _. Doc))) no, (stay_dropped (StrRefOf (1 ∷ []) tt) yes, tt))

pub get_mut_spec : {M : Type 1} → statement M
get_mut_spec 𝓤 𝓛 𝓜 𝓡 wired T L k kd e ed p pd mk me mp =
    let c = f.clauses T k kd e ed p pd 𝓛 𝓜.mem 𝓡.returns in
    let hs = stayed T k kd e ed p pd in
    let End = end T k kd e ed p pd in
    let D = Doc T k kd e ed p pd in let O = object_row (param 0 T) (record { text_of = k.text_of; eq = p.eq }) in
    let W = walk_of 𝓛 End hs c in
    let 𝓣 = tables 𝓤 𝓛.H 𝓜 𝓡 𝓡.env in
    proved 𝓛 End hs c 𝓜 𝓡 (Goes-spent_ref 𝓛 3 (0 ∷ []) tt (plain (λ _. D)), (Goes-dropped 𝓛 3 (StrRefOf (1 ∷ []) tt) yes (λ κs x w. refl), tt))
    (f.Key.name (args T k kd e ed p pd)) (function T k kd e ed p pd) (code.unfolded 𝓤 𝓛.H 𝓜 𝓡 wired (T, tt) kd ed pd)
    (λ κs. (mut_vals, (shr_slice_vals, tt))) (λ κs. (mut_Tells (named 0) κs.0 D, ((str-laws (record { mir = named 1; lft = κs.1.0 })).tells, tt))) (λ κs qs bounds a _ are.
    let us = mut_vals a.0 in let ws = shr_slice_vals a.1.0 in
    let y : W.Ghost = ((κs, qs, bounds, a, (us, (ws, tt))), tt) in
    let G = triple_of 𝓛 (g.signature T k kd e ed p pd) (g.spec T k kd e ed p pd 𝓛 𝓜.mem 𝓡.returns) in
    let z : G.Ghost = (((κs.0, (κs.1.1.0, tt)), (qs.0, (qs.1.1.0, tt)), bounds, (a.0, tt), (us, tt)), tt) in
    qed 𝓛 (((‵ (flft κs.0 qs.0) ⊛ ‵ (flft κs.1.0 qs.1.0) ⊛ ‵ (flft κs.1.1.0 qs.1.1.0) ⊛ ‵ ftrue) ⊛ ‵ ((MutRef (named 0) κs.0 D).own_val a.0 us) ⊛ ‵ ((Str (named 1) κs.1.0).own_val a.1.0 ws) ⊛ ‵ ftrue) ∷ (given (κs.1.1.0 ⊑ T.lives) (‵ ftrue) ⊛ ‵ ftrue) ∷ []) ∵
    move ! (1 ∷ []) $ split ! $ learn ! (λ lives. drop ! $ drop ! $
    split ! $ split ! $ move ! (1 ∷ []) $ split ! $ move ! (1 ∷ []) $ split ! $ move ! (4 ∷ []) $ split ! $ move ! (1 ∷ []) $ split ! $ keep ! (2 ∷ 0 ∷ 6 ∷ 5 ∷ 3 ∷ []) $
    -- [self; the key; the tokens of self, of the key and of T]
    enter ! _ _ _ _ _ $ alloc_all ! (λ l. pass_all ! refl ((tt, tt), ((((str-laws (record { mir = named 1; lft = κs.1.0 })).lawful 𝓛).typed a.1.0 ws are.1.0).0, tt)) $
    sets ! (addr ! (through ! refl (stop !))) refl (tt, tt) $
    nothing ! $ move ! (1 ∷ 0 ∷ []) $ join ! $ nothing ! $ move ! (5 ∷ 0 ∷ []) $ join ! $ move ! (3 ∷ 0 ∷ []) $ join ! $ join ! $
    nothing ! $ use0 𝓛 (given (κs.1.1.0 ⊑ T.lives) (‵ ftrue)) (fact_i 𝓤 _ (emp 𝓤) lives) $ join ! $ move ! (1 ∷ 0 ∷ []) $ use2 𝓛 (raw (G.pre z)) (id⊢ 𝓤 _) $
    -- [what the call asks; the key; the key's token]
    calls_at ! (framed 𝓤 𝓛.H 𝓜 𝓣) G (g-met.met 𝓤 𝓛 𝓜 𝓡 (code.calls-sj_document::value::Document::as_object_mut 𝓡.env wired) T L k kd e ed p pd mk me mp) z (and_then ! (get ! refl) (no_more !)) (λ v.
    use1 𝓛 (later (some (λ (r : Option (MutBor (Map T.Denot))). ((‵ (flft κs.0 qs.0) ⊛ ‵ (flft κs.1.1.0 qs.1.1.0) ⊛ ‵ ftrue) ⊛ ‵ ((option.the_row (MutRef (named 0) κs.0 O)).own_val r (v ∷ []))) ⊛
    some (λ (ends : Unit {0} × Unit {0}). ‵ (lasts (g.ended T k kd e ed p pd) z.0.0 z.0.3 ends) ⊛ (‵ (follows_so D O a.0.ghost_name (ghost_name_of r) (λ w n. OnSome r (document_tree k.text_of n ≡ obj (entry_members (document_tree k.text_of) w.entries))) (λ n. document_tree k.text_of n ≡ document_tree k.text_of a.0.now))
    ⊛ raw (fact 𝓤 (option_map (λ m. entry_members (document_tree k.text_of) m.now.entries) r ≡ as_members (document_tree k.text_of a.0.now)))))))) (id⊢ 𝓤 _) $
    await ! tt $ pick ! (λ r. split ! $ split ! $ split ! $
    -- [the token of self; that of T; what r owns; what the call says; the key; its token]
    move ! (1 ∷ []) $ split ! $ move ! (4 ∷ []) $ pick ! (λ ends. split ! $ drop ! $ split ! $ move ! (1 ∷ []) $ heard ! _ (λ shown.
    move ! (2 ∷ []) $ drop ! $ move ! (3 ∷ []) $
    -- [what r owns; what the call says; the tokens of T and self; the key; its token]
    option_out ! (MutRef (named 0) κs.0 O) r (v ∷ [])
    (λ is_none spelled.
    rewrite ! 0 (λ (x : Option (MutBor (Map T.Denot))). ‵ (follows_so D O a.0.ghost_name (ghost_name_of x) (λ w n. OnSome x (document_tree k.text_of n ≡ obj (entry_members (document_tree k.text_of) w.entries))) (λ n. document_tree k.text_of n ≡ document_tree k.text_of a.0.now))) is_none refl $
    use1 𝓛 (‵ (follows_so D D a.0.ghost_name maybe.none (λ w n. Unit {0}) (λ n. document_tree k.text_of n ≡ document_tree k.text_of a.0.now))) (lent_none 𝓛 D O D a.0.ghost_name _ _ (λ w n. Unit {0}) (λ n. document_tree k.text_of n ≡ document_tree k.text_of a.0.now) (λ w n x. tt) (λ n x. x)) $
    lands_as ! (ap only spelled) refl (tt, (record { fits = lit< tt }, tt)) $
    first ! $ by_variants ! 11 (whole !) (get_tag ! (vrt ! refl (fld ! refl (stop !))) (whole !)) tt (
      (λ one. absurd (suc-ne-zero 0 (sym one))),
      (
        (λ _. sets_last ! (agg ! (and_then ! (lit ! tt) (no_more !))) refl (tt, (record { fits = lit< tt }, tt)) $
            exec ! 𝓣.C 𝓣.Λ (env (function T k kd e ed p pd).locals l) (after 3 (function T k kd e ed p pd).body) (at_ret _ (W.post y)) $
            sets ! (of_opd ! (get ! refl)) refl (tt, (record { fits = lit< tt }, tt)) $ returns ! (look_at ! 0 refl) $ free_all ! refl $
            keep ! (2 ∷ 4 ∷ 1 ∷ 0 ∷ []) $ use0 𝓛 (‵ ((option.the_row (MutRef (named 0) κs.0 D)).own_val None (live 0 (of_list []) ∷ []))) (none_in 𝓛 (MutRef (named 0) κs.0 D)) $
            suffices ! _ (ends_at 𝓛 End hs c y (live 0 (of_list [])) None (tt, (tt, tt)) (tt, (tt, tt))) $
            nothing ! $ nothing ! $ fjoin ! $ nothing ! $ fjoin ! $ join ! $ nothing ! $ move ! (4 ∷ 0 ∷ []) $ join ! $ move ! (3 ∷ 0 ∷ []) $ join ! $ move ! (2 ∷ 0 ∷ []) $ join ! $ join ! $ frame ! $
            says ! (no_members_found a.1.0.now (document_tree k.text_of a.0.now) (ap (option_map (λ m. entry_members (document_tree k.text_of) m.now.entries)) (sym is_none) ∙ shown)) $ done !),
        tt,
      ),
    ))
    (λ m xs is_some spelled.
    peeks ! (MutRef (named 0) κs.0 O) _ (shows 𝓛 (MutRef (named 0) κs.0 O)) m xs (λ is.
    let told = mut_Tells (named 0) κs.0 O m xs is in
    let same = object_of (entry_members (document_tree k.text_of) m.now.entries) (document_tree k.text_of a.0.now) (ap (option_map (λ n. entry_members (document_tree k.text_of) n.now.entries)) (sym is_some) ∙ shown) in
    rewrite ! 0 (λ (vs : List Val). ‵ ((MutRef (named 0) κs.0 O).own_val m vs)) told refl $
    rewrite ! 1 (λ (x : Option (MutBor (Map T.Denot))). ‵ (follows_so D O a.0.ghost_name (ghost_name_of x) (λ w n. OnSome x (document_tree k.text_of n ≡ obj (entry_members (document_tree k.text_of) w.entries))) (λ n. document_tree k.text_of n ≡ document_tree k.text_of a.0.now))) is_some refl $
    lands_as ! (ap only spelled ∙ ap (λ (vs : List Val). live 1 (of_list (vs ++ []))) told) refl (tt, (record { fits = lit< tt }, (tt, tt))) $
    first ! $ by_variants ! 12 (whole !) (get_tag ! (vrt ! refl (fld ! refl (stop !))) (whole !)) tt (
      (λ _. sets ! (of_opd ! (get_in ! (vrt ! refl (fld ! refl (stop !))) (in_variant ! 1 0 refl refl (whole !)))) refl (tt, tt) $
          sets ! (addr ! (through ! refl (stop !))) refl (tt, tt) $
          let G' = triple_of 𝓛 (h.signature T k kd e ed p pd) (h.spec T k kd e ed p pd 𝓛 𝓜.mem 𝓡.returns) in
          let z' : G'.Ghost = ((κs, qs, bounds, (m, (a.1.0, tt)), (mut_vals m, (ws, tt))), tt) in
          nothing ! $ move ! (5 ∷ 0 ∷ []) $ join ! $ move ! (1 ∷ 0 ∷ []) $ join ! $
          nothing ! $ move ! (3 ∷ 0 ∷ []) $ join ! $ move ! (4 ∷ 0 ∷ []) $ join ! $ move ! (3 ∷ 0 ∷ []) $ join ! $ join ! $
          nothing ! $ use0 𝓛 (given (κs.1.1.0 ⊑ T.lives) (‵ ftrue)) (fact_i 𝓤 _ (emp 𝓤) lives) $ join ! $ move ! (1 ∷ 0 ∷ []) $ use2 𝓛 (raw (G'.pre z')) (id⊢ 𝓤 _) $
          -- [what the call asks; what the first call says]
          calls_at_last ! (framed 𝓤 𝓛.H 𝓜 𝓣) G' (h-met.met 𝓤 𝓛 𝓜 𝓡 (code.calls-sj_document::value::Document::value_of 𝓡.env wired) T L k kd e ed p pd mk me mp) z' (and_then ! (get ! refl) (and_then ! (get ! refl) (no_more !))) (λ v'.
          use1 𝓛 (later (some (λ (r' : Option (MutBor (Document T.Denot))). ((‵ (flft κs.0 qs.0) ⊛ ‵ (flft κs.1.0 qs.1.0) ⊛ ‵ (flft κs.1.1.0 qs.1.1.0) ⊛ ‵ ftrue) ⊛ ‵ ((option.the_row (MutRef (named 0) κs.0 D)).own_val r' (v' ∷ []))) ⊛
          some (λ (ends : Unit {0} × (Unit {0} × Unit {0})). ‵ (lasts (h.ended T k kd e ed p pd) z'.0.0 z'.0.3 ends) ⊛ (‵ (follows_if O D m.ghost_name (ghost_name_of r') (with_value m.now a.1.0.now) m.now)
          ⊛ raw (fact 𝓤 (option_copied_mut r' ≡ lookup a.1.0.now m.now.entries))))))) (id⊢ 𝓤 _) $
          await ! tt $ pick ! (λ r'. split ! $ split ! $ move ! (2 ∷ []) $ pick ! (λ ends. split ! $ drop ! $ split ! $ move ! (1 ∷ []) $ heard ! _ (λ found.
          -- [what the second call says; the tokens; what r' owns; what the first call says]
          move ! (2 ∷ []) $ option_out ! (MutRef (named 0) κs.0 D) r' (v' ∷ [])
          (λ is_none' spelled'.
          rewrite ! 0 (λ (x : Option (MutBor (Document T.Denot))). ‵ (follows_if O D m.ghost_name (ghost_name_of x) (with_value m.now a.1.0.now) m.now)) is_none' refl $
          move ! (2 ∷ 0 ∷ []) $ use2 𝓛 (‵ (follows_so D D a.0.ghost_name maybe.none (λ w n. Unit {0}) (λ n. document_tree k.text_of n ≡ document_tree k.text_of a.0.now)))
          (lent_then 𝓛 D O D a.0.ghost_name m.ghost_name _ _ maybe.none (with_value m.now a.1.0.now) m.now (λ w n. Unit {0}) (λ n. document_tree k.text_of n ≡ document_tree k.text_of a.0.now) (λ w n x. tt) (λ n x. x ∙ same)) $
          lands_last ! refl (fits_as (spot_of 𝓤 𝓛.H (env (function T k kd e ed p pd).locals l) 6).0 (ap only spelled') (tt, (record { fits = lit< tt }, tt))) $
          exec ! 𝓣.C 𝓣.Λ (env (function T k kd e ed p pd).locals l) (after 3 (function T k kd e ed p pd).body) (at_ret _ (W.post y)) $
          sets ! (of_opd ! (get ! refl)) refl (fits_as (spot_of 𝓤 𝓛.H (env (function T k kd e ed p pd).locals l) 0).0 (ap only spelled') (tt, (record { fits = lit< tt }, tt))) $ returns ! (look_at ! 0 refl) $ free_all ! refl $
          use0 𝓛 (‵ ((option.the_row (MutRef (named 0) κs.0 D)).own_val None (live 0 (of_list []) ∷ []))) (none_in 𝓛 (MutRef (named 0) κs.0 D)) $
          rewrite ! 0 (λ (vs : List Val). ‵ ((option.the_row (MutRef (named 0) κs.0 D)).own_val None vs)) (sym spelled') refl $
          suffices ! _ (ends_at 𝓛 End hs c y v' None (tt, (tt, tt)) (tt, (tt, tt))) $
          nothing ! $ nothing ! $ fjoin ! $ nothing ! $ fjoin ! $ join ! $ move ! (2 ∷ 0 ∷ []) $ join ! $ frame ! $
          says ! (member_shown k.text_of a.1.0.now m.now (document_tree k.text_of a.0.now) same None (ap option_copied_mut (sym is_none') ∙ found)) $ done !)
          (λ x xs' is_some' spelled'.
          peeks ! (MutRef (named 0) κs.0 D) _ (shows 𝓛 (MutRef (named 0) κs.0 D)) x xs' (λ is'.
          let told' = mut_Tells (named 0) κs.0 D x xs' is' in
          let word = vptr x.ref_ptr.0 x.ref_ptr.1 in
          let there : v' ≡ live 1 (of_list (word ∷ [])) = ap only spelled' ∙ ap (λ (vs : List Val). live 1 (of_list (vs ++ []))) told' in
          rewrite ! 0 (λ (vs : List Val). ‵ ((MutRef (named 0) κs.0 D).own_val x vs)) told' refl $
          use1 𝓛 (‵ ((option.the_row (MutRef (named 0) κs.0 D)).own_val (Some x) (live 1 (of_list (word ∷ [])) ∷ []))) (some_in 𝓛 (MutRef (named 0) κs.0 D) x word) $
          rewrite ! 0 (λ (u : Val). ‵ ((option.the_row (MutRef (named 0) κs.0 D)).own_val (Some x) (u ∷ []))) (sym there) refl $
          rewrite ! 1 (λ (x : Option (MutBor (Document T.Denot))). ‵ (follows_if O D m.ghost_name (ghost_name_of x) (with_value m.now a.1.0.now) m.now)) is_some' refl $
          move ! (3 ∷ 1 ∷ []) $ use2 𝓛 (‵ (follows_so D D a.0.ghost_name (maybe.some x.ghost_name) (λ w n. document_tree k.text_of n ≡ set_found (by_key a.1.0.now) (document_tree k.text_of w) (document_tree k.text_of a.0.now)) (λ n. document_tree k.text_of n ≡ document_tree k.text_of a.0.now)))
          (lent_then 𝓛 D O D a.0.ghost_name m.ghost_name _ _ (maybe.some x.ghost_name) (with_value m.now a.1.0.now) m.now _ _
          (λ w n. member_written k.text_of a.1.0.now m.now (document_tree k.text_of a.0.now) same x.now w n (ap option_copied_mut (sym is_some') ∙ found)) (λ n f. f ∙ same)) $
          lands_last ! refl (fits_as (spot_of 𝓤 𝓛.H (env (function T k kd e ed p pd).locals l) 6).0 there (tt, (record { fits = lit< tt }, (tt, tt)))) $
          exec ! 𝓣.C 𝓣.Λ (env (function T k kd e ed p pd).locals l) (after 3 (function T k kd e ed p pd).body) (at_ret _ (W.post y)) $
          sets ! (of_opd ! (get ! refl)) refl (fits_as (spot_of 𝓤 𝓛.H (env (function T k kd e ed p pd).locals l) 0).0 there (tt, (record { fits = lit< tt }, (tt, tt)))) $ returns ! (look_at ! 0 refl) $ free_all ! refl $
          suffices ! _ (ends_at 𝓛 End hs c y v' (Some x) (tt, (tt, tt)) (tt, (tt, tt))) $ move ! (1 ∷ []) $
          nothing ! $ nothing ! $ fjoin ! $ nothing ! $ fjoin ! $ join ! $ move ! (2 ∷ 0 ∷ []) $ join ! $ frame ! $
          says ! (member_shown k.text_of a.1.0.now m.now (document_tree k.text_of a.0.now) same (Some x) (ap option_copied_mut (sym is_some') ∙ found)) $ done !))))))),
      ((λ one. absurd (suc-ne-zero 0 one)), tt),
    ))))))))))
