-- `step_mut` reads of what is lent whether it is an array, and lends an item or a member of it. Assumes `Logic`.
use Rattle.std.proofs.Common.{◌≡◌, ℕ, zero, suc, List, [], ◌∷◌, ◌++◌, Option, Some, None, option_map, refl, sym, ap, ◌∙◌, MutBor}
use Rattle.sj_document.proofs.LoanSteps.{proved, Ura, id⊢, emp, Fml, Incl-trans, ftrue, flft, w64, Fn, Args, Dict, a_type, dcons, dnil, named, inst_fn, Val, of_list, suc-ne-zero, lit<, after, fact, fact_i, ◌⊑◌, meet_⊑_right, Running, tables, Model, Logic, Sq, prop, ‵, raw, ◌⊛◌, some, later, given, ◌$◌, ◌∵◌, !, qed, move, keep, drop, use0, use1, use2, use3, split, join, fjoin, learn, pick, await, rewrite, suffices, frame, at_ret, done, enter, addr, of_opd, fld, stop, first, exec, returns, no_more, and_then, whole, live, vrt, in_variant, by_variants, alloc_all, pass_all, free_all, look_at, get, get_in, get_tag, through, sets, lands_as, lands_last, env, usize, uint_vals, uint_Tells, yes, no, bounded, param, RattleType, NamedLft, MutRef, ShrRef, mut_vals, mut_Tells, mut_Lawful, as_bor, shr_slice_vals, plain, mut_ref_to, nothing, heard, peeks, only, shows, StrRefOf, Str, str-laws, str-copy, calls_at, calls_at_last, Ended, Clauses, lasts, triple_of, framed, Stays, walk_of, says, stay_dropped, Goes-dropped, Goes-spent_ref, ends_at, follows_so}
use types.Tokens.{lft_new}
use denote.Param.Laws.{Laws, param_laws}
use denote.Triple.Statement.{Contract}
use Rattle.std.specs.Option.{ghost_name_of, OnSome}
use Rattle.std.specs.contracts.option.Option as option
use Rattle.std.specs.declared.cmp.Eq as total
use Rattle.std.specs.declared.cmp.PartialEq as eq
use Rattle.sj_text_core.specs.Tree.{Tree}
use Rattle.sj_text_core.specs.Find.{find, nth}
use Rattle.sj_text_core.specs.Paths.{Step, by_key, by_place, by_token, set_found}
use Rattle.sj_text_core.specs.declared.repeats.Repeats.TheVariants.{First}
use Rattle.sj_pointer.specs.Pointed.{token_into}
use Rattle.sj_document.specs.Document.{document_tree}
use Rattle.sj_document.specs.declared.value.Document.{Document}
use Rattle.sj_object.specs.declared.key.KeyText as key
use Rattle.sj_document.specs.contracts.value.Document.{the_row}
use Rattle.sj_document.proofs.value.Document.TheLaws as document_laws
use Rattle.sj_path.specs.contracts.walk.step_mut as f
use Rattle.sj_path.specs.contracts.walk.place_in as g
use Rattle.sj_document.specs.contracts.value.Document.get_idx_mut as h
use Rattle.sj_document.specs.contracts.value.Document.get_mut as m
use Rattle.sj_path.proofs.walk.step_mut.Statement.{statement}
use Rattle.sj_path.proofs.walk.step_mut.Code as code
use Rattle.sj_path.proofs.walk.place_in.Met as g-met
use Rattle.sj_document.proofs.value.Document.get_idx_mut.Met as h-met
use Rattle.sj_document.proofs.value.Document.get_mut.Met as m-met
use Rattle.sj_document.proofs.Loans.{lent_weaker, option_out}
use Rattle.sj_document.proofs.Results.{on_some, option_lawful}
use Rattle.sj_path.proofs.Loans.{in_common, Kept, lends_to_read, comes_back_read}
use Rattle.sj_path.proofs.Steps.{place_in, found_by_key, set_by_key, found_by_place, set_by_place}

module _ (T : RattleType) (k : key.Ghosts T.Denot) (kd : Dict) (e : total.Ghosts T.Denot) (ed : Dict) (p : eq.Ghosts T.Denot) (pd : Dict) where
  abbrev args : Args
  args = bounded (a_type ∷ []) (T, tt) (dcons kd (dcons ed (dcons pd dnil)))

  abbrev function : Fn
  function = inst_fn args code.function

  abbrev end : Ended
  end = f.ended T k kd e ed p pd

  abbrev Doc : RattleType
  Doc = the_row (param 0 T) k p

  abbrev stayed : Stays end.signature.params end.kept
  stayed = (stay_dropped (mut_ref_to (0 ∷ []) tt (plain (λ _. Doc))) no, (stay_dropped (StrRefOf (1 ∷ []) tt) yes, tt))

module _ {M : Type 1} {𝓤 : Ura M} (𝓛 : Logic 𝓤) (𝓜 : Model 𝓤 𝓛.H) (𝓡 : Running 𝓤 𝓛.H 𝓜) (T : RattleType) (k : key.Ghosts T.Denot) (kd : Dict) (e : total.Ghosts T.Denot) (ed : Dict) (p : eq.Ghosts T.Denot) (pd : Dict) where
  abbrev held : Clauses 𝓤 (end T k kd e ed p pd)
  held = f.clauses T k kd e ed p pd 𝓛 𝓜.mem 𝓡.returns

  abbrev Walk : Contract 𝓤
  Walk = walk_of 𝓛 (end T k kd e ed p pd) (stayed T k kd e ed p pd) held

  module _ (y : Walk.Ghost) where
    abbrev old : Tree
    old = document_tree k.text_of y.0.3.0.now

    abbrev token : List ℕ
    token = y.0.3.1.0.now

    abbrev Found : RattleType
    Found = option.the_row (MutRef (named 0) y.0.0.0 (Doc T k kd e ed p pd))

    abbrev Token : ℕ → Fml
    Token zero = flft y.0.0.0 y.0.1.0
    Token (suc zero) = flft y.0.0.1.0 y.0.1.1.0
    Token (suc (suc n)) = flft y.0.0.1.1.0 y.0.1.1.1.0

    module _ (r : Option (MutBor (Document T.Denot))) where
      abbrev Lent : Step → Fml
      Lent s = follows_so (Doc T k kd e ed p pd) (Doc T k kd e ed p pd) y.0.3.0.ghost_name (ghost_name_of r) (λ w n. OnSome r (document_tree k.text_of n ≡ set_found s (document_tree k.text_of w) old)) (λ n. document_tree k.text_of n ≡ old)

      -- the walk ends with what a step lends that finds and writes as the token does
      walk_ends : (v : Val) (s : Step) → ((u : Tree) → set_found s u old ≡ set_found (by_token token) u old) → option_map (λ x. document_tree k.text_of x.now) r ≡ token_into First token old
          → Sq 𝓛 (‵ (Found.own_val r (v ∷ [])) ∷ ‵ (Lent s) ∷ ‵ (Token 0) ∷ ‵ (Token 1) ∷ ‵ (Token 2) ∷ []) (prop (Walk.post y v))
      walk_ends v s same shown =
          move ! (1 ∷ []) $ use1 𝓛 (‵ (Lent (by_token token)))
          (lent_weaker 𝓛 (Doc T k kd e ed p pd) (Doc T k kd e ed p pd) (Doc T k kd e ed p pd) y.0.3.0.ghost_name (ghost_name_of r) _ _ (λ w n. OnSome r (document_tree k.text_of n ≡ set_found (by_token token) (document_tree k.text_of w) old)) (λ n. document_tree k.text_of n ≡ old)
          (λ w n q. on_some r (λ f. f ∙ same (document_tree k.text_of w)) q) (λ n q. q)) $
          keep ! (1 ∷ 2 ∷ 3 ∷ 4 ∷ 0 ∷ []) $
          suffices ! _ (ends_at 𝓛 (end T k kd e ed p pd) (stayed T k kd e ed p pd) held y v r (tt, (tt, tt)) (tt, (tt, tt))) $
          nothing ! $ nothing ! $ fjoin ! $ nothing ! $ fjoin ! $ join ! $ nothing ! $ move ! (4 ∷ 0 ∷ []) $ join ! $ move ! (3 ∷ 0 ∷ []) $ join ! $ move ! (2 ∷ 0 ∷ []) $ join ! $ join ! $ frame ! $
          says ! shown $ done !

pub step_mut_spec : {M : Type 1} → statement M
step_mut_spec {M} 𝓤 𝓛 𝓜 𝓡 wired T L k kd e ed p pd mk me mp =
    let c = f.clauses T k kd e ed p pd 𝓛 𝓜.mem 𝓡.returns in
    let hs = stayed T k kd e ed p pd in
    let End = end T k kd e ed p pd in
    let D = Doc T k kd e ed p pd in let LD : Laws D = document_laws.the_row_laws (param 0 T) k p (param_laws 0 T L) in
    let W = walk_of 𝓛 End hs c in
    let 𝓣 = tables 𝓤 𝓛.H 𝓜 𝓡 𝓡.env in
    proved 𝓛 End hs c 𝓜 𝓡 (Goes-spent_ref 𝓛 3 (0 ∷ []) tt (plain (λ _. D)), (Goes-dropped 𝓛 3 (StrRefOf (1 ∷ []) tt) yes (λ κs x w. refl), tt))
    (f.Key.name (args T k kd e ed p pd)) (function T k kd e ed p pd) (code.unfolded 𝓤 𝓛.H 𝓜 𝓡 wired (T, tt) kd ed pd)
    (λ κs. (mut_vals, (shr_slice_vals, tt))) (λ κs. (mut_Tells (named 0) κs.0 D, ((str-laws (record { mir = named 1; lft = κs.1.0 })).tells, tt))) (λ κs qs bounds a _ are.
    let us = mut_vals a.0 in let ws = shr_slice_vals a.1.0 in let old = document_tree k.text_of a.0.now in
    let y : W.Ghost = ((κs, qs, bounds, a, (us, (ws, tt))), tt) in
    let text : NamedLft = record { mir = named 1; lft = κs.1.0 } in
    qed 𝓛 (((‵ (flft κs.0 qs.0) ⊛ ‵ (flft κs.1.0 qs.1.0) ⊛ ‵ (flft κs.1.1.0 qs.1.1.0) ⊛ ‵ ftrue) ⊛ ‵ ((MutRef (named 0) κs.0 D).own_val a.0 us) ⊛ ‵ ((Str (named 1) κs.1.0).own_val a.1.0 ws) ⊛ ‵ ftrue) ∷ (given (κs.1.1.0 ⊑ T.lives) (‵ ftrue) ⊛ ‵ ftrue) ∷ []) ∵
    move ! (1 ∷ []) $ split ! $ learn ! (λ lives. drop ! $ drop ! $
    split ! $ split ! $ move ! (1 ∷ []) $ split ! $ move ! (1 ∷ []) $ split ! $ move ! (4 ∷ []) $ split ! $ move ! (1 ∷ []) $ split ! $ keep ! (2 ∷ 0 ∷ 6 ∷ 5 ∷ 3 ∷ []) $
    -- [self; the text; the tokens of self, of the text and of T]
    enter ! _ _ _ _ _ $ alloc_all ! (λ l. pass_all ! refl ((tt, tt), ((((str-laws text).lawful 𝓛).typed a.1.0 ws are.1.0).0, tt)) $
    sets ! (addr ! (through ! refl (stop !))) refl (tt, tt) $
    move ! (1 ∷ []) $ use1 𝓛 (‵ ((Str (named 1) κs.1.0).own_val a.1.0 ws) ⊛ ‵ ((Str (named 1) κs.1.0).own_val a.1.0 ws)) (((str-copy text).copies M 𝓤 𝓛).twice a.1.0 ws) $ split ! $
    lft_new ! tt (λ α. move ! (3 ∷ 4 ∷ 0 ∷ []) $
    let within : κs.0 ⊑ D.lives = Incl-trans bounds.0 (document_laws.the_within (param 0 T) k p κs.1.1.0 lives) in
    let β = α ∷ κs.0 in let K = Kept 𝓛 D κs.0 qs.0 α a.0 in
    use3 𝓛 (later (‵ ((ShrRef (named 0) β D).own_val (as_bor a.0) us) ⊛ ‵ (flft β (in_common qs.0)) ⊛ K)) (lends_to_read 𝓛 D κs.0 qs.0 α a.0 (named 0) (named 0) LD within) $ await ! tt $ split ! $ move ! (1 ∷ []) $ split ! $
    -- [the loan's token; what the lender keeps; what is lent; the text, twice; the tokens of the text and of T]
    let G = triple_of 𝓛 (g.signature T k kd e ed p pd) (g.spec T k kd e ed p pd 𝓛 𝓜.mem 𝓡.returns) in
    let z : G.Ghost = (((β, κs.1), (in_common qs.0, qs.1), (Incl-trans (meet_⊑_right (α ∷ []) κs.0) bounds.0, tt), (as_bor a.0, (a.1.0, tt)), (us, (ws, tt))), tt) in
    move ! (3 ∷ []) $ nothing ! $ move ! (1 ∷ 0 ∷ []) $ join ! $ move ! (3 ∷ 0 ∷ []) $ join ! $
    nothing ! $ move ! (6 ∷ 0 ∷ []) $ join ! $ move ! (5 ∷ 0 ∷ []) $ join ! $ move ! (2 ∷ 0 ∷ []) $ join ! $ join ! $
    nothing ! $ use0 𝓛 (given (κs.1.1.0 ⊑ T.lives) (‵ ftrue)) (fact_i 𝓤 _ (emp 𝓤) lives) $ join ! $ move ! (1 ∷ 0 ∷ []) $ use2 𝓛 (raw (G.pre z)) (id⊢ 𝓤 _) $
    -- [what the call asks; what the lender keeps; the text]
    calls_at ! (framed 𝓤 𝓛.H 𝓜 𝓣) G (g-met.met 𝓤 𝓛 𝓜 𝓡 (code.calls-sj_path::walk::place_in 𝓡.env wired) T L k kd e ed p pd mk me mp) z (and_then ! (get ! refl) (and_then ! (get ! refl) (no_more !))) (λ v.
    use1 𝓛 (later (some (λ (r : Option ℕ). ((‵ (flft β (in_common qs.0)) ⊛ ‵ (flft κs.1.0 qs.1.0) ⊛ ‵ (flft κs.1.1.0 qs.1.1.0) ⊛ ‵ ftrue) ⊛ ‵ ((option.the_row usize).own_val r (v ∷ []))) ⊛
    some (λ (ends : Unit {0} × (Unit {0} × Unit {0})). ‵ (lasts (g.ended T k kd e ed p pd) z.0.0 z.0.3 ends) ⊛ raw (fact 𝓤 (r ≡ place_in a.1.0.now old)))))) (id⊢ 𝓤 _) $
    await ! tt $ pick ! (λ r. split ! $ split ! $ move ! (2 ∷ []) $ pick ! (λ ends. split ! $ drop ! $ heard ! _ (λ place.
    -- [the tokens; what the call answers; what the lender keeps; the text]
    split ! $ move ! (0 ∷ 3 ∷ []) $ use2 𝓛 (later (‵ ((MutRef (named 0) κs.0 D).own_val a.0 us) ⊛ ‵ (flft κs.0 qs.0))) (comes_back_read 𝓛 D κs.0 qs.0 α a.0 (named 0)) $ await ! tt $ split ! $
    move ! (2 ∷ []) $ split ! $ move ! (1 ∷ []) $ split ! $ move ! (1 ∷ []) $ drop ! $
    -- [what the call answers; the tokens of T and of the text; self; its token; the text]
    move ! (4 ∷ []) $ option_out ! usize r (v ∷ [])
    (λ is_none spelled.
    let at_key : None ≡ place_in a.1.0.now old = sym is_none ∙ place in
    lands_as ! (ap only spelled) refl (tt, (record { fits = lit< tt }, tt)) $
    first ! $ by_variants ! 13 (whole !) (get_tag ! (vrt ! refl (fld ! refl (stop !))) (whole !)) tt (
      (λ one. absurd (suc-ne-zero 0 (sym one))),
      (
        (λ _. sets ! (addr ! (through ! refl (stop !))) refl (tt, tt) $
            let G' = triple_of 𝓛 (m.signature T k kd e ed p pd) (m.spec T k kd e ed p pd 𝓛 𝓜.mem 𝓡.returns) in
            let z' : G'.Ghost = ((κs, qs, bounds, a, (us, (ws, tt))), tt) in
            move ! (4 ∷ []) $ nothing ! $ move ! (1 ∷ 0 ∷ []) $ join ! $ move ! (3 ∷ 0 ∷ []) $ join ! $
            nothing ! $ move ! (2 ∷ 0 ∷ []) $ join ! $ move ! (2 ∷ 0 ∷ []) $ join ! $ move ! (2 ∷ 0 ∷ []) $ join ! $ join ! $
            nothing ! $ use0 𝓛 (given (κs.1.1.0 ⊑ T.lives) (‵ ftrue)) (fact_i 𝓤 _ (emp 𝓤) lives) $ join ! $ move ! (1 ∷ 0 ∷ []) $ use2 𝓛 (raw (G'.pre z')) (id⊢ 𝓤 _) $
            calls_at_last ! (framed 𝓤 𝓛.H 𝓜 𝓣) G' (m-met.met 𝓤 𝓛 𝓜 𝓡 (code.calls-sj_document::value::Document::get_mut 𝓡.env wired) T L k kd e ed p pd mk me mp) z' (and_then ! (get ! refl) (and_then ! (get ! refl) (no_more !))) (λ v'.
            use1 𝓛 (later (some (λ (r' : Option (MutBor (Document T.Denot))). ((‵ (flft κs.0 qs.0) ⊛ ‵ (flft κs.1.0 qs.1.0) ⊛ ‵ (flft κs.1.1.0 qs.1.1.0) ⊛ ‵ ftrue) ⊛ ‵ ((option.the_row (MutRef (named 0) κs.0 D)).own_val r' (v' ∷ []))) ⊛
            some (λ (ends : Unit {0} × (Unit {0} × Unit {0})). ‵ (lasts (m.ended T k kd e ed p pd) z'.0.0 z'.0.3 ends) ⊛ (‵ (Lent 𝓛 𝓜 𝓡 T k kd e ed p pd y r' (by_key a.1.0.now)) ⊛ raw (fact 𝓤 (option_map (λ x. document_tree k.text_of x.now) r' ≡ find a.1.0.now old))))))) (id⊢ 𝓤 _) $
            await ! tt $ pick ! (λ r'. split ! $ split ! $ move ! (2 ∷ []) $ pick ! (λ ends'. split ! $ drop ! $ split ! $ move ! (1 ∷ []) $ heard ! _ (λ found.
            move ! (2 ∷ []) $ peeks ! (option.the_row (MutRef (named 0) κs.0 D)) _ (shows 𝓛 (option.the_row (MutRef (named 0) κs.0 D))) r' (v' ∷ []) (λ is'.
            let fits = ((option_lawful 𝓛 (MutRef (named 0) κs.0 D) (mut_Lawful 𝓛 (named 0) κs.0 D)).typed r' (v' ∷ []) is').0 in
            lands_last ! refl fits $
            exec ! 𝓣.C 𝓣.Λ (env (function T k kd e ed p pd).locals l) (after 3 (function T k kd e ed p pd).body) (at_ret _ (W.post y)) $
            sets ! (of_opd ! (get ! refl)) refl fits $ returns ! (look_at ! 0 refl) $ free_all ! refl $
            move ! (2 ∷ []) $ split ! $ move ! (1 ∷ []) $ split ! $ move ! (1 ∷ []) $ split ! $ keep ! (4 ∷ 5 ∷ 3 ∷ 2 ∷ 0 ∷ []) $
            walk_ends 𝓛 𝓜 𝓡 T k kd e ed p pd y r' v' (by_key a.1.0.now) (λ u. set_by_key a.1.0.now u old at_key) (found ∙ found_by_key a.1.0.now old at_key))))))),
        tt,
      ),
    ))
    (λ i xs is_some spelled.
    peeks ! usize _ (shows 𝓛 usize) i xs (λ is.
    let told = uint_Tells w64 i xs is in
    let at_place : Some i ≡ place_in a.1.0.now old = sym is_some ∙ place in
    rewrite ! 0 (λ (vs : List Val). ‵ (usize.own_val i vs)) told refl $
    lands_as ! (ap only spelled ∙ ap (λ (vs : List Val). live 1 (of_list (vs ++ []))) told) refl (tt, (record { fits = lit< tt }, (record { fits = is.1 }, tt))) $
    first ! $ by_variants ! 14 (whole !) (get_tag ! (vrt ! refl (fld ! refl (stop !))) (whole !)) tt (
      (λ _. sets ! (of_opd ! (get_in ! (vrt ! refl (fld ! refl (stop !))) (in_variant ! 1 0 refl refl (whole !)))) refl (tt, record { fits = is.1 }) $
          sets ! (addr ! (through ! refl (stop !))) refl (tt, tt) $
          let G' = triple_of 𝓛 (h.signature T k kd e ed p pd) (h.spec T k kd e ed p pd 𝓛 𝓜.mem 𝓡.returns) in
          let z' : G'.Ghost = (((κs.0, κs.1.1), (qs.0, qs.1.1), bounds, (a.0, (i, tt)), (us, (uint_vals w64 i, tt))), tt) in
          nothing ! $ move ! (1 ∷ 0 ∷ []) $ join ! $ move ! (3 ∷ 0 ∷ []) $ join ! $
          nothing ! $ move ! (2 ∷ 0 ∷ []) $ join ! $ move ! (3 ∷ 0 ∷ []) $ join ! $ join ! $
          nothing ! $ use0 𝓛 (given (κs.1.1.0 ⊑ T.lives) (‵ ftrue)) (fact_i 𝓤 _ (emp 𝓤) lives) $ join ! $ move ! (1 ∷ 0 ∷ []) $ use2 𝓛 (raw (G'.pre z')) (id⊢ 𝓤 _) $
          -- [what the call asks; the token of the text; the text]
          calls_at_last ! (framed 𝓤 𝓛.H 𝓜 𝓣) G' (h-met.met 𝓤 𝓛 𝓜 𝓡 (code.calls-sj_document::value::Document::get_idx_mut 𝓡.env wired) T L k kd e ed p pd mk me mp) z' (and_then ! (get ! refl) (and_then ! (get ! refl) (no_more !))) (λ v'.
          use1 𝓛 (later (some (λ (r' : Option (MutBor (Document T.Denot))). ((‵ (flft κs.0 qs.0) ⊛ ‵ (flft κs.1.1.0 qs.1.1.0) ⊛ ‵ ftrue) ⊛ ‵ ((option.the_row (MutRef (named 0) κs.0 D)).own_val r' (v' ∷ []))) ⊛
          some (λ (ends : Unit {0} × (Unit {0} × Unit {0})). ‵ (lasts (h.ended T k kd e ed p pd) z'.0.0 z'.0.3 ends) ⊛ (‵ (Lent 𝓛 𝓜 𝓡 T k kd e ed p pd y r' (by_place i)) ⊛ raw (fact 𝓤 (option_map (λ x. document_tree k.text_of x.now) r' ≡ nth i old))))))) (id⊢ 𝓤 _) $
          await ! tt $ pick ! (λ r'. split ! $ split ! $ move ! (2 ∷ []) $ pick ! (λ ends'. split ! $ drop ! $ split ! $ move ! (1 ∷ []) $ heard ! _ (λ found.
          move ! (2 ∷ []) $ peeks ! (option.the_row (MutRef (named 0) κs.0 D)) _ (shows 𝓛 (option.the_row (MutRef (named 0) κs.0 D))) r' (v' ∷ []) (λ is'.
          let fits = ((option_lawful 𝓛 (MutRef (named 0) κs.0 D) (mut_Lawful 𝓛 (named 0) κs.0 D)).typed r' (v' ∷ []) is').0 in
          lands_last ! refl fits $
          exec ! 𝓣.C 𝓣.Λ (env (function T k kd e ed p pd).locals l) (after 3 (function T k kd e ed p pd).body) (at_ret _ (W.post y)) $
          sets ! (of_opd ! (get ! refl)) refl fits $ returns ! (look_at ! 0 refl) $ free_all ! refl $
          move ! (2 ∷ []) $ split ! $ move ! (1 ∷ []) $ split ! $ keep ! (3 ∷ 4 ∷ 2 ∷ 5 ∷ 0 ∷ []) $
          walk_ends 𝓛 𝓜 𝓡 T k kd e ed p pd y r' v' (by_place i) (λ u. set_by_place a.1.0.now i u old at_place) (found ∙ found_by_place a.1.0.now i old at_place))))))),
      ((λ one. absurd (suc-ne-zero 0 one)), tt),
    )))))))))))
