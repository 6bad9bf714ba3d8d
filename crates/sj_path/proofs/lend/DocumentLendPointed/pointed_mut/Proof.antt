-- `pointed_mut` lends what `find_mut` lends. Assumes `Logic`.
use Rattle.std.proofs.Common.{◌≡◌, [], ◌∷◌, Option, option_map, refl, sym, ◌∙◌, MutBor}
use Rattle.sj_document.proofs.LoanSteps.{proved, id⊢, emp, ftrue, flft, Fn, Args, Dict, a_type, dcons, dnil, named, inst_fn, fact, fact_i, ◌⊑◌, tables, ‵, raw, ◌⊛◌, some, later, given, ◌$◌, ◌∵◌, !, qed, move, drop, use0, use1, use2, split, join, fjoin, learn, pick, await, suffices, frame, done, enter, addr, stop, returns, no_more, and_then, alloc_all, pass_all, free_all, look_at, get, through, sets, lands_as, yes, no, bounded, param, RattleType, MutRef, ShrRef, mut_vals, mut_Tells, mut_Lawful, shr_vals, shr_Tells, plain, mut_ref_to, shr_ref_to, nothing, heard, peeks, shows, calls_at, Ended, lasts, triple_of, framed, Stays, walk_of, says, stay_dropped, Goes-dropped, Goes-spent_ref, ends_at, follows_so}
use Rattle.std.specs.Option.{ghost_name_of, OnSome}
use Rattle.std.specs.contracts.option.Option as option
use Rattle.std.specs.declared.cmp.Eq as total
use Rattle.std.specs.declared.cmp.PartialEq as eq
use Rattle.sj_pointer.specs.Pointed.{pointed, set_pointed}
use Rattle.sj_document.specs.Document.{document_tree}
use Rattle.sj_document.specs.declared.value.Document.{Document}
use Rattle.sj_object.specs.declared.key.KeyText as key
use Rattle.sj_document.specs.contracts.value.Document.{the_row}
use Rattle.sj_pointer.specs.contracts.tokens.Pointer.{the_row as pointer_row}
use Rattle.sj_path.specs.contracts.lend.DocumentLendPointed.pointed_mut as f
use Rattle.sj_path.specs.contracts.walk.find_mut as g
use Rattle.sj_path.proofs.lend.DocumentLendPointed.pointed_mut.Statement.{statement}
use Rattle.sj_path.proofs.lend.DocumentLendPointed.pointed_mut.Code as code
use Rattle.sj_path.proofs.walk.find_mut.Met as g-met
use Rattle.sj_document.proofs.Results.{option_lawful}
use Rattle.sj_document.proofs.Trees.{tree_of_mut}

module _ (T : RattleType) (k : key.Ghosts T.Denot) (kd : Dict) (e : total.Ghosts T.Denot) (ed : Dict) (p : eq.Ghosts T.Denot) (pd : Dict) where
  abbrev args : Args
  args = bounded (a_type ∷ []) (T, tt) (dcons kd (dcons ed (dcons pd dnil)))

  abbrev function : Fn
  function = inst_fn args code.function

  abbrev end : Ended
  end = f.ended T k kd e ed p pd

  abbrev Doc : RattleType
  Doc = the_row (param 0 T) k p

  abbrev stayed : Stays end.signature.params end.kept
  stayed = (stay_dropped (mut_ref_to (0 ∷ []) tt (plain (λ _. Doc))) no, (stay_dropped (shr_ref_to (1 ∷ []) tt (plain (λ _. pointer_row))) yes, tt))

pub pointed_mut_spec : {M : Type 1} → statement M
pointed_mut_spec 𝓤 𝓛 𝓜 𝓡 wired T L k kd e ed p pd mk me mp =
    let c = f.clauses T k kd e ed p pd 𝓛 𝓜.mem 𝓡.returns in
    let hs = stayed T k kd e ed p pd in
    let End = end T k kd e ed p pd in
    let D = Doc T k kd e ed p pd in
    let W = walk_of 𝓛 End hs c in
    let 𝓣 = tables 𝓤 𝓛.H 𝓜 𝓡 𝓡.env in
    proved 𝓛 End hs c 𝓜 𝓡 (Goes-spent_ref 𝓛 3 (0 ∷ []) tt (plain (λ _. D)), (Goes-dropped 𝓛 3 (shr_ref_to (1 ∷ []) tt (plain (λ _. pointer_row))) yes (λ κs x w. refl), tt))
    (f.Key.name (args T k kd e ed p pd)) (function T k kd e ed p pd) (code.unfolded 𝓤 𝓛.H 𝓜 𝓡 wired (T, tt) kd ed pd)
    (λ κs. (mut_vals, (shr_vals, tt))) (λ κs. (mut_Tells (named 0) κs.0 D, (shr_Tells (named 1) κs.1.0 pointer_row, tt))) (λ κs qs bounds a _ are.
    let us = mut_vals a.0 in let ws = shr_vals a.1.0 in let old = document_tree k.text_of a.0.now in
    let Found = option.the_row (MutRef (named 0) κs.0 D) in
    let y : W.Ghost = ((κs, qs, bounds, a, (us, (ws, tt))), tt) in
    let G = triple_of 𝓛 (g.signature T k kd e ed p pd) (g.spec T k kd e ed p pd 𝓛 𝓜.mem 𝓡.returns) in
    let z : G.Ghost = ((κs, qs, bounds, a, (us, (ws, tt))), tt) in
    qed 𝓛 (((‵ (flft κs.0 qs.0) ⊛ ‵ (flft κs.1.0 qs.1.0) ⊛ ‵ (flft κs.1.1.0 qs.1.1.0) ⊛ ‵ ftrue) ⊛ ‵ ((MutRef (named 0) κs.0 D).own_val a.0 us) ⊛ ‵ ((ShrRef (named 1) κs.1.0 pointer_row).own_val a.1.0 ws) ⊛ ‵ ftrue) ∷ (given (κs.1.1.0 ⊑ T.lives) (‵ ftrue) ⊛ ‵ ftrue) ∷ []) ∵
    move ! (1 ∷ []) $ split ! $ learn ! (λ lives. drop ! $ drop ! $
    -- [the tokens, with self and the pointer]
    enter ! _ _ _ _ _ $ alloc_all ! (λ l. pass_all ! refl ((tt, tt), ((tt, tt), tt)) $
    sets ! (addr ! (through ! refl (stop !))) refl (tt, tt) $
    nothing ! $ use0 𝓛 (given (κs.1.1.0 ⊑ T.lives) (‵ ftrue)) (fact_i 𝓤 _ (emp 𝓤) lives) $ join ! $ move ! (1 ∷ 0 ∷ []) $ use2 𝓛 (raw (G.pre z)) (id⊢ 𝓤 _) $
    calls_at ! (framed 𝓤 𝓛.H 𝓜 𝓣) G (g-met.met 𝓤 𝓛 𝓜 𝓡 (code.calls-sj_path::walk::find_mut 𝓡.env wired) T L k kd e ed p pd mk me mp) z (and_then ! (get ! refl) (and_then ! (get ! refl) (no_more !))) (λ v.
    use1 𝓛 (later (some (λ (r : Option (MutBor (Document T.Denot))). ((‵ (flft κs.0 qs.0) ⊛ ‵ (flft κs.1.0 qs.1.0) ⊛ ‵ (flft κs.1.1.0 qs.1.1.0) ⊛ ‵ ftrue) ⊛ ‵ (Found.own_val r (v ∷ []))) ⊛
    some (λ (ends : Unit {0} × (Unit {0} × Unit {0})). ‵ (lasts (g.ended T k kd e ed p pd) z.0.0 z.0.3 ends) ⊛ (‵ (follows_so D D a.0.ghost_name (ghost_name_of r) (λ w n. OnSome r (document_tree k.text_of n ≡ set_pointed a.1.0.now (document_tree k.text_of w) old)) (λ n. document_tree k.text_of n ≡ old))
    ⊛ raw (fact 𝓤 (option_map (λ v. document_tree k.text_of v.now) r ≡ pointed a.1.0.now old))))))) (id⊢ 𝓤 _) $
    await ! tt $ pick ! (λ r. split ! $ split ! $ move ! (2 ∷ []) $ pick ! (λ ends. split ! $ drop ! $ split ! $ move ! (1 ∷ []) $ heard ! _ (λ shown.
    -- [what r owns; what the call says; the tokens]
    move ! (2 ∷ []) $ peeks ! Found _ (shows 𝓛 Found) r (v ∷ []) (λ is.
    let fits = ((option_lawful 𝓛 (MutRef (named 0) κs.0 D) (mut_Lawful 𝓛 (named 0) κs.0 D)).typed r (v ∷ []) is).0 in
    lands_as ! refl refl fits $
    returns ! (look_at ! 0 refl) $ free_all ! refl $
    suffices ! _ (ends_at 𝓛 End hs c y v r (tt, (tt, tt)) (tt, (tt, tt))) $
    nothing ! $ nothing ! $ fjoin ! $ nothing ! $ fjoin ! $ join ! $ move ! (2 ∷ 0 ∷ []) $ join ! $ frame ! $
    says ! (sym (tree_of_mut k.text_of r) ∙ shown) $ done !))))))))
