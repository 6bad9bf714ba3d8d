-- What the struct owns is what the call asks for.
use Rattle.sj_c.proofs.Steps.{◌≡◌, List, [], ◌∷◌, ◌++◌, refl, ◌∙◌, Args, a_type, dcons, dnil, ty_ptr, Val, vstruct, of_list, inst_fn, id⊢, ftrue, flft, WpFn, ‵, raw, prop, at_ret, ◌⊛◌, some, later, ◌$◌, ◌∵◌, !, qed, done, move, keep, drop, use1, split, split3, join, fsplit, fpick, feq_l, feq_i, pick, await, regoal, suffices, stop, fld, of_opd, no_more, and_then, first, blocks, exec, returns, enter, alloc_all, pass_all, free_all, look_at, get, get_in, sets, lands_last, env, sub, whole, fact, ◌⊑◌, tables, no, RattleType, ptr_val, shows, plain, param, layout, bounded, param_laws, nothing, heard, peeks, calls_at_last, Lasts, lasts, triple_of, framed, Stays, walk_of, stay_dropped, ends_at, says, Goes-blank, handle_tells, after, proved_at, both, both_good, ptr_good}
use Rattle.std.specs.Box.{box_allocator}
use Rattle.std.specs.contracts.boxed.Box as box
use Rattle.std.proofs.boxed.Box.TheLaws.{the_field_loose as box_loose}
use Rattle.std.specs.contracts.boxed.Box.from_raw as callee
use Rattle.std.proofs.boxed.Box.from_raw.Met.{met}
use Rattle.sj_c.specs.contracts.unboxed.Unboxed as unboxed
use Rattle.sj_c.specs.contracts.unboxed.Unboxed.into_box as f
use Rattle.sj_c.proofs.unboxed.Unboxed.into_box.Statement.{statement}
use Rattle.sj_c.proofs.unboxed.Unboxed.into_box.Code as code

pub into_box_spec : {M : Type 1} → statement M
into_box_spec 𝓤 𝓛 𝓜 𝓡 wired T A L LA g d dx dd allocator glue glued =
    let 𝓣 = tables 𝓤 𝓛.H 𝓜 𝓡 𝓡.env in let ended = f.ended T A g d dx dd in let c = f.clauses T A g d dx dd 𝓛 𝓜.mem 𝓡.returns in
    let R : RattleType = param 0 T in let Z : RattleType = param 1 A in let From = unboxed.the_row R Z g in let To = box.the_row R Z g in let handle = layout Z in
    let given : Args = bounded (a_type ∷ a_type ∷ []) (T, (A, tt)) (dcons d (dcons dx (dcons dd dnil))) in let fn = inst_fn given code.function in
    let stayed : Stays ended.signature.params ended.kept = (stay_dropped (plain (λ _. From)) no, tt) in
    proved_at 𝓛 ended stayed c 𝓜 𝓡 (Goes-blank 𝓛 2 (plain (λ _. From)) no (λ κs x w. tt), tt)
    (f.Key.name given) fn (code.unfolded 𝓤 𝓛.H 𝓜 𝓡 wired (T, (A, tt)) d dx dd) (λ y are.
    let κs = y.0.0 in let qs = y.0.1 in let v = y.0.3.0 in let p = v.place in let Post = (walk_of 𝓛 ended stayed c).post y in
    let G = triple_of 𝓛 (callee.signature T A g d dd) (callee.spec T A g d dd 𝓛 𝓜.mem 𝓡.returns) in
    let tokens = ‵ (flft κs.0 qs.0) ⊛ ‵ (flft κs.1.0 qs.1.0) ⊛ ‵ ftrue in
    let alive = raw (fact 𝓤 (κs.0 ⊑ T.lives)) ⊛ raw (fact 𝓤 (κs.1.0 ⊑ A.lives)) ⊛ ‵ ftrue in
    qed 𝓛 ((tokens ⊛ ‵ (From.own_val v y.0.4.0) ⊛ ‵ ftrue) ∷ alive ∷ []) ∵
    split ! $ move ! (1 ∷ []) $ split ! $ fsplit ! $ fpick ! (λ vss. fsplit ! $ feq_l ! (λ ev. fsplit ! $ feq_l ! (λ ep. fsplit ! $
    handle_tells (record { row = A; laws = LA; g = g; d = d; drops = dd }) ! v.allocator vss.1.0 (λ h eh h_good.
    let u = both (ptr_val p) h in let z : G.Ghost = ((κs, qs, tt, (v.allocator, (p, tt)), (h ∷ [], (ptr_val p ∷ [], tt))), v.content) in
    regoal ! (λ (us : List Val). prop (WpFn 𝓤 𝓛.H 𝓣.C 𝓣.Λ fn (us ++ []) Post)) (ev ∙ (λ i. vstruct (of_list (ep i ++ (eh i ++ []))) ∷ [])) refl $
    -- [the handle; nothing; the block; nothing; the tokens; the bounds]
    move ! (5 ∷ []) $ split3 ! $ move ! (1 ∷ 5 ∷ []) $ join ! $ move ! (1 ∷ 0 ∷ []) $ join ! $ move ! (2 ∷ []) $
    nothing ! $ feq_i ! (List Val) (ptr_val p ∷ []) (ptr_val p ∷ []) refl $ join ! $ move ! (1 ∷ 0 ∷ []) $ join ! $ move ! (5 ∷ 0 ∷ []) $ join ! $ join ! $
    use1 𝓛 (raw (G.pre z)) (id⊢ 𝓤 _) $
    enter ! _ _ _ _ _ $ alloc_all ! (λ l. pass_all ! refl (both_good ty_ptr handle (ptr_val p) h (ptr_good p) h_good [], tt) $
    sets ! (of_opd ! (get_in ! (fld ! refl (stop !)) (sub ! 0 refl (whole !)))) refl (ptr_good p) $
    sets ! (of_opd ! (get_in ! (fld ! refl (stop !)) (sub ! 1 refl (whole !)))) refl h_good $
    first ! $ blocks ! $ sets ! (of_opd ! (get ! refl)) refl h_good $
    calls_at_last ! (framed 𝓤 𝓛.H 𝓜 𝓣) G (met 𝓤 𝓛 𝓜 𝓡 (code.calls-std::boxed::Box::from_raw 𝓡.env wired) T A L LA g d dd allocator glued) z
    (and_then ! (get ! refl) (and_then ! (get ! refl) (no_more !))) (λ b.
    use1 𝓛 (later (some (λ (r : To.Denot). (tokens ⊛ ‵ (To.own_val r (b ∷ []))) ⊛ some (λ (ls : Lasts (callee.ended T A g d dd) κs z.0.3). ‵ (lasts (callee.ended T A g d dd) κs z.0.3 ls) ⊛ raw (fact 𝓤 (r.value ≡ v.content)) ⊛ raw (fact 𝓤 (box_allocator r ≡ v.allocator)))))) (id⊢ 𝓤 _) $
    await ! tt $ pick ! (λ r. split ! $ move ! (1 ∷ []) $ pick ! (λ ls. split3 ! $ drop ! $ heard ! _ (λ is_same. move ! (1 ∷ []) $ split ! $ move ! (1 ∷ []) $
    peeks ! To _ (shows 𝓛 To) r (b ∷ []) (λ is. let good = (((box_loose R Z g (param_laws 0 T L) (param_laws 1 A LA)).lawful 𝓛).typed r (b ∷ []) is).0 in
    lands_last ! refl good $ exec ! 𝓣.C 𝓣.Λ (env fn.locals l) (after 3 fn.body) (at_ret _ Post) $
    sets ! (of_opd ! (get ! refl)) refl good $
    returns ! (look_at ! 0 refl) $ free_all ! refl $ keep ! (1 ∷ 0 ∷ []) $
    suffices ! _ (ends_at 𝓛 ended stayed c y b r ((tt, (tt, tt)), tt) (tt, tt)) $ says ! is_same $
    move ! (1 ∷ []) $ nothing ! $ nothing ! $ join ! $ move ! (2 ∷ []) $ done !)))))))))))
