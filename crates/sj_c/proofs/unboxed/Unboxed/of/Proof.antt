-- What the call hands out, a pair and what lies behind its pointer, is what the struct owns.
use Rattle.sj_c.proofs.Steps.{◌≡◌, List, [], ◌∷◌, ◌++◌, refl, sym, Args, a_type, dcons, dnil, ty_ptr, Val, inst_fn, id⊢, ftrue, flft, WpFn, ‵, raw, prop, ◌⊛◌, some, later, ◌$◌, ◌∵◌, !, qed, done, move, keep, drop, use1, split, split3, join, fjoin, pick, await, rewrite, regoal, suffices, stop, fld, of_opd, no_more, and_then, returns, enter, alloc_all, pass_all, free_all, look_at, get, get_in, sets, lands_as, agg, sub, whole, fact, ◌⊑◌, tables, no, RattleType, RawPtr, shows, plain, param, layout, bounded, param_laws, nothing, heard, peeks, Tuple, calls_at, Lasts, lasts, triple_of, framed, Stays, walk_of, stay_dropped, ends_at, says, Goes-blank, proved_at, one, both, both_good, two}
use Rattle.std.specs.Box.Ownership.{box_owns}
use Rattle.std.specs.contracts.boxed.Box as box
use Rattle.std.proofs.boxed.Box.TheLaws.{the_field_loose as box_loose}
use Rattle.std.specs.contracts.boxed.Box.into_raw_with_allocator as callee
use Rattle.std.proofs.boxed.Box.into_raw_with_allocator.Met.{met}
use Rattle.sj_c.specs.contracts.unboxed.Unboxed as unboxed
use Rattle.sj_c.proofs.unboxed.Unboxed.TheLaws.{the_field_loose as unboxed_loose}
use Rattle.sj_c.specs.contracts.unboxed.Unboxed.of as f
use Rattle.sj_c.proofs.unboxed.Unboxed.of.Statement.{statement}
use Rattle.sj_c.proofs.unboxed.Unboxed.of.Code as code

pub of_spec : {M : Type 1} → statement M
of_spec 𝓤 𝓛 𝓜 𝓡 wired T A L LA g d dx dd allocator glue glued =
    let 𝓣 = tables 𝓤 𝓛.H 𝓜 𝓡 𝓡.env in let ended = f.ended T A g d dx dd in let c = f.clauses T A g d dx dd 𝓛 𝓜.mem 𝓡.returns in
    let R : RattleType = param 0 T in let Z : RattleType = param 1 A in let From = box.the_row R Z g in let handle = layout Z in
    let given : Args = bounded (a_type ∷ a_type ∷ []) (T, (A, tt)) (dcons d (dcons dx (dcons dd dnil))) in let fn = inst_fn given code.function in
    let stayed : Stays ended.signature.params ended.kept = (stay_dropped (plain (λ _. From)) no, tt) in
    proved_at 𝓛 ended stayed c 𝓜 𝓡 (Goes-blank 𝓛 2 (plain (λ _. From)) no (λ κs x w. tt), tt)
    (f.Key.name given) fn (code.unfolded 𝓤 𝓛.H 𝓜 𝓡 wired (T, (A, tt)) d dx dd) (λ y are.
    let κs = y.0.0 in let qs = y.0.1 in let v = y.0.3.0 in let vs = y.0.4.0 in
    let o = one (layout From) vs (((box_loose R Z g (param_laws 0 T L) (param_laws 1 A LA)).lawful 𝓛).typed v vs are.0) in let w = o.0 in
    let Post = (walk_of 𝓛 ended stayed c).post y in
    let G = triple_of 𝓛 (callee.signature T A g d dd dx) (callee.spec T A g d dd dx 𝓛 𝓜.mem 𝓡.returns) in
    let z : G.Ghost = ((κs, qs, tt, (v, tt), (w ∷ [], tt)), tt) in
    let To = unboxed.the_row R Z g in let Pair = Tuple (RawPtr ∷ Z ∷ []) in
    let tokens = ‵ (flft κs.0 qs.0) ⊛ ‵ (flft κs.1.0 qs.1.0) ⊛ ‵ ftrue in
    let alive = raw (fact 𝓤 (κs.0 ⊑ T.lives)) ⊛ raw (fact 𝓤 (κs.1.0 ⊑ A.lives)) ⊛ ‵ ftrue in
    qed 𝓛 ((tokens ⊛ ‵ (From.own_val v vs) ⊛ ‵ ftrue) ∷ alive ∷ []) ∵
    regoal ! (λ (us : List Val). prop (WpFn 𝓤 𝓛.H 𝓣.C 𝓣.Λ fn (us ++ []) Post)) o.1 refl $
    split ! $ move ! (1 ∷ []) $ split ! $ rewrite ! 0 (λ (us : List Val). ‵ (From.own_val v us)) o.1 refl $
    join ! $ move ! (1 ∷ 0 ∷ []) $ join ! $ join ! $ use1 𝓛 (raw (G.pre z)) (id⊢ 𝓤 _) $
    enter ! _ _ _ _ _ $ alloc_all ! (λ l. pass_all ! refl (o.2, tt) $
    sets ! (of_opd ! (get ! refl)) refl o.2 $
    calls_at ! (framed 𝓤 𝓛.H 𝓜 𝓣) G (met 𝓤 𝓛 𝓜 𝓡 (code.calls-std::boxed::Box::into_raw_with_allocator 𝓡.env wired) T A L LA g d dd dx allocator glued glue) z
    (and_then ! (get ! refl) (no_more !)) (λ u.
    use1 𝓛 (later (some (λ (r : Pair.Denot). (tokens ⊛ ‵ (Pair.own_val r (u ∷ []))) ⊛ some (λ (ls : Lasts (callee.ended T A g d dd dx) κs (v, tt)). ‵ (lasts (callee.ended T A g d dd dx) κs (v, tt) ls) ⊛ raw (fact 𝓤 (r.1 ≡ v.alloc)) ⊛ ‵ (box_owns (g.dealloc_token v.alloc) R r.0 v.value))))) (id⊢ 𝓤 _) $
    await ! tt $ pick ! (λ r. split ! $ move ! (1 ∷ []) $ pick ! (λ ls. split3 ! $ drop ! $ heard ! _ (λ is_same. let made : To.Denot = record { place = r.0; allocator = r.1; content = v.value } in
    rewrite ! 0 (λ (a : Z.Denot). ‵ (box_owns (g.dealloc_token a) R r.0 v.value)) (sym is_same) refl $
    move ! (1 ∷ []) $ split ! $ move ! (1 ∷ 2 ∷ []) $ fjoin ! $ use1 𝓛 (‵ (To.own_val made (u ∷ []))) (id⊢ 𝓤 _) $
    peeks ! To _ (shows 𝓛 To) made (u ∷ []) (λ is. let good = (((unboxed_loose R Z g (param_laws 0 T L) (param_laws 1 A LA)).lawful 𝓛).typed made (u ∷ []) is).0 in
    let t = two (unboxed.the_type R Z g).name ty_ptr handle u good in let w = both t.x t.y in
    rewrite ! 0 (λ (x : Val). ‵ (To.own_val made (x ∷ []))) t.is refl $
    lands_as ! t.is refl (both_good ty_ptr handle t.x t.y t.x_good t.y_good []) $
    sets ! (of_opd ! (get_in ! (fld ! refl (stop !)) (sub ! 0 refl (whole !)))) refl t.x_good $
    sets ! (of_opd ! (get_in ! (fld ! refl (stop !)) (sub ! 1 refl (whole !)))) refl t.y_good $
    sets ! (of_opd ! (get ! refl)) refl t.y_good $
    sets ! (agg ! (and_then ! (get ! refl) (and_then ! (get ! refl) (no_more !)))) refl (both_good ty_ptr handle t.x t.y t.x_good t.y_good []) $
    returns ! (look_at ! 0 refl) $ free_all ! refl $ keep ! (1 ∷ 0 ∷ []) $
    suffices ! _ (ends_at 𝓛 ended stayed c y w made ((tt, (tt, tt)), tt) (tt, tt)) $ says ! refl $
    move ! (1 ∷ []) $ nothing ! $ nothing ! $ join ! $ move ! (2 ∷ []) $ done !)))))))
