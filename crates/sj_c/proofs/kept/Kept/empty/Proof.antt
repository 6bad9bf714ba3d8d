-- No pointer and the handle own nothing else.
use Rattle.sj_c.proofs.Steps.{List, [], ◌∷◌, ◌++◌, refl, lit<, None, ty_ptr, Val, ftrue, WpFn, ‵, prop, ◌⊛◌, ◌$◌, ◌∵◌, !, qed, done, move, keep, split, join, fjoin, fpack, feq_i, rewrite, regoal, suffices, of_opd, lit, no_more, and_then, returns, enter, alloc_all, pass_all, free_all, look_at, get, sets, agg, tables, yes, Valss, RawPtr, null_ptr, ptr_val, plain, layout, nothing, within, shape, to, Stays, walk_of, stay_dropped, Goes-dropped, ends_at, says, proved_at, Good, one, heap_row, heap_laws, both, both_good}
use Rattle.sj_c.specs.contracts.kept.Kept as kept
use Rattle.sj_c.specs.contracts.kept.Kept.empty as f
use Rattle.sj_c.proofs.kept.Kept.empty.Statement.{statement}
use Rattle.sj_c.proofs.kept.Kept.empty.Code as code

pub empty_spec : {M : Type 1} → statement M
empty_spec 𝓤 𝓛 𝓜 𝓡 wired =
    let 𝓣 = tables 𝓤 𝓛.H 𝓜 𝓡 𝓡.env in let c = f.clauses 𝓛 𝓜.mem 𝓡.returns in let handle = layout heap_row in
    let stayed : Stays f.ended.signature.params f.ended.kept = (stay_dropped (plain (λ _. heap_row)) yes, tt) in
    proved_at 𝓛 f.ended stayed c 𝓜 𝓡 (Goes-dropped 𝓛 0 (plain (λ _. heap_row)) yes (λ κs x w. refl), tt)
    f.Key.name code.function (code.unfolded 𝓤 𝓛.H 𝓜 𝓡 wired) (λ y are.
    let a = y.0.3.0 in let hs = y.0.4.0 in let g = one handle hs ((heap_laws.lawful 𝓛).typed a hs are.0) in let h = g.0 in
    let none = ptr_val null_ptr in let none_good : Good ty_ptr none = (tt, record { fits = lit< tt }) in
    let u = both none h in let made : kept.the_row.Denot = record { at = null_ptr; alloc = a; holds = None } in
    let Post = (walk_of 𝓛 f.ended stayed c).post y in
    qed 𝓛 ((‵ ftrue ⊛ ‵ (heap_row.own_val a hs) ⊛ ‵ ftrue) ∷ ‵ ftrue ∷ []) ∵
    split ! $ move ! (1 ∷ []) $ split ! $ rewrite ! 0 (λ (us : List Val). ‵ (heap_row.own_val a us)) g.1 refl $
    regoal ! (λ (us : List Val). prop (WpFn 𝓤 𝓛.H 𝓣.C 𝓣.Λ code.function (us ++ []) Post)) g.1 refl $
    enter ! _ _ _ _ _ $ alloc_all ! (λ l. pass_all ! refl (g.2, tt) $
    sets ! (of_opd ! (lit ! tt)) refl none_good $
    sets ! (agg ! (and_then ! (get ! refl) (and_then ! (get ! refl) (no_more !)))) refl (both_good ty_ptr handle none h none_good g.2 []) $
    nothing ! $ nothing ! $ move ! (2 ∷ 0 ∷ []) $ fjoin ! $ feq_i ! (List Val) (none ∷ []) (none ∷ []) refl $ fjoin ! $ feq_i ! (List Val) (u ∷ []) (u ∷ []) refl $ fjoin ! $
    fpack ! (Valss (RawPtr ∷ heap_row ∷ [])) (within (shape kept.the_type) (to kept.the_type made) (u ∷ [])) (none ∷ [], (h ∷ [], tt)) $ fjoin ! $
    returns ! (look_at ! 0 refl) $ free_all ! refl $ keep ! (0 ∷ []) $
    suffices ! _ (ends_at 𝓛 f.ended stayed c y u made (tt, tt) (tt, tt)) $ says ! refl $
    nothing ! $ nothing ! $ join ! $ nothing ! $ done !))
