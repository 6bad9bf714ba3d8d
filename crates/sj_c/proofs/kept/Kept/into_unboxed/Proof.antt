-- The pointer and the handle go from one struct to the other, and what they own with them.
use Rattle.sj_c.proofs.Steps.{◌≡◌, List, [], ◌∷◌, ◌++◌, refl, ap, ◌∙◌, Option, Some, None, ◌≢◌, ty_ptr, Val, id⊢, ftrue, WpFn, ‵, raw, prop, ◌⊛◌, ◌$◌, ◌∵◌, !, qed, done, move, keep, use1, split, join, rewrite, regoal, suffices, stop, fld, of_opd, no_more, and_then, returns, enter, alloc_all, pass_all, free_all, look_at, get, get_in, sets, agg, sub, whole, fact, tables, yes, plain, layout, nothing, heard, Stays, walk_of, stay_dropped, Goes-dropped, ends_at, says, proved_at, one, heap_row, ghosts, both, both_good, two}
use Rattle.sj_c.specs.declared.held.Held.{Held}
use Rattle.sj_c.specs.contracts.held.Held.{the_row as value_row}
use Rattle.sj_c.specs.contracts.unboxed.Unboxed as unboxed
use Rattle.sj_c.specs.contracts.kept.Kept as kept
use Rattle.sj_c.proofs.kept.Kept.TheLaws.{the_field_loose as kept_loose}
use Rattle.sj_c.specs.contracts.kept.Kept.into_unboxed as f
use Rattle.sj_c.proofs.kept.Kept.into_unboxed.Statement.{statement}
use Rattle.sj_c.proofs.kept.Kept.into_unboxed.Code as code

full : (o : Option Held) → o ≢ None → (x : Held) × (o ≡ Some x)
full (Some x) some = (x, refl)
full None some = absurd (some refl)

pub into_unboxed_spec : {M : Type 1} → statement M
into_unboxed_spec 𝓤 𝓛 𝓜 𝓡 wired =
    let 𝓣 = tables 𝓤 𝓛.H 𝓜 𝓡 𝓡.env in let c = f.clauses 𝓛 𝓜.mem 𝓡.returns in
    let From = kept.the_row in let To = unboxed.the_row value_row heap_row ghosts in let handle = layout heap_row in
    let stayed : Stays f.ended.signature.params f.ended.kept = (stay_dropped (plain (λ _. From)) yes, tt) in
    proved_at 𝓛 f.ended stayed c 𝓜 𝓡 (Goes-dropped 𝓛 0 (plain (λ _. From)) yes (λ κs x w. refl), tt)
    f.Key.name code.function (code.unfolded 𝓤 𝓛.H 𝓜 𝓡 wired) (λ y are.
    let v = y.0.3.0 in let vs = y.0.4.0 in
    let g = one (layout From) vs ((kept_loose.lawful 𝓛).typed v vs are.0) in
    let t = two kept.the_type.name ty_ptr handle g.0 g.2 in
    let u = both t.x t.y in let is : vs ≡ u ∷ [] = g.1 ∙ ap (λ (w : Val). w ∷ []) t.is in
    let good = both_good ty_ptr handle t.x t.y t.x_good t.y_good [] in
    let Post = (walk_of 𝓛 f.ended stayed c).post y in
    qed 𝓛 ((‵ ftrue ⊛ ‵ (From.own_val v vs) ⊛ ‵ ftrue) ∷ raw (fact 𝓤 (v.holds ≢ None)) ∷ []) ∵
    move ! (1 ∷ []) $ heard ! _ (λ some. let x = full v.holds some in let taken : To.Denot = record { place = v.at; allocator = v.alloc; content = x.0 } in
    split ! $ move ! (1 ∷ []) $ split ! $ rewrite ! 0 (λ (us : List Val). ‵ (From.own_val v us)) is refl $
    rewrite ! 0 (λ (o : Option Held). ‵ (From.own_val (record v { holds = o }) (u ∷ []))) x.1 refl $
    regoal ! (λ (us : List Val). prop (WpFn 𝓤 𝓛.H 𝓣.C 𝓣.Λ code.function (us ++ []) Post)) is refl $
    enter ! _ _ _ _ _ $ alloc_all ! (λ l. pass_all ! refl (good, tt) $
    sets ! (of_opd ! (get_in ! (fld ! refl (stop !)) (sub ! 0 refl (whole !)))) refl t.x_good $
    sets ! (of_opd ! (get_in ! (fld ! refl (stop !)) (sub ! 1 refl (whole !)))) refl t.y_good $
    sets ! (of_opd ! (get ! refl)) refl t.x_good $
    sets ! (agg ! (and_then ! (get ! refl) (and_then ! (get ! refl) (no_more !)))) refl good $
    use1 𝓛 (‵ (To.own_val taken (u ∷ []))) (id⊢ 𝓤 _) $
    returns ! (look_at ! 0 refl) $ free_all ! refl $ keep ! (0 ∷ []) $
    suffices ! _ (ends_at 𝓛 f.ended stayed c y u taken (tt, tt) (tt, tt)) $ says ! x.1 $
    nothing ! $ nothing ! $ join ! $ nothing ! $ done !)))
