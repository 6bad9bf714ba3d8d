-- The pointer and the handle go from one struct to the other, and what they own with them.
use Rattle.sj_c.proofs.Steps.{◌≡◌, List, [], ◌∷◌, ◌++◌, refl, ap, ◌∙◌, Some, ty_ptr, Val, ftrue, id⊢, WpFn, ‵, prop, ◌⊛◌, ◌$◌, ◌∵◌, !, qed, done, move, keep, use1, split, join, rewrite, regoal, suffices, stop, fld, of_opd, no_more, and_then, returns, enter, alloc_all, pass_all, free_all, look_at, get, get_in, sets, agg, sub, whole, tables, yes, plain, layout, nothing, Stays, walk_of, stay_dropped, Goes-dropped, ends_at, says, proved_at, one, heap_row, ghosts, heap_laws, both, both_good, two}
use Rattle.sj_c.specs.contracts.held.Printed.{the_row as value_row}
use Rattle.sj_c.proofs.held.Printed.TheLaws.{the_row_laws as value_laws}
use Rattle.sj_c.specs.contracts.unboxed.Unboxed as unboxed
use Rattle.sj_c.proofs.unboxed.Unboxed.TheLaws.{the_field_loose as unboxed_loose}
use Rattle.sj_c.specs.contracts.kept_text.KeptText as kept
use Rattle.sj_c.specs.contracts.kept_text.KeptText.of as f
use Rattle.sj_c.proofs.kept_text.KeptText.of.Statement.{statement}
use Rattle.sj_c.proofs.kept_text.KeptText.of.Code as code

pub of_spec : {M : Type 1} → statement M
of_spec 𝓤 𝓛 𝓜 𝓡 wired =
    let 𝓣 = tables 𝓤 𝓛.H 𝓜 𝓡 𝓡.env in let c = f.clauses 𝓛 𝓜.mem 𝓡.returns in
    let From = unboxed.the_row value_row heap_row ghosts in let handle = layout heap_row in
    let stayed : Stays f.ended.signature.params f.ended.kept = (stay_dropped (plain (λ _. From)) yes, tt) in
    proved_at 𝓛 f.ended stayed c 𝓜 𝓡 (Goes-dropped 𝓛 0 (plain (λ _. From)) yes (λ κs x w. refl), tt)
    f.Key.name code.function (code.unfolded 𝓤 𝓛.H 𝓜 𝓡 wired) (λ y are.
    let v = y.0.3.0 in let vs = y.0.4.0 in
    let g = one (layout From) vs (((unboxed_loose value_row heap_row ghosts value_laws heap_laws).lawful 𝓛).typed v vs are.0) in
    let t = two (unboxed.the_type value_row heap_row ghosts).name ty_ptr handle g.0 g.2 in
    let u = both t.x t.y in let is : vs ≡ u ∷ [] = g.1 ∙ ap (λ (w : Val). w ∷ []) t.is in
    let Post = (walk_of 𝓛 f.ended stayed c).post y in
    qed 𝓛 ((‵ ftrue ⊛ ‵ (From.own_val v vs) ⊛ ‵ ftrue) ∷ ‵ ftrue ∷ []) ∵
    split ! $ move ! (1 ∷ []) $ split ! $ rewrite ! 0 (λ (us : List Val). ‵ (From.own_val v us)) is refl $
    regoal ! (λ (us : List Val). prop (WpFn 𝓤 𝓛.H 𝓣.C 𝓣.Λ code.function (us ++ []) Post)) is refl $
    enter ! _ _ _ _ _ $ alloc_all ! (λ l. pass_all ! refl (both_good ty_ptr handle t.x t.y t.x_good t.y_good [], tt) $
    -- [what the struct owns; nothing; nothing; nothing; the locals]
    sets ! (of_opd ! (get_in ! (fld ! refl (stop !)) (sub ! 0 refl (whole !)))) refl t.x_good $
    sets ! (of_opd ! (get_in ! (fld ! refl (stop !)) (sub ! 1 refl (whole !)))) refl t.y_good $
    sets ! (of_opd ! (get ! refl)) refl t.x_good $
    sets ! (agg ! (and_then ! (get ! refl) (and_then ! (get ! refl) (no_more !)))) refl (both_good ty_ptr handle t.x t.y t.x_good t.y_good []) $
    use1 𝓛 (‵ (kept.the_row.own_val (record { at = v.place; alloc = v.allocator; holds = Some v.content }) (u ∷ []))) (id⊢ 𝓤 _) $
    returns ! (look_at ! 0 refl) $ free_all ! refl $ keep ! (0 ∷ []) $
    suffices ! _ (ends_at 𝓛 f.ended stayed c y u (record { at = v.place; alloc = v.allocator; holds = Some v.content }) (tt, tt) (tt, tt)) $ says ! refl $
    nothing ! $ nothing ! $ join ! $ nothing ! $ done !))
