-- `lookup_or_insert_mut` lends the members of the object twice: to find a place or to make one, and then the value at it. Assumes `Logic`.
use Rattle.std.proofs.Common.{◌≡◌, ◌<◌, length, bytes_eq, ℕ, List, [], ◌∷◌, ◌++◌, Some, None, Result, Ok, Err, IfOk, IfErr, IsOk, OnOk, OnErr, IsSome, IfSome, refl, sym, ap, ◌∙◌, subst, MutBor}
use Rattle.sj_document.proofs.LoanSteps.{proved_at, err_of, id⊢, emp, apply∗, Share, ftrue, fsep, feq, flft, fdead, Fn, Args, Dict, a_type, dcons, dnil, tcons, tnil, impl, named, inst_fn, Val, vunit, of_list, WpFn, spot_of, suc-ne-zero, lit<, after, fact, fact_i, ◌⊑◌, ⊑_refl, ⊑_static, meet_⊑_right, Running, tables, Ura, Logic, Model, ‵, raw, prop, ◌⊛◌, some, later, given, ◌$◌, ◌∵◌, !, qed, move, keep, drop, use0, use1, use2, use3, split, join, fsplit, fjoin, feq_l, learn, pick, await, rewrite, regoal, suffices, frame, at_ret, done, enter, addr, lit, of_opd, fld, stop, first, exec, returns, no_more, and_then, whole, agg, live, vrt, in_variant, by_variants, alloc_all, pass_all, free_all, look_at, get, get_in, get_tag, through, sets, lands_as, lands_last, env, yes, no, bounded, param, layout, arg, RattleType, NamedLft, MutRef, ShrRef, mut_vals, mut_Tells, shr_vals, shr_Tells, mut_Lawful, plain, mut_ref_to, shr_ref_to, named_lft, nothing, heard, peeks, only, shows, usize, uint_Lawful, w64, calls_at, calls_at_last, lasts, triple_of, framed, Stays, walk_of, stay_dropped, Goes-dropped, Goes-spent_ref, ends_at, follows_so}
use base.Share as share
use mir.Raw.{raw as bare}
use contract.Lifetimes.{Lfts}
use prog.Wired.{Wired}
use denote.Param.Laws.{Laws, param_laws, arg_laws}
use denote.Param.Glue as glue
use denote.Lend.{LentAgain, lends_again, comes_back}
use denote.Param.NoDrop.{glues}
use Rattle.std.specs.Borrow.{name_if_ok}
use Rattle.std.specs.Cow.{cow_str_bytes}
use Rattle.std.specs.contracts.result.Result as result
use Rattle.sj_borrowed.specs.contracts.known_key.error.Error as fault
use Rattle.sj_borrowed.specs.declared.known_key.error.Error.{Error}
use Rattle.sj_borrowed.specs.declared.known_key.error.Error.TheVariants.{NotAnObject, OutOfMemory}
use Rattle.sj_borrowed.proofs.known_key.error.Error.TheLaws as fault_laws
use Rattle.sj_borrowed.specs.contracts.known_key.KnownKey as known
use Rattle.sj_text_core.specs.Tree.{obj}
use Rattle.sj_text_core.specs.Reads.{as_members, kind_of}
use Rattle.sj_text_core.specs.Find.{find}
use Rattle.sj_object.specs.Members.{entry_members}
use Rattle.sj_object.specs.Edits.{lookup, position, put_entry, nth_value, with_value_at}
use Rattle.sj_document.specs.Document.{document_tree, with_member}
use Rattle.sj_borrowed.specs.Inserts.{known_fault, why_in, IsCopy}
use Rattle.sj_document.specs.declared.value.Document.{Document}
use Rattle.sj_object.specs.Lends.{KeyMembers}
use Rattle.sj_document.specs.Rows.{document_row, object_row}
use Rattle.std.specs.declared.alloc.Global.{Global}
use Rattle.std.specs.declared.borrow.CowStr.{CowStr}
use Rattle.std.specs.contracts.borrow.CowStr as cow
use Rattle.std.proofs.borrow.CowStr.TheLaws as cow_laws
use Rattle.std.specs.contracts.alloc.Global as heap
use Rattle.std.proofs.alloc.Global.TheLaws as heap_laws
use Rattle.std.specs.contracts.impls.GlobalAllocator.TheImpl as allocator
use Rattle.std.proofs.impls.GlobalAllocator.TheImpl.Met as allocator-met
use Rattle.std.specs.contracts.impls.CowStrEq.TheImpl as total
use Rattle.std.proofs.impls.CowStrEq.TheImpl.Met as total-met
use Rattle.std.specs.contracts.impls.CowStrPartialEq.TheImpl as equal
use Rattle.std.proofs.impls.CowStrPartialEq.TheImpl.Met as equal-met
use Rattle.sj_object.specs.contracts.key.CowStrKeyText.TheImpl as text
use Rattle.sj_object.proofs.key.CowStrKeyText.TheImpl.Met as text-met
use Rattle.sj_borrowed.specs.contracts.known_key.KnownKey.lookup_or_insert_mut as f
use Rattle.sj_borrowed.specs.contracts.known_key.KnownKey.lookup_or_insert_mut.F-FnOnce as makes
use Rattle.sj_borrowed.specs.contracts.known_key.or_insert.members_of as g
use Rattle.sj_borrowed.specs.contracts.known_key.or_insert.place_or_put as h
use Rattle.sj_borrowed.specs.contracts.known_key.or_insert.value_at as j
use Rattle.sj_borrowed.proofs.known_key.KnownKey.lookup_or_insert_mut.Statement.{statement}
use Rattle.sj_borrowed.proofs.known_key.KnownKey.lookup_or_insert_mut.Code as code
use Rattle.sj_borrowed.proofs.known_key.or_insert.members_of.Met as g-met
use Rattle.sj_borrowed.proofs.known_key.or_insert.place_or_put.Met as h-met
use Rattle.sj_borrowed.proofs.known_key.or_insert.value_at.Met as j-met
use Rattle.sj_borrowed.proofs.Destruct++none.drop.Code as lets_go_code
use Rattle.sj_object.specs.contracts.key.KeyText.TheBound as key-bound
use Rattle.std.specs.contracts.cmp.Eq.TheBound as total-bound
use Rattle.std.specs.contracts.cmp.PartialEq.TheBound as equal-bound
use Rattle.std.proofs.lemmas.Result.{on_err_weaker}
use Rattle.sj_borrowed.proofs.Lives.{Ends, begins}
use Rattle.sj_document.proofs.Loans.{fits_as, lent_none, none_there}
use Rattle.sj_document.proofs.Results.{typed_one, lent_so, result_out, result_lawful}
use Rattle.sj_document.proofs.Trees.{Map}
use Rattle.sj_document.proofs.Lent.{no_members_found}
use Rattle.sj_borrowed.proofs.Objects.{is_object, not_found}
use Rattle.sj_borrowed.proofs.Members.{within, written, unwritten, found_tree, made_value, lends, kind, object, not_ok, some_any}

module _ (F : RattleType) (gd Fd : Dict) where
  abbrev args : Args
  args = bounded (a_type ∷ []) (F, tt) (dcons gd (dcons Fd dnil))

  abbrev function : Fn
  function = inst_fn args code.function

-- the allocator of texts, as an argument
abbrev Heap : RattleType
Heap = arg (bare (layout heap.the_row)) no heap.the_row

abbrev lets_go : Dict
lets_go = impl ("sj_borrowed::Destruct++none::drop" ∷ []) (tcons (layout Heap) tnil) dnil

Heap-laws : Laws Heap
Heap-laws = arg_laws (bare (layout heap.the_row)) no heap.the_row heap_laws.the_row_laws refl

heap_glue : {M : Type 1} (𝓤 : Ura M) (𝓛 : Logic 𝓤) (𝓜 : Model 𝓤 𝓛.H) (𝓡 : Running 𝓤 𝓛.H 𝓜) → Wired 𝓡.env lets_go_code.code → glue.Met 𝓛 𝓜 𝓡 𝓡.env Heap lets_go
unfolding lets_go_code.code
heap_glue {M} 𝓤 𝓛 𝓜 𝓡 wired = glues "sj_borrowed::Destruct++none::drop" 𝓡.env wired Heap Heap-laws M 𝓤 𝓛 𝓜 𝓡

abbrev Text : NamedLft → RattleType
Text ℓ = cow.the_row ℓ heap.the_row allocator.ghosts

-- what the bounds of a text give
abbrev keyed : KeyMembers (CowStr Global)
keyed = record { eq = λ a b. bytes_eq (cow_str_bytes a) (cow_str_bytes b); text_of = cow_str_bytes }

-- a text, as an argument
abbrev Passed : NamedLft → RattleType
Passed ℓ = arg (bare (layout (Text ℓ))) no (Text ℓ)

pub lookup_or_insert_mut_spec : {M : Type 1} → statement M
lookup_or_insert_mut_spec {M} 𝓤 𝓛 𝓜 𝓡 wired F LF g-F gd Fd P met-F glue-F =
    let fn = function F gd Fd in
    let End = f.ended F g-F gd Fd P in
    let E = fault.the_row in let t = cow_str_bytes {Z = Global} in
    let hs : Stays End.signature.params End.kept = (stay_dropped (mut_ref_to (0 ∷ []) tt (plain (λ κs. document_row (Text (named_lft 5 1 tt κs)) keyed))) no, (stay_dropped (shr_ref_to (2 ∷ []) tt (plain (λ κs. known.the_row (named_lft 5 3 tt κs)))) yes, (stay_dropped (plain (λ _. param 0 F)) no, tt))) in
    let c = f.clauses F g-F gd Fd P 𝓛 𝓜.mem 𝓡.returns in
    let W = walk_of 𝓛 End hs c in
    let 𝓣 = tables 𝓤 𝓛.H 𝓜 𝓡 𝓡.env in
    proved_at 𝓛 End hs c 𝓜 𝓡 (Goes-spent_ref 𝓛 5 (0 ∷ []) tt (plain (λ κs. document_row (Text (named_lft 5 1 tt κs)) keyed)), (Goes-dropped 𝓛 5 (shr_ref_to (2 ∷ []) tt (plain (λ κs. known.the_row (named_lft 5 3 tt κs)))) yes (λ κs x w. refl), (Goes-dropped 𝓛 5 (plain (λ _. param 0 F)) no (λ κs x w. refl), tt)))
    (f.Key.name (args F gd Fd)) fn (code.unfolded 𝓤 𝓛.H 𝓜 𝓡 wired (F, tt) gd Fd)
    (λ y are.
    let κs = y.0.0 in let qs = y.0.1 in let bounds = y.0.2 in let a = y.0.3 in let vss = y.0.4 in
    let κv = κs.1.0 in let qv = qs.1.0 in let ℓv = named_lft 5 1 tt κs in
    let D = document_row (Text ℓv) keyed in let O = object_row (Text ℓv) keyed in
    let key = cow_str_bytes a.1.0.now in let u = document_tree t a.0.now in let with = a.1.1.0 in
    let Known = known.the_row (named_lft 5 3 tt κs) in let Lent = result.the_row (MutRef (named 0) κs.0 O) E in let Answer = result.the_row (MutRef (named 0) κs.0 D) E in
    let LE = fault_laws.the_row_laws.lawful 𝓛 in
    let told = mut_Tells (named 0) κs.0 D a.0 vss.0 are.0 in let told' = shr_Tells (named 2) κs.1.1.0 Known a.1.0 vss.1.0 are.1.0 in
    let one = typed_one (layout F) vss.1.1.0 (((param_laws 0 F LF).lawful 𝓛).typed with vss.1.1.0 are.1.1.0) in
    let Left = λ (r : Result (MutBor (Map (CowStr Global))) Error). follows_so D O a.0.ghost_name (name_if_ok (λ x. x.ghost_name) r) (λ w n. IsOk r → document_tree t n ≡ obj (entry_members (document_tree t) w.entries)) (λ n. OnErr r (document_tree t n ≡ u)) in
    let Then = λ (r : Result (MutBor (Document (CowStr Global))) Error). follows_so D D a.0.ghost_name (name_if_ok (λ x. x.ghost_name) r) (λ w n. IsOk r → document_tree t n ≡ with_member key (document_tree t w) u) (λ n. OnErr r (document_tree t n ≡ u)) in
    let A = Passed ℓv in let LA = arg_laws (bare (layout (Text ℓv))) no (Text ℓv) (cow_laws.the_row_laws ℓv heap.the_row allocator.ghosts heap_laws.the_row_laws) refl in
    let eG = total.ghosts Heap allocator.ghosts allocator.dict lets_go in let ed = total.dict Heap allocator.ghosts allocator.dict lets_go in let pG = equal.ghosts Heap allocator.ghosts allocator.dict lets_go in let pd = equal.dict Heap allocator.ghosts allocator.dict lets_go in
    let met-A = allocator-met.passed 𝓡.env (code.calls-std_heap::GlobalAllocator::allocate 𝓡.env wired) (code.calls-std_heap::GlobalAllocator::deallocate 𝓡.env wired) (code.calls-std_heap::GlobalAllocator::grow 𝓡.env wired) (code.calls-std_heap::GlobalAllocator::shrink 𝓡.env wired) M 𝓤 𝓛 𝓜 𝓡 in
    let glue-H = heap_glue 𝓤 𝓛 𝓜 𝓡 (code.calls-sj_borrowed::Destruct++none::drop 𝓡.env wired) in
    let met-k : key-bound.Met 𝓛 𝓜 𝓡 𝓡.env A text.ghosts text.dict eG ed pG pd = (let met = text-met.bound 𝓡.env (code.calls-sj_object::key::CowStrKeyText::text 𝓡.env wired) κv M 𝓤 𝓛 𝓜 𝓡 in record { equal_texts = met.equal_texts; text = met.text }) in
    let met-e : total-bound.Met 𝓛 𝓜 𝓡 𝓡.env A eG ed pG pd = (let met = total-met.bound 𝓡.env κv Heap Heap-laws allocator.ghosts allocator.dict lets_go M 𝓤 𝓛 𝓜 𝓡 met-A glue-H in record { laws = met.laws }) in
    let met-p : equal-bound.Met 𝓛 𝓜 𝓡 𝓡.env A pG pd = (let met = equal-met.bound 𝓡.env (code.calls-std_alloc::borrow::texts::CowStrPartialEq::eq 𝓡.env wired) κv Heap Heap-laws allocator.ghosts allocator.dict lets_go M 𝓤 𝓛 𝓜 𝓡 met-A glue-H in record { laws = met.laws; eq = met.eq }) in
    let lives = cow_laws.the_within ℓv heap.the_row allocator.ghosts κv (⊑_refl κv) (⊑_static κv) in
    let G = triple_of 𝓛 (g.signature A text.ghosts text.dict eG ed pG pd) (g.spec A text.ghosts text.dict eG ed pG pd 𝓛 𝓜.mem 𝓡.returns) in
    let z : G.Ghost = (((κs.0, (κv, tt)), (qs.0, (qv, tt)), (bounds.1.0, tt), (a.0, tt), (mut_vals a.0, tt)), tt) in
    qed 𝓛 (((‵ (flft κs.0 qs.0) ⊛ ‵ (flft κv qv) ⊛ ‵ (flft κs.1.1.0 qs.1.1.0) ⊛ ‵ (flft κs.1.1.1.0 qs.1.1.1.0) ⊛ ‵ (flft κs.1.1.1.1.0 qs.1.1.1.1.0) ⊛ ‵ ftrue) ⊛ ‵ ((MutRef (named 0) κs.0 D).own_val a.0 vss.0) ⊛ ‵ ((ShrRef (named 2) κs.1.1.0 Known).own_val a.1.0 vss.1.0) ⊛ ‵ (F.own_val with vss.1.1.0) ⊛ ‵ ftrue)
    ∷ (given (κs.1.1.1.1.0 ⊑ F.lives) (‵ ftrue) ⊛ given (P κs) (‵ ftrue) ⊛ given (IsSome (as_members u) → find key u ≡ None → g-F.pre with tt) (‵ ftrue)) ∷ []) ∵
    move ! (1 ∷ []) $ split ! $ learn ! (λ livesF. drop ! $ split ! $ learn ! (λ holds. drop ! $ learn ! (λ asks. drop ! $
    split ! $ move ! (1 ∷ []) $ split ! $ move ! (1 ∷ []) $ split ! $ move ! (1 ∷ []) $ split ! $ move ! (4 ∷ []) $ split ! $ move ! (1 ∷ []) $ split ! $ move ! (1 ∷ []) $ split ! $ move ! (1 ∷ []) $ split ! $ move ! (1 ∷ []) $ split ! $ keep ! (9 ∷ 8 ∷ 6 ∷ 5 ∷ 4 ∷ 3 ∷ 2 ∷ 0 ∷ []) $
    rewrite ! 0 (λ (vs : List Val). ‵ ((MutRef (named 0) κs.0 D).own_val a.0 vs)) told refl $ rewrite ! 1 (λ (vs : List Val). ‵ ((ShrRef (named 2) κs.1.1.0 Known).own_val a.1.0 vs)) told' refl $ rewrite ! 2 (λ (vs : List Val). ‵ (F.own_val with vs)) one.1 refl $
    regoal ! (λ (us : List Val). prop (WpFn 𝓤 𝓛.H 𝓣.C 𝓣.Λ fn us (W.post y))) (λ i. told i ++ (told' i ++ (one.1 i ++ []))) refl $
    -- [target; key; with; the tokens of target, of the text, of the key's reference, of the key and of F]
    enter ! _ _ _ _ _ $ alloc_all ! (λ l. pass_all ! refl ((tt, tt), ((tt, tt), (one.2, tt))) $
    sets ! (addr ! (through ! refl (stop !))) refl (tt, tt) $
    nothing ! $ move ! (1 ∷ 0 ∷ []) $ join ! $ nothing ! $ move ! (5 ∷ 0 ∷ []) $ join ! $ move ! (4 ∷ 0 ∷ []) $ join ! $ join ! $
    nothing ! $ use0 𝓛 (given (κv ⊑ A.lives) (‵ ftrue)) (fact_i 𝓤 _ (emp 𝓤) lives) $ join ! $ move ! (1 ∷ 0 ∷ []) $ use2 𝓛 (raw (G.pre z)) (id⊢ 𝓤 _) $
    -- [what the call asks; key; with; the tokens of the key's reference, of the key and of F]
    calls_at ! (framed 𝓤 𝓛.H 𝓜 𝓣) G (g-met.met 𝓤 𝓛 𝓜 𝓡 (code.calls-sj_borrowed::known_key::or_insert::members_of 𝓡.env wired) A LA text.ghosts text.dict eG ed pG pd met-k met-e met-p) z (and_then ! (get ! refl) (no_more !)) (λ v.
    use1 𝓛 (later (some (λ (r : Result (MutBor (Map (CowStr Global))) Error). ((‵ (flft κs.0 qs.0) ⊛ ‵ (flft κv qv) ⊛ ‵ ftrue) ⊛ ‵ (Lent.own_val r (v ∷ []))) ⊛
    some (λ (ends : Unit {0} × Unit {0}). ‵ (lasts (g.ended A text.ghosts text.dict eG ed pG pd) z.0.0 z.0.3 ends) ⊛ (‵ (Left r) ⊛ raw (fact 𝓤 (IfOk r (λ m. Some (entry_members (document_tree t) m.now.entries) ≡ as_members u))) ⊛ raw (fact 𝓤 (IfErr r (λ why. why ≡ NotAnObject (kind_of u)))) ⊛ raw (fact 𝓤 (OnErr r (as_members u ≡ None)))))))) (id⊢ 𝓤 _) $
    await ! tt $ pick ! (λ r. split ! $ split ! $ split ! $ move ! (1 ∷ []) $ split ! $ move ! (4 ∷ []) $ pick ! (λ ends. split ! $ drop ! $ split ! $ move ! (1 ∷ []) $ split ! $ heard ! _ (λ shown. split ! $ heard ! _ (λ kind-r. heard ! _ (λ refused.
    move ! (2 ∷ []) $ drop ! $ move ! (3 ∷ []) $
    -- [what r owns; what the call says; the tokens of the text and target; key; with; the three others]
    peeks ! Lent _ (shows 𝓛 Lent) r (v ∷ []) (λ is-r. let fits = ((result_lawful 𝓛 (MutRef (named 0) κs.0 O) E (mut_Lawful 𝓛 (named 0) κs.0 O) LE).typed r (v ∷ []) is-r).0 in
    result_out ! (MutRef (named 0) κs.0 O) E r (v ∷ [])
    (λ m xs is_ok spelled.
    peeks ! (MutRef (named 0) κs.0 O) _ (shows 𝓛 (MutRef (named 0) κs.0 O)) m xs (λ is.
    let told-m = mut_Tells (named 0) κs.0 O m xs is in let γ = m.ghost_name in let b = m.ref_ptr.0 in let o = m.ref_ptr.1 in let vs = mut_vals m in
    let at : Some (entry_members (document_tree t) m.now.entries) ≡ as_members u = subst (λ (r : Result (MutBor (Map (CowStr Global))) Error). IfOk r (λ m. Some (entry_members (document_tree t) m.now.entries) ≡ as_members u)) is_ok shown in
    rewrite ! 0 (λ (vs : List Val). ‵ ((MutRef (named 0) κs.0 O).own_val m vs)) told-m refl $ rewrite ! 1 (λ (r : Result (MutBor (Map (CowStr Global))) Error). ‵ (Left r)) is_ok refl $
    lands_as ! (ap only spelled ∙ ap (λ (vs : List Val). live 0 (of_list (vs ++ []))) told-m) refl (tt, (record { fits = lit< tt }, (tt, tt))) $
    first ! $ by_variants ! 23 (whole !) (get_tag ! (vrt ! refl (fld ! refl (stop !))) (whole !)) tt (
      (λ _. sets ! (of_opd ! (get_in ! (vrt ! refl (fld ! refl (stop !))) (in_variant ! 0 0 refl refl (whole !)))) refl (tt, tt) $
          sets ! (addr ! (through ! refl (stop !))) refl (tt, tt) $ sets ! (of_opd ! (get ! refl)) refl one.2 $
          -- [members; what the first call says; the tokens of the text and target; key; with; the three others]
          let ql = share.left qv in let qr = share.right qv in
          move ! (2 ∷ []) $ use1 𝓛 (‵ (flft κv ql) ⊛ ‵ (flft κv qr)) (𝓛.lfts.lft_split κv qv) $ split ! $
          use1 𝓛 (later (some (λ (p : ℕ × Share). ‵ (flft (p.0 ∷ κv) p.1) ⊛ raw (Ends 𝓛 κv ql p.0 p.1)))) (begins 𝓛 κv ql) $ await ! tt $ pick ! (λ p. split ! $
          let κ' = p.0 ∷ κv in let Ref = λ (κ : List ℕ) (x : MutBor (Map (CowStr Global))). (MutRef (named 0) κ O).own_val x vs in
          move ! (3 ∷ 5 ∷ []) $ use2 𝓛 (later (some (λ (δ : ℕ). ‵ (Ref κ' (record m { ghost_name = δ })) ⊛ ‵ (LentAgain O κs.0 κ' qs.0 γ b o δ m.now)))) (lends_again 𝓛 O (named 0) κs.0 κ' qs.0 γ b o (named 0) m.now) $ await ! tt $ pick ! (λ δ. split ! $
          -- [the loan; what the lender keeps; its token; its end; half of the text's token; what the first call says; key; with; the three others]
          let lent : MutBor (Map (CowStr Global)) = record m { ghost_name = δ } in
          let P' = λ (κs' : Lfts 5). (κs'.1.0 ≡ κv) × Unit {0} in
          let met-F' : (κs' : Lfts 5) → P' κs' → makes.Met 𝓛 𝓜 𝓡 𝓡.env κs'.1.0 F g-F gd = λ κs' e. subst (λ β. makes.Met 𝓛 𝓜 𝓡 𝓡.env β F g-F gd) (sym e.0) (met-F κs holds) in
          let H = triple_of 𝓛 (h.signature F) (h.spec F g-F gd Fd P' 𝓛 𝓜.mem 𝓡.returns) in
          let z' : H.Ghost = (((κ', (κv, (κs.1.1.0, (κs.1.1.1.0, (κs.1.1.1.1.0, tt))))), (p.1, (qr, (qs.1.1.0, (qs.1.1.1.0, (qs.1.1.1.1.0, tt))))), (bounds.0, (meet_⊑_right (p.0 ∷ []) κv, (bounds.1.1.0, tt))), (lent, (a.1.0, (with, tt))), (vs, (shr_vals a.1.0, (one.0 ∷ [], tt)))), tt) in
          nothing ! $ move ! (8 ∷ 0 ∷ []) $ join ! $ move ! (7 ∷ 0 ∷ []) $ join ! $ move ! (1 ∷ 0 ∷ []) $ join ! $
          nothing ! $ move ! (9 ∷ 0 ∷ []) $ join ! $ move ! (8 ∷ 0 ∷ []) $ join ! $ move ! (7 ∷ 0 ∷ []) $ join ! $ move ! (5 ∷ 0 ∷ []) $ join ! $ move ! (3 ∷ 0 ∷ []) $ join ! $ join ! $
          use0 𝓛 (given (lookup key m.now.entries ≡ None → g-F.pre with tt) (‵ ftrue)) (fact_i 𝓤 _ (emp 𝓤) (λ h. asks (is_object t m.now key u at) (not_found t m.now key u at h))) $ use0 𝓛 (given (P' z'.0.0) (‵ ftrue)) (fact_i 𝓤 _ (emp 𝓤) (refl, tt)) $ join ! $ use0 𝓛 (given (κs.1.1.1.1.0 ⊑ F.lives) (‵ ftrue)) (fact_i 𝓤 _ (emp 𝓤) livesF) $ join ! $ move ! (1 ∷ 0 ∷ []) $ use2 𝓛 (raw (H.pre z')) (id⊢ 𝓤 _) $
          -- [what the call asks; what the lender keeps; the loan's end; what the first call says]
          calls_at ! (framed 𝓤 𝓛.H 𝓜 𝓣) H (h-met.met 𝓤 𝓛 𝓜 𝓡 (code.calls-sj_borrowed::known_key::or_insert::place_or_put 𝓡.env wired) F LF g-F gd Fd P' met-F' glue-F) z' (and_then ! (get ! refl) (and_then ! (get ! refl) (and_then ! (get ! refl) (no_more !)))) (λ v'.
          use1 𝓛 (later (some (λ (place : Result ℕ Error). ((‵ (flft κ' p.1) ⊛ ‵ (flft κv qr) ⊛ ‵ (flft κs.1.1.0 qs.1.1.0) ⊛ ‵ (flft κs.1.1.1.0 qs.1.1.1.0) ⊛ ‵ (flft κs.1.1.1.1.0 qs.1.1.1.1.0) ⊛ ‵ ftrue) ⊛ ‵ ((result.the_row usize E).own_val place (v' ∷ []))) ⊛
          some (λ (ends' : Map (CowStr Global) × (Unit {0} × (Unit {0} × Unit {0}))). ‵ (lasts (h.ended F g-F gd Fd P') z'.0.0 z'.0.3 ends') ⊛ (raw (fact 𝓤 (IfOk place (λ i. position key ends'.0.entries ≡ Some i))) ⊛ raw (fact 𝓤 (IsSome (lookup key m.now.entries) → (ends'.0 ≡ m.now) × IsOk place))
          ⊛ raw (fact 𝓤 (lookup key m.now.entries ≡ None → OnOk place ((copy : CowStr Global) × (v : Document (CowStr Global)) × IsCopy a.1.0.now copy × g-F.post with tt v × (ends'.0.entries ≡ put_entry (copy, key) v m.now.entries)))) ⊛ raw (fact 𝓤 (OnErr place (ends'.0 ≡ m.now))) ⊛ raw (fact 𝓤 (IfErr place (λ why. why ≡ OutOfMemory)))))))) (id⊢ 𝓤 _) $
          await ! tt $ pick ! (λ place. split ! $ split ! $ move ! (2 ∷ []) $ pick ! (λ ends'. split ! $ move ! (1 ∷ []) $ split ! $ heard ! _ (λ placed. split ! $ heard ! _ (λ found. split ! $ heard ! _ (λ made. split ! $ heard ! _ (λ kept. heard ! _ (λ kind-place.
          let after' = ends'.0 in
          -- [what the loan ends as; the tokens; the place; what the lender keeps; the loan's end; what the first call says]
          fsplit ! $ fsplit ! $ move ! (3 ∷ []) $ split ! $ move ! (1 ∷ []) $ split ! $
          move ! (2 ∷ 8 ∷ []) $ use2 𝓛 (later (‵ (fdead κ') ⊛ ‵ (flft κv ql))) (apply∗ 𝓤 (𝓛.A.lft κ' p.1) _) $ await ! tt $ split ! $
          move ! (0 ∷ 8 ∷ 4 ∷ []) $ use3 𝓛 (later (‵ (Ref κs.0 (record m { now = after' })) ⊛ ‵ (flft κs.0 qs.0))) (comes_back 𝓛 O (named 0) κs.0 κ' qs.0 γ b o δ m.now after') $ await ! tt $ split ! $
          move ! (2 ∷ 3 ∷ []) $ use2 𝓛 (‵ (flft κv qv)) (𝓛.lfts.lft_join κv qv) $ move ! (4 ∷ []) $ drop ! $ move ! (4 ∷ []) $ drop ! $ move ! (4 ∷ []) $
          -- [the place; the text's token; members; target's token; the three others; what the first call says]
          let Place = result.the_row usize E in let back : MutBor (Map (CowStr Global)) = record m { now = after' } in
          peeks ! Place _ (shows 𝓛 Place) place (v' ∷ []) (λ is-place. let fits-place = ((result_lawful 𝓛 usize E (uint_Lawful 𝓛 w64) LE).typed place (v' ∷ []) is-place).0 in
          lands_as ! refl refl fits-place $ sets ! (addr ! (through ! refl (stop !))) refl (tt, tt) $
          let V = triple_of 𝓛 (j.signature A text.ghosts text.dict eG ed pG pd) (j.spec A text.ghosts text.dict eG ed pG pd 𝓛 𝓜.mem 𝓡.returns) in
          let z'' : V.Ghost = (((κs.0, (κv, tt)), (qs.0, (qv, tt)), (bounds.1.0, tt), (back, (place, tt)), (vs, (v' ∷ [], tt))), tt) in
          nothing ! $ move ! (1 ∷ 0 ∷ []) $ join ! $ move ! (2 ∷ 0 ∷ []) $ join ! $ nothing ! $ move ! (2 ∷ 0 ∷ []) $ join ! $ move ! (2 ∷ 0 ∷ []) $ join ! $ join ! $
          use0 𝓛 (given (IfOk place (λ i. i < length after'.entries)) (‵ ftrue)) (fact_i 𝓤 _ (emp 𝓤) (within key after' place placed)) $ use0 𝓛 (given (κv ⊑ A.lives) (‵ ftrue)) (fact_i 𝓤 _ (emp 𝓤) lives) $ join ! $ move ! (1 ∷ 0 ∷ []) $ use2 𝓛 (raw (V.pre z'')) (id⊢ 𝓤 _) $
          -- [what the call asks; the three other tokens; what the first call says]
          calls_at_last ! (framed 𝓤 𝓛.H 𝓜 𝓣) V (j-met.met 𝓤 𝓛 𝓜 𝓡 (code.calls-sj_borrowed::known_key::or_insert::value_at 𝓡.env wired) A LA text.ghosts text.dict eG ed pG pd met-k met-e met-p) z'' (and_then ! (get ! refl) (and_then ! (get ! refl) (no_more !))) (λ v''.
          use1 𝓛 (later (some (λ (q : Result (MutBor (Document (CowStr Global))) Error). ((‵ (flft κs.0 qs.0) ⊛ ‵ (flft κv qv) ⊛ ‵ ftrue) ⊛ ‵ (Answer.own_val q (v'' ∷ []))) ⊛
          some (λ (ends'' : Unit {0} × (Unit {0} × Unit {0})). ‵ (lasts (j.ended A text.ghosts text.dict eG ed pG pd) z''.0.0 z''.0.3 ends'') ⊛ (‵ (follows_so O D γ (name_if_ok (λ x. x.ghost_name) q) (λ w n. IsOk q → (i : ℕ) × (place ≡ Ok i) × (n ≡ with_value_at after' i w)) (λ n. OnErr q (n ≡ after')))
          ⊛ raw (fact 𝓤 (IfOk q (λ v. (i : ℕ) × (place ≡ Ok i) × (nth_value i after'.entries ≡ Some v.now)))) ⊛ raw (fact 𝓤 (IfErr q (λ why. place ≡ Err why)))))))) (id⊢ 𝓤 _) $
          await ! tt $ pick ! (λ q. split ! $ split ! $ move ! (2 ∷ []) $ pick ! (λ ends''. split ! $ drop ! $ split ! $ move ! (1 ∷ []) $ split ! $ heard ! _ (λ value. heard ! _ (λ fault-q.
          let Copied = IsCopy a.1.0.now in let Gives = λ (v : Document (CowStr Global)). g-F.post with tt v in
          -- [what the last call says; its tokens; what q owns; the three other tokens; what the first call says]
          move ! (4 ∷ 0 ∷ []) $ use2 𝓛 (‵ (Then q)) (lent_so 𝓛 D O D a.0.ghost_name γ _ _ (name_if_ok (λ x. x.ghost_name) q) (λ w n. IsOk q → (i : ℕ) × (place ≡ Ok i) × (n ≡ with_value_at after' i w)) (λ n. OnErr q (n ≡ after')) (λ w n. IsOk q → document_tree t n ≡ with_member key (document_tree t w) u) (λ n. OnErr q (document_tree t n ≡ u))
          (λ w n' n put' lent' ok. lent' refl ∙ written t Copied Gives key m.now after' place q u at placed found made w n' (put' ok)) (λ n' n stays lent'. on_err_weaker q (λ same'. lent' refl ∙ same') (unwritten t Copied Gives key m.now after' place q u at kept fault-q n' stays))) $
          move ! (2 ∷ []) $ peeks ! Answer _ (shows 𝓛 Answer) q (v'' ∷ []) (λ is-q. let fits-q = ((result_lawful 𝓛 (MutRef (named 0) κs.0 D) E (mut_Lawful 𝓛 (named 0) κs.0 D) LE).typed q (v'' ∷ []) is-q).0 in
          lands_last ! refl fits-q $ exec ! 𝓣.C 𝓣.Λ (env fn.locals l) (after 3 fn.body) (at_ret _ (W.post y)) $
          sets ! (of_opd ! (get ! refl)) refl fits-q $ returns ! (look_at ! 0 refl) $ free_all ! refl $
          -- [what q owns; what all calls say; the tokens of target and the text; the three others]
          move ! (2 ∷ []) $ split ! $ move ! (1 ∷ []) $ split ! $ keep ! (3 ∷ 4 ∷ 2 ∷ 0 ∷ 5 ∷ []) $
          suffices ! _ (ends_at 𝓛 End hs c y v'' q (tt, (tt, (tt, tt))) (tt, (tt, (tt, tt)))) $
          nothing ! $ nothing ! $ fjoin ! $ nothing ! $ fjoin ! $ nothing ! $ fjoin ! $ join ! $ move ! (3 ∷ 4 ∷ []) $ join ! $ move ! (3 ∷ 0 ∷ []) $ join ! $ join ! $ frame ! $
          use0 𝓛 (raw (fact 𝓤 (IsSome (find key u) → IsOk q))) (fact_i 𝓤 _ (emp 𝓤) (lends t Copied Gives key m.now after' place q u at found fault-q)) $ use0 𝓛 (raw (fact 𝓤 (IfErr q (λ why. why ≡ known_fault u)))) (fact_i 𝓤 _ (emp 𝓤) (kind t Copied Gives key m.now after' place q u at kind-place fault-q)) $ join ! $
          use0 𝓛 (raw (fact 𝓤 (OnOk q (IsSome (as_members u))))) (fact_i 𝓤 _ (emp 𝓤) (object t Copied Gives key m.now after' place q u at)) $ join ! $ use0 𝓛 (raw (fact 𝓤 (find key u ≡ None → IfOk q (λ v. g-F.post with tt v.now)))) (fact_i 𝓤 _ (emp 𝓤) (made_value t Copied Gives key m.now after' place q u at placed made value)) $ join ! $
          use0 𝓛 (raw (fact 𝓤 (IfSome (find key u) (λ b. IfOk q (λ v. document_tree t v.now ≡ b))))) (fact_i 𝓤 _ (emp 𝓤) (found_tree t Copied Gives key m.now after' place q u at placed found value)) $ join ! $ move ! (1 ∷ 0 ∷ []) $ join ! $ done !)))))))))))))))))),
      ((λ one. absurd (suc-ne-zero 0 (sym one))), tt),
    )))
    (λ why ys is_err spelled.
    peeks ! E _ (shows 𝓛 E) why ys (λ is.
    let word = typed_one (layout E) ys (LE.typed why ys is) in
    let there' : v ≡ live 1 (of_list (word.0 ∷ [])) = ap only spelled ∙ ap (λ (vs : List Val). live 1 (of_list (vs ++ []))) word.1 in
    let absent' = subst (λ (r : Result (MutBor (Map (CowStr Global))) Error). OnErr r (as_members u ≡ None)) is_err refused in
    let kind-why = subst (λ (r : Result (MutBor (Map (CowStr Global))) Error). IfErr r (λ why. why ≡ NotAnObject (kind_of u))) is_err kind-r in
    let failed : Result (MutBor (Document (CowStr Global))) Error = Err why in
    rewrite ! 0 (λ (vs : List Val). ‵ (E.own_val why vs)) word.1 refl $ rewrite ! 1 (λ (r : Result (MutBor (Map (CowStr Global))) Error). ‵ (Left r)) is_err refl $
    lands_as ! there' refl (fits_as (spot_of 𝓤 𝓛.H (env fn.locals l) 7).0 (sym there') fits) $
    first ! $ by_variants ! 23 (whole !) (get_tag ! (vrt ! refl (fld ! refl (stop !))) (whole !)) tt (
      (λ zero. absurd (suc-ne-zero 0 zero)),
      (
        (λ _. sets ! (of_opd ! (get_in ! (vrt ! refl (fld ! refl (stop !))) (in_variant ! 1 0 refl refl (whole !)))) refl word.2 $
            use1 𝓛 (‵ (Answer.own_val failed (live 1 (of_list (word.0 ∷ [])) ∷ []))) (err_of 𝓛 (MutRef (named 0) κs.0 D) E why word.0) $
            peeks ! Answer _ (shows 𝓛 Answer) failed (live 1 (of_list (word.0 ∷ [])) ∷ []) (λ is-failed. let fits' = ((result_lawful 𝓛 (MutRef (named 0) κs.0 D) E (mut_Lawful 𝓛 (named 0) κs.0 D) LE).typed failed (live 1 (of_list (word.0 ∷ [])) ∷ []) is-failed).0 in
            sets ! (agg ! (and_then ! (lit ! tt) (and_then ! (get ! refl) (no_more !)))) refl fits' $ sets ! (of_opd ! (get ! refl)) refl one.2 $
            let Z = triple_of 𝓛 (glue.signature F) (glue.spent 𝓛 F) in
            let z' : Z.Ghost = (((κs.1.1.1.1.0, tt), (qs.1.1.1.1.0, tt), tt, (with, tt), (one.0 ∷ [], tt)), tt) in
            nothing ! $ move ! (6 ∷ 0 ∷ []) $ join ! $ nothing ! $ move ! (9 ∷ 0 ∷ []) $ join ! $ join ! $ nothing ! $ use0 𝓛 (given (κs.1.1.1.1.0 ⊑ F.lives) (‵ ftrue)) (fact_i 𝓤 _ (emp 𝓤) livesF) $ join ! $ move ! (1 ∷ 0 ∷ []) $ use2 𝓛 (raw (Z.pre z')) (id⊢ 𝓤 _) $
            -- [what the call asks; the answer; what the first call says; the tokens of the text, target, the key's reference and the key]
            calls_at_last ! (framed 𝓤 𝓛.H 𝓜 𝓣) Z glue-F z' (and_then ! (get ! refl) (no_more !)) (λ v'.
            use1 𝓛 (later (some (λ (x : Unit {0}). ((‵ (flft κs.1.1.1.1.0 qs.1.1.1.1.0) ⊛ ‵ ftrue) ⊛ ‵ (feq (List Val) (v' ∷ []) (vunit ∷ []))) ⊛ some (λ (ends : Unit {0} × Unit {0}). ‵ (fsep ftrue ftrue) ⊛ ‵ ftrue)))) (id⊢ 𝓤 _) $
            await ! tt $ pick ! (λ x. split ! $ split ! $ split ! $ move ! (2 ∷ []) $ feq_l ! (λ unit. move ! (2 ∷ []) $ drop ! $ move ! (1 ∷ []) $ drop ! $
            lands_last ! refl (fits_as (spot_of 𝓤 𝓛.H (env fn.locals l) 14).0 (ap only unit) (tt, tt)) $ exec ! 𝓣.C 𝓣.Λ (env fn.locals l) (after 3 fn.body) (at_ret _ (W.post y)) $
            sets ! (of_opd ! (get ! refl)) refl fits' $ returns ! (look_at ! 0 refl) $ free_all ! refl $
            -- [the token of F; the answer; what the first call says; the tokens of the text and target; key; the tokens of its reference and of the key]
            move ! (2 ∷ []) $ use1 𝓛 (‵ (Then failed)) (lent_none 𝓛 D O D a.0.ghost_name _ _ (λ w n. IsOk failed → document_tree t n ≡ with_member key (document_tree t w) u) (λ n. OnErr failed (document_tree t n ≡ u)) (λ w n x. not_ok (MutBor (Document (CowStr Global))) why) (λ n x. x)) $
            keep ! (2 ∷ 0 ∷ 4 ∷ 3 ∷ 6 ∷ 7 ∷ 1 ∷ []) $
            suffices ! _ (ends_at 𝓛 End hs c y (live 1 (of_list (word.0 ∷ []))) failed (tt, (tt, (tt, tt))) (tt, (tt, (tt, tt)))) $
            nothing ! $ nothing ! $ fjoin ! $ nothing ! $ fjoin ! $ nothing ! $ fjoin ! $ join ! $ nothing ! $ move ! (7 ∷ 0 ∷ []) $ join ! $ move ! (6 ∷ 0 ∷ []) $ join ! $ move ! (5 ∷ 0 ∷ []) $ join ! $ move ! (4 ∷ 0 ∷ []) $ join ! $ move ! (3 ∷ 0 ∷ []) $ join ! $ join ! $ frame ! $
            use0 𝓛 (raw (fact 𝓤 (IsSome (find key u) → IsOk failed))) (fact_i 𝓤 _ (emp 𝓤) (λ h. absurd (none_there (find key u) (no_members_found key u (sym absent')) h))) $ use0 𝓛 (raw (fact 𝓤 (why ≡ known_fault u))) (fact_i 𝓤 _ (emp 𝓤) (kind-why ∙ ap (why_in (kind_of u)) (sym absent'))) $ join ! $
            use0 𝓛 (raw (fact 𝓤 (Unit {0}))) (fact_i 𝓤 _ (emp 𝓤) tt) $ join ! $ use0 𝓛 (raw (fact 𝓤 (find key u ≡ None → Unit {0}))) (fact_i 𝓤 _ (emp 𝓤) (λ h. tt)) $ join ! $
            use0 𝓛 (raw (fact 𝓤 (IfSome (find key u) (λ b. Unit {0})))) (fact_i 𝓤 _ (emp 𝓤) (some_any (find key u))) $ join ! $ move ! (1 ∷ 0 ∷ []) $ join ! $ done !))))),
        tt,
      ),
    )))))))))))))))
