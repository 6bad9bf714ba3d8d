-- Outputs that take a message, one after another.
use Rattle.std.proofs.Common.{◌≡◌, ℕ, zero, suc, ◌+◌, ◌<◌, length, take, drop, set, get_or, add-one, arith, Bool, true, false, List, [], ◌∷◌, ◌++◌, refl, sym, ap, ◌∙◌, subst, append-nil, append_assoc, inl, inr, if◌then◌else◌}
use Rattle.std.proofs.lemmas.List.{take_more, take_more_set, drop-set-lt}
use Rattle.std.specs.Prelude.{◌↔◌, IsTrue}
use Rattle.sj_text_core.specs.Tree.{Tree}
use Rattle.sjroute.specs.Routed.{AllTaken, Grown, IsUnmet, MeetsAny, MeetsRule, Taken, TakesMessage, line_to, written_line}
use Rattle.sjroute.specs.declared.routing.Takes.{Takes}
use Rattle.sjroute.specs.declared.routing.Takes.TheVariants.{Met, Unmet, Unread}
use Rattle.sjroute.specs.declared.routing.Route.{Route}

-- one more output
pub all-append : (P : Takes → Type 0) (f : Route → List ℕ) (rs ss : List Route) (r q : Route) → AllTaken P f rs ss → Taken P f r q
    → AllTaken P f (rs ++ r ∷ []) (ss ++ q ∷ [])
all-append P f [] [] r q a w = (w, tt)
all-append P f [] (y ∷ ss) r q a w = absurd a
all-append P f (x ∷ rs) [] r q a w = absurd a
all-append P f (x ∷ rs) (y ∷ ss) r q a w = (a.0, all-append P f rs ss r q a.1 w)

-- an output that takes nothing, and one that takes the line
pub taken-not : (P : Takes → Type 0) (f : Route → List ℕ) (r : Route) → (P r.takes → ⊥) → Taken P f r r
taken-not P f r n = (false, ((λ e. cc), (λ p. absurd (n p))), (refl, refl, refl, sym (append-nil r.waiting.items)))

pub taken-so : (P : Takes → Type 0) (f : Route → List ℕ) (r q : Route) → P r.takes → Grown (f r) r q → Taken P f r q
taken-so P f r q p g = (true, ((λ e. p), (λ h. refl)), g)

-- whether some rule selects the message, by one more output
any-left : (t : Tree) (rs : List Route) (r : Route) → MeetsAny t rs → MeetsAny t (rs ++ r ∷ [])
any-left t [] r h = absurd h
any-left t (x ∷ rs) r (inl h) = inl h
any-left t (x ∷ rs) r (inr h) = inr (any-left t rs r h)

any-last : (t : Tree) (rs : List Route) (r : Route) → MeetsRule t r.takes → MeetsAny t (rs ++ r ∷ [])
any-last t [] r h = inl h
any-last t (x ∷ rs) r h = inr (any-last t rs r h)

any-first : (t : Tree) (rs : List Route) (r : Route) → (MeetsRule t r.takes → ⊥) → MeetsAny t (rs ++ r ∷ []) → MeetsAny t rs
any-first t [] r n (inl h) = absurd (n h)
any-first t [] r n (inr h) = absurd h
any-first t (x ∷ rs) r n (inl h) = inl h
any-first t (x ∷ rs) r n (inr h) = inr (any-first t rs r n h)

pub any-then : (t : Tree) (rs : List Route) (r : Route) → MeetsRule t r.takes → (IsTrue true ↔ MeetsAny t (rs ++ r ∷ []))
any-then t rs r h = ((λ e. any-last t rs r h), (λ m. refl))

pub any-else : (t : Tree) (rs : List Route) (r : Route) (b : Bool) → (MeetsRule t r.takes → ⊥) → (IsTrue b ↔ MeetsAny t rs)
    → (IsTrue b ↔ MeetsAny t (rs ++ r ∷ []))
any-else t rs r b n h = ((λ e. any-left t rs r (h.0 e)), (λ m. h.1 (any-first t rs r n m)))

-- where a rule was met, those that take what meets none take nothing
met_as : (t : Tree) (k : Takes) → (MeetsRule t k ↔ TakesMessage true t k)
met_as t (Met r) = ((λ x. x), (λ x. x))
met_as t Unmet = ((λ x. absurd x), (λ e. cc))
met_as t Unread = ((λ x. x), (λ x. x))

one_met : (s : List ℕ) (t : Tree) (r q : Route) → Taken (MeetsRule t) (line_to s t) r q → Taken (TakesMessage true t) (line_to s t) r q
one_met s t r q a = (a.0, ((λ e. (met_as t r.takes).0 (a.1.0 e)), (λ p. a.1.1 ((met_as t r.takes).1 p))), a.2)

pub all_met : (s : List ℕ) (t : Tree) (rs ss : List Route) → AllTaken (MeetsRule t) (line_to s t) rs ss → AllTaken (TakesMessage true t) (line_to s t) rs ss
all_met s t [] [] a = a
all_met s t [] (y ∷ ss) a = a
all_met s t (x ∷ rs) [] a = a
all_met s t (x ∷ rs) (y ∷ ss) a = (one_met s t x y a.0, all_met s t rs ss a.1)

-- where no rule was met, an output takes the message in one of two runs
either : (t : Tree) (k : Takes) (v w : Bool) → (IsTrue v ↔ MeetsRule t k) → (IsTrue w ↔ IsUnmet k)
    → (u : Bool) × (IsTrue u ↔ TakesMessage false t k) × ((l : List ℕ) → (if v then l else []) ++ (if w then l else []) ≡ (if u then l else []))
either t (Met r) v true a b = absurd (b.0 refl)
either t (Met r) v false a b = (v, a, λ l. append-nil (if v then l else []))
either t Unmet true w a b = absurd (a.0 refl)
either t Unmet false true a b = (true, ((λ e. refl), (λ e. refl)), λ l. refl)
either t Unmet false false a b = absurd (let e : false ≡ true = b.1 tt in cc)
either t Unread true w a b = absurd (a.0 refl)
either t Unread false true a b = absurd (b.0 refl)
either t Unread false false a b = (false, ((λ e. cc), (λ x. absurd x)), λ l. refl)

one_both : (s : List ℕ) (t : Tree) (r m q : Route) → Taken (MeetsRule t) (line_to s t) r m → Taken IsUnmet (line_to s t) m q → Taken (TakesMessage false t) (line_to s t) r q
one_both s t r m q a b =
    let g = a.2 in
    let h = b.2 in
    let unmet : IsTrue b.0 ↔ IsUnmet r.takes = subst (λ (k : Takes). IsTrue b.0 ↔ IsUnmet k) g.1 b.1 in
    let c = either t r.takes a.0 b.0 a.1 unmet in
    let line = ap (λ p. written_line p s t) g.2 in (
      c.0,
      c.1,
      (
        h.0 ∙ g.0,
        h.1 ∙ g.1,
        h.2 ∙ g.2,
        h.3 ∙ ap (λ (l : List ℕ). l ++ (if b.0 then written_line m.merge s t else [])) g.3
            ∙ append_assoc r.waiting.items (if a.0 then written_line r.merge s t else []) (if b.0 then written_line m.merge s t else [])
            ∙ ap (λ (l : List ℕ). r.waiting.items ++ ((if a.0 then written_line r.merge s t else []) ++ (if b.0 then l else []))) line
            ∙ ap (λ (l : List ℕ). r.waiting.items ++ l) (c.2 (written_line r.merge s t)),
      ),
    )

pub all_both : (s : List ℕ) (t : Tree) (rs ms ss : List Route) → AllTaken (MeetsRule t) (line_to s t) rs ms → AllTaken IsUnmet (line_to s t) ms ss → AllTaken (TakesMessage false t) (line_to s t) rs ss
all_both s t [] [] [] a b = tt
all_both s t [] [] (z ∷ ss) a b = absurd b
all_both s t [] (y ∷ ms) ss a b = absurd a
all_both s t (x ∷ rs) [] ss a b = absurd a
all_both s t (x ∷ rs) (y ∷ ms) [] a b = absurd b
all_both s t (x ∷ rs) (y ∷ ms) (z ∷ ss) a b = (one_both s t x y z a.0 b.0, all_both s t rs ms ss a.1 b.1)

-- how lists that go on alike go on
first_or : Route → List Route → Route
first_or d [] = d
first_or d (x ∷ xs) = x

rest_of : List Route → List Route
rest_of [] = []
rest_of (x ∷ xs) = xs

get-drop : (i : ℕ) (xs : List Route) (d : Route) → get_or xs i d ≡ first_or d (drop i xs)
unfolding first_or
get-drop zero [] d = refl
get-drop zero (x ∷ xs) d = refl
get-drop (suc i) [] d = refl
get-drop (suc i) (x ∷ xs) d = get-drop i xs d

drop-rest : (i : ℕ) (xs : List Route) → drop (suc i) xs ≡ rest_of (drop i xs)
unfolding rest_of
drop-rest zero [] = refl
drop-rest zero (x ∷ xs) = refl
drop-rest (suc i) [] = refl
drop-rest (suc i) (x ∷ xs) = drop-rest i xs

alike : (i : ℕ) (xs ys : List Route) → drop i xs ≡ drop i ys → drop (i + 1) xs ≡ drop (i + 1) ys
alike i xs ys e =
    ap (λ (n : ℕ). drop n xs) (add-one i) ∙ drop-rest i xs ∙ ap rest_of e ∙ sym (drop-rest i ys) ∙ sym (ap (λ (n : ℕ). drop n ys) (add-one i))

at-alike : (i : ℕ) (xs ys : List Route) (d : Route) → drop i xs ≡ drop i ys → get_or xs i d ≡ get_or ys i d
at-alike i xs ys d e = get-drop i xs d ∙ ap (first_or d) e ∙ sym (get-drop i ys d)

firsts : (i : ℕ) (rs qs : List Route) (r : Route) → i < length rs → drop i qs ≡ drop i rs → r ≡ get_or qs i r → take (i + 1) rs ≡ take i rs ++ r ∷ []
firsts i rs qs r lt e is = take_more rs i r lt ∙ ap (λ (x : Route). take i rs ++ x ∷ []) (sym (at-alike i qs rs r e) ∙ sym is)

-- a loop over outputs: one more of them
pub step-taken : (P : Takes → Type 0) (f : Route → List ℕ) (i : ℕ) (rs qs ms : List Route) (r q : Route) → i < length rs → i < length qs
    → AllTaken P f (take i rs) (take i qs) → drop i qs ≡ drop i rs → r ≡ get_or qs i r → Taken P f r q → ms ≡ set qs i q
    → AllTaken P f (take (i + 1) rs) (take (i + 1) ms) × (drop (i + 1) ms ≡ drop (i + 1) rs)
step-taken P f i rs qs ms r q lt lq all e is one new =
    let second : take (i + 1) ms ≡ take i qs ++ q ∷ [] = ap (take (i + 1)) new ∙ take_more_set qs i q lq in (
      subst (λ (b : List Route). AllTaken P f (take (i + 1) rs) b) (sym second)
          (subst (λ (b : List Route). AllTaken P f b (take i qs ++ q ∷ [])) (sym (firsts i rs qs r lt e is)) (all-append P f (take i rs) (take i qs) r q all one)),
      ap (drop (i + 1)) new ∙ drop-set-lt (i + 1) qs i q (omega arith) ∙ alike i qs rs e,
    )

pub any-step : (t : Tree) (i : ℕ) (rs qs : List Route) (r : Route) (b : Bool) → i < length rs → drop i qs ≡ drop i rs → r ≡ get_or qs i r
    → (IsTrue b ↔ MeetsAny t (take i rs ++ r ∷ [])) → (IsTrue b ↔ MeetsAny t (take (i + 1) rs))
any-step t i rs qs r b lt e is h = subst (λ (l : List Route). IsTrue b ↔ MeetsAny t l) (sym (firsts i rs qs r lt e is)) h

pub not-both : (b : Bool) → b ≡ true → b ≡ false → ⊥
not-both b e h = let x : true ≡ false = sym e ∙ h in cc
