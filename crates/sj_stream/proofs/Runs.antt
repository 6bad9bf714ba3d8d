-- Steps one after another are a reading of all texts.
use Rattle.std.proofs.Common.{◌≡◌, ℕ, List, [], ◌∷◌, ◌++◌, Result, Ok, Err, refl, subst, sym, ap, ◌∙◌, append_assoc, append-nil}
use Rattle.sj_stream.specs.declared.unread.Unread.{Unread}
use Rattle.sj_stream.specs.declared.stream.Stream.{Stream}
use Rattle.sj_stream.specs.Stream.{Steps, current, waiting}
use Rattle.sj_stream.specs.Readings.{Answer, EachIsRead, AreRefusals, refusals, onto_refusals}

-- what was read of the texts, so that a reading of those ahead is one of all
pub record Ran (all ahead : List (ℕ × List ℕ)) (us : List Unread) : Type 0 where
  pub answers : List Answer
  pub goes_on : (bs : List Answer) → EachIsRead ahead bs → EachIsRead all (answers ++ bs)
  pub refused : refusals answers ≡ us

pub ran-none : (all ahead : List (ℕ × List ℕ)) → ahead ≡ all → Ran all ahead []
ran-none all ahead e = record { answers = []; goes_on = λ bs h. subst (λ (ps : List (ℕ × List ℕ)). EachIsRead ps bs) e h; refused = refl }

onto-append : (r : Result ℕ Unread) (us vs : List Unread) → onto_refusals r us ++ vs ≡ onto_refusals r (us ++ vs)
onto-append (Ok n) us vs = refl
onto-append (Err u) us vs = refl

refusals-append : (rs bs : List Answer) → refusals (rs ++ bs) ≡ refusals rs ++ refusals bs
refusals-append [] bs = refl
refusals-append (a ∷ rs) bs = ap (onto_refusals a.0) (refusals-append rs bs) ∙ sym (onto-append a.0 (refusals rs) (refusals bs))

pub ran-more : (all : List (ℕ × List ℕ)) (old new : Stream) (us : List Unread) (a : Result ℕ Unread) → Ran all (waiting old) us → Steps old a new
    → Ran all (waiting new) (us ++ onto_refusals a [])
ran-more all old new us a r s =
    let one : Answer = (a, current new) in record {
      answers = r.answers ++ one ∷ [];
      goes_on = λ bs h. subst (λ (l : List Answer). EachIsRead all l) (sym (append_assoc r.answers (one ∷ []) bs))
          (r.goes_on (one ∷ bs) (subst (λ (ps : List (ℕ × List ℕ)). EachIsRead ps (one ∷ bs)) (sym s.1) (refl, s.2, h)));
      refused = refusals-append r.answers (one ∷ []) ∙ ap (λ l. l ++ onto_refusals a []) r.refused;
    }

pub ran-all : (all ahead : List (ℕ × List ℕ)) (us : List Unread) → Ran all ahead us → ahead ≡ [] → AreRefusals all us
ran-all all ahead us r e = (
  r.answers,
  subst (λ (l : List Answer). EachIsRead all l) (append-nil r.answers) (r.goes_on [] (subst (λ (ps : List (ℕ × List ℕ)). EachIsRead ps []) (sym e) tt)),
  r.refused,
)
