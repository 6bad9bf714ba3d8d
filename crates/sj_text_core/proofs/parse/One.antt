-- A text spells one tree, so trees that print alike differ in carriers alone.
use Rattle.std.proofs.Common.{◌≡◌, ℕ, ◌≤◌, max, List, [], ◌++◌, Some, option_and_then, refl, sym, ap, ◌∙◌, subst, arith, append-nil}
use Rattle.std.proofs.lemmas.Option.{same_Some}
use Rattle.sj_text_core.specs.Tree.{Tree, depth, IsProper}
use Rattle.sj_text_core.specs.Grammar.{Spells}
use Rattle.sj_text_core.specs.inner.Parse.{read_tree, read_value, after_blank, read_whole}
use Rattle.sj_text_core.specs.Print.{compact, pretty, recarry}
use Rattle.sj_text_core.proofs.Printed.{compact-spells, pretty-spells}
use Rattle.sj_text_core.proofs.parse.Complete.{read_again, after_blank-append, solid_stays, spelling_solid, ends_blank}

-- what is spelled in the limit is read
pub complete : (d : ℕ) (b : List ℕ) (t : Tree) → Spells b t → depth t ≤ d → read_tree d b ≡ Some t
complete d b t s h =
    let e : b ≡ s.before ++ (s.word ++ (s.after ++ [])) = s.is ∙ ap (λ l. s.before ++ (s.word ++ l)) (sym (append-nil s.after)) in
    let first : after_blank b ≡ s.word ++ (s.after ++ []) = ap (λ l. after_blank l) e ∙ (after_blank-append s.before (s.word ++ (s.after ++ [])) s.blank_before ∙ solid_stays s.word (s.after ++ []) (spelling_solid t s.word s.spelled)) in
    ap (λ l. option_and_then (λ p. read_whole p.0 (after_blank p.1)) (read_value d l)) first
    ∙ (ap (λ o. option_and_then (λ p. read_whole p.0 (after_blank p.1)) o) (read_again t d s.word (s.after ++ []) s.spelled h (ends_blank s.after [] s.blank_after (record { digits = refl; plain = refl })))
    ∙ ap (λ l. read_whole t l) (after_blank-append s.after [] s.blank_after))

pub one_tree : (b : List ℕ) (t u : Tree) → Spells b t → Spells b u → t ≡ u
one_tree b t u s r = same_Some t u (sym (complete (max (depth t) (depth u)) b t s (omega arith)) ∙ complete (max (depth t) (depth u)) b u r (omega arith))

-- trees whose texts are one differ in carriers alone
text_one : (b c : List ℕ) (t u : Tree) → Spells b (recarry t) → Spells c (recarry u) → b ≡ c → recarry t ≡ recarry u
text_one b c t u s r e = one_tree c (recarry t) (recarry u) (subst (λ d. Spells d (recarry t)) e s) r

pub compact_one : (t u : Tree) → IsProper t → IsProper u → compact t ≡ compact u → recarry t ≡ recarry u
compact_one t u p q e = text_one (compact t) (compact u) t u (compact-spells t p) (compact-spells u q) e

pub pretty_one : (t u : Tree) (level : ℕ) → IsProper t → IsProper u → pretty level t ≡ pretty level u → recarry t ≡ recarry u
pretty_one t u level p q e = text_one (pretty level t) (pretty level u) t u (pretty-spells t level p) (pretty-spells u level q) e
