-- The steps of the loop that puts a text between quotes.
use Rattle.std.proofs.Common.{◌≡◌, ℕ, suc, ◌+◌, ◌-◌, ◌<◌, ◌≤◌, Bool, true, false, cond, ◌==◌, ◌||◌, List, [], ◌∷◌, ◌++◌, length, take, drop, get_or, flat_map, refl, sym, ap, ◌∙◌, arith, append_assoc, append-nil, drop-drop}
use Rattle.std.proofs.lemmas.Bool.{or_parts, not-true, eqb-false, ltb-false, not-false}
use Rattle.std.proofs.lemmas.List.{drop_more, drop_all, get_or-drop, length-drop}
use Rattle.std.proofs.lemmas.List.Sums.{prefix_len_stops}
use Rattle.std.proofs.Math.Seq.{take-length}
use Rattle.std.specs.List.{prefix_len}
use Rattle.sj_text_core.specs.Print.{escaped}
use Rattle.sj_text_core.proofs.Escapes.{escaped_plain}
use Rattle.sj_print.specs.inner.Runs.{is_plain, is_stop}

run_byte : (p : Bool) (x n : ℕ) (xs : List ℕ) → p ≡ is_plain x → flat_map escaped xs ≡ take n xs ++ flat_map escaped (drop n xs)
    → flat_map escaped (x ∷ xs) ≡ take (cond p (1 + n) 0) (x ∷ xs) ++ flat_map escaped (drop (cond p (1 + n) 0) (x ∷ xs))
run_byte false x n xs e ih = refl
run_byte true x n xs e ih =
    let next : suc n ≡ 1 + n = omega arith in
    let none = or_parts ((x == 34) || (x == 92)) _ (not-true _ (sym e)) in
    let tests = or_parts (x == 34) _ none.0 in
    (λ i. escaped_plain x (eqb-false x 34 tests.0) (eqb-false x 92 tests.1) (ltb-false x 32 none.1) i ++ ih i)
    ∙ ap (λ k. take k (x ∷ xs) ++ flat_map escaped (drop k (x ∷ xs))) next

-- the plain bytes in front stand for themselves
escaped_run : (xs : List ℕ) → flat_map escaped xs ≡ take (prefix_len is_plain xs) xs ++ flat_map escaped (drop (prefix_len is_plain xs) xs)
escaped_run [] = refl
escaped_run (x ∷ xs) = run_byte (is_plain x) x (prefix_len is_plain xs) xs refl (escaped_run xs)

-- up to the end of a run of plain bytes
pub escaped_to_stop : (d : List ℕ) (i stop : ℕ) (close : List ℕ) → stop ≡ i + prefix_len is_plain (drop i d)
    → flat_map escaped (drop i d) ++ close ≡ take (stop - i) (drop i d) ++ (flat_map escaped (drop stop d) ++ close)
escaped_to_stop d i stop close is =
    let n : prefix_len is_plain (drop i d) ≡ stop - i = omega arith in
    ap (λ l. l ++ close) (escaped_run (drop i d) ∙ ap (λ l. take (prefix_len is_plain (drop i d)) (drop i d) ++ flat_map escaped l) (drop-drop _ i d ∙ ap (λ k. drop k d) (sym is))
    ∙ ap (λ k. take k (drop i d) ++ flat_map escaped (drop stop d)) n)
    ∙ append_assoc (take (stop - i) (drop i d)) (flat_map escaped (drop stop d)) close

-- over one byte
pub escaped_at : (d : List ℕ) (i : ℕ) (close : List ℕ) → i < length d → flat_map escaped (drop i d) ++ close ≡ escaped (get_or d i 0) ++ (flat_map escaped (drop (i + 1) d) ++ close)
escaped_at d i close h = ap (λ l. flat_map escaped l ++ close) (drop_more d i 0 h) ∙ append_assoc (escaped (get_or d i 0)) (flat_map escaped (drop (i + 1) d)) close

-- at the end
pub escaped_end : (d : List ℕ) (i : ℕ) (close : List ℕ) → length d ≤ i → flat_map escaped (drop i d) ++ close ≡ close
escaped_end d i close h = ap (λ l. flat_map escaped l ++ close) (drop_all i d h)

-- the byte at which a run of plain bytes stops needs an escape
pub stops_at : (d : List ℕ) (i stop : ℕ) → stop ≡ i + prefix_len is_plain (drop i d) → stop < length d → is_stop (get_or d stop 0) ≡ true
stops_at d i stop is within =
    let n = prefix_len is_plain (drop i d) in
    let here : n < length (drop i d) = omega (arith, length-drop i d) in
    let fails : is_plain (get_or d stop 0) ≡ false = ap (λ k. is_plain (get_or d k 0)) is ∙ ap is_plain (sym (get_or-drop i d n 0)) ∙ prefix_len_stops is_plain (drop i d) 0 here in
    not-false _ fails

-- plain bytes stand for themselves
pub escaped_all_plain : (d : List ℕ) → prefix_len is_plain d ≡ length d → flat_map escaped d ≡ d
escaped_all_plain d all =
    escaped_run d ∙ ap (λ n. take n d ++ flat_map escaped (drop n d)) all
    ∙ ap (λ l. take (length d) d ++ flat_map escaped l) (drop_all (length d) d (omega arith)) ∙ append-nil (take (length d) d) ∙ take-length d
