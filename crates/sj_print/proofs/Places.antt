-- Two copies of one size that overlap.
use Rattle.std.proofs.Common.{◌≡◌, ℕ, ◌+◌, ◌-◌, ◌≤◌, List, ◌++◌, length, take, drop, length-take-le, take-append-drop, append_assoc, sym, ap, ◌∙◌, arith}
use Rattle.std.proofs.lemmas.List.{take-take, take_rest}
use Rattle.std.proofs.Math.Seq.{take-append-add}

pub overlap : (at n last : ℕ) (old mid new bytes : List ℕ) → length bytes ≡ last + n → last ≤ n → at ≤ length old
    → take (at + n) mid ≡ take at old ++ take n bytes → take (at + last + n) new ≡ take (at + last) mid ++ take n (take (length bytes - last) (drop last bytes)) → take (at + length bytes) new ≡ take at old ++ bytes
overlap at n last old mid new bytes len within fits first second =
    let front = take at old in
    let long : length front ≡ at = length-take-le at old fits in
    let rest : take n (take (length bytes - last) (drop last bytes)) ≡ drop last bytes =
    ap (λ l. take n l) (take_rest bytes last) ∙ ap (λ k. take k (drop last bytes)) (omega (arith, len)) ∙ take_rest bytes last in
    let cut : take (at + last) mid ≡ front ++ take last bytes =
    sym (take-take (at + last) (at + n) mid (omega (arith, within))) ∙ ap (λ l. take (at + last) l) first ∙ ap (λ k. take (k + last) (front ++ take n bytes)) (sym long)
    ∙ take-append-add front (take n bytes) last ∙ ap (λ l. front ++ l) (take-take last n bytes within) in
    ap (λ k. take k new) (omega (arith, len)) ∙ second ∙ ap (λ l. l ++ take n (take (length bytes - last) (drop last bytes))) cut ∙ ap (λ l. (front ++ take last bytes) ++ l) rest
    ∙ append_assoc front (take last bytes) (drop last bytes) ∙ ap (λ l. front ++ l) (take-append-drop last bytes)
