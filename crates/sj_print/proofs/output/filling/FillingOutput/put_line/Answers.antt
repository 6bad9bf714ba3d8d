use Rattle.std.proofs.Common.{◌≡◌, ℕ, [], ◌∷◌, ◌++◌, replicate, ◌∙◌, ap, append_assoc, arith}
use Rattle.std.proofs.lemmas.List.{length-append, length-replicate}
use Rattle.sj_print.proofs.output.filling.FillingOutput.put_line.Goals as goal

pub returns : goal.returns
returns c k e start b h =
    let p = c.put_bytes.ensures start b h in
    let long = length-append b (10 ∷ replicate k 32) in
    let line = length-append b (10 ∷ []) in
    let blank = length-replicate {A = ℕ} k 32 in (
      c.put_spaces.ensures.name ∙ p.0,
      c.put_spaces.ensures.len ∙ p.1,
      λ room.
          let q = p.2 (omega (arith, room, long, line, blank)) in
          let exact : c.args.spaces ≡ k = omega (arith, e, room, long, blank, p.1) in
          let r = c.put_spaces.ensures.at (omega (arith, room, long, line, blank, exact, q.0, p.1)) in
          (omega (arith, r.0, q.0, exact, long, line, blank), r.1 ∙ ap (λ l. l ++ replicate c.args.spaces 32) q.1 ∙ append_assoc start.2 (b ++ 10 ∷ []) _ ∙ ap (λ l. start.2 ++ l) (append_assoc b (10 ∷ []) _) ∙ ap (λ n. start.2 ++ (b ++ 10 ∷ replicate n 32)) exact),
    )
