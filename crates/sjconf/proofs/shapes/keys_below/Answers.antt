use Rattle.std.proofs.Common.{rules, ◌≡◌, ℕ, ◌+◌, take, Bool, List, [], ◌∷◌, ◌++◌, Option, Some, None, sym, ap, ◌∙◌, map, string_bytes, arith}
use Rattle.std.proofs.lemmas.List.{take_more}
use Rattle.std.specs.Prelude.{◌||◌, bytes_eq}
use Rattle.sjconf.specs.Demands.{is_named, is_one_of, is_that, next_of}
use Rattle.sjconf.proofs.Named.{named-append, or-false}
use Rattle.sjconf.proofs.shapes.keys_below.Goals.{in-Some+in_ok-push_new, in_default}
use Rattle.sjconf.proofs.shapes.keys_below.Goals as goal

pub loop-other-preserved : goal.loop-other-preserved
loop-other-preserved c = λ k.
    let i = c.loop-other.other-index in
    let p = c.args.place.now in
    let qs = c.args.places.now in
    let q = c.other-item.result in
    let more : take (i + 1) qs ≡ take i qs ++ q ∷ [] =
    take_more qs i q (search rules) ∙ ap (λ (x : List (List ℕ)). take i qs ++ x ∷ []) (sym (search (rules, c.other-item.is))) in
    let behind : is_named k p (take (i + 1) qs) ≡ (is_named k p (take i qs) || is_that k (next_of p q)) = ap (is_named k p) more ∙ named-append k p (take i qs) q in
    elim c.match-next_token.branch [
      | in-Some+in_ok-push_new w ↦
          let key = string_bytes w.in-Some.key.now in
          let found : next_of p q ≡ Some key = search (rules, c.next_token.ensures, w.in-Some.is, c.tokens.ensures, c.tokens-in-loop-other.ensures) in
          ap (λ v. is_one_of k (map string_bytes v.items)) w.keys-is ∙ w.in_ok-push_new.ensures k
          ∙ ap (λ (b : Bool). b || bytes_eq key k) (c.loop-other.invariant k)
          ∙ ap (λ (o : Option (List ℕ)). is_named k p (take i qs) || is_that k o) (sym found) ∙ sym behind
      | in_default w ↦
          let found : next_of p q ≡ None = search (rules, c.next_token.ensures, w.in_default, c.tokens.ensures, c.tokens-in-loop-other.ensures) in
          ap (λ v. is_one_of k (map string_bytes v.items)) w.keys-is ∙ c.loop-other.invariant k ∙ sym (or-false (is_named k p (take i qs)))
          ∙ ap (λ (o : Option (List ℕ)). is_named k p (take i qs) || is_that k o) (sym found) ∙ sym behind
    ]
