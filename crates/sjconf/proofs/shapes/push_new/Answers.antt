use Rattle.std.proofs.Common.{rules, ◌≡◌, ℕ, List, [], ◌∷◌, ◌++◌, ap, ◌∙◌, map, string_bytes}
use Rattle.std.proofs.lemmas.List.{map-append}
use Rattle.sjconf.specs.Demands.{is_one_of}
use Rattle.sjconf.proofs.Named.{one_of-append}
use Rattle.sjconf.proofs.shapes.push_new.Goals as goal

pub returns-in_ok-push : goal.returns-in_ok-push
returns-in_ok-push c = λ k.
    let ks = map string_bytes c.args.keys.now.items in
    let copied : string_bytes c.in_ok-clone.field-0 ≡ string_bytes c.args.key.now = search (rules, c.in_ok-clone.ensures) in
    let pushed : map string_bytes c.push.new.self.items ≡ ks ++ string_bytes c.args.key.now ∷ [] =
    ap (map string_bytes) c.in_ok-push.ensures.items ∙ map-append string_bytes c.args.keys.now.items (c.in_ok-clone.field-0 ∷ [])
    ∙ ap (λ (x : List ℕ). ks ++ x ∷ []) copied in
    ap (is_one_of k) pushed ∙ one_of-append k ks (string_bytes c.args.key.now)
