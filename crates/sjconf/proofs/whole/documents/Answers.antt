use Rattle.std.proofs.Common.{rules, ◌≡◌, ◌+◌, take, map, List, [], ◌∷◌, ◌++◌, string_bytes, sym, ap, ◌∙◌, subst, arith}
use Rattle.std.proofs.lemmas.List.{take_more, map-append}
use Rattle.sj_text_core.specs.Tree.{Tree}
use Rattle.sj_text_core.specs.Keep.{keep}
use Rattle.sj_text_core.specs.Readings.{IsReadAs}
use Rattle.sj_document.specs.Document.{document_tree}
use Rattle.sjconf.specs.Layers.{AreRead}
use Rattle.sjconf.specs.declared.input.Layer.{Layer}
use Rattle.sjconf.proofs.whole.documents.Goals as goal

read-append : (ls : List Layer) (ts : List Tree) (l : Layer) (t : Tree) → AreRead ls ts → IsReadAs keep l.text.items t → AreRead (ls ++ l ∷ []) (ts ++ t ∷ [])
read-append [] [] l t are is = (is, tt)
read-append [] (u ∷ ts) l t are is = absurd are
read-append (m ∷ ls) [] l t are is = absurd are
read-append (m ∷ ls) (u ∷ ts) l t are is = (are.0, read-append ls ts l t are.1 is)

pub loop-layer-preserved : goal.loop-layer-preserved
loop-layer-preserved c =
    let i = c.loop-layer.layer-index in
    let ls = c.args.layers.now in
    let l = c.layer-item.result in
    let vs = c.loop-layer.documents.items in
    let meant = document_tree string_bytes in
    let v = c.in_ok-document.field-0 in
    let more : take (i + 1) ls ≡ take i ls ++ l ∷ [] =
    take_more ls i l (search rules) ∙ ap (λ (x : Layer). take i ls ++ x ∷ []) (sym (search (rules, c.layer-item.is))) in
    let pushed : map meant c.push.new.self.items ≡ map meant vs ++ meant v ∷ [] = ap (map meant) c.in_ok-push.ensures.items ∙ map-append meant vs (v ∷ []) in
    subst (λ (xs : List Layer). AreRead xs (map meant c.push.new.self.items)) (sym more)
    (subst (λ (ts : List Tree). AreRead (take i ls ++ l ∷ []) ts) (sym pushed)
    (read-append (take i ls) (map meant vs) l (meant v) c.loop-layer.invariant c.in_ok-document.ensures))
