use Rattle.std.proofs.Common.{rules, of_calls, ◌≡◌, ◌∷◌, [], ◌++◌, length, sym, ap, ◌∙◌, subst, arith}
use denote.Param.Always.{always_mut}
use Rattle.std.specs.Bool.{if◌then◌else◌}
use Rattle.std.proofs.lemmas.List.{length-append}
use Rattle.std.specs.Map.Calls.{CalledAtPair, RetainsPairs}
use Rattle.sj_object.proofs.Retained.{asked_none, asked_one, asked_all}
use Rattle.sj_object.proofs.map.retain.retain_in.Goals as goal
use Rattle.sj_object.proofs.map.retain.retain_in.Goals.{then-keep, else-keep, else-loop-test, then-loop-test+in_default}

pub loop-init : goal.loop-init
loop-init g c = (c.requires, asked_none _ _ _ _ (omega arith))

pub loop-preserved : goal.loop-preserved
loop-preserved g c =
    let t : CalledAtPair g.F.FnMut c.loop.keep c.in-Some.key c.in-Some.value c.keep.result c.keep.new.arg3 c.keep.new.self = search rules in
    let a : always_mut g.F.FnMut c.keep.new.self = search of_calls in
    let popped = c.pop_front.new.self.items in
    let n : c.if-keep.ring.items ≡ (if c.keep.result then popped ++ (c.in-Some.key, c.keep.new.arg3) ∷ [] else popped) = elim c.if-keep.branch [
      | then-keep w ↦ ap (λ r. r.items) w.ring-is ∙ w.push_back_reserved.ensures.items ∙ sym (λ j. if w.if-keep.true j then popped ++ (c.in-Some.key, c.keep.new.arg3) ∷ [] else popped)
      | else-keep w ↦ ap (λ r. r.items) w.ring-is ∙ sym (λ j. if w.if-keep.false j then popped ++ (c.in-Some.key, c.keep.new.arg3) ∷ [] else popped)
    ] in (
      a,
      asked_one _ _ _ c.keep.result c.loop.keep c.keep.new.self c.in-Some.key c.in-Some.value c.keep.new.arg3 c.loop.ring.items popped c.if-keep.ring.items _ c.loop.invariant.1 c.in-Some.ensures.items t n _ (omega (arith, c.len-end.ensures, c.loop-test.true, c.args.ring.now.ok.0)),
    )

pub returns : goal.returns
returns g c =
    let h = c.loop.invariant.1 in
    elim c.loop-test.branch [
      | else-loop-test w ↦ subst (RetainsPairs (CalledAtPair g.F.FnMut) c.args.keep c.args.ring.now.items) (sym (ap (λ r. r.items) w.ring-is)) (asked_all _ _ _ _ _ _ h (omega (arith, h.count, w.loop-test.false, c.len-end.ensures, c.args.ring.now.ok.0)))
      | then-loop-test+in_default w ↦
          let z : length h.rest ≡ 0 = omega (arith, length-append h.rest h.kept, ap length h.parts, w.in_default.ensures.cases.0, c.loop.ring.ok.0) in
          subst (RetainsPairs (CalledAtPair g.F.FnMut) c.args.keep c.args.ring.now.items) (w.in_default.ensures.items ∙ sym (ap (λ r. r.items) w.ring-is)) (asked_all _ _ _ _ _ _ h z)
    ]
