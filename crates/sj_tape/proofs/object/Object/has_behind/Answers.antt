use Rattle.std.proofs.Common.{sym, ap, ◌∙◌, drop, arith}
use Rattle.sj_text_core.specs.Keep.{is_seen}
use Rattle.sj_tape.specs.Members.{keys_ahead}
use Rattle.sj_tape.proofs.Counted.{behind_found, behind_other, behind_passed, behind_none}
use Rattle.sj_tape.proofs.object.Object.has_behind.Goals as goal

pub loop-name-init : goal.loop-name-init
loop-name-init c =
    ap (λ it. is_seen c.args.key.now (drop c.args.place (keys_ahead it))) c.into_iter-name-iterator.ensures.into_iter_gives
    ∙ ap (λ ks. is_seen c.args.key.now (drop c.args.place ks)) c.keys-name-items.ensures

pub loop-name-preserved-then-known-gt0 : goal.loop-name-preserved-then-known-gt0
loop-name-preserved-then-known-gt0 c =
    behind_passed c.args.key.now c.in-Some.name.now _ (keys_ahead c.next.new.self) c.loop-name.known _ _ c.loop-name.invariant c.in-Some.ensures.steps (omega (arith, c.if-known-gt0.true))

pub returns-then-are_same_texts : goal.returns-then-are_same_texts
returns-then-are_same_texts c =
    behind_found c.args.key.now c.in-Some.name.now _ (keys_ahead c.next.new.self) c.loop-name.known _ c.loop-name.invariant c.in-Some.ensures.steps (omega (arith, c.if-known-gt0.false)) (sym c.are_same_texts.ensures ∙ c.if-are_same_texts.true)

pub loop-name-preserved : goal.loop-name-preserved
loop-name-preserved c =
    behind_other c.args.key.now c.in-Some.name.now _ (keys_ahead c.next.new.self) c.loop-name.known _ c.loop-name.invariant c.in-Some.ensures.steps (omega (arith, c.if-known-gt0.false)) (sym c.are_same_texts.ensures ∙ c.if-are_same_texts.false)

pub returns : goal.returns
returns c = behind_none c.args.key.now _ c.loop-name.known _ c.loop-name.invariant c.in-None.ensures.steps.0
