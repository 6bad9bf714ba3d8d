use Rattle.std.proofs.Common.{◌++◌, Some, None, string_bytes, rules, sym, ap, ◌∙◌, lit<}
use Rattle.std.proofs.lemmas.Str.Pattern.{split_parts}
use Rattle.sj_pointer.proofs.Texts.{decoded_whole, one_escape}
use Rattle.sj_pointer.proofs.parse.decode.Goals as goal

pub loop-plain-preserved : goal.loop-plain-preserved
loop-plain-preserved c =
    let parts = split_parts 126 c.loop-plain.rest.now (Some (c.in-Some.plain, c.in-Some.escaped)) c.in-Some.ensures.cases (lit< tt) in
    let next = string_bytes c.push_str.new.self in (
      search rules,
      one_escape (string_bytes c.loop-plain.text) next (string_bytes c.push.new.self) c.in-Some.plain.now c.in-Some.escaped.now c.loop-plain.rest.now c.escape-character.result.1.now c.escape-character.result.0
          c.in_ok-push_str.ensures.bytes (c.in_ok-push.ensures.bytes ∙ ap (λ x. next ++ x) (c.in_ok-push.ensures.ascii c.escape-character.ensures.ascii)) parts.0 parts.1 c.escape-character.ensures.decoded
          ∙ c.loop-plain.invariant.1,
    )

pub returns : goal.returns
returns c =
    let rest = c.loop-plain.rest.now in
    c.in_ok-push_str-2.ensures.bytes ∙ ap (λ x. string_bytes c.loop-plain.text ++ x) (sym (decoded_whole rest (split_parts 126 rest None c.in_default.ensures.cases (lit< tt)))) ∙ c.loop-plain.invariant.1
