use Rattle.std.proofs.Common.{Some, None, string_bytes, rules, ◌∙◌, lit<}
use Rattle.std.proofs.lemmas.Str.Pattern.{split_parts}
use Rattle.sj_pointer.proofs.Texts.{one_token, last_token}
use Rattle.sj_pointer.proofs.parse.decode_all.Goals as goal

pub loop-token-preserved : goal.loop-token-preserved
loop-token-preserved c =
    let rest = c.loop-token.rest.now in
    let parts = split_parts 47 rest (Some (c.in-Some.token, c.in-Some.tail)) c.in-Some.ensures.cases (lit< tt) in (
      search rules,
      one_token string_bytes c.loop-token.tokens.items c.push.new.self.items c.in_ok-decode.field-0 c.in-Some.token.now rest c.in-Some.tail.now c.in_ok-push.ensures.items c.in_ok-decode.ensures parts.0 parts.1
          ∙ c.loop-token.invariant.1,
    )

pub returns : goal.returns
returns c =
    let rest = c.loop-token.rest.now in
    last_token string_bytes c.loop-token.tokens.items c.push-2.new.self.items c.in_ok-decode-2.field-0 rest c.in_ok-push-2.ensures.items c.in_ok-decode-2.ensures (split_parts 47 rest None c.in_default.ensures.cases (lit< tt))
    ∙ c.loop-token.invariant.1
