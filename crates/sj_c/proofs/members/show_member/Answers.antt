use Rattle.std.proofs.Common.{length, sym, ap, subst, IfSome, string_bytes}
use Rattle.sj_document.specs.Document.{document_tree}
use Rattle.sj_c.specs.Shown.{ShowsMember}
use Rattle.sj_c.proofs.Next.{paired-get}
use Rattle.sj_c.proofs.members.show_member.Goals as goal

pub returns-in-Some : goal.returns-in-Some
returns-in-Some c =
    subst (λ o. IfSome o (λ p. ShowsMember (record { key = c.start_of-member.result; key_len = length c.as_bytes-text.result.now; value = c.show.new.found }) p)) (sym (paired-get (document_tree string_bytes) c.args.members.now.entries c.args.index _ c.in-Some.ensures))
    (record { key = ap length c.as_bytes-text.ensures.value; value = c.show.ensures })

pub returns-in-None : goal.returns-in-None
returns-in-None c = subst (λ o. IfSome o (λ p. ShowsMember c.args.member.now p)) (sym (paired-get (document_tree string_bytes) c.args.members.now.entries c.args.index _ c.in-None.ensures)) tt
