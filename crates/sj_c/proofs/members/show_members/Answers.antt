use Rattle.std.proofs.Common.{rules, arith, ◌+◌, ◌-◌, ◌<◌, length, min, string_bytes, sym, ap, ◌∙◌, subst}
use Rattle.sj_document.specs.Document.{document_tree}
use Rattle.sj_c.specs.Shown.{ShowsMember}
use Rattle.sj_c.proofs.Next.{paired-len, told_next}
use Rattle.sj_c.proofs.members.show_members.Goals as goal

pub loop-at-preserved : goal.loop-at-preserved
loop-at-preserved c =
    let es = c.args.members.now.entries in
    let room : c.loop-at.at < length c.loop-at.out = search (rules, arith) in
    let there : c.args.from + c.loop-at.at < length es = search (rules, arith) in
    told_next ShowsMember c.args.from c.loop-at.at c.loop-at.out _ c.show_member.new.member room
    (subst (λ n. c.args.from + c.loop-at.at < n) (sym (paired-len (document_tree string_bytes) es)) there) c.show_member.ensures c.loop-at.invariant

pub returns-clause-shown : goal.returns-clause-shown
returns-clause-shown c = λ k l. c.loop-at.invariant k (omega (arith, l, c.loop-at-test.false))

pub returns-clause-count : goal.returns-clause-count
returns-clause-count c =
    c.count_of-count.ensures ∙ ap (λ n. min (length c.args.out.now) (n - c.args.from)) (c.len.ensures ∙ sym (paired-len (document_tree string_bytes) c.args.members.now.entries))
