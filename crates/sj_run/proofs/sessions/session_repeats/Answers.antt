use Rattle.std.proofs.Common.{◌∙◌, ◌-◌, take, drop, length}
use Rattle.std.proofs.lemmas.Result.{on_ok_weaker}
use Rattle.sj_run.proofs.SessionLemmas.{session_answered, session_passes, lines_behind}
use Rattle.sj_run.proofs.sessions.session_repeats.Goals as goal

pub returns-clause-ok : goal.returns-clause-ok
returns-clause-ok c =
    let input = c.args.input.now in
    let cut = c.cut_at_mark-cut in
    let behind = c.split_at_mut-text.result.1.now in
    let k = cut.result.commands - cut.result.document in
    on_ok_weaker c.session_of_form.result (session_answered c.args.repeats c.args.form input c.split_at_mut-text.result.0.now (take (length behind - k) (drop k behind)) c.args.out.now.items c.session_of_form.new.out.items
    (c.split_at_mut-text.ensures.front ∙ cut.ensures.document)
    (lines_behind input behind cut.result.document cut.result.commands cut.ensures.ordered cut.ensures.within c.split_at_mut-text.ensures.back cut.ensures.commands)) c.session_of_form.ensures.ok

pub returns-clause-too_long : goal.returns-clause-too_long
returns-clause-too_long c =
    let input = c.args.input.now in
    let cut = c.cut_at_mark-cut in
    let behind = c.split_at_mut-text.result.1.now in
    let k = cut.result.commands - cut.result.document in
    λ e. session_passes c.args.repeats c.args.form input c.split_at_mut-text.result.0.now (take (length behind - k) (drop k behind)) (length c.args.out.now.items)
    (c.split_at_mut-text.ensures.front ∙ cut.ensures.document)
    (lines_behind input behind cut.result.document cut.result.commands cut.ensures.ordered cut.ensures.within c.split_at_mut-text.ensures.back cut.ensures.commands)
    (c.session_of_form.ensures.too_long e)
