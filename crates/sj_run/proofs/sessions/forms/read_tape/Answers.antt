use Rattle.sj_run.proofs.SessionLemmas.{refused_kind}
use Rattle.sj_text_core.proofs.Unread.{unreadable}
use Rattle.sj_run.proofs.sessions.forms.read_tape.Goals as goal

pub returns-in-Err-clause-refused : goal.returns-in-Err-clause-refused
returns-in-Err-clause-refused c =
    λ k e.
    let parts = refused_kind c.in-Err.why k c.session_fault.result c.session_fault.ensures.memory c.session_fault.ensures.named e in
    (parts.0, λ r. unreadable c.in-Err.why c.args.text.now c.in-Err.ensures.utf8 c.in-Err.ensures.err parts.1 r)
