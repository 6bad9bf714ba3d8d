use Rattle.sj_run.proofs.sessions.forms.session_of_form.Goals as goal

pub returns-in-Owned-clause-ok : goal.returns-in-Owned-clause-ok
returns-in-Owned-clause-ok c = rw c.in-Owned.is c.session_owned.ensures.ok

pub returns-in-Owned-clause-too_long : goal.returns-in-Owned-clause-too_long
returns-in-Owned-clause-too_long c = λ e. rw c.in-Owned.is (c.session_owned.ensures.too_long e)

pub returns-in-Borrowed-clause-ok : goal.returns-in-Borrowed-clause-ok
returns-in-Borrowed-clause-ok c = rw c.in-Borrowed.is c.session_borrowed.ensures.ok

pub returns-in-Borrowed-clause-too_long : goal.returns-in-Borrowed-clause-too_long
returns-in-Borrowed-clause-too_long c = λ e. rw c.in-Borrowed.is (c.session_borrowed.ensures.too_long e)

pub returns-in-Lazy-clause-ok : goal.returns-in-Lazy-clause-ok
returns-in-Lazy-clause-ok c = rw c.in-Lazy.is c.session_lazy.ensures.ok

pub returns-in-Lazy-clause-too_long : goal.returns-in-Lazy-clause-too_long
returns-in-Lazy-clause-too_long c = λ e. rw c.in-Lazy.is (c.session_lazy.ensures.too_long e)
