-- Which fault stands for a run's or a session's.
use Rattle.sj_text_core.specs.declared.error.WriteError.TheVariants as write_error
use Rattle.sj_text_core.specs.declared.json_error.JsonError.{JsonError}
use Rattle.sj_text_core.specs.declared.json_error.JsonError.TheVariants as json_error
use Rattle.sj_text_core.specs.Faults.{unread}
use Rattle.sj_run.specs.declared.runs.Why.{Why}
use Rattle.sj_run.specs.declared.runs.Why.TheVariants as why
use Rattle.sj_run.specs.declared.sessions.SessionFault.{SessionFault}
use Rattle.sj_run.specs.declared.sessions.SessionFault.TheVariants as fault

abbrev pub unanswered : Why → JsonError
unanswered why.OutOfMemory = json_error.OutOfMemory
unanswered why.TooLong = json_error.Write write_error.TooLong

abbrev pub unserved : SessionFault → JsonError
unserved fault.Usage = json_error.NotServed
unserved (fault.Refused kind) = unread kind
unserved fault.OutOfMemory = json_error.OutOfMemory
unserved fault.TooLong = json_error.Write write_error.TooLong
