-- The numbers of statuses, and of the forms of sessions.
use Rattle.std.specs.Prelude.{ℕ, zero, suc, Option, Some, None}
use Rattle.sj_text_core.specs.declared.error.ErrorKind.{ErrorKind}
use Rattle.sj_text_core.specs.declared.error.ErrorKind.TheVariants as kind
use Rattle.sj_run.specs.declared.sessions.Form.{Form}
use Rattle.sj_run.specs.declared.sessions.Form.TheVariants as form
use Rattle.sj_run.specs.declared.sessions.SessionFault.{SessionFault}
use Rattle.sj_run.specs.declared.sessions.SessionFault.TheVariants as fault

-- a refused reading's
abbrev pub kind_status : ErrorKind → ℕ
kind_status kind.InvalidUtf8 = 16
kind_status kind.Syntax = 17
kind_status kind.LoneSurrogate = 18
kind_status kind.Float = 19
kind_status kind.NumberTooLarge = 20
kind_status kind.TooDeep = 21
kind_status kind.OutOfMemory = 1

-- a refused session's
abbrev pub session_status : SessionFault → ℕ
session_status fault.Usage = 9
session_status (fault.Refused k) = kind_status k
session_status fault.OutOfMemory = 1
session_status fault.TooLong = 2

-- the form with the number
abbrev pub form_of : ℕ → Option Form
form_of zero = Some form.Owned
form_of (suc zero) = Some form.Borrowed
form_of (suc (suc zero)) = Some form.Lazy
form_of (suc (suc (suc n))) = None
