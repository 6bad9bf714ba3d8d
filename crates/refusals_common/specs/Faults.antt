-- What ends a program.
use Rattle.std.specs.Prelude.{ℕ, List, Result, Ok, Err, if◌then◌else◌, bytes_eq, codes}
use Rattle.sj_text_core.specs.declared.error.ErrorKind.{ErrorKind}
use Rattle.sj_text_core.specs.declared.error.ErrorKind.TheVariants as kind
use Rattle.refusals_common.specs.declared.fault.Fault.{Fault}
use Rattle.refusals_common.specs.declared.fault.Fault.TheVariants.{Usage, OutOfMemory, Failed}

-- the exit status
abbrev pub status_of : Fault → ℕ
status_of Usage = 2
status_of OutOfMemory = 4
status_of Failed = 5

-- why there is no text of that name
abbrev pub untold : List ℕ → Fault
untold name =
    if bytes_eq name (codes "") then OutOfMemory
    else if bytes_eq name (codes "example") then OutOfMemory
    else if bytes_eq name (codes "repeat") then OutOfMemory
    else if bytes_eq name (codes "0") then OutOfMemory
    else if bytes_eq name (codes "32") then OutOfMemory
    else if bytes_eq name (codes "64") then OutOfMemory
    else if bytes_eq name (codes "items") then OutOfMemory
    else if bytes_eq name (codes "members") then OutOfMemory
    else if bytes_eq name (codes "escapes") then OutOfMemory
    else if bytes_eq name (codes "kinds") then OutOfMemory
    else Usage

-- why a text was not read
abbrev pub unread : ErrorKind → Fault
unread kind.OutOfMemory = OutOfMemory
unread _ = Usage
