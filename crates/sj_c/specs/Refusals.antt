-- What statuses say of the arguments of a call.
use Rattle.std.specs.Prelude.{◌≡◌, ◌≢◌, ◌⊎◌, ℕ, List, false}
use Rattle.sj_pointer.specs.Syntax.{is_begun, is_escaped}
use Rattle.sj_text_core.specs.declared.error.AccessError.{AccessError}
use Rattle.sj_text_core.specs.declared.error.AccessError.TheVariants as access

-- a text that is no pointer (RFC 6901, section 3)
abbrev pub IsNoPointer : List ℕ → Type 0
IsNoPointer s = (is_begun s ≡ false) ⊎ (is_escaped s ≡ false)

-- that a handle holds none, that the path is no pointer, that a text is not UTF-8
abbrev pub Blames : ℕ → Type 0 → List ℕ → Type 0 → Type 0
Blames code is_empty path is_no_text = (code ≡ 3 → is_empty) × (code ≡ 7 → IsNoPointer path) × (code ≡ 8 → is_no_text)

-- a status that the document answers: no want of memory, no empty handle, no bad pointer or text
abbrev pub IsReply : ℕ → Type 0
IsReply code = (code ≢ 1) × (code ≢ 3) × (code ≢ 7) × (code ≢ 8)

-- a refused edit's
abbrev pub access_status : AccessError → ℕ
access_status access.NotAnObject = 5
access_status access.NotAnArray = 6
access_status access.OutOfMemory = 1
