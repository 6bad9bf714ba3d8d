-- The document that was taken apart.
use Rattle.sj_document.specs.declared.value.Document.{Document, Static, String, Array, Object}
use Rattle.sj_document.specs.declared.value.taken.Taken.{Taken}
use Rattle.sj_document.specs.declared.value.taken.Taken.TheVariants as taken

-- the document of what was taken out of it
abbrev pub whole : {T : Type 0} → Taken T → Document T
whole (taken.Static s) = Static s
whole (taken.String s) = String s
whole (taken.Array v) = Array v
whole (taken.Object m) = Object m
