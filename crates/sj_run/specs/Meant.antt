-- What replies of the code mean.
use Rattle.std.specs.Prelude.{map, string_bytes}
use Rattle.sj_document.specs.Document.{document_tree}
use Rattle.sj_run.specs.Replies as said
use Rattle.sj_run.specs.declared.reply.Reply.{Reply}
use Rattle.sj_run.specs.declared.reply.Reply.TheVariants as reply

abbrev pub reply_meant : Reply → said.PlainReply
reply_meant (reply.Kind k) = said.kind k
reply_meant (reply.Truth b) = said.truth b
reply_meant (reply.Text s) = said.text (string_bytes s)
reply_meant (reply.Count n) = said.count n
reply_meant (reply.Keys ks) = said.keys (map string_bytes ks.items)
reply_meant (reply.Printed s) = said.printed (string_bytes s)
reply_meant (reply.Old v) = said.old (document_tree string_bytes v)
reply_meant reply.Nothing = said.nothing
reply_meant reply.Done = said.done
reply_meant reply.Missing = said.missing
reply_meant reply.NotAnObject = said.not_an_object
reply_meant reply.NotAnArray = said.not_an_array
reply_meant reply.NotAString = said.not_a_string
reply_meant reply.NoLength = said.no_length
reply_meant reply.BadCommand = said.bad_command
