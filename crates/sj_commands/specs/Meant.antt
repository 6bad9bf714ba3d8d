-- What steps, requests and commands of the code mean.
use Rattle.std.specs.Prelude.{ℕ, List, map, string_bytes}
use Rattle.sj_text_core.specs.Paths.{Step as PlainStep, by_key, by_place, by_token}
use Rattle.sj_document.specs.Document.{document_tree}
use Rattle.sj_commands.specs.Commands as plain
use Rattle.sj_commands.specs.declared.command.Command.{Command}
use Rattle.sj_commands.specs.declared.command.Command.TheVariants as command
use Rattle.sj_commands.specs.declared.command.Step.{Step}
use Rattle.sj_commands.specs.declared.command.Step.TheVariants.{Key, Idx, Token}
use Rattle.sj_commands.specs.declared.command.Width.{Width}
use Rattle.sj_commands.specs.declared.command.Width.TheVariants as width
use Rattle.sj_commands.specs.declared.request.Read.{Read}
use Rattle.sj_commands.specs.declared.request.Read.TheVariants as read
use Rattle.sj_commands.specs.declared.request.Request.{Request}
use Rattle.sj_commands.specs.declared.request.Request.TheVariants as request
use Rattle.sj_commands.specs.declared.request.Write.{Write}
use Rattle.sj_commands.specs.declared.request.Write.TheVariants as write

abbrev pub step_meant : Step → PlainStep
step_meant (Key k) = by_key (string_bytes k)
step_meant (Idx i) = by_place i
step_meant (Token k) = by_token (string_bytes k)

abbrev pub path_meant : List Step → List PlainStep
path_meant p = map step_meant p

abbrev pub width_meant : Width → plain.Width
width_meant width.I8 = plain.signed 8
width_meant width.I16 = plain.signed 16
width_meant width.I32 = plain.signed 32
width_meant width.I64 = plain.signed 64
width_meant width.I128 = plain.signed 128
width_meant width.U8 = plain.unsigned 8
width_meant width.U16 = plain.unsigned 16
width_meant width.U32 = plain.unsigned 32
width_meant width.U64 = plain.unsigned 64
width_meant width.U128 = plain.unsigned 128
width_meant width.Usize = plain.unsigned 64

abbrev pub read_meant : Read → plain.Read
read_meant read.Kind = plain.kind
read_meant (read.Fits w) = plain.fits (width_meant w)
read_meant read.Str = plain.str
read_meant read.Len = plain.len
read_meant read.Keys = plain.keys
read_meant (read.Has k) = plain.has (string_bytes k)
read_meant read.Encode = plain.encode
read_meant read.EncodePp = plain.encode_pp

-- t gives the bytes of a text
module _ {T : Type 0} (t : T → List ℕ) where
  abbrev pub write_meant : Write T → plain.Write
  write_meant (write.Insert k v) = plain.insert (t k) (document_tree t v)
  write_meant (write.Remove k) = plain.remove (string_bytes k)
  write_meant (write.Push v) = plain.push (document_tree t v)
  write_meant write.Pop = plain.pop
  write_meant (write.Put v) = plain.put (document_tree t v)

abbrev pub request_meant : Request → plain.PlainCommand
request_meant (request.Read p r) = plain.read (path_meant p.items) (read_meant r)
request_meant (request.Write p w) = plain.write (path_meant p.items) (write_meant string_bytes w)
request_meant request.Bad = plain.bad

abbrev pub command_meant : Command → plain.PlainCommand
command_meant (command.Kind p) = plain.read (path_meant p.items) plain.kind
command_meant (command.Fits p w) = plain.read (path_meant p.items) (plain.fits (width_meant w))
command_meant (command.Str p) = plain.read (path_meant p.items) plain.str
command_meant (command.Len p) = plain.read (path_meant p.items) plain.len
command_meant (command.Keys p) = plain.read (path_meant p.items) plain.keys
command_meant (command.Has p k) = plain.read (path_meant p.items) (plain.has (string_bytes k))
command_meant (command.Encode p) = plain.read (path_meant p.items) plain.encode
command_meant (command.EncodePp p) = plain.read (path_meant p.items) plain.encode_pp
command_meant command.Bad = plain.bad
command_meant (command.Insert p k v) = plain.write (path_meant p.items) (plain.insert (string_bytes k) (document_tree string_bytes v))
command_meant (command.Remove p k) = plain.write (path_meant p.items) (plain.remove (string_bytes k))
command_meant (command.Push p v) = plain.write (path_meant p.items) (plain.push (document_tree string_bytes v))
command_meant (command.Pop p) = plain.write (path_meant p.items) plain.pop
command_meant (command.Put p v) = plain.write (path_meant p.items) (plain.put (document_tree string_bytes v))
