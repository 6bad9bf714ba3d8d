-- What reads answer on one plain tree, and what writes answer and leave.
use Rattle.std.specs.Prelude.{ℕ, ◌^◌, ◌≤◌, Bool, length, List, [], Option, Some, None, is_some}
use Rattle.sj_text_core.specs.Tree.{Tree, null, boolean, int, text, list, obj, Members, items_len, members_len, keys_of}
use Rattle.sj_text_core.specs.Find.{find, find_member}
use Rattle.sj_text_core.specs.Edits.{put as put_member, cut, push as push_item, front, last}
use Rattle.sj_text_core.specs.Paths.{Step, tree_at, set_at}
use Rattle.sj_text_core.specs.Print.{compact, pretty}
use Rattle.sj_text_core.specs.Reads.{kind_of, as_signed, as_unsigned, as_text, as_members}
use Rattle.sj_commands.specs.Commands.{Width, signed, unsigned, Read, Write}
use Rattle.sj_commands.specs.Commands as command
use Rattle.sj_run.specs.Replies.{PlainReply}
use Rattle.sj_run.specs.Replies as reply

-- whether the tree is a whole number in the type's range, whatever its carrier
abbrev pub fits_in : Width → Tree → Bool
fits_in (signed bits) t = is_some (as_signed bits t)
fits_in (unsigned bits) t = is_some (as_unsigned bits t)

abbrev pub text_reply : Option (List ℕ) → PlainReply
text_reply (Some s) = reply.text s
text_reply None = reply.not_a_string

-- how many items or members there are, repeats counted
abbrev pub len_reply : Tree → PlainReply
len_reply null = reply.no_length
len_reply (boolean b) = reply.no_length
len_reply (int n c) = reply.no_length
len_reply (text s) = reply.no_length
len_reply (list is) = reply.count (items_len is)
len_reply (obj ms) = reply.count (members_len ms)

abbrev pub keys_reply : Option Members → PlainReply
keys_reply (Some ms) = reply.keys (keys_of ms)
keys_reply None = reply.not_an_object

-- what a read answers at the tree found
abbrev pub reply_to : Read → Tree → PlainReply
reply_to command.kind t = reply.kind (kind_of t)
reply_to (command.fits w) t = reply.truth (fits_in w t)
reply_to command.str t = text_reply (as_text t)
reply_to command.len t = len_reply t
reply_to command.keys t = keys_reply (as_members t)
reply_to (command.has k) t = reply.truth (is_some (find k t))
reply_to command.encode t = reply.printed (compact t)
reply_to command.encode_pp t = reply.printed (pretty 0 t)

abbrev pub old_or_nothing : Option Tree → PlainReply
old_or_nothing (Some t) = reply.old t
old_or_nothing None = reply.nothing

-- the tree found after a write, and the reply; a tree of the wrong kind stays
abbrev pub changed : Write → Tree → Tree × PlainReply
changed (command.insert k v) (obj ms) = (obj (put_member k v ms), old_or_nothing (find_member k ms))
changed (command.insert k v) t = (t, reply.not_an_object)
changed (command.remove k) (obj ms) = (obj (cut k ms), old_or_nothing (find_member k ms))
changed (command.remove k) t = (t, reply.not_an_object)
changed (command.push v) (list is) = (list (push_item v is), reply.done)
changed (command.push v) t = (t, reply.not_an_array)
changed command.pop (list is) = (list (front is), old_or_nothing (last is))
changed command.pop t = (t, reply.not_an_array)
changed (command.put v) t = (v, reply.old t)

abbrev pub edit_found : Option Tree → List Step → Write → Tree → Tree × PlainReply
edit_found None p w t = (t, reply.missing)
edit_found (Some u) p w t = (set_at p (changed w u).0 t, (changed w u).1)

-- the tree after a write at a path, and the reply
abbrev pub edit : List Step → Write → Tree → Tree × PlainReply
edit p w t = edit_found (tree_at p t) p w t

-- a print past 2^64-1 bytes
abbrev pub IsLong : PlainReply → Type 0
IsLong (reply.printed s) = 2 ^ 64 ≤ length s
IsLong r = ⊥
