-- Replies to commands, with trees in the place of values.
use Rattle.std.specs.Prelude.{ℕ, Bool, List}
use Rattle.sj_text_core.specs.Tree.{Tree}
use Rattle.sj_text_core.specs.declared.value_type.ValueType.{ValueType}

pub data PlainReply : Type 0 where
  kind : ValueType → PlainReply
  truth : Bool → PlainReply
  text : List ℕ → PlainReply
  count : ℕ → PlainReply
  keys : List (List ℕ) → PlainReply
  printed : List ℕ → PlainReply
  old : Tree → PlainReply
  nothing : PlainReply
  done : PlainReply
  missing : PlainReply
  not_an_object : PlainReply
  not_an_array : PlainReply
  not_a_string : PlainReply
  no_length : PlainReply
  bad_command : PlainReply
