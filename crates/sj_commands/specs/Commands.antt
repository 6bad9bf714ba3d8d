-- Commands at paths, with trees in the place of values.
use Rattle.std.specs.Prelude.{ℕ, List}
use Rattle.sj_text_core.specs.Tree.{Tree}
use Rattle.sj_text_core.specs.Paths.{Step}

-- an integer type: of so many bits, with a sign or without
pub data Width : Type 0 where
  signed : ℕ → Width
  unsigned : ℕ → Width

-- what is asked of the value at a path
pub data Read : Type 0 where
  kind : Read
  fits : Width → Read
  str : Read
  len : Read
  keys : Read
  has : List ℕ → Read
  encode : Read
  encode_pp : Read

-- how the value at a path is changed
pub data Write : Type 0 where
  insert : List ℕ → Tree → Write
  remove : List ℕ → Write
  push : Tree → Write
  pop : Write
  put : Tree → Write

pub data PlainCommand : Type 0 where
  read : List Step → Read → PlainCommand
  write : List Step → Write → PlainCommand
  bad : PlainCommand
