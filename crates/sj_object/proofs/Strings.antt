-- Nodes that are texts.
use Rattle.std.proofs.Common.{◌≡◌, ℕ, List, Some}
use Rattle.sj_text_core.specs.Nodes.{Mark, nothing, truth, number, string, array, object}
use Rattle.sj_tape.specs.Marks.{text_in}
use Rattle.sj_object.specs.inner.Piles.{key_of_mark}

-- the text of a node is its key
pub text_key : (m : Mark) (s : List ℕ) → Some s ≡ text_in m → s ≡ key_of_mark m
text_key nothing s e = cc
text_key (truth b) s e = cc
text_key (number n c) s e = cc
text_key (string t) s e = cc
text_key (array l n) s e = cc
text_key (object l n) s e = cc
