-- Which texts need no escape.
use Rattle.std.proofs.Common.{◌≡◌, true, [], ◌∷◌, refl, codes}
use Rattle.std.specs.List.{prefix_len}
use Rattle.sj_print.specs.inner.Runs.{is_stop, is_plain, IsAllPlain}

stop-quote : is_stop 34 ≡ true
stop-quote = refl

stop-control : is_stop 31 ≡ true
stop-control = refl

plain-space : is_plain 32 ≡ true
plain-space = refl

plain-past-ascii : is_plain 195 ≡ true
plain-past-ascii = refl

all-plain-empty : IsAllPlain []
all-plain-empty = refl

all-plain-word : IsAllPlain (codes "a/b ~")
all-plain-word = refl

front-of-quote : prefix_len is_plain (codes "ab\"c") ≡ 2
front-of-quote = refl

front-of-backslash : prefix_len is_plain (97 ∷ 92 ∷ 98 ∷ []) ≡ 1
front-of-backslash = refl
