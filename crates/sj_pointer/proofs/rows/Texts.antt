-- Which texts are pointers, and their tokens.
use Rattle.std.proofs.Common.{◌≡◌, true, false, [], ◌∷◌, refl, codes}
use Rattle.sj_pointer.specs.Syntax.{is_begun, is_escaped}
use Rattle.sj_pointer.specs.Tokens.{decoded, tokens_of}

-- the examples of RFC 6901, section 5
whole : tokens_of (codes "") ≡ []
whole = refl

foo : tokens_of (codes "/foo") ≡ codes "foo" ∷ []
foo = refl

foo-0 : tokens_of (codes "/foo/0") ≡ codes "foo" ∷ codes "0" ∷ []
foo-0 = refl

empty : tokens_of (codes "/") ≡ [] ∷ []
empty = refl

slash : tokens_of (codes "/a~1b") ≡ codes "a/b" ∷ []
slash = refl

percent : tokens_of (codes "/c%d") ≡ codes "c%d" ∷ []
percent = refl

backslash : tokens_of (codes "/i\\j") ≡ codes "i\\j" ∷ []
backslash = refl

quote : tokens_of (codes "/k\"l") ≡ codes "k\"l" ∷ []
quote = refl

space : tokens_of (codes "/ ") ≡ codes " " ∷ []
space = refl

tilde : tokens_of (codes "/m~0n") ≡ codes "m~n" ∷ []
tilde = refl

-- `~01` is `~1`: each `~1` goes first (section 4)
tilde-one : tokens_of (codes "/m~01n") ≡ codes "m~1n" ∷ []
tilde-one = refl

slash-zero : decoded (codes "~10~00~11") ≡ codes "/0~0/1"
slash-zero = refl

-- empty tokens in the middle and at the end
empties : tokens_of (codes "//a//") ≡ [] ∷ codes "a" ∷ [] ∷ [] ∷ []
empties = refl

begun-whole : is_begun (codes "") ≡ true
begun-whole = refl

begun : is_begun (codes "/") ≡ true
begun = refl

not-begun : is_begun (codes "foo") ≡ false
not-begun = refl

not-begun-tilde : is_begun (codes "a~2") ≡ false
not-begun-tilde = refl

escaped : is_escaped (codes "/m~01n~1") ≡ true
escaped = refl

not-escaped : is_escaped (codes "/a~2") ≡ false
not-escaped = refl

not-escaped-end : is_escaped (codes "/a~") ≡ false
not-escaped-end = refl

-- a tilde behind a tilde, and one at the end of a token
not-escaped-twice : is_escaped (codes "/~~0") ≡ false
not-escaped-twice = refl

not-escaped-token : is_escaped (codes "/~/0") ≡ false
not-escaped-token = refl
