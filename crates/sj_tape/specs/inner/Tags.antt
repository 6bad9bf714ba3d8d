-- Tags of keys that are kept. Only private clauses cite it.
use Rattle.std.specs.Prelude.{◌≡◌, ◌==◌, ◌||◌, ℕ, zero, suc, ◌+◌, ◌-◌, ◌*◌, ◌/◌, ◌%◌, ◌^◌, ◌<◌, ◌≤◌, Bool, false, if◌then◌else◌, nat_lt, List, [], ◌∷◌, get_or, take, drop, length}
use Rattle.std.specs.Int.{from_le_bytes, w32, w64}
use Rattle.sj_text_core.specs.Hash.{hash}
use Rattle.sj_text_core.specs.Tree.{paired, members_len}
use Rattle.sj_text_core.specs.Nodes.{Mark, nothing, truth, number, string, array, object, width, members_in}
use Rattle.sj_text_core.specs.inner.Nodes.{AreMembers}
use Rattle.sj_tape.specs.declared.key_tags.KeyTags.{KeyTags}

-- the eight bytes at a position as one number
unfoldable pub word : ℕ → List ℕ → ℕ
word at s = from_le_bytes w64 (take 8 (drop at s))

-- the four bytes at a position as one number
unfoldable pub half_word : ℕ → List ℕ → ℕ
half_word at s = from_le_bytes w32 (take 4 (drop at s))

-- three words as sixteen bits
abbrev pub mixed : ℕ → ℕ → ℕ → ℕ
mixed a b c = (((a * 11400714819323198485) % 2 ^ 64 + b) % 2 ^ 64 * 11400714819323198485 % 2 ^ 64 + c) % 2 ^ 64 * 11400714819323198485 % 2 ^ 64 / 2 ^ 48

-- the tag of a text
unfoldable pub tag : List ℕ → ℕ
tag s =
    if nat_lt (length s) 4 then hash s % 2 ^ 16 else
    if nat_lt (length s) 8 then mixed (half_word 0 s) 0 (half_word (length s - 4) s)
    else mixed (word 0 s) (word ((length s - 8) / 2) s) (word (length s - 8) s)

-- the tag of a key by its node
abbrev pub key_tag : Mark → ℕ
key_tag nothing = 0
key_tag (truth b) = 0
key_tag (number n c) = 0
key_tag (string s) = tag s
key_tag (array len count) = 0
key_tag (object len count) = 0

-- whether one of the tags is that one
abbrev pub has_tag : ℕ → List ℕ → Bool
has_tag t [] = false
has_tag t (u ∷ us) = (u == t) || has_tag t us

-- where the member at position i begins, counted by widths
unfoldable pub member_node : List Mark → ℕ → ℕ
member_node ns zero = 0
member_node ns (suc i) = member_node ns i + 1 + width (get_or ns (member_node ns i + 1) nothing)

-- the members from the one at position i on have their nodes from that place on
pub record MembersFrom (ns : List Mark) (i place : ℕ) : Type 0 where
  pub inside : place ≤ length ns
  pub are : AreMembers (drop place ns)
  pub members : paired (members_in (drop place ns)) ≡ drop i (paired (members_in ns))

-- the tags of the first members' keys
abbrev pub AreTags : List Mark → List ℕ → Type 0
AreTags ns tags = (i : ℕ) → i < length tags → get_or tags i 0 ≡ key_tag (get_or ns (member_node ns i) nothing)

-- the place of each sixty-fourth member
abbrev pub AreMemberPlaces : List Mark → List ℕ → Type 0
AreMemberPlaces ns places = (j : ℕ) → j < length places → get_or places j 0 ≡ member_node ns (j * 64)

-- those of the members that have these nodes, the place of each sixty-fourth member, and where the next one begins
pub record IsTagged (ns : List Mark) (k : KeyTags) : Type 0 where
  pub some : length k.tags.items ≤ members_len (members_in ns)
  pub tags : AreTags ns k.tags.items
  pub count : length k.tags.items ≤ length k.places.items * 64
  pub places : AreMemberPlaces ns k.places.items
  pub rest : k.rest ≡ member_node ns (length k.tags.items)

-- those of objects among the nodes
abbrev pub AllTagged : List Mark → List KeyTags → Type 0
AllTagged ns objects = (j : ℕ) (d : KeyTags) → j < length objects → IsTagged (drop (get_or objects j d).start (take (get_or objects j d).end ns)) (get_or objects j d)
