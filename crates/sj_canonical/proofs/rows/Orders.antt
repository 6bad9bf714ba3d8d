-- The orders of RFC 8785, section 3.2.3, and small cases.
use Rattle.std.proofs.Common.{◌≡◌, ℕ, pos, true, false, List, [], ◌∷◌, refl, codes}
use Rattle.std.specs.Fmt.{digits}
use Rattle.std.specs.Str.{chars}
use Rattle.sj_text_core.specs.Print.{compact}
use Rattle.sj_text_core.specs.Tree.{u64, null, boolean, int, text, list, obj, no_items, item, no_members, member}
use Rattle.sj_text_core.specs.declared.repeats.Repeats.TheVariants.{First, Last}
use Rattle.sj_canonical.specs.Canonical.{units, is_before, canonical, canonical_by}

-- the keys of the example, in UTF-8
abbrev euro : List ℕ
euro = 0xE2 ∷ 0x82 ∷ 0xAC ∷ []

abbrev return : List ℕ
return = 13 ∷ []

abbrev dalet : List ℕ
dalet = 0xEF ∷ 0xAC ∷ 0xB3 ∷ []

abbrev one : List ℕ
one = 49 ∷ []

abbrev smile : List ℕ
smile = 0xF0 ∷ 0x9F ∷ 0x98 ∷ 0x80 ∷ []

abbrev control : List ℕ
control = 0xC2 ∷ 0x80 ∷ []

abbrev o_umlaut : List ℕ
o_umlaut = 0xC3 ∷ 0xB6 ∷ []

units-smile : units smile ≡ 0xD83D ∷ 0xDE00 ∷ []
unfolding chars
units-smile = refl

units-dalet : units dalet ≡ 0xFB33 ∷ []
unfolding chars
units-dalet = refl

-- a character of two units stands before the last ones of one unit, though its bytes are greater
before-smile : is_before smile dalet ≡ true
unfolding chars
before-smile = refl

-- section 3.2.3
example :
    canonical (obj (member euro (text (codes "Euro Sign")) (member return (text (codes "Carriage Return")) (member dalet (text (codes "Hebrew Letter Dalet With Dagesh"))
    (member one (text (codes "One")) (member smile (text (codes "Emoji: Grinning Face")) (member control (text (codes "Control")) (member o_umlaut (text (codes "Latin Small Letter O With Diaeresis")) no_members))))))))
    ≡ obj (member return (text (codes "Carriage Return")) (member one (text (codes "One")) (member control (text (codes "Control")) (member o_umlaut (text (codes "Latin Small Letter O With Diaeresis"))
    (member euro (text (codes "Euro Sign")) (member smile (text (codes "Emoji: Grinning Face")) (member dalet (text (codes "Hebrew Letter Dalet With Dagesh")) no_members)))))))
unfolding chars
example = refl

-- the empty text is the first, and a text stands before those that it begins
empty_first : is_before [] one ≡ true
unfolding chars
empty_first = refl

front_first : is_before (codes "a") (codes "ab") ≡ true
unfolding chars
front_first = refl

itself_not : is_before (codes "ab") (codes "ab") ≡ false
unfolding chars
itself_not = refl

-- capital letters stand before small ones, and digits are no numbers
capitals_first : is_before (codes "Z") (codes "a") ≡ true
unfolding chars
capitals_first = refl

digits_by_unit : is_before (codes "10") (codes "9") ≡ true
unfolding chars
digits_by_unit = refl

-- members within members, and items as they stand
inner : canonical (obj (member (codes "b") (list (item (obj (member (codes "d") null (member (codes "c") null no_members))) (item (boolean true) no_items))) (member (codes "a") null no_members)))
    ≡ obj (member (codes "a") null (member (codes "b") (list (item (obj (member (codes "c") null (member (codes "d") null no_members))) (item (boolean true) no_items))) no_members))
unfolding chars
inner = refl

-- members of one text stay as they were
repeated : canonical (obj (member (codes "b") null (member (codes "a") (boolean true) (member (codes "a") (boolean false) no_members))))
    ≡ obj (member (codes "a") (boolean true) (member (codes "a") (boolean false) (member (codes "b") null no_members)))
unfolding chars
repeated = refl

-- a number past 2 ^ 53 is its digits, of which the RFC's doubles would lose the last
past_doubles : compact (canonical (int (pos 9007199254740993) u64)) ≡ codes "9007199254740993"
unfolding digits
past_doubles = refl

-- where a text names two members, one counts
first_counts : canonical_by First (obj (member (codes "b") null (member (codes "a") (boolean true) (member (codes "a") (boolean false) no_members))))
    ≡ obj (member (codes "a") (boolean true) (member (codes "b") null no_members))
unfolding chars
first_counts = refl

last_counts : canonical_by Last (obj (member (codes "b") null (member (codes "a") (boolean true) (member (codes "a") (boolean false) no_members))))
    ≡ obj (member (codes "a") (boolean false) (member (codes "b") null no_members))
unfolding chars
last_counts = refl
