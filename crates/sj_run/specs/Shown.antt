-- What a session writes for a reply.
use Rattle.std.specs.Prelude.{ℕ, pos, Bool, true, false, List, [], ◌∷◌, ◌++◌, codes, flat_map}
use Rattle.std.specs.Fmt.{signed_decimal}
use Rattle.sj_text_core.specs.Ascii.{line_feed, comma, open_bracket, close_bracket}
use Rattle.sj_text_core.specs.Print.{quoted, compact}
use Rattle.sj_text_core.specs.declared.value_type.ValueType.{ValueType}
use Rattle.sj_text_core.specs.declared.value_type.ValueType.TheVariants as value_type
use Rattle.sj_run.specs.Replies.{PlainReply, kind, truth, text, count, keys, printed, old, nothing, done, missing, not_an_object, not_an_array, not_a_string, no_length, bad_command}

-- the name of a kind
abbrev pub kind_name : ValueType → List ℕ
kind_name value_type.Null = codes "Null"
kind_name value_type.Bool = codes "Bool"
kind_name value_type.I64 = codes "I64"
kind_name value_type.U64 = codes "U64"
kind_name value_type.I128 = codes "I128"
kind_name value_type.U128 = codes "U128"
kind_name value_type.String = codes "String"
kind_name value_type.Array = codes "Array"
kind_name value_type.Object = codes "Object"
kind_name (value_type.Extended e) = []

abbrev pub truth_name : Bool → List ℕ
truth_name true = codes "true"
truth_name false = codes "false"

-- texts behind commas
abbrev pub more_texts : List (List ℕ) → List ℕ
more_texts [] = []
more_texts (s ∷ ss) = comma ∷ (quoted s ++ more_texts ss)

-- a compact array of texts
abbrev pub text_array : List (List ℕ) → List ℕ
text_array [] = codes "[]"
text_array (s ∷ ss) = open_bracket ∷ (quoted s ++ more_texts ss ++ close_bracket ∷ [])

abbrev pub reply_text : PlainReply → List ℕ
reply_text (kind k) = kind_name k
reply_text (truth b) = truth_name b
reply_text (text s) = quoted s
reply_text (count n) = signed_decimal (pos n)
reply_text (keys ss) = text_array ss
reply_text (printed s) = s
reply_text (old t) = compact t
reply_text nothing = codes "none"
reply_text done = codes "ok"
reply_text missing = codes "missing"
reply_text not_an_object = codes "not an object"
reply_text not_an_array = codes "not an array"
reply_text not_a_string = codes "not a string"
reply_text no_length = codes "no length"
reply_text bad_command = codes "bad command"

-- the printed bytes, and one line feed
abbrev pub shown : PlainReply → List ℕ
shown r = reply_text r ++ line_feed ∷ []

abbrev pub shown_all : List PlainReply → List ℕ
shown_all rs = flat_map shown rs
