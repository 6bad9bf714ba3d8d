-- Members of a lazy object, as what is found at their texts.
use Rattle.std.proofs.Common.{◌≡◌, ℕ, suc, List, length, is_some, refl, sym, ap, ◌∙◌, true≢false}
use Rattle.sj_text_core.specs.Keep.{is_seen}
use Rattle.sj_text_core.specs.Tree.{Members, no_members, member, members_len, paired}
use Rattle.sj_text_core.specs.Agree.{pair_keys}
use Rattle.sj_text_core.specs.declared.repeats.Repeats.{Repeats}
use Rattle.sj_text_core.proofs.Comparing.{by_either}
use Rattle.sj_text_core.proofs.Equal.{has_by}
use Rattle.sj_tape.proofs.Counted.{absent_by, unseen_by}
use Rattle.sj_lazy.specs.SameMap.{counted}

pub keys_len : (ms : Members) → length (pair_keys (paired ms)) ≡ members_len ms
keys_len no_members = refl
keys_len (member k t ms) = ap suc (keys_len ms)

-- one of the members counts at a text where the text is that of one
pub there : (c : Repeats) (ms : Members) (k : List ℕ) → is_some (counted c ms k) ≡ is_seen k (pair_keys (paired ms))
there c ms k = by_either (is_seen k (pair_keys (paired ms))) _
    (λ b. has_by (counted c ms k) (λ n. absurd (true≢false (sym b ∙ unseen_by c k ms n))) ∙ sym b)
    (λ b. ap is_some (absent_by c k ms b) ∙ sym b)
