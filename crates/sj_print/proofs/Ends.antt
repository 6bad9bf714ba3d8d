-- What a whole print comes to, in a count and in bytes.
use Rattle.std.proofs.Common.{◌≡◌, ℕ, ◌+◌, ◌≤◌, List, [], ◌++◌, length, take, sym, ◌∙◌, arith}
use Rattle.std.proofs.lemmas.List.{append-nil, length-take-le, take_all}
use Rattle.std.proofs.lemmas.Str.{IsUtf8-nil}
use Rattle.std.specs.Borrow.{GName}
use Rattle.sj_print.specs.Outputs.{AppendsText}
use Rattle.sj_print.specs.Printed.{IsCounted}
use Rattle.sj_print.specs.declared.output.count.Count.{Count}
use Rattle.sj_print.specs.declared.output.filling.Filling.{Filling}

abbrev pub counts : ℕ → Count → List ℕ → Type 0
counts start c b = IsCounted (start + length b) c

pub counted : (a b : Count) (before : ℕ) (part : List ℕ) → AppendsText counts a b part → a.total ≡ before → IsCounted (before + length part) b
counted a b before part f e = (f before [] (IsUtf8-nil, omega (arith, e))).1

abbrev pub fills : GName × ℕ × List ℕ → Filling → List ℕ → Type 0
fills start f b = (f.out.ghost_name ≡ start.0) × (length f.out.now.items ≡ start.1) × (length start.2 + length b ≤ start.1 → (f.at ≡ length start.2 + length b) × (take f.at f.out.now.items ≡ start.2 ++ b))

-- so many bytes in front, before anything is put
pub front : (at : ℕ) (now : List ℕ) → at ≤ length now → (at ≡ length (take at now) + 0) × (take at now ≡ take at now ++ [])
front at now h = (omega (arith, length-take-le at now h), sym (append-nil (take at now)))

-- what fills the bytes up to their end
pub filled : (at : ℕ) (now part : List ℕ) (b : Filling) → at + length part ≡ length now → length b.out.now.items ≡ length now
    → (length (take at now) + length part ≤ length now → (b.at ≡ length (take at now) + length part) × (take b.at b.out.now.items ≡ take at now ++ part)) → b.out.now.items ≡ take at now ++ part
filled at now part b room len put =
    let long = length-take-le at now (omega (arith, room)) in
    let all = put (omega (arith, long, room)) in
    sym (take_all b.at b.out.now.items (omega (arith, all.0, long, room, len))) ∙ all.1
