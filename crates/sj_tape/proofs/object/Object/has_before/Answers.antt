use Rattle.std.proofs.Common.{◌≡◌, ℕ, suc, ◌+◌, ◌-◌, Bool, false, ◌||◌, List, ◌∷◌, take, sym, ap, ◌∙◌, arith, bytes_eq}
use Rattle.std.proofs.lemmas.List.{take-map}
use Rattle.sj_text_core.specs.Agree.{pair_keys}
use Rattle.sj_text_core.specs.Keep.{is_seen}
use Rattle.sj_text_core.specs.Tree.{Tree, paired}
use Rattle.sj_tape.specs.Members.{members, keys_ahead}
use Rattle.sj_tape.proofs.object.Object.has_before.Goals as goal

-- one text is passed over
pass_over : (k l : List ℕ) (ks rest : List (List ℕ)) (n m : ℕ) (b found : Bool) → is_seen k (take n ks) ≡ found → ks ≡ l ∷ rest → n ≡ suc m → b ≡ bytes_eq k l → b ≡ false → is_seen k (take m rest) ≡ found
pass_over k l ks rest n m b found e f g h i =
    (λ j. (sym i ∙ h) j || is_seen k (take m rest)) ∙ ap (λ ks. is_seen k (take (suc m) ks)) (sym f) ∙ ap (λ n. is_seen k (take n ks)) (sym g) ∙ e

pub loop-name-init : goal.loop-name-init
loop-name-init c = record {
  within = omega arith;
  ahead = ap (λ it. is_seen c.args.key.now (take (c.args.place - 0) (keys_ahead it))) c.into_iter-name-iterator.ensures.into_iter_gives
      ∙ ap (λ ks. is_seen c.args.key.now (take (c.args.place - 0) ks)) c.keys-name-items.ensures
      ∙ (let none : c.args.place - 0 ≡ c.args.place = omega arith in ap (λ n. is_seen c.args.key.now (take n (pair_keys (paired (members c.args.self.now))))) none)
      ∙ ap (is_seen c.args.key.now) (take-map (λ (p : List ℕ × Tree). p.0) c.args.place (paired (members c.args.self.now)));
}

pub loop-name-preserved : goal.loop-name-preserved
loop-name-preserved c = record {
  within = omega (arith, c.if-at-place.false);
  ahead = pass_over c.args.key.now c.in-Some.name.now _ (keys_ahead c.next.new.self) (c.args.place - c.loop-name.at) (c.args.place - (c.loop-name.at + 1)) _ _ c.loop-name.invariant.ahead c.in-Some.ensures.steps (omega (arith, c.if-at-place.false)) c.are_same_texts.ensures c.if-are_same_texts.false;
}
