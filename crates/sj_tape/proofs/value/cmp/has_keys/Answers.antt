use Rattle.std.proofs.Common.{◌≡◌, ℕ, suc, ◌-◌, ◌<◌, List, ◌∷◌, drop, not, sym, ap, ◌∙◌, arith}
use Rattle.sj_text_core.specs.Keep.{is_seen}
use Rattle.sj_tape.specs.Members.{members, keys_ahead}
use Rattle.sj_text_core.specs.Tree.{paired}
use Rattle.sj_tape.specs.Value.{tape_tree}
use Rattle.sj_tape.proofs.Compared.{has_rest, has_not_key, has_key, key_there, key_ahead, seen_ahead, no_value, a_value}
use Rattle.sj_tape.proofs.value.cmp.has_keys.Goals as goal

pub loop-key-init : goal.loop-key-init
loop-key-init c =
    let all = ap keys_ahead c.into_iter-key-iterator.ensures.into_iter_gives ∙ c.keys-key-items.ensures in
    record {
      rest = λ h. has_rest c.args.place (paired (members c.args.left)) (paired (members c.args.right)) _ c.requires all h;
      own = λ k s. ap (is_seen k) (sym all) ∙ s;
    }

pub returns-then-is_none : goal.returns-then-is_none
returns-then-is_none c =
    let k = c.in-Some.key.now in
    let none = no_value tape_tree c.first.result _ (c.is_none.ensures ∙ ap not c.if-is_none.true) c.first.ensures in
    (λ f. absurd (cc), λ h. absurd (has_not_key k (members c.args.left) none (h k (c.loop-key.invariant.own k (key_ahead k _ _ c.in-Some.ensures.steps)))))

-- one less is to be dropped behind the first
less : (n : ℕ) (xs : List (List ℕ)) (x : List ℕ) (rest : List (List ℕ)) → xs ≡ x ∷ rest → 0 < n → drop n xs ≡ drop (n - 1) rest
less n xs x rest e h = let m : n ≡ suc (n - 1) = omega (arith, h) in ap (λ l. drop n l) e ∙ ap (λ k. drop k (x ∷ rest)) m

pub loop-key-preserved-then-known-gt0 : goal.loop-key-preserved-then-known-gt0
loop-key-preserved-then-known-gt0 c =
    let k = c.in-Some.key.now in
    let behind = less c.loop-key.known (keys_ahead c.loop-key.key-iterator) k (keys_ahead c.next.new.self) c.in-Some.ensures.steps c.if-known-gt0.true in
    record {
      rest = λ h. c.loop-key.invariant.rest (λ l s. h l (ap (is_seen l) (sym behind) ∙ s));
      own = λ l s. c.loop-key.invariant.own l (seen_ahead l k _ _ c.in-Some.ensures.steps s);
    }

pub loop-key-preserved : goal.loop-key-preserved
loop-key-preserved c =
    let k = c.in-Some.key.now in
    let here = has_key k (members c.args.left) (a_value tape_tree c.first.result _ (c.is_none.ensures ∙ ap not c.if-is_none.false) c.first.ensures) in
    record {
      rest = λ h. c.loop-key.invariant.rest (λ l s. key_there l k _ (keys_ahead c.next.new.self) c.loop-key.known (paired (members c.args.left)) c.in-Some.ensures.steps c.if-known-gt0.false here h s);
      own = λ l s. c.loop-key.invariant.own l (seen_ahead l k _ _ c.in-Some.ensures.steps s);
    }
