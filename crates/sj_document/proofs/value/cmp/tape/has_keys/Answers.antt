use Rattle.std.proofs.Common.{not, ◌∷◌, sym, ap, ◌∙◌}
use Rattle.sj_text_core.specs.Keep.{is_seen}
use Rattle.sj_tape.specs.Members.{members, object_choice}
use Rattle.sj_text_core.specs.Tree.{paired}
use Rattle.sj_tape.specs.Value.{tape_tree}
use Rattle.sj_tape.proofs.Counted.{first_absent, absent_first}
use Rattle.sj_tape.proofs.Compared.{has_rest, has_not_key, has_key, key_there, key_ahead, seen_ahead, no_value, a_value}
use Rattle.sj_object.specs.Entries.{entries_of, entry_texts}
use Rattle.sj_object.specs.Members.{entry_members}
use Rattle.sj_document.specs.Document.{document_tree}
use Rattle.sj_document.proofs.Mixed.{texts_paired, drop_less}
use Rattle.sj_document.proofs.value.cmp.tape.has_keys.Goals as goal

pub loop-key-init : goal.loop-key-init
loop-key-init g c =
    let u = g.T.KeyText.text_of in
    let all = ap (λ it. entry_texts (entries_of u it)) c.into_iter-key-iterator.ensures.into_iter_gives ∙ ap entry_texts c.iter-key-items.ensures ∙ sym (texts_paired (document_tree u) c.args.right.now.entries) in
    record {
      can = tt;
      ends = tt;
      rest = λ h. has_rest c.args.place (paired (members c.args.left)) (paired (entry_members (document_tree u) c.args.right.now.entries)) _ c.requires all h;
      own = λ k s. ap (is_seen k) (sym all) ∙ s;
    }

pub loop-key-preserved-then-known-gt0 : goal.loop-key-preserved-then-known-gt0
loop-key-preserved-then-known-gt0 g c =
    let u = g.T.KeyText.text_of in
    let k = u c.in-Some.key.now in
    let steps = ap (λ it. entry_texts (entries_of u it)) c.in-Some.ensures.steps in
    record {
      can = tt;
      ends = tt;
      rest = λ h. c.loop-key.invariant.rest (λ l s. h l (ap (is_seen l) (sym (drop_less c.loop-key.known _ k (entry_texts (entries_of u c.next.new.self)) steps c.if-known-gt0.true)) ∙ s));
      own = λ l s. c.loop-key.invariant.own l (seen_ahead l k _ _ steps s);
    }

pub returns-then-is_none : goal.returns-then-is_none
returns-then-is_none g c =
    let u = g.T.KeyText.text_of in
    let k = c.text.result.now in
    let steps = ap (λ it. entry_texts (entries_of u it)) c.in-Some.ensures.steps ∙ ap (λ k. k ∷ entry_texts (entries_of u c.next.new.self)) (sym c.text.ensures) in
    let none = first_absent (object_choice c.args.left) k (members c.args.left) (no_value tape_tree c.get.result _ (c.is_none.ensures ∙ ap not c.if-is_none.true) c.get.ensures.value) in
    (λ f. absurd (cc), λ h. absurd (has_not_key k (members c.args.left) none (h k (c.loop-key.invariant.own k (key_ahead k _ _ steps)))))

pub loop-key-preserved : goal.loop-key-preserved
loop-key-preserved g c =
    let u = g.T.KeyText.text_of in
    let k = c.text.result.now in
    let steps = ap (λ it. entry_texts (entries_of u it)) c.in-Some.ensures.steps ∙ ap (λ k. k ∷ entry_texts (entries_of u c.next.new.self)) (sym c.text.ensures) in
    let here = has_key k (members c.args.left) (λ f. a_value tape_tree c.get.result _ (c.is_none.ensures ∙ ap not c.if-is_none.false) c.get.ensures.value (absent_first (object_choice c.args.left) k (members c.args.left) f)) in
    record {
      can = tt;
      ends = tt;
      rest = λ h. c.loop-key.invariant.rest (λ l s. key_there l k _ (entry_texts (entries_of u c.next.new.self)) c.loop-key.known (paired (members c.args.left)) steps c.if-known-gt0.false here h s);
      own = λ l s. c.loop-key.invariant.own l (seen_ahead l k _ _ steps s);
    }
