use Rattle.std.proofs.Common.{◌≡◌, true, false, is_some, sym, ap, ◌∙◌}
use Rattle.sj_text_core.specs.Tree.{no_members}
use Rattle.sj_text_core.specs.Find.{find_member}
use Rattle.sj_text_core.specs.Edits as members
use Rattle.sj_object.specs.Entries.{entries_of}
use Rattle.sj_object.specs.Edits.{lookup}
use Rattle.sj_object.specs.Members.{entry_members}
use Rattle.sj_object.proofs.Shown.{lookup-entry_members, entry_members-put}
use Rattle.sj_document.specs.Document.{document_tree}
use Rattle.sj_document.proofs.Trees.{is_some-option_map}
use Rattle.sj_merge.specs.MergeDiff.{removals}
use Rattle.sj_merge.proofs.Changes.{single_object}
use Rattle.sj_merge.proofs.Putting.{put_each, removed_begin, removed_stays, removed_goes}
use Rattle.sj_merge.proofs.difference.removals.Goals as goal

pub loop-key-init : goal.loop-key-init
loop-key-init g c =
    let t = g.T.KeyText.text_of in
    let ns = entry_members (document_tree t) c.args.wanted.now.entries in
    let all = ap (entries_of t) c.into_iter-key-iterator.ensures.into_iter_gives ∙ c.iter-key-items.ensures in
    record {
      can = tt;
      ends = tt;
      told = (λ i. put_each (entry_members (document_tree t) (c.new-patch.ensures.entries i)) (removals (entry_members (document_tree t) (all i)) ns no_members)) ∙ removed_begin (entry_members (document_tree t) c.args.members.now.entries) ns (single_object t c.args.members.now);
    }

pub loop-key-preserved-in_ok-set : goal.loop-key-preserved-in_ok-set
loop-key-preserved-in_ok-set g c =
    let t = g.T.KeyText.text_of in
    let key = c.in-Some.key.now in
    let old = c.loop-key.patch.entries in
    let ns = entry_members (document_tree t) c.args.wanted.now.entries in
    let done = entry_members (document_tree t) old in
    let rest = entry_members (document_tree t) (entries_of t c.next.new.self) in
    let ahead = ap (entries_of t) c.in-Some.ensures.steps in
    let absent : is_some (find_member (t key) ns) ≡ false =
    sym (ap is_some (lookup-entry_members (document_tree t) (t key) c.args.wanted.now.entries)) ∙ is_some-option_map (document_tree t) (lookup (t key) c.args.wanted.now.entries) ∙ sym (ap (λ k. is_some (lookup k c.args.wanted.now.entries)) c.text.ensures) ∙ sym c.contains_key.ensures ∙ c.if-not-contains_key.true in
    record {
      can = tt;
      ends = tt;
      told = ap (λ es. put_each (entry_members (document_tree t) es) (removals rest ns no_members)) c.in_ok-set.ensures
          ∙ ap (λ ms. put_each ms (removals rest ns no_members)) (entry_members-put (document_tree t) (c.in_ok-copy.field-0, t c.in_ok-copy.field-0) c.null.result old)
          ∙ (λ i. put_each (members.put (c.in_ok-copy.ensures i) (c.null.ensures i) done) (removals rest ns no_members))
          ∙ sym (removed_goes (t key) (document_tree t c.in-Some._value.now) done rest ns absent)
          ∙ ap (λ es. put_each done (removals (entry_members (document_tree t) es) ns no_members)) (sym ahead) ∙ c.loop-key.invariant.told;
    }

pub loop-key-preserved : goal.loop-key-preserved
loop-key-preserved g c =
    let t = g.T.KeyText.text_of in
    let key = c.in-Some.key.now in
    let ns = entry_members (document_tree t) c.args.wanted.now.entries in
    let done = entry_members (document_tree t) c.loop-key.patch.entries in
    let rest = entry_members (document_tree t) (entries_of t c.next.new.self) in
    let ahead = ap (entries_of t) c.in-Some.ensures.steps in
    let there : is_some (find_member (t key) ns) ≡ true =
    sym (ap is_some (lookup-entry_members (document_tree t) (t key) c.args.wanted.now.entries)) ∙ is_some-option_map (document_tree t) (lookup (t key) c.args.wanted.now.entries) ∙ sym (ap (λ k. is_some (lookup k c.args.wanted.now.entries)) c.text.ensures) ∙ sym c.contains_key.ensures ∙ c.if-not-contains_key.false in
    record {
      can = tt;
      ends = tt;
      told = sym (removed_stays (t key) (document_tree t c.in-Some._value.now) done rest ns there) ∙ ap (λ es. put_each done (removals (entry_members (document_tree t) es) ns no_members)) (sym ahead) ∙ c.loop-key.invariant.told;
    }
