use Rattle.std.proofs.Common.{rules, ◌≡◌, ◌+◌, ◌*◌, ◌≤◌, ◌++◌, ◌∷◌, [], length, ap, ◌∙◌, arith, length-append}
use Rattle.sj_text_core.specs.Tree.{members_len}
use Rattle.sj_text_core.specs.Nodes.{members_in}
use Rattle.sj_tape.specs.Marks.{packed_marks}
use Rattle.sj_tape.specs.inner.Tags.{member_node}
use Rattle.sj_tape.proofs.MemberPlaces.{member_from, one_member_place, placed_with}
use Rattle.sj_tape.proofs.key_tags.tags_between.Goals as goal

pub loop-tags-preserved : goal.loop-tags-preserved
loop-tags-preserved c =
    let ns = packed_marks c.args.nodes.now in
    let l = c.loop-tags in
    let passed = length l.tags.items in
    let pushed : c.push.new.self.items ≡ l.places.items ++ l.at ∷ [] = search rules in
    let long : length c.push.new.self.items ≡ length l.places.items + 1 = ap length pushed ∙ length-append l.places.items (l.at ∷ []) in
    let steps : passed ≡ length l.places.items * 64 = omega (arith, l.invariant.count, c.len.ensures, c.loop-tags-test.true) in
    let here : l.at ≡ member_node ns (length l.places.items * 64) =
    one_member_place ns passed l.at (member_node ns passed) l.invariant.from (member_from ns c.requires.are passed (omega (arith, c.len.ensures, c.loop-tags-test.true, c.requires.counted))) ∙ ap (member_node ns) steps in
    record {
      from = c.in_ok-place.ensures.from;
      count = omega (arith, long, steps, c.min.ensures, c.len.ensures, c.len-in-loop-tags-2.ensures, c.len-in-loop-tags-3.ensures, c.in_ok-place.ensures.all, c.loop-tags-test.true);
      tagged = c.in_ok-place.ensures.tagged;
      there = placed_with ns l.places.items c.push.new.self.items l.at pushed here l.invariant.there;
    }

pub returns-clause-tagged : goal.returns-clause-tagged
returns-clause-tagged c =
    let ns = packed_marks c.args.nodes.now in
    let l = c.loop-tags in
    let few : length l.tags.items ≤ members_len (members_in ns) = omega (arith, l.invariant.count, c.requires.counted) in
    record {
      some = few;
      tags = l.invariant.tagged;
      count = omega (arith, l.invariant.count);
      places = l.invariant.there;
      rest = one_member_place ns (length l.tags.items) l.at (member_node ns (length l.tags.items)) l.invariant.from (member_from ns c.requires.are (length l.tags.items) few);
    }
