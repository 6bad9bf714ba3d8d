-- Steps of a session.
use Rattle.std.proofs.Common.{◌≡◌, ℕ, ◌+◌, ◌-◌, ◌^◌, ◌<◌, ◌≤◌, not, List, [], ◌∷◌, ◌++◌, length, take, drop, refl, sym, ap, ◌∙◌, subst, append_assoc, length-append, arith, if◌then◌else◌, Result, Err}
use Rattle.std.specs.Prelude.{◌≢◌}
use Rattle.std.specs.List.{slice_range}
use Rattle.std.proofs.lemmas.List.Concat.{flat_map-cons}
use Rattle.std.proofs.lemmas.Slice.{drop-put_mid}
use borrow.Rule.Slice.PartMut.{put_mid}
use Rattle.std.proofs.lemmas.List.{take_all, take-take, length-drop, length-take-le, drop-drop}
use Rattle.sj_text_core.specs.Tree.{Tree}
use Rattle.sj_text_core.specs.Grammar.{Spells}
use Rattle.sj_text_core.specs.Places.{is_empty}
use Rattle.sj_commands.specs.Commands.{PlainCommand}
use Rattle.sj_commands.specs.CommandLines.{AreCommandsOf}
use Rattle.sj_text_core.specs.Readings.{IsReadAs}
use Rattle.sj_text_core.specs.Repeats.{keep_by}
use Rattle.sj_text_core.specs.declared.repeats.Repeats.{Repeats}
use Rattle.sj_text_core.specs.declared.repeats.Repeats.TheVariants.{First}
use Rattle.sj_run.specs.Repeats.{answer_by, replies_by, part_after, start_by}
use Rattle.sj_run.specs.Answered.{AnswersLines, PassesLines}
use Rattle.sj_run.specs.inner.Answered.{AnswersLine, AnswersText, PassesLine, PassesText}
use Rattle.sj_run.specs.Replies.{PlainReply}
use Rattle.sj_run.specs.Shown.{reply_text, shown, shown_all}
use Rattle.sj_run.specs.Session.{IsAnsweredBy, PassesAllBy, fault_of}
use Rattle.sj_run.specs.declared.sessions.Form.{Form}
use Rattle.sj_run.specs.declared.sessions.SessionFault.{SessionFault}
use Rattle.sj_run.specs.declared.sessions.SessionFault.TheVariants.{Refused, OutOfMemory as NoMemory}
use Rattle.sj_run.specs.declared.sessions.SessionFault.TheVariants as fault
use Rattle.sj_run.specs.declared.runs.Why.{Why}
use Rattle.sj_run.specs.declared.runs.Why.TheVariants as why
use Rattle.sj_text_core.specs.declared.error.ErrorKind.{ErrorKind}
use Rattle.sj_text_core.specs.declared.error.ErrorKind.TheVariants.{InvalidUtf8, Syntax, LoneSurrogate, Float, NumberTooLarge, TooDeep, OutOfMemory}
use Rattle.sj_commands.specs.Lines.{document, lines, after_mark, full_lines, line_text, line_texts}
use Rattle.sj_commands.proofs.LineLemmas.{LineAt}

pub answers-more : (t u v : Repeats × Tree) (line : List ℕ) (lines : List (List ℕ)) (old mid new : List ℕ)
    → AnswersLine t line u old mid → AnswersLines u lines v mid new → AnswersLines t (line ∷ lines) v old new
answers-more t u v line lines old mid new a b =
    let c = a.command in
    let cs = b.commands in
    record {
      commands = c ∷ cs;
      are = (a.is, b.are);
      after = b.after ∙ ap (λ x. part_after x cs) a.after;
      shows =
          b.shows ∙ ap (λ x. x ++ shown_all (replies_by u cs)) a.shows ∙ append_assoc old (shown (answer_by t c).1) (shown_all (replies_by u cs))
          ∙ ap (λ x. old ++ (shown (answer_by t c).1 ++ shown_all (replies_by x cs))) a.after
          ∙ ap (λ x. old ++ x) (sym (flat_map-cons shown (answer_by t c).1 (replies_by (answer_by t c).0 cs)));
    }

shown_length : (r : PlainReply) (rs : List PlainReply) → length (shown_all (r ∷ rs)) ≡ (length (reply_text r) + 1) + length (shown_all rs)
shown_length r rs = ap length (flat_map-cons shown r rs) ∙ length-append (shown r) (shown_all rs) ∙ ap (λ n. n + length (shown_all rs)) (length-append (reply_text r) (10 ∷ []))

-- where the first reply passes, all do
pub passes_first : (t : Repeats × Tree) (line : List ℕ) (lines : List (List ℕ)) (n : ℕ) → PassesLine t line n → PassesLines t (line ∷ lines) n
passes_first t line lines n h [] a = absurd a
passes_first t line lines n h (c ∷ cs) a = omega (arith, h c a.0, shown_length (answer_by t c).1 (replies_by (answer_by t c).0 cs))

passes_by : (t u : Repeats × Tree) (c : PlainCommand) (cs : List PlainCommand) (old mid : List ℕ) → u ≡ (answer_by t c).0 → mid ≡ old ++ shown (answer_by t c).1
    → 2 ^ 64 ≤ length mid + length (shown_all (replies_by u cs)) → 2 ^ 64 ≤ length old + length (shown_all (replies_by t (c ∷ cs)))
passes_by t u c cs old mid after shows h =
    let r = (answer_by t c).1 in
    omega (arith, h, ap length shows ∙ length-append old (shown r) ∙ ap (λ n. length old + n) (length-append (reply_text r) (10 ∷ [])), ap (λ x. length (shown_all (replies_by x cs))) after, shown_length r (replies_by (answer_by t c).0 cs))

-- where those behind an answered line pass, all do
pub passes_more : (t u : Repeats × Tree) (line : List ℕ) (lines : List (List ℕ)) (old mid : List ℕ) → AnswersLine t line u old mid → PassesLines u lines (length mid) → PassesLines t (line ∷ lines) (length old)
passes_more t u line lines old mid a h [] e = absurd e
passes_more t u line lines old mid a h (c ∷ cs) e =
    subst (λ (x : PlainCommand). 2 ^ 64 ≤ length old + length (shown_all (replies_by t (x ∷ cs)))) (sym (a.only c e.0)) (passes_by t u a.command cs old mid a.after a.shows (h cs e.1))

-- the texts of lines, by whether the first has one
texts-first : (l : List ℕ) (ls : List (List ℕ)) (m : List ℕ) → line_text l ≡ m → line_texts (l ∷ ls) ≡ (if not (is_empty m) then m ∷ line_texts ls else line_texts ls)
texts-first l ls m e = ap (λ x. if not (is_empty x) then x ∷ line_texts ls else line_texts ls) e

full : (m : List ℕ) (ls : List (List ℕ)) → 0 < length m → (if not (is_empty m) then m ∷ ls else ls) ≡ m ∷ ls
full [] ls h = absurd (omega (arith, h))
full (c ∷ m) ls h = refl

-- the line at a place, and its text
pub record TextAt (b : List ℕ) (at len n : ℕ) : Type 0 where
  pub line : LineAt b at len
  pub within : n ≤ len
  pub text : take n (take len (drop at b)) ≡ line_text (take len (drop at b))

rest_of : (b : List ℕ) (at len n : ℕ) → TextAt b at len n → line_texts (full_lines (drop at b)) ≡ line_texts (take len (drop at b) ∷ full_lines (drop (at + len) b))
rest_of b at len n h = ap (λ ls. line_texts ls) (h.line.first ∙ ap (λ r. take len (drop at b) ∷ full_lines r) (drop-drop len at b))

pub text-none : (b : List ℕ) (at len : ℕ) → TextAt b at len 0 → line_texts (full_lines (drop at b)) ≡ line_texts (full_lines (drop (at + len) b))
text-none b at len h = rest_of b at len 0 h ∙ texts-first (take len (drop at b)) (full_lines (drop (at + len) b)) [] (sym h.text)

pub text-some : (b : List ℕ) (at len n : ℕ) → 0 < n → TextAt b at len n → line_texts (full_lines (drop at b)) ≡ take n (drop at b) ∷ line_texts (full_lines (drop (at + len) b))
text-some b at len n some h =
    let t = take n (drop at b) in
    let is : line_text (take len (drop at b)) ≡ t = sym h.text ∙ take-take n len (drop at b) h.within in
    rest_of b at len n h ∙ texts-first (take len (drop at b)) (full_lines (drop (at + len) b)) t is
    ∙ full t (line_texts (full_lines (drop (at + len) b))) (omega (arith, length-take-le n (drop at b) (omega (arith, h.within, h.line.within))))

-- as the code finds a line's text
pub text_at : (b : List ℕ) (at len n : ℕ) → LineAt b at len → n ≤ length (slice_range b at (at + len)) → take n (slice_range b at (at + len)) ≡ line_text (slice_range b at (at + len)) → TextAt b at len n
text_at b at len n l h t =
    let k : (at + len) - at ≡ len = omega arith in
    record {
      line = l;
      within = omega (arith, subst (λ (m : ℕ). n ≤ length (take m (drop at b))) k h, length-take-le len (drop at b) l.within);
      text = subst (λ (m : ℕ). take n (take m (drop at b)) ≡ line_text (take m (drop at b))) k t;
    }

-- only what is ahead matters
pub text_ahead : (a b : List ℕ) (at len n : ℕ) → drop at a ≡ drop at b → TextAt a at len n → TextAt b at len n
text_ahead a b at len n e h =
    record {
      line = record {
        within = subst (λ (r : List ℕ). len ≤ length r) e h.line.within;
        first = subst (λ (r : List ℕ). full_lines r ≡ take len r ∷ full_lines (drop len r)) e h.line.first;
      };
      within = h.within;
      text = subst (λ (r : List ℕ). take n (take len r) ≡ line_text (take len r)) e h.text;
    }

-- what is answered behind a place is answered in all
abbrev pub Told : Repeats × Tree → List (List ℕ) → List ℕ → Repeats × Tree → List (List ℕ) → List ℕ → Type 0
Told s all old t ahead out = (u : Repeats × Tree) (new : List ℕ) → AnswersLines t ahead u out new → AnswersLines s all u old new

pub told-more : (s t v : Repeats × Tree) (all lines ahead : List (List ℕ)) (line old out mid : List ℕ) → Told s all old t ahead out → ahead ≡ line ∷ lines → AnswersLine t line v out mid → Told s all old v lines mid
told-more s t v all lines ahead line old out mid told e a =
    λ u new h. told u new (subst (λ (ls : List (List ℕ)). AnswersLines t ls u out new) (sym e) (answers-more t v u line lines out mid new a h))

pub told-passed : (s t : Repeats × Tree) (all lines ahead : List (List ℕ)) (old out : List ℕ) → Told s all old t ahead out → ahead ≡ lines → Told s all old t lines out
told-passed s t all lines ahead old out told e = λ u new h. told u new (subst (λ (ls : List (List ℕ)). AnswersLines t ls u out new) (sym e) h)

pub line_taken : (a b : List ℕ) (at n : ℕ) → drop at a ≡ drop at b → slice_range a at (at + n) ≡ take n (drop at b)
line_taken a b at n e = let k : (at + n) - at ≡ n = omega arith in ap (λ m. take m (drop at a)) k ∙ ap (λ r. take n r) e

-- a write to a line leaves what is behind it
pub behind_line : (a b line : List ℕ) (at n k : ℕ) → at ≤ length a → n ≤ k → length line ≡ (at + n) - at → drop at a ≡ drop at b → drop (at + k) (put_mid at ((at + n) - at) a line) ≡ drop (at + k) b
behind_line a b line at n k within h l e =
    drop-put_mid at ((at + n) - at) a line (at + k) (omega (arith, h)) within l ∙ sym (drop-drop k at a) ∙ ap (λ r. drop k r) e ∙ drop-drop k at b

pub part_length : (a : List ℕ) (at n : ℕ) → at + n ≤ length a → length (slice_range a at (at + n)) ≡ (at + n) - at
part_length a at n h = length-take-le ((at + n) - at) (drop at a) (omega (arith, h, length-drop at a))

pub written_length : (a : List ℕ) (at n : ℕ) (line : List ℕ) → at + n ≤ length a → length line ≡ length (slice_range a at (at + n)) → length (put_mid at ((at + n) - at) a line) ≡ length a
written_length a at n line h e =
    let k = (at + n) - at in
    let post = drop k (drop at a) in
    let same : length line ≡ k = e ∙ part_length a at n h in
    omega (arith, same, length-append (take at a) (line ++ post), length-append line post, length-take-le at a (omega (arith, h)), length-drop k (drop at a), length-drop at a)

pub refused_kind : {X : Type 0} (kind k : ErrorKind) (r : SessionFault) → (kind ≡ OutOfMemory → r ≡ NoMemory) → (kind ≢ OutOfMemory → r ≡ Refused kind)
    → ◌≡◌ {A = Result X SessionFault} (Err r) (Err (Refused k)) → (k ≢ OutOfMemory) × (kind ≢ OutOfMemory)
refused_kind OutOfMemory k r m n e = let f : r ≡ NoMemory = m refl in absurd (cc)
refused_kind InvalidUtf8 k r m n e = let f : r ≡ Refused InvalidUtf8 = n (λ x. cc) in (λ x. cc, λ x. cc)
refused_kind Syntax k r m n e = let f : r ≡ Refused Syntax = n (λ x. cc) in (λ x. cc, λ x. cc)
refused_kind LoneSurrogate k r m n e = let f : r ≡ Refused LoneSurrogate = n (λ x. cc) in (λ x. cc, λ x. cc)
refused_kind Float k r m n e = let f : r ≡ Refused Float = n (λ x. cc) in (λ x. cc, λ x. cc)
refused_kind NumberTooLarge k r m n e = let f : r ≡ Refused NumberTooLarge = n (λ x. cc) in (λ x. cc, λ x. cc)
refused_kind TooDeep k r m n e = let f : r ≡ Refused TooDeep = n (λ x. cc) in (λ x. cc, λ x. cc)

-- the same answers from what the tree is
pub answers_from : {ts : List (List ℕ)} {d e u : Repeats × Tree} {old new : List ℕ} → d ≡ e → AnswersLines d ts u old new → AnswersLines e ts u old new
answers_from {ts} {d} {e} {u} {old} {new} p h = subst (λ x. AnswersLines x ts u old new) p h

pub passes_from : (ts : List (List ℕ)) (n : ℕ) {d e : Repeats × Tree} → d ≡ e → PassesLines d ts n → PassesLines e ts n
passes_from ts n p h = subst (λ x. PassesLines x ts n) p h

-- a document that keeps one member of each key was read, and its lines were answered
pub kept_answers : (f : Form) (c : Repeats) (text lines old new : List ℕ) (u : Tree) (last : Repeats × Tree) → ((t : Tree) → start_by c f t ≡ (First, keep_by c t))
    → IsReadAs (keep_by c) text u → AnswersLines (First, u) (line_texts (full_lines lines)) last old new → AnswersText c f text lines old new
kept_answers f c text lines old new u last starts r a = record {
  tree = r.0;
  spelled = r.1;
  within = r.2;
  last = last;
  answers = answers_from (ap (λ (t : Tree). (First, t)) r.3 ∙ sym (starts r.0)) a;
}

-- the same, where the replies pass
pub kept_passes : (f : Form) (c : Repeats) (text lines : List ℕ) (n : ℕ) (u : Tree) → ((t : Tree) → start_by c f t ≡ (First, keep_by c t))
    → IsReadAs (keep_by c) text u → PassesLines (First, u) (line_texts (full_lines lines)) n → PassesText c f text lines n
kept_passes f c text lines n u starts r p = record {
  tree = r.0;
  spelled = r.1;
  within = r.2;
  passes = passes_from (line_texts (full_lines lines)) n (ap (λ (t : Tree). (First, t)) r.3 ∙ sym (starts r.0)) p;
}

-- a session that was answered
pub session_answered : (r : Repeats) (f : Form) (input part behind old new : List ℕ)
    → part ≡ document input → line_texts (full_lines behind) ≡ lines input → AnswersText r f part behind old new → (written : List ℕ) × (new ≡ old ++ written) × IsAnsweredBy r f input written
session_answered r f input part behind old new e lines_are a = (
  shown_all (replies_by (start_by r f a.tree) a.answers.commands),
  a.answers.shows,
  record {
    tree = a.tree;
    spelled = subst (λ (b : List ℕ). Spells b a.tree) e a.spelled;
    within = a.within;
    commands = a.answers.commands;
    lines_are = subst (λ (ls : List (List ℕ)). AreCommandsOf ls a.answers.commands) lines_are a.answers.are;
    replies = refl;
  },
)

-- the command lines, as the code cuts them
pub lines_behind : (input behind : List ℕ) (at next : ℕ) → at ≤ next → next ≤ length input → behind ≡ drop at input → full_lines (drop next input) ≡ after_mark (full_lines input)
    → line_texts (full_lines (take (length behind - (next - at)) (drop (next - at) behind))) ≡ lines input
lines_behind input behind at next h within e f =
    let k = next - at in
    let whole : take (length behind - k) (drop k behind) ≡ drop k behind = take_all (length behind - k) (drop k behind) (omega (arith, length-drop k behind)) in
    let there : drop k behind ≡ drop next input = ap (λ r. drop k r) e ∙ drop-drop k at input ∙ (let m : at + k ≡ next = omega (arith, h) in ap (λ m. drop m input) m) in
    ap (λ r. line_texts (full_lines r)) (whole ∙ there) ∙ ap (λ ls. line_texts ls) f

-- a session whose replies pass
pub session_passes : (r : Repeats) (f : Form) (input part behind : List ℕ) (n : ℕ)
    → part ≡ document input → line_texts (full_lines behind) ≡ lines input → PassesText r f part behind n → PassesAllBy r f input n
session_passes r f input part behind n e lines_are a = record {
  tree = a.tree;
  spelled = subst (λ (b : List ℕ). Spells b a.tree) e a.spelled;
  within = a.within;
  passes = λ cs are. a.passes cs (subst (λ (ls : List (List ℕ)). AreCommandsOf ls cs) (sym lines_are) are);
}

-- a session is too long where its answers are
pub why_too_long : (w : Why) → fault_of w ≡ fault.TooLong → w ≡ why.TooLong
why_too_long why.OutOfMemory e = cc
why_too_long why.TooLong e = refl
