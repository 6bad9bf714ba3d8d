-- Runs of commands.
use Rattle.std.proofs.Common.{◌≡◌, suc, List, [], ◌∷◌, ◌++◌, length, map, Err, inl, refl, sym, ap, ◌∙◌, append_assoc, subst}
use Rattle.std.specs.Prelude.{IsErrOf}
use Rattle.std.proofs.lemmas.List.{map-append}
use Rattle.sj_commands.specs.Commands.{PlainCommand, read, write, bad}
use Rattle.sj_run.specs.Replies.{PlainReply}
use Rattle.sj_text_core.specs.Tree.{Tree}
use Rattle.sj_text_core.specs.declared.repeats.Repeats.{Repeats}
use Rattle.sj_run.specs.Answers.{IsLong}
use Rattle.sj_run.specs.Repeats.{answer_by, replies_by, part_after}
use Rattle.sj_commands.specs.Meant.{command_meant}
use Rattle.sj_run.specs.Run.{Leaves, MayRefuse}
use Rattle.sj_commands.specs.declared.command.Command.{Command}
use Rattle.sj_run.specs.declared.reply.Reply.{Reply}
use Rattle.sj_run.specs.declared.runs.Why.{Why}
use Rattle.sj_run.specs.declared.runs.Why.TheVariants.{OutOfMemory, TooLong}

pub length-replies_by : (t : Repeats × Tree) (cs : List PlainCommand) → length (replies_by t cs) ≡ length cs
length-replies_by t [] = refl
length-replies_by t (c ∷ cs) = ap (λ n. suc n) (length-replies_by (answer_by t c).0 cs)

pub replies_by-append : (t : Repeats × Tree) (cs ds : List PlainCommand) → replies_by t (cs ++ ds) ≡ replies_by t cs ++ replies_by (part_after t cs) ds
replies_by-append t [] ds = refl
replies_by-append t (c ∷ cs) ds = ap (λ rs. (answer_by t c).1 ∷ rs) (replies_by-append (answer_by t c).0 cs ds)

pub part_after-append : (t : Repeats × Tree) (cs ds : List PlainCommand) → part_after t (cs ++ ds) ≡ part_after (part_after t cs) ds
part_after-append t [] ds = refl
part_after-append t (c ∷ cs) ds = part_after-append (answer_by t c).0 cs ds

-- a run goes on by one command
replies_last : (t : Repeats × Tree) (cs : List PlainCommand) (c : PlainCommand) → replies_by t (cs ++ c ∷ []) ≡ replies_by t cs ++ (answer_by (part_after t cs) c).1 ∷ []
replies_last t cs c = replies_by-append t cs (c ∷ [])

part_last : (t : Repeats × Tree) (cs : List PlainCommand) (c : PlainCommand) → part_after t (cs ++ c ∷ []) ≡ (answer_by (part_after t cs) c).0
part_last t cs c = part_after-append t cs (c ∷ [])

pub asked_apart : (all before rest : List Command) (c : Command) (left : List Command) → all ≡ before ++ left → left ≡ c ∷ rest → map command_meant all ≡ map command_meant before ++ command_meant c ∷ map command_meant rest
asked_apart all before rest c left e f = ap (map command_meant) (e ∙ ap (λ xs. before ++ xs) f) ∙ map-append command_meant before (c ∷ rest)

pub stays : (u : Repeats × Tree) (c : PlainCommand) (new : Repeats × Tree) → new ≡ u → Leaves u c new
stays u (read p r) new h = h
stays u (write p w) new h = inl h
stays u bad new h = h

pub told_last : (t : Repeats × Tree) (all before : List PlainReply) (asks : List Command) (c : Command) (r : PlainReply) → all ≡ before ++ r ∷ [] → before ≡ replies_by t (map command_meant asks)
    → r ≡ (answer_by (part_after t (map command_meant asks)) (command_meant c)).1 → all ≡ replies_by t (map command_meant (asks ++ c ∷ []))
told_last t all before asks c r e f h =
    e ∙ ap (λ x. x ++ r ∷ []) f ∙ ap (λ x. replies_by t (map command_meant asks) ++ x ∷ []) h
    ∙ sym (ap (replies_by t) (map-append command_meant asks (c ∷ [])) ∙ replies_last t (map command_meant asks) (command_meant c))

pub after_last : (t new : Repeats × Tree) (asks : List Command) (c : Command) → new ≡ (answer_by (part_after t (map command_meant asks)) (command_meant c)).0 → new ≡ part_after t (map command_meant (asks ++ c ∷ []))
after_last t new asks c e = e ∙ sym (ap (part_after t) (map-append command_meant asks (c ∷ [])) ∙ part_last t (map command_meant asks) (command_meant c))

pub all_last : (all before rest : List Command) (c : Command) (left : List Command) → all ≡ before ++ left → left ≡ c ∷ rest → all ≡ (before ++ c ∷ []) ++ rest
all_last all before rest c left e f = e ∙ ap (λ xs. before ++ xs) f ∙ sym (append_assoc before (c ∷ []) rest)

-- why a command was refused
may_by : (u : Repeats × Tree) (c : PlainCommand) (why : Why) → (IsErrOf {T = Reply} (Err why) TooLong → IsLong (answer_by u c).1) → MayRefuse u c why
may_by u c OutOfMemory h = tt
may_by u c TooLong h = h refl

pub may_refuse : (u v : Repeats × Tree) (c : PlainCommand) (why : Why) → u ≡ v → (IsErrOf {T = Reply} (Err why) TooLong → IsLong (answer_by u c).1) → MayRefuse v c why
may_refuse u v c why e h = subst (λ (x : Repeats × Tree). MayRefuse x c why) e (may_by u c why h)
