use Rattle.std.proofs.Common.{rules, ◌≡◌, ◌+◌, ◌<◌, All, arith, ap, length-append, subst, sym, ◌∙◌, ◌++◌, ◌∷◌, [], List, length, map}
use Rattle.std.proofs.lemmas.List.Elements.{All-push}
use Rattle.otp_rules.specs.declared.call.Reply.{Reply}
use Rattle.otp_machine.specs.declared.stores.answers.StoredAnswer.{StoredAnswer}
use Rattle.otp_machine.specs.AnswersInside.{answer_in}
use Rattle.otp_machine.specs.Kept.{Kept}
use Rattle.otp_rules.specs.Counts.{lines_in, lines_told}
use Rattle.otp_rules.specs.declared.call.Answered.{Answered}
use Rattle.otp_machine.proofs.Lines.{lines_on}
use Rattle.otp_machine.proofs.Replies.{pushed}
use Rattle.otp_machine.proofs.stores.answers.Answers.push.Goals as goal

pub returns-clause-answers : goal.returns-clause-answers
returns-clause-answers c =
    ap (λ (rs : List Reply). map (answer_in rs) c.add_told-self-inside.new.told.items) c.push_reserved.ensures.items
    ∙ ap (λ (ts : List StoredAnswer). map (answer_in (c.self.inside.replies.items ++ c.args.reply ∷ [])) ts) c.add_told-self-inside.ensures.items
    ∙ pushed c.self.inside.replies.items c.args.reply c.self.inside.told.items c.args.call (length c.as_slice-place.result.now)
    (ap (λ (rs : List Reply). length rs) c.as_slice-place.ensures.value) c.self.invariant.places
    ∙ ap (λ (k : Kept). k.answers ++ record { call = c.args.call; reply = c.args.reply } ∷ []) c.self.view_is

pub invariant_of-self : goal.invariant_of-self
invariant_of-self c =
    let answers : List Answered = map (answer_in c.self.inside.replies.items) c.self.inside.told.items in
    let longer : List Answered = map (answer_in c.push_reserved.new.self.items) c.add_told-self-inside.new.told.items in
    let one : Answered = record { call = c.args.call; reply = c.args.reply } in
    let more : longer ≡ answers ++ one ∷ [] = returns-clause-answers c ∙ sym (ap (λ (k : Kept). k.answers ++ one ∷ []) c.self.view_is) in
    let lines : lines_told longer ≡ lines_told answers + lines_in c.args.reply = ap (λ (xs : List Answered). lines_told xs) more ∙ lines_on answers one in
    let long : length c.push_reserved.new.self.items ≡ length c.self.inside.replies.items + 1 = ap (λ (rs : List Reply). length rs) c.push_reserved.ensures.items ∙ length-append c.self.inside.replies.items (c.args.reply ∷ []) in
    let here : length c.as_slice-place.result.now ≡ length c.self.inside.replies.items = ap (λ (rs : List Reply). length rs) c.as_slice-place.ensures.value in
    let Placed : List StoredAnswer → Type 0 = λ ts. All (λ (t : StoredAnswer). t.place < length c.push_reserved.new.self.items) ts in
    record {
      places = subst Placed (sym c.add_told-self-inside.ensures.items) (All-push (λ (t : StoredAnswer). t.place < length c.push_reserved.new.self.items) c.self.inside.told.items (record { call = c.args.call; place = length c.as_slice-place.result.now }) (λ k d b. omega (arith, long, c.self.invariant.places k d b)) (omega (arith, long, here)));
      rising = search rules;
      lines = omega (arith, lines, c.self.invariant.lines, c.lines_in.ensures, c.saturating_add-self-inside.ensures);
      told = search rules;
      replies = search rules;
    }
