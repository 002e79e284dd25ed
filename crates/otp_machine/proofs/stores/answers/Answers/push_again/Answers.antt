use Rattle.std.proofs.Common.{rules, ◌≡◌, ◌+◌, ◌<◌, All, arith, ap, subst, sym, ◌∙◌, List, get_or, length, map}
use Rattle.std.proofs.lemmas.List.{length-map}
use Rattle.std.proofs.lemmas.List.Elements.{All-push}
use Rattle.otp_rules.specs.declared.call.Reply.{Reply}
use Rattle.otp_rules.specs.declared.call.Reply.TheVariants as reply
use Rattle.otp_rules.specs.Counts.{line_of, lines_in, lines_told, which_of}
use Rattle.otp_machine.specs.declared.stores.answers.StoredAnswer.{StoredAnswer}
use Rattle.otp_machine.specs.AnswersInside.{answer_in}
use Rattle.otp_machine.proofs.Lines.{lines_again}
use Rattle.otp_machine.proofs.stores.answers.Answers.push_again.Goals as goal

pub invariant_of-self : goal.invariant_of-self
invariant_of-self c =
    let replies : List Reply = c.self.inside.replies.items in
    let told : List StoredAnswer = c.self.inside.told.items in
    let one : StoredAnswer = record { call = c.args.call; place = c.self.inside.children } in
    let same : get_or replies c.self.inside.children reply.Ok ≡ reply.Which (which_of c.args.rows.now) = search rules in
    let more : lines_told (map (answer_in replies) c.add_told-self-inside.new.told.items) ≡ lines_told (map (answer_in replies) told) + lines_in (answer_in replies one).reply =
    ap (λ (ts : List StoredAnswer). lines_told (map (answer_in replies) ts)) c.add_told-self-inside.ensures.items ∙ lines_again replies told one in
    let long : lines_in (answer_in replies one).reply ≡ length c.args.rows.now = ap lines_in same ∙ length-map c.args.rows.now line_of in
    let within : c.self.inside.children < length replies = search rules in
    let Placed : List StoredAnswer → Type 0 = λ ts. All (λ (t : StoredAnswer). t.place < length replies) ts in
    record {
      places = subst Placed (sym c.add_told-self-inside.ensures.items) (All-push (λ (t : StoredAnswer). t.place < length replies) told one c.self.invariant.places within);
      rising = search rules;
      lines = omega (arith, more, long, c.self.invariant.lines, c.saturating_add-self-inside.ensures);
      told = search rules;
      replies = search rules;
    }
