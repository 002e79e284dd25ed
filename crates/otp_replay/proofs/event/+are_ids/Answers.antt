use Rattle.std.proofs.Common.{◌≡◌, ◌+◌, ◌&&◌, ◌∙◌, Bool, true, false, List, ℕ, ap, drop, sym, take}
use Rattle.std.specs.List.{list_all}
use Rattle.otp_replay.specs.Events.{ids_of, is_id}
use Rattle.otp_replay.proofs.Lines.{last_id, next_id}
use Rattle.otp_replay.proofs.event.+are_ids.Goals as goal

pub returns-in-None : goal.returns-in-None
returns-in-None t c = c.is_id.ensures ∙ sym (last_id c.args.word.now (sym c.first_slash.ensures.place ∙ c.in-None.is))

pub returns-then-is_id : goal.returns-then-is_id
returns-then-is_id t c =
    let first : is_id (take c.in-Some.place c.args.word.now) ≡ true = sym c.is_id-in-Some.ensures ∙ c.if-is_id.true in
    let all : list_all is_id (ids_of c.args.word.now) ≡ list_all is_id (ids_of (drop (c.in-Some.place + 1) c.args.word.now)) =
    next_id c.args.word.now c.in-Some.place (sym c.first_slash.ensures.place ∙ c.in-Some.is)
    ∙ ap (λ (b : Bool). b && list_all is_id (ids_of (drop (c.in-Some.place + 1) c.args.word.now))) first in
    c.are_ids.ensures ∙ ap (λ (rest : List ℕ). list_all is_id (ids_of rest)) c.behind.ensures.rest ∙ sym all

pub returns-else-is_id : goal.returns-else-is_id
returns-else-is_id t c =
    let first : is_id (take c.in-Some.place c.args.word.now) ≡ false = sym c.is_id-in-Some.ensures ∙ c.if-is_id.false in
    let none : list_all is_id (ids_of c.args.word.now) ≡ false =
    next_id c.args.word.now c.in-Some.place (sym c.first_slash.ensures.place ∙ c.in-Some.is)
    ∙ ap (λ (b : Bool). b && list_all is_id (ids_of (drop (c.in-Some.place + 1) c.args.word.now))) first in
    c.if-is_id.false ∙ sym none
