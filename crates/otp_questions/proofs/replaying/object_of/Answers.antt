use Rattle.std.proofs.Common.{◌++◌, ◌∙◌, ℕ, List, ap, sym, subst}
use Rattle.otp_try_pages.specs.Replayed.{TellsReplay}
use Rattle.otp_questions.proofs.replaying.object_of.Goals as goal

pub returns-in-Ok-told-clause-object : goal.returns-in-Ok-told-clause-object
returns-in-Ok-told-clause-object c =
    let read = c.in-Ok.played.0 in
    let account = c.in-Ok.played.1 in
    let told = (c.in-Ok-told.ensures {u = tt}).told in
    let text : List ℕ = told.0 in
    let named = subst (λ (name : List ℕ). TellsReplay name c.as_bytes-2.result.now c.args.notes.now c.args.is_listed read account text) c.as_bytes.ensures.value told.1.0 in
    let tells = subst (λ (log : List ℕ). TellsReplay c.args.name.now log c.args.notes.now c.args.is_listed read account text) c.as_bytes-2.ensures.value named in
    let all = told.1.1 ∙ ap (λ (before : List ℕ). before ++ text) c.new-text.ensures.items in (
      read,
      account,
      (
        (c.in-Ok.ensures {u = tt}).played,
        (
          c.end_of_try-ending.ensures,
          subst (λ (object : List ℕ). TellsReplay c.args.name.now c.args.log.name.now c.args.notes.now c.args.is_listed read account object) (sym all) tells,
        ),
      ),
    )
