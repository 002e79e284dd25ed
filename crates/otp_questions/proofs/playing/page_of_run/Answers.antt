use Rattle.std.proofs.Common.{◌++◌, ◌∙◌, ℕ, List, ap, sym, subst}
use Rattle.otp_try_pages.specs.Timeline.{TellsPage}
use Rattle.otp_questions.specs.Paged.{IsRunOf}
use Rattle.otp_questions.proofs.playing.page_of_run.Goals as goal

pub returns-in-Ok-clause-page : goal.returns-in-Ok-clause-page
returns-in-Ok-clause-page c =
    let account = c.in_ok-account.account in
    let run : IsRunOf c.args.file.now account = (c.in_ok-account.ensures {u = tt}).run in
    let told = (c.in-Ok.ensures {u = tt}).page in
    let text : List ℕ = told.0 in
    let tells = subst (λ (name : List ℕ). TellsPage name account text) c.as_bytes.ensures.value told.1.0 in
    let all = told.1.1 ∙ ap (λ (before : List ℕ). before ++ text) c.new-page.ensures.items in
    (account, ((run, c.end_of_try-ending.ensures), subst (λ (page : List ℕ). TellsPage c.args.name.now account page) (sym all) tells))
