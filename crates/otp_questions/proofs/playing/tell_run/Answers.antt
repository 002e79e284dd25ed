use Rattle.std.proofs.Common.{◌++◌, ◌∙◌, ℕ, List, ap, inl, subst}
use Rattle.std.specs.Io.KnownBytes.{Appends}
use Rattle.otp_try_pages.specs.Objects.{TellsRun}
use Rattle.otp_questions.specs.Paged.{IsRunOf}
use Rattle.otp_questions.proofs.playing.tell_run.Goals as goal

pub returns-in-Ok-write_all : goal.returns-in-Ok-write_all
returns-in-Ok-write_all g c =
    let account = c.in-Ok.account in
    let run : IsRunOf c.args.file.now account = (c.in-Ok.ensures {u = tt}).run in
    let told = (c.in-Ok-told.ensures {u = tt}).told in
    let text : List ℕ = told.0 in
    let tells = subst (λ (name : List ℕ). TellsRun name account text) c.as_bytes.ensures.value told.1.0 in
    let all = c.as_slice.ensures.value ∙ told.1.1 ∙ ap (λ (before : List ℕ). before ++ text) c.new-text.ensures.items in
    let written =
    subst (λ (bytes : List ℕ). Appends (g.W.Output.seen c.args.output.now).bytes (g.W.Output.seen c.write_all.new.output).bytes bytes) all
    (c.in-Ok-write_all.ensures {u = tt}).ok
    in
    inl (text, ((account, ((run, c.end_of_try-ending.ensures), tells)), written))
