use Rattle.std.proofs.Common.{ℕ, List, inl, subst}
use Rattle.otp_commands.specs.Pages.{IsPut}
use Rattle.otp_commands.proofs.pages.put_run.Goals as goal

pub returns : goal.returns
returns g c =
    let put =
    subst (λ (bytes : List ℕ). IsPut (g.F.TreeFiles.known c.args.files.now) c.args.page bytes c.in-Ok.run'.1 c.put.result (g.W.Output.seen c.args.output.now) (g.W.Output.seen c.put.new.output)) c.as_slice.ensures.value
    c.put.ensures
    in
    inl (c.in-Ok.run'.0.items, c.in-Ok.run'.1, ((c.in-Ok.ensures {u = tt}).page, (c.requires.may, put)))
