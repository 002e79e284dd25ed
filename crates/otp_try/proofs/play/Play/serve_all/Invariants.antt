use Rattle.otp_try.specs.Pages.{Wrote}
use Rattle.otp_try.proofs.play.Play.serve_all.Given as goal

abbrev pub invariant-loop : goal.invariant-loop
invariant-loop g l =
    Wrote l.fn.self.trial l.self.trial l.fn.self.page.items l.self.page.items (g.W.Output.seen l.fn.output).bytes (g.W.Output.seen l.output).bytes
