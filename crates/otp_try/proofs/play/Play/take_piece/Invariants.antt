use Rattle.otp_try.specs.Pages.{Wrote}
use Rattle.otp_try.proofs.play.Play.take_piece.Given as goal

abbrev pub invariant-loop-byte : goal.invariant-loop-byte
invariant-loop-byte g l =
    Wrote l.fn.self.trial l.self.trial l.fn.self.page.items l.self.page.items (g.W.Output.seen l.fn.output).bytes (g.W.Output.seen l.output).bytes
