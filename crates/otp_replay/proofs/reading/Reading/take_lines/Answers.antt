use Rattle.std.proofs.Common.{◌≡◌, ◌∙◌, List, Option, Ok, Err, ℕ, ap, sym, take}
use Rattle.std.proofs.lemmas.Result.{IfOk-weaker}
use Rattle.otp_sim.specs.Sim.{lines_of}
use Rattle.otp_replay.specs.Logs.{line_taken, lines_taken, outcome}
use Rattle.otp_replay.specs.declared.reading.LogFault.{LogFault}
use Rattle.otp_replay.proofs.Lines.{last_line, line_done, line_ended}
use Rattle.otp_replay.proofs.reading.Reading.take_lines.Goals as goal

pub returns-in-Some-2 : goal.returns-in-Some-2
returns-in-Some-2 c =
    let taken : line_taken (take c.in-Some.end c.loop-end.rest.now) c.loop-end.self ≡ Err c.in-Some-2.fault =
    c.in_ok-fault.ensures ∙ ap (λ (fault : Option LogFault). outcome fault c.take_line.new.self) c.in-Some-2.is in
    sym c.loop-end.invariant
    ∙ line_ended c.loop-end.rest.now c.in-Some.end c.loop-end.self c.in-Some-2.fault (sym c.line_end.ensures.found ∙ c.in-Some.is) taken

pub loop-end-preserved : goal.loop-end-preserved
loop-end-preserved c =
    let taken : line_taken (take c.in-Some.end c.loop-end.rest.now) c.loop-end.self ≡ Ok c.take_line.new.self =
    c.in_ok-fault.ensures ∙ ap (λ (fault : Option LogFault). outcome fault c.take_line.new.self) c.in_default-2.is in
    ap (λ (rest : List ℕ). lines_taken (lines_of rest) c.take_line.new.self) c.behind-rest.ensures.rest
    ∙ sym (line_done c.loop-end.rest.now c.in-Some.end c.loop-end.self c.take_line.new.self (sym c.line_end.ensures.found ∙ c.in-Some.is) taken)
    ∙ c.loop-end.invariant

pub returns : goal.returns
returns c =
    IfOk-weaker c.take_line-2.result (λ fault. line_taken c.loop-end.rest.now c.loop-end.self ≡ outcome fault c.take_line-2.new.self)
    (λ fault. lines_taken (lines_of c.args.text.now) c.args.self.now ≡ outcome fault c.take_line-2.new.self)
    (λ fault is. sym c.loop-end.invariant ∙ last_line c.loop-end.rest.now c.loop-end.self (sym c.line_end.ensures.found ∙ c.in_default.is) ∙ is)
    c.take_line-2.ensures
