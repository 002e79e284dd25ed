use Rattle.std.proofs.Common.{◌∙◌, arith}
use Rattle.otp_table.specs.declared.marks.Mark.{Mark}
use Rattle.otp_table.proofs.Keyed.{key_default}
use Rattle.otp_table.proofs.Rising.{none_under}
use Rattle.otp_table.proofs.marks.index_of.Goals.{else-first-marks-via-then-first-marks+else-marks-first, else-first-marks-via-else-first-marks}
use Rattle.otp_table.proofs.marks.index_of.Goals as goal

pub returns-then-marks-first : goal.returns-then-marks-first
returns-then-marks-first c =
    (c.if-first-marks.true, λ d. key_default (λ (m : Mark). m.key) c.args.marks.now c.first_from-first.result d _ c.if-first-marks.true ∙ c.if-marks-first.true)

pub returns-else-first-marks : goal.returns-else-first-marks
returns-else-first-marks c =
    let d : Mark = record { key = 0; place = 0 } in
    none_under c.args.key c.first_from-first.result c.args.marks.now d c.requires c.first_from-first.ensures.before c.first_from-first.ensures.after
    (elim c.else-first-marks.branch [
      | else-first-marks-via-then-first-marks+else-marks-first w ↦ λ _. w.if-marks-first.false
      | else-first-marks-via-else-first-marks w ↦ λ lt _. omega (arith, lt, w.if-first-marks.false)
    ])
