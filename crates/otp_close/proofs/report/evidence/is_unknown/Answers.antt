use Rattle.std.proofs.Common.{ℕ, None}
use Rattle.otp_core.specs.View.{stored_state}
use Rattle.otp_run.proofs.Places.{each_at}
use Rattle.otp_rules.specs.State.{State}
use Rattle.otp_close.specs.declared.report.report.TableReport.{TableReport}
use Rattle.otp_close.specs.Tellings.{Agrees, KnowsNone}
use Rattle.otp_close.proofs.report.evidence.is_unknown.Goals as goal

-- with an end without a reason a history agrees exactly if it knows of no opening under the number
knows_none : (n : ℕ) (s : State) → Agrees s n None → KnowsNone n s
knows_none n s a = record { not_open = a.not_open; no_end = a.ended }

agrees : (n : ℕ) (s : State) → KnowsNone n s → Agrees s n None
agrees n s k = record { not_open = k.not_open; ended = k.no_end }

pub returns : goal.returns
returns c =
    let n = c.args.number in
    let tables = c.args.tables.now in (
      λ yes. each_at (λ _ (t : TableReport). Agrees (stored_state t.core) n None) (λ _ (t : TableReport). KnowsNone n (stored_state t.core)) tables (c.all_agree.ensures.0 yes) (λ _ t _ a. knows_none n (stored_state t.core) a),
      λ all. c.all_agree.ensures.1 (each_at (λ _ (t : TableReport). KnowsNone n (stored_state t.core)) (λ _ (t : TableReport). Agrees (stored_state t.core) n None) tables all (λ _ t _ k. agrees n (stored_state t.core) k)),
    )
