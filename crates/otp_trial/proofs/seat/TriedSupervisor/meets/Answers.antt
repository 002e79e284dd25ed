use Rattle.std.proofs.Common.{◌≡◌, ◌∙◌, Bool, List, Option, ap, rules, sym}
use Rattle.std.specs.List.{list_any}
use Rattle.otp_script.specs.declared.step.Expected.{Expected}
use Rattle.otp_table.specs.declared.row.Row.{Row}
use Rattle.otp_table.specs.declared.row.RowState.{RowState}
use Rattle.otp_trial.specs.Played.{end_of_ended, end_of_expected, end_of_up, starts_of, was_started}
use Rattle.otp_trial.specs.Starts.{is_start_of}
use Rattle.otp_trial.specs.Finding.{state_for}
use Rattle.otp_trial.specs.declared.story.starts.Started.{Started}
use Rattle.otp_trial.proofs.seat.TriedSupervisor.meets.Goals as goal

pub returns-in-Up : goal.returns-in-Up
unfolding end_of_expected was_started
returns-in-Up c =
    let kept : c.as_slice-starts.result.now ≡ starts_of c.args.self.now = c.as_slice-starts.ensures.value ∙ c.self.invariant.starts (search rules) ∙ ap starts_of c.self.view_is in
    let started : c.has_start.result ≡ was_started c.in-Up.child c.args.self.now = c.has_start.ensures ∙ ap (λ (starts : List Started). list_any (is_start_of c.in-Up.child) starts) kept in
    c.end_of_up.ensures
    ∙ ap (λ (b : Bool). end_of_up b c.state_for.result) started
    ∙ ap (λ (state : Option RowState). end_of_up (was_started c.in-Up.child c.args.self.now) state) (c.state_for.ensures ∙ ap (λ (rows : List Row). state_for c.in-Up.child rows) c.rows.ensures)
    ∙ ap (λ (x : Expected). end_of_expected x c.args.self.now) (sym c.in-Up.is)

pub returns-in-Ended : goal.returns-in-Ended
unfolding end_of_expected was_started
returns-in-Ended c =
    let kept : c.as_slice-starts.result.now ≡ starts_of c.args.self.now = c.as_slice-starts.ensures.value ∙ c.self.invariant.starts (search rules) ∙ ap starts_of c.self.view_is in
    let started : c.has_start-in-Ended.result ≡ was_started c.in-Ended.child c.args.self.now = c.has_start-in-Ended.ensures ∙ ap (λ (starts : List Started). list_any (is_start_of c.in-Ended.child) starts) kept in
    c.end_of_ended.ensures
    ∙ ap (λ (b : Bool). end_of_ended b c.state_for-in-Ended.result) started
    ∙ ap (λ (state : Option RowState). end_of_ended (was_started c.in-Ended.child c.args.self.now) state) (c.state_for-in-Ended.ensures ∙ ap (λ (rows : List Row). state_for c.in-Ended.child rows) c.rows-in-Ended.ensures)
    ∙ ap (λ (x : Expected). end_of_expected x c.args.self.now) (sym c.in-Ended.is)
