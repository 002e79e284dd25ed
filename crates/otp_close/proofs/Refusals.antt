-- What is told of a tree that was not taken apart, and of one that was.
use Rattle.std.proofs.Common.{◌≡◌, ℕ, List, subst, sym, ap, ◌∙◌}
use Rattle.std.specs.Prelude.{Option, Some, None, Result, Ok, Err, IfErr, IfSome, is_some}
use mathlib.Core.Bool.{true≢false}
use Rattle.otp_run.specs.Gathers.{IsAll}
use Rattle.otp_run.specs.Schedulers.{SchedulerState}
use Rattle.otp_close.specs.declared.closing.CloseFault.{CloseFault}
use Rattle.otp_close.specs.declared.closing.CloseFault.TheVariants as fault
use Rattle.otp_close.specs.declared.closing.Refusal.{Refusal}
use Rattle.otp_close.specs.declared.closing.Refusal.TheVariants as refusal
use Rattle.otp_close.specs.declared.closing.Intact.{Intact}
use Rattle.otp_close.specs.declared.report.report.Report.{Report}
use Rattle.otp_close.specs.Closes.{HaveBegun, IsIntact, IsMismatchOnly, IsMissingOnly, IsReached, IsRefusalOf, NoneMissing, all_senders, kept_in, report_in}
use Rattle.otp_close.specs.Closings.{IsReportFrom}
use Rattle.otp_close.specs.Gathers.{IsHandsRefused}
use Rattle.otp_hand.specs.Hands.{HandView, TreeClientView, SystemView}
use Rattle.otp_spec.specs.Supervisor.{Supervisor}

module _ {J S : Type 0} where
  -- what is known of as many supervisors and the same hands
  pub reached-by : (tables count : ℕ) (hands list : List (HandView J S)) (client : TreeClientView) → count ≡ tables → list ≡ hands → IsReached tables client (all_senders client hands) → IsReached count client (all_senders client list)
  reached-by tables count hands list client many same reached =
      let Hands : List (HandView J S) → Type 0 = λ l. IsReached tables client (all_senders client l) in
      let Tables : ℕ → Type 0 = λ n. IsReached n client (all_senders client list) in
      subst Tables (sym many) (subst Hands (sym same) reached)

module _ {N J S : Type 0} where
  -- where it was refused there is no report
  pub refused-report : (cause : Refusal) (shared : SystemView) (hands : List (HandView J S)) (client : TreeClientView) (r : CloseFault J S (Intact N J S)) (P : Report J S → Type 0) → IsRefusalOf cause shared hands client r → IfSome (report_in (Err r)) P
  refused-report refusal.OutOfMemory shared hands client (fault.OutOfMemory k) P refused = tt
  refused-report refusal.OutOfMemory shared hands client (fault.Missing k) P refused = tt
  refused-report refusal.OutOfMemory shared hands client (fault.Misplaced k d) P refused = tt
  refused-report refusal.OutOfMemory shared hands client (fault.Mismatch m report) P refused = absurd refused
  refused-report refusal.Missing shared hands client (fault.OutOfMemory k) P refused = tt
  refused-report refusal.Missing shared hands client (fault.Missing k) P refused = tt
  refused-report refusal.Missing shared hands client (fault.Misplaced k d) P refused = tt
  refused-report refusal.Missing shared hands client (fault.Mismatch m report) P refused = absurd refused
  refused-report (refusal.Misplaced e) shared hands client (fault.OutOfMemory k) P refused = tt
  refused-report (refusal.Misplaced e) shared hands client (fault.Missing k) P refused = tt
  refused-report (refusal.Misplaced e) shared hands client (fault.Misplaced k d) P refused = tt
  refused-report (refusal.Misplaced e) shared hands client (fault.Mismatch m report) P refused = absurd refused

  -- nor a mismatch
  pub refused-mismatch : (cause : Refusal) (shared : SystemView) (hands : List (HandView J S)) (client : TreeClientView) (r : CloseFault J S (Intact N J S)) → IsRefusalOf cause shared hands client r → IsMismatchOnly r
  refused-mismatch refusal.OutOfMemory shared hands client (fault.OutOfMemory k) refused = tt
  refused-mismatch refusal.OutOfMemory shared hands client (fault.Missing k) refused = tt
  refused-mismatch refusal.OutOfMemory shared hands client (fault.Misplaced k d) refused = tt
  refused-mismatch refusal.OutOfMemory shared hands client (fault.Mismatch m report) refused = absurd refused
  refused-mismatch refusal.Missing shared hands client (fault.OutOfMemory k) refused = tt
  refused-mismatch refusal.Missing shared hands client (fault.Missing k) refused = tt
  refused-mismatch refusal.Missing shared hands client (fault.Misplaced k d) refused = tt
  refused-mismatch refusal.Missing shared hands client (fault.Mismatch m report) refused = absurd refused
  refused-mismatch (refusal.Misplaced e) shared hands client (fault.OutOfMemory k) refused = tt
  refused-mismatch (refusal.Misplaced e) shared hands client (fault.Missing k) refused = tt
  refused-mismatch (refusal.Misplaced e) shared hands client (fault.Misplaced k d) refused = tt
  refused-mismatch (refusal.Misplaced e) shared hands client (fault.Mismatch m report) refused = absurd refused

  intact_as : (shared : SystemView) (back hands : List (HandView J S)) (client : TreeClientView) (k : Intact N J S) → back ≡ hands → IsIntact shared back client k → IsIntact shared hands client k
  intact_as shared back hands client k same was = record { shared_is = was.shared_is; hands_are = was.hands_are ∙ same; client_is = was.client_is }

  -- all comes back, as it was
  pub refused-back : (cause : Refusal) (shared : SystemView) (back hands : List (HandView J S)) (client : TreeClientView) (r : CloseFault J S (Intact N J S)) → back ≡ hands → IsRefusalOf cause shared back client r → IfSome (kept_in r) (IsIntact shared hands client)
  refused-back refusal.OutOfMemory shared back hands client (fault.OutOfMemory k) same refused = intact_as shared back hands client k same refused
  refused-back refusal.OutOfMemory shared back hands client (fault.Missing k) same refused = absurd refused
  refused-back refusal.OutOfMemory shared back hands client (fault.Misplaced k d) same refused = absurd refused
  refused-back refusal.OutOfMemory shared back hands client (fault.Mismatch m report) same refused = tt
  refused-back refusal.Missing shared back hands client (fault.OutOfMemory k) same refused = absurd refused
  refused-back refusal.Missing shared back hands client (fault.Missing k) same refused = intact_as shared back hands client k same refused
  refused-back refusal.Missing shared back hands client (fault.Misplaced k d) same refused = absurd refused
  refused-back refusal.Missing shared back hands client (fault.Mismatch m report) same refused = tt
  refused-back (refusal.Misplaced e) shared back hands client (fault.OutOfMemory k) same refused = absurd refused
  refused-back (refusal.Misplaced e) shared back hands client (fault.Missing k) same refused = absurd refused
  refused-back (refusal.Misplaced e) shared back hands client (fault.Misplaced k d) same refused = intact_as shared back hands client k same refused
  refused-back (refusal.Misplaced e) shared back hands client (fault.Mismatch m report) same refused = tt

  -- a part is said to be missing only where the schedulers aren't all
  pub refused-missing : (complete : Type 0) (schedulers : List SchedulerState) (cause : Refusal) (shared : SystemView) (hands : List (HandView J S)) (client : TreeClientView) (r : CloseFault J S (Intact N J S)) → (complete → IsAll schedulers) → IsHandsRefused schedulers cause → IsRefusalOf cause shared hands client r → IsMissingOnly complete r
  refused-missing complete schedulers refusal.OutOfMemory shared hands client (fault.OutOfMemory k) all why refused = tt
  refused-missing complete schedulers refusal.OutOfMemory shared hands client (fault.Missing k) all why refused = absurd refused
  refused-missing complete schedulers refusal.OutOfMemory shared hands client (fault.Misplaced k d) all why refused = tt
  refused-missing complete schedulers refusal.OutOfMemory shared hands client (fault.Mismatch m report) all why refused = tt
  refused-missing complete schedulers refusal.Missing shared hands client (fault.OutOfMemory k) all why refused = tt
  refused-missing complete schedulers refusal.Missing shared hands client (fault.Missing k) all why refused = λ whole. why (all whole)
  refused-missing complete schedulers refusal.Missing shared hands client (fault.Misplaced k d) all why refused = tt
  refused-missing complete schedulers refusal.Missing shared hands client (fault.Mismatch m report) all why refused = tt
  refused-missing complete schedulers (refusal.Misplaced e) shared hands client (fault.OutOfMemory k) all why refused = tt
  refused-missing complete schedulers (refusal.Misplaced e) shared hands client (fault.Missing k) all why refused = absurd refused
  refused-missing complete schedulers (refusal.Misplaced e) shared hands client (fault.Misplaced k d) all why refused = tt
  refused-missing complete schedulers (refusal.Misplaced e) shared hands client (fault.Mismatch m report) all why refused = tt

  -- a part is said to be missing where one is
  pub unreached-missing : (complete : Type 0) (shared : SystemView) (hands : List (HandView J S)) (client : TreeClientView) (r : CloseFault J S (Intact N J S)) → (complete → ⊥) → IsRefusalOf refusal.Missing shared hands client r → IsMissingOnly complete r
  unreached-missing complete shared hands client (fault.OutOfMemory k) isnt refused = tt
  unreached-missing complete shared hands client (fault.Missing k) isnt refused = isnt
  unreached-missing complete shared hands client (fault.Misplaced k d) isnt refused = tt
  unreached-missing complete shared hands client (fault.Mismatch m report) isnt refused = tt

module _ {J S : Type 0} where
  -- each supervisor of a report, if there is one, began by its plan
  pub begun_from : (plans : ℕ → Option Supervisor) (shared : SystemView) (hands : List (HandView J S)) (client : TreeClientView) (there : Option (Report J S))
      → IfSome there (IsReportFrom plans shared hands client) → IfSome there (λ report. HaveBegun plans report.tables.items)
  begun_from plans shared hands client (Some report) from = from.plans
  begun_from plans shared hands client None none = tt

module _ {J S K : Type 0} where
  -- of a tree that is whole no part is said to be missing
  pub none_missing : (complete : Type 0) (r : CloseFault J S K) → complete → IsMissingOnly complete r → NoneMissing r
  none_missing complete (fault.OutOfMemory k) whole only = tt
  none_missing complete (fault.Missing k) whole only = only whole
  none_missing complete (fault.Misplaced k d) whole only = tt
  none_missing complete (fault.Mismatch m report) whole only = tt

  -- where there is a report no part is said to be missing
  pub reported-missing : (complete : Type 0) (r : Result (Report J S) (CloseFault J S K)) (report : Report J S) → report_in r ≡ Some report → IfErr r (IsMissingOnly complete)
  reported-missing complete (Ok x) report is = tt
  reported-missing complete (Err (fault.OutOfMemory k)) report is = tt
  reported-missing complete (Err (fault.Missing k)) report is = absurd (true≢false (sym (ap is_some is)))
  reported-missing complete (Err (fault.Misplaced k d)) report is = tt
  reported-missing complete (Err (fault.Mismatch m found)) report is = tt

  -- and nothing comes back
  pub reported-back : (P : K → Type 0) (r : Result (Report J S) (CloseFault J S K)) (report : Report J S) → report_in r ≡ Some report → IfErr r (λ why. IfSome (kept_in why) P)
  reported-back P (Ok x) report is = tt
  reported-back P (Err (fault.OutOfMemory k)) report is = absurd (true≢false (sym (ap is_some is)))
  reported-back P (Err (fault.Missing k)) report is = absurd (true≢false (sym (ap is_some is)))
  reported-back P (Err (fault.Misplaced k d)) report is = absurd (true≢false (sym (ap is_some is)))
  reported-back P (Err (fault.Mismatch m found)) report is = tt
