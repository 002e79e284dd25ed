use Rattle.std.proofs.Common.{◌≡◌, ◌∷◌, ap, map, length, refl, rules, sym, ◌∙◌, subst}
use Rattle.std.specs.Prelude.{IfSome, IsTrue}
use Rattle.otp_close.specs.declared.closing.Refusal.TheVariants as refusal
use Rattle.otp_run.specs.Gathers.{IsLiveTotal}
use Rattle.otp_run.specs.Rule.{ticket_of}
use Rattle.otp_close.specs.Totals.{HasHeard}
use Rattle.otp_close.specs.Closes.{HasBegun, HasTold, IsComplete, IsIntact, all_senders, kept_in}
use Rattle.otp_close.specs.Closings.{IsReportFrom}
use Rattle.otp_close.specs.Leavings.{AreAccounted, AreInOrder, HasCome, HasUnsent, HaveCome, IsLast, IsLastInOrder, line_of, lists_to}
use Rattle.otp_bodies.specs.Messages.{items_in}
use Rattle.otp_hand.specs.Hands.{SystemView}
use Rattle.otp_hand.specs.Sendings.{sent_to}
use Rattle.otp_inbox.specs.Lists.{AsOften, EachInOrder}
use Rattle.otp_sup.specs.Plans.{IsBegunBy}
use Rattle.otp_close.specs.Partings.{schedulers_of}
use Rattle.otp_close.specs.Tables.{AreOfTables, IsOfTable, shares_to}
use Rattle.otp_close.proofs.SparePlaces.{first_all, first_apart, first_at, first_ends, first_planned, first_starts}
use Rattle.otp_close.proofs.Refusals.{refused-report, refused-mismatch, refused-back, refused-missing, reached-by, unreached-missing, reported-missing, reported-back}
use Rattle.otp_close.proofs.closing.close.Goals as goal

pub returns-in-Ok-gather_hands-clause-report : goal.returns-in-Ok-gather_hands-clause-report
returns-in-Ok-gather_hands-clause-report g c =
    let plans = g.N.PlanNaming.plan in
    let known = c.args.known in
    let client = c.args.client in
    let waiter = client.waiter in
    let hands = c.args.hands.items in
    let all = all_senders client hands in
    let found : IsTrue c.is_reached.result = search rules in
    let reached = reached-by _ _ _ _ _ (sym c.tables.ensures) (sym c.as_slice.ensures.value) (c.is_reached.ensures.0 found) in
    let supervisors = length c.in-Ok.loose.sups.items in
    let places : supervisors ≡ c.args.shared.tables = sym (ap (λ (v : SystemView). v.tables) (c.in-Ok.ensures {u = tt}).shared) in
    let gathered = c.in-Ok-gather_hands.gathered in
    let e = c.in-Ok-gather_hands.ensures {u = tt} in
    let whole = c.report_of-report.result in
    let made = c.report_of-report.ensures in
    let report = c.without_spares.result in
    let kept = c.without_spares.ensures in
    let reports = whole.tables.items in
    let first = report.tables.items in
    let from : IsReportFrom plans c.args.shared hands client report = record {
      complete = (e.all, reached);
      count = first_planned plans known c.args.shared.tables reports first c.requires kept.tables (made.count ∙ places);
      live = subst (λ n. IsLiveTotal (schedulers_of hands) n (map ticket_of report.processes.items)) (sym (kept.live ∙ made.live))
          (subst (λ l. IsLiveTotal (schedulers_of hands) gathered.total.live (map ticket_of l.items)) (sym (kept.processes ∙ made.processes)) e.total);
      begun = kept.begun ∙ made.begun ∙ e.begun;
      ended = kept.ended ∙ made.ended ∙ e.ended;
      starts = first_starts known whole report kept.tables kept.begun made.starts;
      ends = first_ends known whole report kept.tables kept.ended kept.last kept.heard kept.held made.ends;
      heard = subst (HasHeard waiter) (sym kept.heard) made.heard;
      held = kept.held ∙ made.held ∙ e.held;
      plans = first_at (λ k t. IsBegunBy (plans k) t.core.base) known reports first kept.tables made.plans;
      begins = first_all HasBegun known reports first kept.tables made.begins;
      shown = first_all HasTold known reports first kept.tables made.shown;
      apart = first_apart known reports first kept.tables made.apart;
      left = first_at (λ k t. AsOften (items_in (sent_to k all)) (line_of t)) known reports first kept.tables
          (subst (λ l. AreAccounted (client.senders ∷ l) reports) e.senders made.left);
      last = subst (λ l. IsLast c.args.shared.tables all waiter l.items) (sym kept.last)
          (subst (λ n. IsLast n all waiter whole.last.items) places (subst (λ l. IsLast supervisors (client.senders ∷ l) waiter whole.last.items) e.senders made.last));
      come = first_at (λ k t. HasCome (sent_to k all) t) known reports first kept.tables (subst (λ l. HaveCome (client.senders ∷ l) reports) e.senders made.come);
      order = first_at (λ k t. EachInOrder (map items_in (lists_to k all)) (line_of t)) known reports first kept.tables
          (subst (λ l. AreInOrder (client.senders ∷ l) reports) e.senders made.order);
      last_order = subst (λ l. IsLastInOrder c.args.shared.tables all waiter l.items) (sym kept.last)
          (subst (λ n. IsLastInOrder n all waiter whole.last.items) places (subst (λ l. IsLastInOrder supervisors (client.senders ∷ l) waiter whole.last.items) e.senders made.last_order));
      unsent = first_all HasUnsent known reports first kept.tables made.unsent;
      tables = first_at (λ k t. IsOfTable plans k (sent_to k all) (shares_to k all) t) known reports first kept.tables
          (subst (λ l. AreOfTables plans (client.senders ∷ l) reports) e.senders made.tables);
    } in
    subst (λ o. IfSome o (IsReportFrom plans c.args.shared hands client)) (sym c.judge.ensures.report) from

pub returns-in-Ok-gather_hands-clause-missing : goal.returns-in-Ok-gather_hands-clause-missing
returns-in-Ok-gather_hands-clause-missing g c = reported-missing (IsComplete c.args.shared c.args.hands.items c.args.client) c.judge.result c.without_spares.result c.judge.ensures.report

pub returns-in-Ok-gather_hands-clause-back : goal.returns-in-Ok-gather_hands-clause-back
returns-in-Ok-gather_hands-clause-back g c = reported-back (IsIntact c.args.shared c.args.hands.items c.args.client) c.judge.result c.without_spares.result c.judge.ensures.report

pub returns-in-Err-clause-report : goal.returns-in-Err-clause-report
returns-in-Err-clause-report g c = refused-report c.in-Err.field-0.cause c.in-Err.field-0.shared c.args.hands.items c.args.client c.refuse-in-Err.result (IsReportFrom g.N.PlanNaming.plan c.args.shared c.args.hands.items c.args.client) c.refuse-in-Err.ensures

pub returns-in-Err-clause-mismatch : goal.returns-in-Err-clause-mismatch
returns-in-Err-clause-mismatch g c = refused-mismatch c.in-Err.field-0.cause c.in-Err.field-0.shared c.args.hands.items c.args.client c.refuse-in-Err.result c.refuse-in-Err.ensures

pub returns-in-Err-clause-missing : goal.returns-in-Err-clause-missing
returns-in-Err-clause-missing g c =
    let e = c.in-Err.ensures {u = tt} in
    refused-missing (IsComplete c.args.shared c.args.hands.items c.args.client) (schedulers_of c.args.hands.items) c.in-Err.field-0.cause c.in-Err.field-0.shared c.args.hands.items c.args.client c.refuse-in-Err.result (λ whole. whole.0) (e.cause (schedulers_of c.args.hands.items)) c.refuse-in-Err.ensures

pub returns-in-Err-clause-back : goal.returns-in-Err-clause-back
returns-in-Err-clause-back g c =
    let e = c.in-Err.ensures {u = tt} in
    subst (λ s. IfSome (kept_in c.refuse-in-Err.result) (IsIntact s c.args.hands.items c.args.client)) e.same
    (refused-back c.in-Err.field-0.cause c.in-Err.field-0.shared c.args.hands.items c.args.hands.items c.args.client c.refuse-in-Err.result refl c.refuse-in-Err.ensures)

pub returns-in-Err-gather_hands-clause-report : goal.returns-in-Err-gather_hands-clause-report
returns-in-Err-gather_hands-clause-report g c = refused-report c.in-Err-gather_hands.field-0.cause c.lock.result c.in-Err-gather_hands.field-0.hands.items c.args.client c.refuse-in-Err-gather_hands.result (IsReportFrom g.N.PlanNaming.plan c.args.shared c.args.hands.items c.args.client) c.refuse-in-Err-gather_hands.ensures

pub returns-in-Err-gather_hands-clause-mismatch : goal.returns-in-Err-gather_hands-clause-mismatch
returns-in-Err-gather_hands-clause-mismatch g c = refused-mismatch c.in-Err-gather_hands.field-0.cause c.lock.result c.in-Err-gather_hands.field-0.hands.items c.args.client c.refuse-in-Err-gather_hands.result c.refuse-in-Err-gather_hands.ensures

pub returns-in-Err-gather_hands-clause-missing : goal.returns-in-Err-gather_hands-clause-missing
returns-in-Err-gather_hands-clause-missing g c =
    let e = c.in-Err-gather_hands.ensures {u = tt} in
    refused-missing (IsComplete c.args.shared c.args.hands.items c.args.client) (schedulers_of c.args.hands.items) c.in-Err-gather_hands.field-0.cause c.lock.result c.in-Err-gather_hands.field-0.hands.items c.args.client c.refuse-in-Err-gather_hands.result (λ whole. whole.0) e.missing c.refuse-in-Err-gather_hands.ensures

pub returns-in-Err-gather_hands-clause-back : goal.returns-in-Err-gather_hands-clause-back
returns-in-Err-gather_hands-clause-back g c =
    let e = c.in-Err-gather_hands.ensures {u = tt} in
    subst (λ s. IfSome (kept_in c.refuse-in-Err-gather_hands.result) (IsIntact s c.args.hands.items c.args.client)) (c.lock.ensures ∙ sym (c.in-Ok.ensures {u = tt}).shared)
    (refused-back c.in-Err-gather_hands.field-0.cause c.lock.result c.in-Err-gather_hands.field-0.hands.items c.args.hands.items c.args.client c.refuse-in-Err-gather_hands.result e.refused c.refuse-in-Err-gather_hands.ensures)

pub returns-then-not-is_reached-clause-report : goal.returns-then-not-is_reached-clause-report
returns-then-not-is_reached-clause-report g c = refused-report refusal.Missing c.args.shared c.args.hands.items c.args.client c.refuse.result (IsReportFrom g.N.PlanNaming.plan c.args.shared c.args.hands.items c.args.client) c.refuse.ensures

pub returns-then-not-is_reached-clause-mismatch : goal.returns-then-not-is_reached-clause-mismatch
returns-then-not-is_reached-clause-mismatch g c = refused-mismatch refusal.Missing c.args.shared c.args.hands.items c.args.client c.refuse.result c.refuse.ensures

pub returns-then-not-is_reached-clause-missing : goal.returns-then-not-is_reached-clause-missing
returns-then-not-is_reached-clause-missing g c =
    let unreached : IsTrue c.is_reached.result → ⊥ = λ found. search (rules, found) in
    unreached-missing (IsComplete c.args.shared c.args.hands.items c.args.client) c.args.shared c.args.hands.items c.args.client c.refuse.result (λ whole. unreached (c.is_reached.ensures.1 (reached-by _ _ _ _ _ c.tables.ensures c.as_slice.ensures.value whole.1))) c.refuse.ensures

pub returns-then-not-is_reached-clause-back : goal.returns-then-not-is_reached-clause-back
returns-then-not-is_reached-clause-back g c = refused-back refusal.Missing c.args.shared c.args.hands.items c.args.hands.items c.args.client c.refuse.result refl c.refuse.ensures
