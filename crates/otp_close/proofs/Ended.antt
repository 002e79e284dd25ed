-- End notes that senders sent, and processes that ended.
use Rattle.std.proofs.Common.{◌≡◌, ℕ, suc, ◌+◌, ◌<◌, List, [], ◌∷◌, ◌++◌, get_or, length, map, set, refl, sym, ap, ◌∙◌, arith}
use Rattle.std.specs.Prelude.{sum_by, Result, Ok, Err, OnOk}
use Rattle.std.proofs.lemmas.List.Sums.{sum_by-append, sum_by-cons, sum_by-set, sum_by_push}
use Rattle.otp_inbox.specs.Lists.{AsOften, together}
use Rattle.otp_inbox.specs.Tokens.{SenderState, all_sent}
use Rattle.otp_bodies.specs.Messages.{items_in}
use Rattle.otp_close.proofs.Come.{ends_said}
use Rattle.otp_bodies.specs.declared.letter.Message.{Message}
use Rattle.otp_run.specs.Gathers.{ended_of}
use Rattle.otp_run.specs.Lists.{AllAt}
use Rattle.otp_run.specs.Schedulers.{SchedulerState}
use Rattle.otp_hand.specs.Ended.{end_of, end_share, ends_sent, held_by}
use Rattle.otp_close.specs.Totals.{ends_of}
use Rattle.otp_close.specs.Leavings.{line_of}
use Rattle.otp_hand.specs.Sendings.{sent_at}
use Rattle.otp_close.specs.Partings.{ArePaired, hand_of, joined}
use Rattle.otp_close.specs.Settlings.{held_in, senders_in}
use Rattle.otp_close.specs.declared.parting.Rest.{Rest}
use Rattle.otp_close.specs.declared.report.report.TableReport.{TableReport}

-- what each of these senders sent is what the supervisor at its place took and left
pub told_each : (ss : List (SenderState Message)) (ts : List TableReport) → length ss ≡ length ts → AllAt (λ k t. AsOften (items_in (sent_at k ss)) (line_of t)) ts → ends_sent ss ≡ sum_by ends_of ts
told_each [] [] many often = refl
told_each [] (t ∷ ts) many often = absurd (omega (arith, many))
told_each (s ∷ ss) [] many often = absurd (omega (arith, many))
told_each (s ∷ ss) (t ∷ ts) many often =
    let sent = sum_by-cons end_share s ss in
    let told = sum_by-cons ends_of t ts in
    let same : end_share s ≡ ends_of t = sym (ends_said (all_sent s)) ∙ often 0 end_of in
    let rest = told_each ss ts (omega (arith, many)) (λ k. often (suc k)) in
    omega (arith, sent, told, same, rest)

-- all hands together

pub ended_together : {N J S : Type 0} (ss : List SchedulerState) (rs : List (Rest N J S)) → ArePaired ss rs → length ss ≡ length rs → sum_by ended_of ss ≡ sum_by ends_sent (map senders_in rs) + sum_by held_in rs
ended_together [] [] paired many = refl
ended_together [] (r ∷ rs) paired many = absurd (omega (arith, many))
ended_together (s ∷ ss) [] paired many = absurd paired
ended_together (s ∷ ss) (r ∷ rs) paired many =
    let ended = sum_by-cons ended_of s ss in
    let sent = sum_by-cons ends_sent r.senders (map senders_in rs) in
    let held = sum_by-cons held_in r rs in
    let one = paired.0.ended in
    let rest = ended_together ss rs paired.1 (omega (arith, many)) in
    omega (arith, ended, sent, held, one, rest)

-- what the rests had still to send is what the hands had
pub held_together : {N J S : Type 0} (ss : List SchedulerState) (rs : List (Rest N J S)) → ArePaired ss rs → length ss ≡ length rs → sum_by held_in rs ≡ sum_by held_by (joined ss rs)
held_together [] [] paired many = refl
held_together [] (r ∷ rs) paired many = absurd (omega (arith, many))
held_together (s ∷ ss) [] paired many = absurd paired
held_together (s ∷ ss) (r ∷ rs) paired many =
    let left = sum_by-cons held_in r rs in
    let had = sum_by-cons held_by (hand_of s r) (joined ss rs) in
    let rest = held_together ss rs paired.1 (omega (arith, many)) in
    omega (arith, left, had, rest)
