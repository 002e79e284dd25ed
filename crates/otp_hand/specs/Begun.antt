-- How many processes began in a hand, and how many starts were credited to its senders. (own)
use Rattle.std.specs.Prelude.{◌≡◌, ℕ, ◌+◌, List, zero, suc, sum_by}
use Rattle.otp_inbox.specs.Tokens.{SenderState}
use Rattle.otp_bodies.specs.declared.letter.Message.{Message}
use Rattle.otp_run.specs.Schedulers.{SchedulerState}

-- the root's process begins at the first scheduler
abbrev pub root_at : ℕ → ℕ
root_at zero = 1
root_at (suc _) = 0

abbrev pub start_share : SenderState Message → ℕ
start_share s = s.shares.starts

-- the starts that were credited to these senders
abbrev pub starts_credited : List (SenderState Message) → ℕ
starts_credited senders = sum_by start_share senders

-- as many processes began at the scheduler as starts were credited to the senders, and the root's at the first
abbrev pub HasCredited : SchedulerState → List (SenderState Message) → Type 0
HasCredited s senders = s.begun ≡ root_at s.own.index + starts_credited senders

-- no process began meanwhile, and the scheduler has its place among as many
abbrev pub NoneBegan : SchedulerState → SchedulerState → Type 0
NoneBegan old new = (new.begun ≡ old.begun) × (new.own.index ≡ old.own.index) × (new.count ≡ old.count)
