-- Of which supervisor each report of a closed tree is, and what had been credited for it. (own)
use Rattle.std.specs.Prelude.{◌≡◌, ℕ, List, Option, Some, None, length, slice_get, sum_by}
use Rattle.otp_inbox.specs.declared.rule.Shares.{Shares}
use Rattle.otp_inbox.specs.Tokens.{SenderState, no_shares}
use Rattle.otp_bodies.specs.declared.letter.Message.{Message}
use Rattle.otp_run.specs.Lists.{AllAt}
use Rattle.otp_spec.specs.Supervisor.{Supervisor}
use Rattle.otp_bodies.specs.Orders.{starts_in}
use Rattle.otp_sup.specs.Facts.{KeepsRules, TableView}
use Rattle.otp_hand.specs.Sendings.{sent_to}
use Rattle.otp_close.specs.declared.report.report.TableReport.{TableReport}
use Rattle.otp_close.specs.Leavings.{IsLeft}

abbrev pub shares_in : Option (SenderState Message) → Shares
shares_in None = no_shares
shares_in (Some s) = s.shares

-- what the one of these senders that sends to this supervisor was credited with
abbrev pub shares_at : ℕ → List (SenderState Message) → Shares
shares_at place senders = shares_in (slice_get senders place)

abbrev pub starts_at : ℕ → List (SenderState Message) → ℕ
starts_at place senders = (shares_at place senders).starts

abbrev pub turns_at : ℕ → List (SenderState Message) → ℕ
turns_at place senders = (shares_at place senders).turns

-- what several lists of senders together were credited with: starts that this supervisor sent, and turns that it had
abbrev pub shares_to : ℕ → List (List (SenderState Message)) → Shares
shares_to place all = record { starts = sum_by (starts_at place) all; turns = sum_by (turns_at place) all }

-- the report of the supervisor with this inbox, to which these messages were sent, and for which so much was credited. It kept OTP's
-- rules until it was taken apart
pub record IsOfTable (plans : ℕ → Option Supervisor) (inbox : ℕ) (sent : List Message) (credited : Shares) (t : TableReport) : Type 0 where
  -- its table, as its last turn left it
  pub table : TableView
  pub own : table.taker.inbox ≡ inbox
  pub rules : KeepsRules plans table
  -- the core is its own, and so are the ends that it was told
  pub core : t.core ≡ table.office.core
  pub ends : t.ends_told.items ≡ table.ends_told
  -- so many orders it had still to send
  pub unsent_orders : t.unsent_orders ≡ length table.office.outbox
  -- so many starts are among these orders
  pub unsent : t.unsent ≡ length (starts_in table.office.outbox)
  -- what was sent to it is what it took, in its order, and what it left
  pub left : IsLeft sent table.taker.taken t.left.items
  -- what was credited for it is what it gave: a start for each that it sent, a turn for each event and each time that it found its
  -- inbox empty
  pub given : credited ≡ table.taker.given

-- each report is that of a supervisor of the tree, to which these senders sent, and which were credited for it
abbrev pub AreOfTables : (ℕ → Option Supervisor) → List (List (SenderState Message)) → List TableReport → Type 0
AreOfTables plans all tables = AllAt (λ k (t : TableReport). IsOfTable plans k (sent_to k all) (shares_to k all) t) tables
