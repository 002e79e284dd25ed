-- Shares of what a supervisor did, with which whoever serves it is credited: turns and starts. (own)
use Rattle.std.specs.Prelude.{◌≡◌, ℕ, ◌+◌}
use Rattle.otp_inbox.specs.declared.rule.Shares.{Shares}
use Rattle.otp_inbox.specs.Tokens.{SenderState, TakerState, plus}

-- the share of one turn, and that of so many starts
abbrev pub one_turn : Shares
one_turn = record { starts = 0; turns = 1 }

abbrev pub starts_of : ℕ → Shares
starts_of n = record { starts = n; turns = 0 }

module _ {P : Type 0} where
  -- a sender that was credited with these shares, and a taker that gave them
  abbrev pub credited : Shares → SenderState P → SenderState P
  credited more s = record s { shares = plus s.shares more }

  abbrev pub gave : Shares → TakerState P → TakerState P
  gave more t = record t { given = plus t.given more }

-- as many starts were credited as there are more processes, and no turn
pub record HasStarted (processes later : ℕ) (old new : Shares) : Type 0 where
  pub starts : new.starts + processes ≡ old.starts + later
  pub turns : new.turns ≡ old.turns
