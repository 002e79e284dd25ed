-- A log that was replayed by what stands for it was replayed as what it is.
use Rattle.std.proofs.Common.{ℕ, Bool, List, Option, Some, None, subst, sym}
use Rattle.std.specs.Borrow.{Bor}
use Rattle.otp_sim.specs.Devices.{Written}
use Rattle.otp_exit.specs.declared.ending.ProgramEnd.{ProgramEnd}
use Rattle.otp_logs.specs.Translated.{IsTranslated}
use Rattle.otp_logs.specs.Formats.{log_format}
use Rattle.otp_logs.specs.declared.format.Format.{Format}
use Rattle.otp_logs.specs.declared.translating.Translation.{Translation}
use Rattle.otp_commands.specs.Used.{IsReplayAs, IsReplayBy}

pub is_replay_as : (found : Option Translation) (is_json : Bool) (log : Bor (List ℕ)) (text : List ℕ) (is_listed : Bool) (name : List ℕ) (ending : ProgramEnd)
    (file : List ℕ) (old new : Written) → IsTranslated log.now text found → IsReplayBy found is_json log text is_listed name ending file old new
    → IsReplayAs (log_format text) is_json log text is_listed name ending file old new
is_replay_as None is_json log text is_listed name ending file old new is replay =
    subst (λ (format : Option Format). IsReplayAs format is_json log text is_listed name ending file old new) (sym is) replay
is_replay_as (Some found) is_json log text is_listed name ending file old new is replay =
    subst (λ (format : Option Format). IsReplayAs format is_json log text is_listed name ending file old new) (sym is.0)
    (found.lines.items, (is.1.0, (found.notes.items, (is.1.1, replay))))
