-- A supervisor ends: the reason, what shows why, and what becomes of what waits.
use Rattle.std.specs.Prelude.{ℕ, ◌++◌, List, None, Option, Some, [], codes}
use Rattle.otp_reason.specs.declared.name.Name.{Name}
use Rattle.otp_reason.specs.Names.{name_bytes}
use Rattle.otp_rules.specs.declared.call.Reply.TheVariants as reply
use Rattle.otp_rules.specs.State.{Outcome, closed, emit, own_number, with_end, with_phase, with_rows}
use Rattle.otp_reason.specs.declared.reason.Reason.{Reason}
use Rattle.otp_rules.specs.declared.ending.Ending.TheVariants.{Asked, InitFailed, Intensity, Significant}
use Rattle.otp_rules.specs.declared.event.Item.TheVariants as item
use Rattle.otp_rules.specs.declared.event.Waiting.TheVariants as waiting
use Rattle.otp_rules.specs.declared.event.Effect.{Effect}
use Rattle.otp_rules.specs.declared.event.Effect.TheVariants as effect
use Rattle.otp_reason.specs.declared.reason.Reason.TheVariants as reason
use Rattle.otp_reason.specs.Texts.{text_of}
use Rattle.otp_window.specs.Kept.{kept_of}
use Rattle.otp_spec.specs.declared.flags.SupFlags.{SupFlags}
use Rattle.otp_rules.specs.declared.ending.Ending.{Ending}
use Rattle.otp_rules.specs.declared.ending.Cause.{Cause}
use Rattle.otp_rules.specs.declared.ending.Cause.TheVariants as cause
use Rattle.otp_rules.specs.declared.ending.SupEnd.{SupEnd}
use Rattle.std.specs.List.{filter_map}
use Rattle.otp_rules.specs.declared.event.Waiting.{Waiting}
use Rattle.otp_rules.specs.declared.work.Phase.TheVariants.{Ended}
use Rattle.otp_rules.specs.declared.call.Answered.{Answered}

-- a child that didn't start at the opening (the text is this project's own)
abbrev pub init_failed : Name → Reason
init_failed id = reason.ShutdownWith (text_of (codes "failed_to_start_child/" ++ name_bytes id))

-- the reason that the parent sees (Supervisor Behaviour, Maximum Restart Intensity and Automatic Shutdown)
abbrev pub reason_of : Ending → Reason
reason_of (InitFailed id) = init_failed id
reason_of _ = reason.Shutdown

-- the last restarts, one more than the intensity
abbrev pub last_stamps : ℕ → List ℕ → List ℕ
last_stamps intensity stamps = kept_of intensity stamps

abbrev pub cause_of : SupFlags → List ℕ → Ending → Cause
cause_of flags stamps Intensity = cause.Intensity flags (last_stamps flags.intensity stamps)
cause_of flags stamps (Significant p) = cause.Significant p
cause_of flags stamps Asked = cause.Asked
cause_of flags stamps (InitFailed id) = cause.InitFailed id

-- the end, of a supervisor with these flags and restarts
abbrev pub sup_end_of : SupFlags → List ℕ → Ending → SupEnd
sup_end_of flags stamps ending = record { reason = reason_of ending; cause = cause_of flags stamps ending }

-- the answer to a waiting call of a supervisor that ends
abbrev pub refused : Waiting → Option Answered
refused (waiting.Item (item.Call call _)) = Some (record { call = call; reply = reply.NoProc })
refused _ = None

abbrev pub refusal : Waiting → Option Effect
refusal (waiting.Item (item.Call call _)) = Some (effect.Reply call)
refusal _ = None

-- nothing waits any more; the waiting calls are answered noproc, in order (own)
unfoldable pub refuse_all : Outcome → Outcome
refuse_all o =
    record {
      state = record o.state { waiting = []; replies = o.state.replies ++ filter_map refused o.state.waiting };
      orders = o.orders ++ filter_map refusal o.state.waiting;
    }

-- the last child has ended: the supervisor ends
unfoldable pub end_all : Ending → Outcome → Outcome
end_all ending o =
    let end : SupEnd = sup_end_of o.state.flags o.state.stamps ending in
    emit (effect.End end)
    (with_end (own_number o.state.phase) end
    (with_phase (Ended (own_number o.state.phase) ending) (with_rows [] (refuse_all (closed o)))))
