use Rattle.std.proofs.Common.{◌≡◌, ◌++◌, drop}
use Rattle.std.specs.List.{flat_map}
use Rattle.otp_trial.specs.Story.{next_time_text}
use Rattle.otp_trial.proofs.story.time.write_next_times.Given as goal

abbrev pub invariant-loop-time : goal.invariant-loop-time
invariant-loop-time l =
    l.out.items ++ flat_map next_time_text (drop l.time-index l.times) ≡ l.fn.out.items ++ flat_map next_time_text l.times
