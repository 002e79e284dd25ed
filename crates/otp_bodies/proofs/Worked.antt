-- Worked words of a child's slot, which compute: what a supervisor posts at the start of the first child, at that of the second,
-- and where it asks that one to shut down and kills it.
use Rattle.std.specs.Prelude.{◌≡◌, refl}
use Rattle.otp_signals.specs.declared.signal.Signal.TheVariants.{None, Shutdown, Kill}
use Rattle.otp_signals.specs.Signals.{word_of}

first_starts : word_of 1 None ≡ 4
first_starts = refl

second_starts : word_of 2 None ≡ 8
second_starts = refl

second_is_asked : word_of 2 Shutdown ≡ 9
second_is_asked = refl

second_is_killed : word_of 2 Kill ≡ 10
second_is_killed = refl
