-- Worked words of a slot, which compute: the numbers 5 and 9 were drawn, and signals posted for them.
use Rattle.std.specs.Prelude.{◌≡◌, refl, max}
use Rattle.otp_signals.specs.declared.signal.Signal.TheVariants.{None, Shutdown, Kill}
use Rattle.otp_signals.specs.Signals.{word_of, signal_of}

five_is_asked : word_of 5 Shutdown ≡ 21
five_is_asked = refl

nine_comes : word_of 9 None ≡ 36
nine_comes = refl

-- what is posted late for an earlier number stays below
five_is_late : max (word_of 9 None) (word_of 5 Kill) ≡ 36
five_is_late = refl

nine_is_killed : word_of 9 Kill ≡ 38
nine_is_killed = refl

nine_sees : signal_of 38 9 ≡ Kill
nine_sees = refl

five_does_not : signal_of 38 5 ≡ None
five_does_not = refl
