-- When a core takes no further event before a cut, so that the memory of a history is bounded (own).
use Rattle.std.specs.Prelude.{ℕ, Bool, ◌||◌, length, nat_le, if◌then◌else◌}
use Rattle.otp_spec.specs.declared.limits.TheConstants.{MAX_EVENTS}
use Rattle.otp_rules.specs.Counts.{lines_told}
use Rattle.otp_core.specs.declared.cut.TheConstants.{MAX_KEPT_LINES}
use Rattle.otp_core.specs.View.{View, stored_of, stored_state}

-- as many events are stored as a history may have
abbrev pub has_most_events : View → Bool
has_most_events v = nat_le MAX_EVENTS (length (stored_of v))

-- the answers since the cut list as many children as they may
abbrev pub has_most_lines : View → Bool
has_most_lines v = nat_le MAX_KEPT_LINES (lines_told (stored_state v).replies)

-- no further event is taken before a cut
abbrev pub is_full : View → Bool
is_full v = has_most_events v || has_most_lines v

-- whoever drives the core and wants no more events stored than this limit makes a cut now
abbrev pub wants_cut : ℕ → View → Bool
wants_cut limit v = nat_le limit (length (stored_of v)) || is_full v

-- how many events are cut off once room was made under this limit
abbrev pub cut_after : ℕ → View → ℕ
cut_after limit v = if wants_cut limit v then length v.history else v.cut
