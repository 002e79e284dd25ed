-- A tree whose child crashes: its supervisors are opened with the same in the next run.
use Rattle.std.specs.Prelude.{◌≡◌, ℕ, Bool, List, map, true, false, slice_get}
use Rattle.std.proofs.Common.{◌∙◌, ap}
use Prim.Native.Nat.{zero, suc}
use Rattle.otp_reason.specs.declared.name.Name.{Name}
use Rattle.otp_reason.specs.declared.note.Note.TheVariants as note
use Rattle.otp_reason.specs.declared.reason.Reason.TheVariants as reason
use Rattle.otp_rules.specs.declared.call.Call.TheVariants as call
use Rattle.otp_rules.specs.declared.event.Item.TheVariants as item
use Rattle.otp_rules.specs.declared.event.Kind.{Kind}
use Rattle.otp_rules.specs.declared.event.Kind.TheVariants as kind
use Rattle.otp_trial.specs.Again.{EventsKeepTrees}
use Rattle.otp_trial.specs.Played.{Begins, Seated, Stand, at_start, fresh}
use Rattle.otp_trial.specs.declared.clock.Clock.TheVariants.{Milliseconds}
use Rattle.otp_costs.specs.Falls.{BearsFrom, FallsOften, FallsOnce, FallsSo, Joins, OpensFrom, is_joined}
use Rattle.otp_costs.specs.declared.limits.fate.Fate.{Fate}
use Rattle.otp_costs.specs.declared.limits.fate.Fate.TheVariants as fate

-- the same supervisors by the same clock
pub record Keeps (old new : Stand) : Type 0 where
  pub seats : map fresh new.seats ≡ map fresh old.seats
  pub clock : new.clock ≡ old.clock

keeps-none : (old new : Stand) → new ≡ old → Keeps old new
keeps-none old new same = record { seats = ap (λ (s : Stand). map fresh s.seats) same; clock = ap (λ (s : Stand). s.clock) same }

keeps-then : (a b c : Stand) → Keeps a b → Keeps b c → Keeps a c
keeps-then a b c first second = record { seats = second.seats ∙ first.seats; clock = second.clock ∙ first.clock }

begins_keep : EventsKeepTrees → (place : ℕ) (k : Kind) (old new : Stand) → Begins place k old new → Keeps old new
begins_keep law place k old new (seat, e, ms, makes, is) = record { seats = law place k old new (seat, e, ms, makes, is); clock = makes.clock }

joins_keep : EventsKeepTrees → (simple : Bool) (place : ℕ) (old new : Stand) → Joins simple place old new → Keeps old new
unfolding Joins
joins_keep law false place old new same = keeps-none old new same
joins_keep law true place old new (number, begins) = begins_keep law place (kind.Took (item.Call number call.StartDynamic)) old new begins

once_keeps : EventsKeepTrees → (place : ℕ) (id : Name) (old new : Stand) → FallsOnce place id old new → Keeps old new
once_keeps law place id old new once = begins_keep law place (kind.Took (item.Note (note.Exit once.process reason.Killed))) old new once.ends

often_keeps : EventsKeepTrees → (place : ℕ) (id : Name) (n : ℕ) (old new : Stand) → FallsOften place id n old new → Keeps old new
unfolding FallsOften
often_keeps law place id zero old new same = keeps-none old new same
often_keeps law place id (suc n) old new (before, (falls, once)) =
    keeps-then old before new (often_keeps law place id n old before falls) (once_keeps law place id before new once)

so_keeps : EventsKeepTrees → (most place : ℕ) (id : Name) (old : Stand) (root : Fate) (new : Stand) → FallsSo most place id old root new → Keeps old new
unfolding FallsSo
so_keeps law most place id old fate.Survived new (falls, runs) = often_keeps law place id most old new falls
so_keeps law most place id old (fate.Ended n) new (less, (last, ((falls, runs), (once, over)))) =
    keeps-then old last new (often_keeps law place id n old last falls) (once_keeps law place id last new once)
so_keeps law most place id old (fate.Gone n) new ((falls, runs), none) = often_keeps law place id n old new falls

pub bears_keeps : EventsKeepTrees → (planted : List Seated) (place : ℕ) (id : Name) (count : ℕ) (root : Fate) (after : Stand) → BearsFrom planted place id count root after
    → Keeps (at_start Milliseconds planted) after
bears_keeps law planted place id count root after bears =
    let start : Stand = at_start Milliseconds planted in
    let opens : OpensFrom planted place bears.opened = bears.opens in
    let first : Keeps start opens.opened = begins_keep law 0 (kind.Opened 0) start opens.opened opens.opens in
    let joined : Keeps opens.opened bears.opened = joins_keep law (is_joined (slice_get opens.opened.seats place)) place opens.opened bears.opened opens.joins in
    keeps-then start bears.opened after (keeps-then start opens.opened bears.opened first joined) (so_keeps law count place id bears.opened root after bears.falls)
