-- What is told of moves that are made one after another.
use Rattle.std.specs.Prelude.{◌≡◌, ◌≤◌, ℕ, List, [], ◌∷◌, ◌++◌, Some, None, refl, slice_set}
use Rattle.std.proofs.Common.{◌∙◌, ap, arith, sym, subst, append_assoc, append-nil}
use Rattle.otp_rules.specs.declared.event.Effect.{Effect}
use Rattle.otp_rules.specs.declared.event.Event.{Event}
use Rattle.otp_rules.specs.declared.event.Kind.{Kind}
use Rattle.otp_rules.specs.Run.{state_after}
use Rattle.otp_rules.specs.State.{State}
use Rattle.otp_rules.specs.Step.{step}
use Rattle.otp_trial.specs.Clocks.{shown}
use Rattle.otp_trial.specs.Played.{ArePassed, Begins, Happens, IsAt, Lead, Makes, Move, Seated, Stand, Tells, TellsFirst, move_text, seat_after, seat_with, starts_of, state_in, story}
use Rattle.otp_trial.specs.declared.clock.Clock.{Clock}
use Rattle.otp_trial.specs.Starts.{started_by, starts_in}
use Rattle.otp_trial.specs.Story.{event_text}
use Rattle.otp_trial.specs.declared.story.starts.Started.{Started}

-- the state after one event more
pub pushed : (s : State) (es : List Event) (e : Event) → state_after s (es ++ e ∷ []) ≡ (step (state_after s es) e).state
pushed s [] e = refl
pushed s (x ∷ xs) e = pushed (step s x).state xs e

-- the starts after one event more
pub started_more : (s : State) (es : List Event) (e : Event) → started_by s (es ++ e ∷ []) ≡ started_by s es ++ starts_in (step (state_after s es) e).orders
started_more s [] e = append-nil (starts_in (step s e).orders)
started_more s (x ∷ xs) e =
    ap (λ (more : List Started). starts_in (step s x).orders ++ more) (started_more (step s x).state xs e)
    ∙ sym (append_assoc (starts_in (step s x).orders) (started_by (step s x).state xs) (starts_in (step (state_after (step s x).state xs) e).orders))

-- those that are kept, with those of one event more behind them
pub started_after : (s t : State) (history longer : List Event) (e : Event) (kept new : List Started) (orders : List Effect) → kept ≡ started_by s history → t ≡ s
    → longer ≡ history ++ e ∷ [] → orders ≡ (step (state_after s history) e).orders → new ≡ kept ++ starts_in orders → new ≡ started_by t longer
started_after s t history longer e kept new orders are same more given put =
    put
    ∙ ap (λ (starts : List Started). starts ++ starts_in orders) are
    ∙ ap (λ (xs : List Effect). started_by s history ++ starts_in xs) given
    ∙ sym (started_more s history e)
    ∙ sym (ap (λ (base : State). started_by base longer) same ∙ ap (λ (events : List Event). started_by s events) more)

lead-append : (a b c : List Seated) (xs ys : List Move) → Lead a xs b → Lead b ys c → Lead a (xs ++ ys) c
lead-append a b c [] ys first second = subst (λ (s : List Seated). Lead s ys c) first second
lead-append a b c (x ∷ xs) ys (here, rest) second = (here, lead-append (slice_set a x.place (seat_after x)) b c xs ys rest second)

-- moves that begin later were begun in time
passed_before : (clock : Clock) (early from to : ℕ) (ms : List Move) → early ≤ from → ArePassed clock from ms to → ArePassed clock early ms to
passed_before clock early from to [] less passed = omega (arith, less, passed)
passed_before clock early from to (m ∷ ms) less (after, rest) = (omega (arith, less, after), rest)

passed-append : (clock : Clock) (from mid to : ℕ) (xs ys : List Move) → ArePassed clock from xs mid → ArePassed clock mid ys to → ArePassed clock from (xs ++ ys) to
passed-append clock from mid to [] ys first second = passed_before clock from mid to ys first second
passed-append clock from mid to (x ∷ xs) ys (after, (read, rest)) second = (after, (read, passed-append clock x.time mid to xs ys rest second))

pub makes-append : (a b c : Stand) (xs ys : List Move) → Makes a xs b → Makes b ys c → Makes a (xs ++ ys) c
makes-append a b c xs ys first second = record {
  lead = lead-append a.seats b.seats c.seats xs ys first.lead second.lead;
  clock = second.clock ∙ first.clock;
  passed = passed-append a.clock a.time b.time c.time xs ys first.passed
      (subst (λ (clock : Clock). ArePassed clock b.time ys c.time) first.clock second.passed);
}

-- nothing happened
pub makes_none : (a b : Stand) → b ≡ a → Makes a [] b
makes_none a b same = subst (λ (s : Stand). Makes a [] s) (sym same) (record { lead = refl; clock = refl; passed = omega arith })

pub story-append : (xs ys : List Move) → story (xs ++ ys) ≡ story xs ++ story ys
story-append [] ys = refl
story-append (x ∷ xs) ys =
    ap (λ (text : List ℕ). move_text x ++ text) (story-append xs ys) ∙ sym (append_assoc (move_text x) (story xs) (story ys))

-- what was told first, and then what was told of the moves after it
pub tells-then : (a b c : Stand) (x y z : List ℕ) → Tells a b x y → Tells b c y z → Tells a c x z
tells-then a b c x y z (first, ab, told) (then, bc, told_then) = (
  first ++ then,
  makes-append a b c first then ab bc,
  told_then
      ∙ ap (λ (text : List ℕ). text ++ story then) told
      ∙ append_assoc x (story first) (story then)
      ∙ ap (λ (text : List ℕ). x ++ text) (sym (story-append first then)),
)

-- nothing happened, but the clock went on
pub tells_later : (a b : Stand) (text : List ℕ) → b.seats ≡ a.seats → b.clock ≡ a.clock → a.time ≤ b.time → Tells a b text text
tells_later a b text seats clock later = ([], record { lead = seats; clock = clock; passed = later }, sym (append-nil text))

-- what began first began first, whatever came after it
pub begins-then : (place : ℕ) (k : Kind) (a b c : Stand) (y z : List ℕ) → Begins place k a b → Tells b c y z → Begins place k a c
begins-then place k a b c y z (seat, e, ms, ab, is) (more, bc, told) =
    (seat, e, ms ++ more, makes-append a b c (record { time = a.time; place = place; seat = seat; event = Some e } ∷ ms) more ab bc, is)

-- a supervisor is there anew, and nothing is told of it
pub tells-anew : (a b : Stand) (place : ℕ) (old new : Seated) (text : List ℕ) → IsAt a.seats place old → new ≡ record old { history = [] }
    → b ≡ record a { seats = slice_set a.seats place new } → Tells a b text text
unfolding move_text
tells-anew a b place old new text here is set =
    subst (λ (s : Stand). Tells a s text text) (sym set) (
      record { time = a.time; place = place; seat = old; event = None } ∷ [],
      record {
        lead = (here, ap (λ (seat : Seated). slice_set a.seats place seat) is);
        clock = refl;
        passed = (omega arith, (tt, omega arith));
      },
      sym (append-nil text),
    )

-- an event happened to the supervisor at a place
made : (a : Stand) (place : ℕ) (e : Event) (old new : Seated) → IsAt a.seats place old → e.reading ≡ shown a.clock a.time → new ≡ seat_with e old
    → Makes a (record { time = a.time; place = place; seat = old; event = Some e } ∷ []) (record a { seats = slice_set a.seats place new })
made a place e old new here read is = record {
  lead = (here, ap (λ (seat : Seated). slice_set a.seats place seat) is);
  clock = refl;
  passed = (omega arith, (read, omega arith));
}

pub tells-event : (a b : Stand) (place : ℕ) (k : Kind) (old new : Seated) (x y : List ℕ) → IsAt a.seats place old
    → Happens (shown a.clock a.time) k old new x y → b ≡ record a { seats = slice_set a.seats place new } → Tells a b x y
unfolding move_text
tells-event a b place k old new x y here (e, kind, read, is, told) set =
    subst (λ (s : Stand). Tells a s x y) (sym set) (
      record { time = a.time; place = place; seat = old; event = Some e } ∷ [],
      made a place e old new here read is,
      told ∙ ap (λ (text : List ℕ). x ++ text) (sym (append-nil (event_text old.tells old.path (starts_of old) old.aways (state_in old) e))),
    )

pub begins-event : (a b : Stand) (place : ℕ) (k : Kind) (old new : Seated) (x y : List ℕ) → IsAt a.seats place old
    → Happens (shown a.clock a.time) k old new x y → b ≡ record a { seats = slice_set a.seats place new } → Begins place k a b
begins-event a b place k old new x y here (e, kind, read, is, told) set =
    subst (λ (s : Stand). Begins place k a s) (sym set) (old, e, [], made a place e old new here read is, kind)

-- the same with what is told of it
pub first-event : (a b : Stand) (place : ℕ) (k : Kind) (old new : Seated) (x y : List ℕ) → IsAt a.seats place old
    → Happens (shown a.clock a.time) k old new x y → b ≡ record a { seats = slice_set a.seats place new } → TellsFirst place k a b x y
unfolding move_text
first-event a b place k old new x y here (e, kind, read, is, told) set =
    subst (λ (s : Stand). TellsFirst place k a s x y) (sym set) (
      old,
      e,
      [],
      made a place e old new here read is,
      kind,
      told ∙ ap (λ (text : List ℕ). x ++ text) (sym (append-nil (event_text old.tells old.path (starts_of old) old.aways (state_in old) e))),
    )

-- and what is told after it
pub first-then : (place : ℕ) (k : Kind) (a b c : Stand) (x y z : List ℕ) → TellsFirst place k a b x y → Tells b c y z → TellsFirst place k a c x z
first-then place k a b c x y z (seat, e, ms, ab, is, told) (more, bc, told_more) =
    let m : Move = record { time = a.time; place = place; seat = seat; event = Some e } in (
      seat,
      e,
      ms ++ more,
      makes-append a b c (m ∷ ms) more ab bc,
      is,
      told_more
          ∙ ap (λ (text : List ℕ). text ++ story more) told
          ∙ append_assoc x (story (m ∷ ms)) (story more)
          ∙ ap (λ (text : List ℕ). x ++ text) (sym (story-append (m ∷ ms) more)),
    )
