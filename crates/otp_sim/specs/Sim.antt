-- What `sim` prints for its input, and how it ends (own).
use Rattle.std.specs.Prelude.{ℕ, zero, suc, ◌+◌, ◌-◌, Bool, true, false, ◌==◌, max, List, [], ◌∷◌, ◌++◌, Option, Some, None, is_some, unwrap_or, if◌then◌else◌}
use Rattle.std.specs.List.{list_any, flat_map, slice_split}
use Rattle.otp_spec.specs.declared.child.ChildSpec.{ChildSpec}
use Rattle.otp_spec.specs.declared.flags.SupFlags.{SupFlags}
use Rattle.otp_core.specs.declared.cut.TheConstants.{MAX_EVENTS_IN_ALL}
use Rattle.otp_rules.specs.declared.call.Answered.{Answered}
use Rattle.otp_rules.specs.declared.call.Reply.{Reply}
use Rattle.otp_rules.specs.declared.event.Effect.{Effect}
use Rattle.otp_rules.specs.declared.event.Effect.TheVariants as effect
use Rattle.otp_rules.specs.declared.event.Event.{Event}
use Rattle.otp_rules.specs.declared.event.Item.TheVariants as item
use Rattle.otp_rules.specs.declared.event.Kind.{Kind}
use Rattle.otp_rules.specs.declared.event.Kind.TheVariants as kind
use Rattle.otp_rules.specs.State.{Outcome, State}
use Rattle.otp_rules.specs.Step.{is_late, step}
use Rattle.otp_rules.specs.Next.{idle_kind}
use Rattle.otp_rules.specs.Run.{empty_state, reply_of}
use Rattle.otp_rules.specs.Needs.{needs_number}
use Rattle.otp_text.specs.declared.line.Line.{Line}
use Rattle.otp_text.specs.declared.line.Line.TheVariants as line
use Rattle.otp_text.specs.Effects.{effect_line}
use Rattle.otp_text.specs.LineFaults.{line_fault}
use Rattle.otp_text.specs.Lines.{line_of}
use Rattle.otp_sim.specs.declared.driven.LinesEnd.{LinesEnd}
use Rattle.otp_sim.specs.declared.driven.LinesEnd.TheVariants as stop
use Rattle.otp_sim.specs.declared.engine.SimEnd.{SimEnd}
use Rattle.otp_sim.specs.declared.engine.SimEnd.TheVariants.{Done, LineRefused, HistoryFull}

-- a supervisor between two lines of the input
pub record Sim : Type 0 where
  pub state : State
  -- the clock, in milliseconds
  pub reading : ℕ
  -- the greatest process number and the greatest call number given so far
  pub processes : ℕ
  pub calls : ℕ
  -- a stop is wanted
  pub is_stopping : Bool
  -- how many events it can still have: checkpoints drop old ones, so that only their number in all is bounded
  pub room : ℕ
  -- how many lines have been read
  pub lines : ℕ
  -- what has been printed
  pub text : List ℕ
  -- why no line is read any more, if none is
  pub end : Option LinesEnd

-- the answer that an order tells of
unfoldable pub told_by : Effect → List Answered → Option Reply
told_by (effect.Start _ _) replies = None
told_by (effect.Ask _ _) replies = None
told_by (effect.Kill _ _) replies = None
told_by (effect.Reply call) replies = reply_of call replies
told_by effect.Ready replies = None
told_by (effect.End _) replies = None

-- the printed lines of orders
unfoldable pub orders_text : List Answered → List Effect → List ℕ
orders_text replies orders = flat_map (λ order. effect_line order (told_by order replies)) orders

-- the event of something that happens now: if it starts a child, that child gets the next number
unfoldable pub event_of : Kind → Sim → Event
event_of kind s =
    record {
      reading = s.reading;
      number = if needs_number s.state s.reading kind then Some (s.processes + 1) else None;
      kind = kind;
    }

-- after an event: its orders are printed
unfoldable pub stepped : Event → Outcome → Sim → Sim
stepped event o s =
    record s {
      state = o.state;
      processes = unwrap_or event.number s.processes;
      room = s.room - 1;
      text = s.text ++ orders_text o.state.replies o.orders;
    }

-- something happens; after as many events as a supervisor can have, the history is full
unfoldable pub happen : Kind → Sim → Sim
happen kind s =
    if s.room == 0 then record s { end = Some stop.HistoryFull }
    else stepped (event_of kind s) (step s.state (event_of kind s)) s

-- what happens after a line, as long as the run goes on: what a supervisor does by itself, but for the deadlines, which
-- come with the readings of the clock
unfoldable pub next_kind : Sim → Option Kind
next_kind s = if is_some s.end then None else idle_kind s.state s.is_stopping

-- what follows, if something does
abbrev pub if_some : Option Kind → (Kind → Sim) → Sim → Sim
if_some None then_of otherwise = otherwise
if_some (Some kind) then_of otherwise = then_of kind

-- the next of what follows, if something does
unfoldable pub went_on : Sim → Sim
went_on s = if_some (next_kind s) (λ kind. happen kind s) s

-- so many of the events that follow, as far as something follows
unfoldable pub followed : ℕ → Sim → Sim
followed zero s = s
followed (suc events) s = followed events (went_on s)

-- all of them, until none is left to happen; each is one of the events that can still be, and the last may find none left
unfoldable pub settled : Sim → Sim
settled s = followed (suc s.room) s

-- a deadline of a child that was told to shut down has come
unfoldable pub is_due : Sim → Bool
is_due s = list_any (λ row. is_late (max s.reading s.state.last) row.state) s.state.rows

unfoldable pub ticked : Sim → Sim
ticked s = if is_due s then happen kind.Ticked s else s

-- what a line does by itself
unfoldable pub take_read : Line → Sim → Sim
take_read line.Empty s = s
take_read (line.At reading) s = ticked (record s { reading = reading })
take_read (line.Note note) s = happen (kind.Took (item.Note note)) s
take_read line.Stop s = record s { is_stopping = true }
take_read (line.Call call) s = happen (kind.Took (item.Call (s.calls + 1) call)) (record s { calls = s.calls + 1 })

-- what a line does by itself that has a form, and one that has none, whose fault is told
unfoldable pub begin_form : List ℕ → Option Line → Sim → Sim
begin_form bytes None s = record s { end = Some (stop.LineRefused s.lines (line_fault bytes)) }
begin_form bytes (Some read) s = take_read read s

-- what a line of the input does by itself; after the end it does nothing
unfoldable pub begin_line : List ℕ → Sim → Sim
begin_line bytes s = if is_some s.end then s else begin_form bytes (line_of bytes) (record s { lines = s.lines + 1 })

-- a line of the input, and all that follows
unfoldable pub take_line : List ℕ → Sim → Sim
take_line bytes s = settled (begin_line bytes s)

-- lines of the input, one after another
unfoldable pub take_lines : List (List ℕ) → Sim → Sim
take_lines [] s = s
take_lines (bytes ∷ others) s = take_lines others (take_line bytes s)

-- before the first line the supervisor opens, under its own number 0
unfoldable pub opened : SupFlags → List ChildSpec → Sim
opened flags specs =
    happen (kind.Opened 0) (record {
      state = empty_state flags specs;
      reading = 0;
      processes = 0;
      calls = 0;
      is_stopping = false;
      room = MAX_EVENTS_IN_ALL;
      lines = 0;
      text = [];
      end = None;
    })

-- the lines of the input: each ends with LF but for the last, which is empty where the input ends with LF,
-- and then changes nothing
unfoldable pub lines_of : List ℕ → List (List ℕ)
lines_of bytes = slice_split (λ byte. byte == 10) bytes

-- after all of the input, from this start
unfoldable pub sim_of : Sim → List ℕ → Sim
sim_of start bytes = take_lines (lines_of bytes) start

-- what is printed for the input
abbrev pub sim_text : Sim → List ℕ → List ℕ
sim_text start bytes = (sim_of start bytes).text

-- how a run ends that stops for this reason, or for none
abbrev pub end_of : Option LinesEnd → SimEnd
end_of None = Done
end_of (Some (stop.LineRefused line why)) = LineRefused line why
end_of (Some stop.HistoryFull) = HistoryFull

-- how the input ends
abbrev pub sim_end : Sim → List ℕ → SimEnd
sim_end start bytes = end_of (sim_of start bytes).end

-- all but the last
abbrev pub but_last : List (List ℕ) → List (List ℕ)
but_last [] = []
but_last (_ ∷ []) = []
but_last (bytes ∷ next ∷ others) = bytes ∷ but_last (next ∷ others)

-- what is printed for the lines whose LF is among the bytes
unfoldable pub whole_text : Sim → List ℕ → List ℕ
whole_text start bytes = (take_lines (but_last (lines_of bytes)) start).text
