-- What is printed doesn't depend on what was printed before.
use Rattle.std.proofs.Common.{◌≡◌, ℕ, zero, suc, ◌+◌, ◌==◌, true, false, cond, List, [], ◌∷◌, ◌++◌, Option, Some, None, is_some, refl, ap, sym, ◌∙◌, append_assoc}
use Rattle.std.proofs.lemmas.List.{append-nil}
use Rattle.otp_rules.specs.declared.event.Event.{Event}
use Rattle.otp_rules.specs.declared.event.Kind.{Kind}
use Rattle.otp_rules.specs.declared.event.Kind.TheVariants as kind
use Rattle.otp_rules.specs.State.{Outcome}
use Rattle.otp_rules.specs.Step.{step}
use Rattle.otp_text.specs.declared.line.Line.{Line}
use Rattle.otp_text.specs.declared.line.Line.TheVariants as line
use Rattle.otp_text.specs.Lines.{line_of}
use Rattle.otp_sim.specs.Sim.{Sim, event_of, stepped, happen, next_kind, if_some, went_on, followed, settled, is_due, ticked, take_read, begin_form, begin_line, take_line, take_lines, orders_text}
use Rattle.otp_sim.specs.declared.driven.LinesEnd.TheVariants.{HistoryFull}
use Rattle.otp_sim.specs.Devices.{Begins}
use Rattle.otp_sim.specs.Runs.{with_text, begun, begun_first}

-- s, had this text been printed before
abbrev pub after : List ℕ → Sim → Sim
after front s = with_text (front ++ s.text) s

stepped_after : (front : List ℕ) (event : Event) (o : Outcome) (s : Sim) → stepped event o (after front s) ≡ after front (stepped event o s)
unfolding stepped
stepped_after front event o s =
    ap (λ text. with_text text (stepped event o s)) (append_assoc front s.text (orders_text o.state.replies o.orders))

happen_after : (front : List ℕ) (what : Kind) (s : Sim) → happen what (after front s) ≡ after front (happen what s)
unfolding happen event_of
happen_after front what s =
    elim (s.room == 0) as (λ full.
    cond full (record (after front s) { end = Some HistoryFull }) (stepped (event_of what s) (step s.state (event_of what s)) (after front s))
    ≡ after front (cond full (record s { end = Some HistoryFull }) (stepped (event_of what s) (step s.state (event_of what s)) s)))
    [ true ↦ refl | false ↦ stepped_after front (event_of what s) (step s.state (event_of what s)) s ]

pub went_on_after : (front : List ℕ) (s : Sim) → went_on (after front s) ≡ after front (went_on s)
unfolding went_on next_kind
went_on_after front s =
    elim (next_kind s) as (λ next. if_some next (λ what. happen what (after front s)) (after front s) ≡ after front (if_some next (λ what. happen what s) s))
    [ None ↦ refl | Some what ↦ happen_after front what s ]

followed_after : (events : ℕ) (front : List ℕ) (s : Sim) → followed events (after front s) ≡ after front (followed events s)
unfolding followed
followed_after zero front s = refl
followed_after (suc events) front s = ap (followed events) (went_on_after front s) ∙ followed_after events front (went_on s)

settled_after : (front : List ℕ) (s : Sim) → settled (after front s) ≡ after front (settled s)
unfolding settled
settled_after front s = followed_after (suc s.room) front s

-- what is printed for all that follows begins with what is printed so far
pub settled_begins : (s : Sim) → Begins s.text (settled s).text
settled_begins s =
    let bare : Sim = with_text [] s in
    let whole : settled s ≡ after s.text (settled bare) =
    ap (λ text. settled (with_text text s)) (sym (append-nil s.text)) ∙ settled_after s.text bare in
    record { rest = (settled bare).text; same = ap (λ (t : Sim). t.text) whole }

ticked_after : (front : List ℕ) (s : Sim) → ticked (after front s) ≡ after front (ticked s)
unfolding ticked is_due
ticked_after front s =
    elim (is_due s) as (λ due. cond due (happen kind.Ticked (after front s)) (after front s) ≡ after front (cond due (happen kind.Ticked s) s))
    [ true ↦ happen_after front kind.Ticked s | false ↦ refl ]

take_read_after : (front : List ℕ) (read : Line) (s : Sim) → take_read read (after front s) ≡ after front (take_read read s)
unfolding take_read
take_read_after front line.Empty s = refl
take_read_after front (line.At reading) s = ticked_after front (record s { reading = reading })
take_read_after front (line.Note note) s = happen_after front _ s
take_read_after front line.Stop s = refl
take_read_after front (line.Call call) s = happen_after front _ (record s { calls = s.calls + 1 })

begin_form_after : (front bytes : List ℕ) (read : Option Line) (s : Sim) → begin_form bytes read (after front s) ≡ after front (begin_form bytes read s)
unfolding begin_form
begin_form_after front bytes None s = refl
begin_form_after front bytes (Some read) s = take_read_after front read s

begin_line_after : (front bytes : List ℕ) (s : Sim) → begin_line bytes (after front s) ≡ after front (begin_line bytes s)
unfolding begin_line
begin_line_after front bytes s =
    elim (is_some s.end) as (λ ended.
    cond ended (after front s) (begin_form bytes (line_of bytes) (after front (record s { lines = s.lines + 1 })))
    ≡ after front (cond ended s (begin_form bytes (line_of bytes) (record s { lines = s.lines + 1 }))))
    [ true ↦ refl | false ↦ begin_form_after front bytes (line_of bytes) (record s { lines = s.lines + 1 }) ]

pub take_line_after : (front bytes : List ℕ) (s : Sim) → take_line bytes (after front s) ≡ after front (take_line bytes s)
unfolding take_line
take_line_after front bytes s = ap settled (begin_line_after front bytes s) ∙ settled_after front (begin_line bytes s)

pub begun_after : (events : ℕ) (front bytes : List ℕ) (s : Sim) → begun events bytes (after front s) ≡ after front (begun events bytes s)
unfolding begun
begun_after zero front bytes s = refl
begun_after (suc events) front bytes s = ap (followed events) (begin_line_after front bytes s) ∙ followed_after events front (begin_line bytes s)

pub begun_first_after : (events : ℕ) (front : List ℕ) (lines : List (List ℕ)) (s : Sim)
    → begun_first events lines (after front s) ≡ after front (begun_first events lines s)
unfolding begun_first
begun_first_after events front [] s = refl
begun_first_after events front (bytes ∷ _) s = begun_after events front bytes s

pub take_lines_after : (front : List ℕ) (lines : List (List ℕ)) (s : Sim) → take_lines lines (after front s) ≡ after front (take_lines lines s)
unfolding take_lines
take_lines_after front [] s = refl
take_lines_after front (bytes ∷ others) s = ap (take_lines others) (take_line_after front bytes s) ∙ take_lines_after front others (take_line bytes s)

-- what begins a beginning of a text begins that text
pub begins_then : (a b c : List ℕ) → Begins a b → Begins b c → Begins a c
begins_then a b c first later = record {
  rest = first.rest ++ later.rest;
  same = later.same ∙ ap (λ (text : List ℕ). text ++ later.rest) first.same ∙ append_assoc a first.rest later.rest;
}
