-- An event from a state does what another one does that says less: a note that no child heeds tells nothing, a call that
-- waits and a resumption while work is open take nothing up.
use Rattle.std.specs.Prelude.{◌≡◌, ◌⊎◌, ℕ, ◌++◌, ◌&&◌, not, Bool, true, false, List, [], ◌∷◌, Option, None, Some, Contains, refl, if◌then◌else◌, is_some, slice_get, unwrap_or}
use Prim.Native.Nat.{zero, suc}
use Rattle.std.proofs.Common.{◌∙◌, ap, sym, subst, arith, rules, inl, inr}
use Rattle.std.proofs.lemmas.Bool.{false≢true, cond_both, and_parts}
use Rattle.otp_reason.specs.declared.note.Note.{Note}
use Rattle.otp_reason.specs.declared.note.Note.TheVariants as note
use Rattle.otp_table.specs.declared.row.Row.{Row}
use Rattle.otp_table.specs.declared.row.RowState.{RowState}
use Rattle.otp_table.specs.declared.row.RowState.TheVariants.{Undefined, Starting, Up, Asked, Killed, Restarting}
use Rattle.otp_table.specs.Rows.{has_process}
use Rattle.otp_rules.specs.declared.call.Call.{Call}
use Rattle.otp_rules.specs.declared.ending.Ending.TheVariants as ending
use Rattle.otp_rules.specs.declared.event.Item.{Item}
use Rattle.otp_rules.specs.declared.event.Item.TheVariants as item
use Rattle.otp_rules.specs.declared.event.Kind.{Kind}
use Rattle.otp_rules.specs.declared.event.Kind.TheVariants as kind
use Rattle.otp_rules.specs.declared.event.Waiting.{Waiting}
use Rattle.otp_rules.specs.declared.event.Waiting.TheVariants as waiting
use Rattle.otp_rules.specs.declared.call.Reply.TheVariants as reply
use Rattle.otp_rules.specs.Calls.{take_call}
use Rattle.otp_rules.specs.Deaths.{exit_in, take_exit}
use Rattle.otp_rules.specs.Fit.{is_starting}
use Rattle.otp_rules.specs.Homes.{Brings, IsFirst, end_number, is_home, is_start_call}
use Rattle.otp_rules.specs.Lives.{TakesEnd}
use Rattle.otp_rules.specs.Starts.{at_starting, if_starting, take_failed, take_ignored, take_up}
use Rattle.otp_rules.specs.State.{Outcome, State, answer, is_busy, is_over, put_last}
use Rattle.otp_rules.specs.Step.{ask, decide, resume, stamped, step, step_on, take_item, take_note}
use Rattle.otp_rules.specs.Stops.{terminate}
use Rattle.otp_rules.specs.Work.{advance}
use Rattle.otp_rules.proofs.Decisions.{at_number-survives}
use Rattle.otp_rules.proofs.Homes.{quiet_more}
use Rattle.otp_sup.specs.Moves.{home_of, is_heeded, is_start_waiting, is_taken_up, is_waited_for, slot_heeding}

-- none heeds the note: this row doesn't either
none_heeds : (x : Note) (rows : List Row) (place : ℕ) (row : Row) → slot_heeding x rows ≡ None → slice_get rows place ≡ Some row → is_heeded x row ≡ false
none_heeds x [] place row none at = let e : ◌≡◌ {A = Option Row} None (Some row) = at in absurd (search (rules, e))
none_heeds x (r ∷ rows) zero row none at = first (is_heeded x r) refl
  where
    same : r ≡ row
    same = let e : ◌≡◌ {A = Option Row} (Some r) (Some row) = at in ap (λ (o : Option Row). unwrap_or o r) e

    first : (b : Bool) → is_heeded x r ≡ b → is_heeded x row ≡ false
    first false h = ap (λ (y : Row). is_heeded x y) (sym same) ∙ h
    first true h = absurd (let e : ◌≡◌ {A = Option ℕ} (Some r.slot) None = sym (ap (λ (b : Bool). if b then Some r.slot else slot_heeding x rows) h) ∙ none in search (rules, e))
none_heeds x (r ∷ rows) (suc place) row none at = rest (is_heeded x r) refl (none_heeds x rows place row)
  where
    rest : (b : Bool) → is_heeded x r ≡ b → (slot_heeding x rows ≡ None → slice_get rows place ≡ Some row → is_heeded x row ≡ false) → is_heeded x row ≡ false
    rest false h go = go (sym (ap (λ (b : Bool). if b then Some r.slot else slot_heeding x rows) h) ∙ none) at
    rest true h go = absurd (let e : ◌≡◌ {A = Option ℕ} (Some r.slot) None = sym (ap (λ (b : Bool). if b then Some r.slot else slot_heeding x rows) h) ∙ none in search (rules, e))

-- nothing is done at a row whose start isn't awaited
not_starting : (p : ℕ) (f : ℕ → Outcome → Outcome) (state : RowState) (o : Outcome) → has_process p state ≡ true → is_starting p state ≡ false → if_starting f state o ≡ o
not_starting p f Undefined o has isnt = refl
not_starting p f (Starting q k) o has isnt = absurd (false≢true (sym isnt ∙ has))
not_starting p f (Up q) o has isnt = refl
not_starting p f (Asked q d) o has isnt = refl
not_starting p f (Killed q) o has isnt = refl
not_starting p f (Restarting k) o has isnt = refl

-- where no row is starting process p
abbrev NoneStarts : ℕ → Outcome → Type 0
NoneStarts p o = (place : ℕ) (row : Row) → slice_get o.state.rows place ≡ Some row → has_process p row.state ≡ true → is_starting p row.state ≡ false

at_none : (p : ℕ) (f : ℕ → ℕ → Row → Outcome → Outcome) (o : Outcome) → NoneStarts p o → at_starting p f o ≡ o
unfolding at_starting
at_none p f o none = at_number-survives (λ (x : Outcome). x ≡ o) p (λ place row. if_starting (λ k. f k place row) row.state) o refl (λ place row at has. not_starting p (λ k. f k place row) row.state o has (none place row at has))

-- an answer to the start of p, or the end of p, that no row heeds changes nothing
up_unheeded : (p : ℕ) (o : Outcome) → NoneStarts p o → take_note (note.Up p) o ≡ o
unfolding take_note take_up
up_unheeded p o none = at_none p _ o none

unheeded : (x : Note) (p : ℕ) (o : Outcome) → end_number x ≡ Some p → slot_heeding x o.state.rows ≡ None → (take_note x o ≡ o) × NoneStarts p o
unfolding take_note take_ignored take_failed take_exit
unheeded (note.Up q) p o is none = let e : ◌≡◌ {A = Option ℕ} None (Some p) = is in absurd (search (rules, e))
unheeded (note.Ignored q) p o is none =
    let same : q ≡ p = ap (λ (n : Option ℕ). unwrap_or n q) is in
    let starts : NoneStarts q o = λ place row at has. none_heeds (note.Ignored q) o.state.rows place row none at in
    (at_none q _ o starts, subst (λ (n : ℕ). NoneStarts n o) same starts)
unheeded (note.Failed q r) p o is none =
    let same : q ≡ p = ap (λ (n : Option ℕ). unwrap_or n q) is in
    let starts : NoneStarts q o = λ place row at has. none_heeds (note.Failed q r) o.state.rows place row none at in
    (at_none q _ o starts, subst (λ (n : ℕ). NoneStarts n o) same starts)
unheeded (note.Exit q r) p o is none =
    let same : q ≡ p = ap (λ (n : Option ℕ). unwrap_or n q) is in
    let gone : (place : ℕ) (row : Row) → slice_get o.state.rows place ≡ Some row → has_process q row.state ≡ true → ⊥ =
    λ place row at has. false≢true (sym (none_heeds (note.Exit q r) o.state.rows place row none at) ∙ has) in (
      at_number-survives (λ (x : Outcome). x ≡ o) q (λ place row. exit_in q r place row row.state) o refl (λ place row at has. absurd (gone place row at has)),
      subst (λ (n : ℕ). NoneStarts n o) same (λ place row at has. absurd (gone place row at has)),
    )

-- so the event is that of an answer which tells no end
heard_as_up : (s : State) (reading : ℕ) (number : Option ℕ) (x : Note) (p : ℕ) → end_number x ≡ Some p → home_of s x ≡ None
    → step s (record { reading = reading; number = number; kind = kind.Took (item.Note (note.Up p)) }) ≡ step s (record { reading = reading; number = number; kind = kind.Took (item.Note x) })
unfolding step step_on decide take_item
heard_as_up s reading number x p is none =
    let before : Outcome = record { state = stamped reading s; orders = [] } in
    ap (λ (o : Outcome). advance (unwrap_or number 0) o) (both (is_over s.phase) refl)
  where
    both : (b : Bool) → is_over s.phase ≡ b
        → (if is_over s.phase then record { state = stamped reading s; orders = [] } else take_note (note.Up p) (record { state = stamped reading s; orders = [] }))
        ≡ (if is_over s.phase then record { state = stamped reading s; orders = [] } else take_note x (record { state = stamped reading s; orders = [] }))
    both true h =
        let before : Outcome = record { state = stamped reading s; orders = [] } in
        ap (λ (b : Bool). if b then before else take_note (note.Up p) before) h ∙ sym (ap (λ (b : Bool). if b then before else take_note x before) h)
    both false h =
        let before : Outcome = record { state = stamped reading s; orders = [] } in
        let still = unheeded x p before is (sym (ap (λ (b : Bool). if b then None else slot_heeding x s.rows) h) ∙ none) in
        ap (λ (b : Bool). if b then before else take_note (note.Up p) before) h ∙ up_unheeded p before still.1 ∙ sym still.0 ∙ sym (ap (λ (b : Bool). if b then before else take_note x before) h)

-- a call that waits only waits
abbrev with_waiting : State → Item → State
with_waiting s i = record s { waiting = s.waiting ++ waiting.Item i ∷ [] }

waits_only : (s : State) (reading : ℕ) (number : Option ℕ) (c : ℕ) (x : Call) → is_waited_for s ≡ true
    → step (with_waiting s (item.Call c x)) (record { reading = reading; number = number; kind = kind.Stopped }) ≡ step s (record { reading = reading; number = number; kind = kind.Took (item.Call c x) })
unfolding step step_on decide take_item ask
waits_only s reading number c x waits =
    let parts : (is_some s.follows ≡ true) × (not (is_over s.phase) ≡ true) = and_parts (is_some s.follows) (not (is_over s.phase)) waits in
    let before : Outcome = record { state = stamped reading s; orders = [] } in
    let put : Outcome = put_last (waiting.Item (item.Call c x)) before in
    ap (λ (o : Outcome). advance (unwrap_or number 0) o)
    (ap (λ (b : Bool). if b then put else if is_over s.phase then put else terminate ending.Asked put) parts.0
    ∙ sym (ap (λ (b : Bool). if b then answer c reply.NoProc before else if is_busy before then put else take_call c x before) (runs (is_over s.phase) parts.1)
    ∙ ap (λ (b : Bool). if b then put else take_call c x before) parts.0))
  where
    runs : (b : Bool) → not b ≡ true → b ≡ false
    runs true h = absurd (false≢true h)
    runs false h = refl

-- nothing is taken up while work is open, or once the supervisor has ended
idle_only : (s : State) (reading : ℕ) (number : Option ℕ) → (not (is_some s.follows) && not (is_over s.phase)) ≡ false
    → step s (record { reading = reading; number = number; kind = kind.Stopped }) ≡ step s (record { reading = reading; number = number; kind = kind.Resumed })
unfolding step step_on decide
idle_only s reading number busy = ap (λ (o : Outcome). advance (unwrap_or number 0) o) (by (is_some s.follows) (is_over s.phase) refl refl)
  where
    by : (b c : Bool) → is_some s.follows ≡ b → is_over s.phase ≡ c
        → (if is_some s.follows then record { state = stamped reading s; orders = [] } else if is_over s.phase then record { state = stamped reading s; orders = [] } else terminate ending.Asked (record { state = stamped reading s; orders = [] }))
        ≡ (if is_some s.follows then record { state = stamped reading s; orders = [] } else if is_over s.phase then record { state = stamped reading s; orders = [] } else resume s.waiting (record { state = stamped reading s; orders = [] }))
    by true c f o =
        let before : Outcome = record { state = stamped reading s; orders = [] } in
        ap (λ (b : Bool). if b then before else if is_over s.phase then before else terminate ending.Asked before) f ∙ sym (ap (λ (b : Bool). if b then before else if is_over s.phase then before else resume s.waiting before) f)
    by false true f o =
        let before : Outcome = record { state = stamped reading s; orders = [] } in
        ap (λ (b : Bool). if is_some s.follows then before else if b then before else terminate ending.Asked before) o ∙ cond_both (is_some s.follows) before before (λ (x : Outcome). x ≡ before) (λ _. refl) (λ _. refl)
        ∙ sym (ap (λ (b : Bool). if is_some s.follows then before else if b then before else resume s.waiting before) o ∙ cond_both (is_some s.follows) before before (λ (x : Outcome). x ≡ before) (λ _. refl) (λ _. refl))
    by false false f o = absurd (false≢true (sym busy ∙ ap (λ (b : Bool). not b && not (is_over s.phase)) f ∙ ap (λ (b : Bool). not b) o))

-- a row heeds the note: its process is the one that the note tells of
pub record Heeder (x : Note) (rows : List Row) (slot : ℕ) : Type 0 where
  pub row : Row
  pub among : Contains rows row
  pub same : row.slot ≡ slot
  pub heeds : is_heeded x row ≡ true

pub heeder : (x : Note) (rows : List Row) (slot : ℕ) → slot_heeding x rows ≡ Some slot → Heeder x rows slot
heeder x [] slot is = let e : ◌≡◌ {A = Option ℕ} None (Some slot) = is in absurd (search (rules, e))
heeder x (r ∷ rows) slot is = by (is_heeded x r) refl (λ rest. heeder x rows slot rest)
  where
    by : (b : Bool) → is_heeded x r ≡ b → (slot_heeding x rows ≡ Some slot → Heeder x rows slot) → Heeder x (r ∷ rows) slot
    by true h go =
        let e : ◌≡◌ {A = Option ℕ} (Some r.slot) (Some slot) = sym (ap (λ (b : Bool). if b then Some r.slot else slot_heeding x rows) h) ∙ is in
        record { row = r; among = (0, omega arith, refl); same = ap (λ (n : Option ℕ). unwrap_or n slot) e; heeds = h }
    by false h go =
        let rest : Heeder x rows slot = go (sym (ap (λ (b : Bool). if b then Some r.slot else slot_heeding x rows) h) ∙ is) in
        record { row = rest.row; among = (suc rest.among.0, omega (arith, rest.among.1), rest.among.2); same = rest.same; heeds = rest.heeds }

starting_has : (p : ℕ) (state : RowState) → is_starting p state ≡ true → has_process p state ≡ true
starting_has p Undefined h = absurd (false≢true h)
starting_has p (Starting q k) h = h
starting_has p (Up q) h = absurd (false≢true h)
starting_has p (Asked q d) h = absurd (false≢true h)
starting_has p (Killed q) h = absurd (false≢true h)
starting_has p (Restarting k) h = absurd (false≢true h)

pub heeds_own : (x : Note) (p : ℕ) (row : Row) → end_number x ≡ Some p → is_heeded x row ≡ true → has_process p row.state ≡ true
heeds_own (note.Up q) p row is h = absurd (false≢true h)
heeds_own (note.Ignored q) p row is h = subst (λ (n : ℕ). has_process n row.state ≡ true) (ap (λ (o : Option ℕ). unwrap_or o q) is) (starting_has q row.state h)
heeds_own (note.Failed q r) p row is h = subst (λ (n : ℕ). has_process n row.state ≡ true) (ap (λ (o : Option ℕ). unwrap_or o q) is) (starting_has q row.state h)
heeds_own (note.Exit q r) p row is h = subst (λ (n : ℕ). has_process n row.state ≡ true) (ap (λ (o : Option ℕ). unwrap_or o q) is) h

-- the event takes a note of this process's end that a child heeds, in this slot
pub record Heeded (s : State) (k : Kind) (p : ℕ) : Type 0 where
  pub x : Note
  pub takes : k ≡ kind.Took (item.Note x)
  pub ends : end_number x ≡ Some p
  pub slot : ℕ
  pub home : home_of s x ≡ Some slot

-- a start call is taken up, for whose child the least free slot is
abbrev pub Adds : State → Kind → Type 0
Adds s k = ((c : ℕ) × (x : Call) × (k ≡ kind.Took (item.Call c x)) × (is_start_call x ≡ true) × (is_waited_for s ≡ false)) ⊎ ((k ≡ kind.Resumed) × (is_taken_up s ≡ true))

-- an event from a state that does what this one does, and tells no end but one that is heeded
pub record Tells (s : State) (reading : ℕ) (number : Option ℕ) (k : Kind) : Type 0 where
  pub says : Kind
  pub same : step s (record { reading = reading; number = number; kind = says }) ≡ step s (record { reading = reading; number = number; kind = k })
  pub ends : (p : ℕ) → TakesEnd says p → Heeded s k p

took_other : (c : ℕ) (x : Call) (p : ℕ) → TakesEnd (kind.Took (item.Call c x)) p → ⊥
took_other c x p (y, is, ends) = let no : kind.Took (item.Call c x) ≡ kind.Took (item.Note y) = is in cc

tells_note : (s : State) (reading : ℕ) (number : Option ℕ) (x : Note) (home : Option ℕ) (ends : Option ℕ) → home_of s x ≡ home → end_number x ≡ ends → Tells s reading number (kind.Took (item.Note x))
tells_note s reading number x (Some slot) ends is e =
    record {
      says = kind.Took (item.Note x);
      same = refl;
      ends = λ p t.
          let note_is : kind.Took (item.Note x) ≡ kind.Took (item.Note t.0) = t.1 in
          record { x = t.0; takes = t.1; ends = t.2; slot = slot; home = ap (λ (y : Note). home_of s y) (sym (cc_note x t.0 note_is)) ∙ is };
    }
  where
    note_of : Kind → Note
    note_of (kind.Took (item.Note y)) = y
    note_of (kind.Took (item.Call _ _)) = x
    note_of (kind.Opened _) = x
    note_of kind.Resumed = x
    note_of kind.Ticked = x
    note_of kind.Stopped = x

    cc_note : (a b : Note) → kind.Took (item.Note a) ≡ kind.Took (item.Note b) → a ≡ b
    cc_note a b e = ap note_of e
tells_note s reading number x None None is e =
    record { says = kind.Took (item.Note x); same = refl; ends = λ p t. absurd (none p t) }
  where
    none : (p : ℕ) → TakesEnd (kind.Took (item.Note x)) p → ⊥
    none p t =
        let note_is : kind.Took (item.Note x) ≡ kind.Took (item.Note t.0) = t.1 in
        let both : x ≡ t.0 = cc in
        let clash : ◌≡◌ {A = Option ℕ} None (Some p) = sym e ∙ ap (λ (y : Note). end_number y) both ∙ t.2 in search (rules, clash)
tells_note s reading number x None (Some p) is e =
    record { says = kind.Took (item.Note (note.Up p)); same = heard_as_up s reading number x p e is; ends = λ q t. absurd (none q t) }
  where
    none : (q : ℕ) → TakesEnd (kind.Took (item.Note (note.Up p))) q → ⊥
    none q t =
        let note_is : kind.Took (item.Note (note.Up p)) ≡ kind.Took (item.Note t.0) = t.1 in
        let both : note.Up p ≡ t.0 = cc in
        let clash : ◌≡◌ {A = Option ℕ} None (Some q) = ap (λ (y : Note). end_number y) both ∙ t.2 in search (rules, clash)

pub tells : (s : State) (reading : ℕ) (number : Option ℕ) (k : Kind) → Tells s reading number k
tells s reading number (kind.Opened own) = record { says = kind.Opened own; same = refl; ends = λ p t. absurd (let no : kind.Opened own ≡ kind.Took (item.Note t.0) = t.1 in cc) }
tells s reading number (kind.Took (item.Note x)) = tells_note s reading number x (home_of s x) (end_number x) refl refl
tells s reading number (kind.Took (item.Call c x)) = record { says = kind.Took (item.Call c x); same = refl; ends = λ p t. absurd (took_other c x p t) }
tells s reading number kind.Resumed = record { says = kind.Resumed; same = refl; ends = λ p t. absurd (let no : kind.Resumed ≡ kind.Took (item.Note t.0) = t.1 in cc) }
tells s reading number kind.Ticked = record { says = kind.Ticked; same = refl; ends = λ p t. absurd (let no : kind.Ticked ≡ kind.Took (item.Note t.0) = t.1 in cc) }
tells s reading number kind.Stopped = record { says = kind.Stopped; same = refl; ends = λ p t. absurd (let no : kind.Stopped ≡ kind.Took (item.Note t.0) = t.1 in cc) }

-- besides, it brings no start call but one that is taken up; it may come from a state in which the call waits already
pub record Alias (s : State) (reading : ℕ) (number : Option ℕ) (k : Kind) : Type 0 where
  pub state : State
  pub says : Kind
  pub same : step state (record { reading = reading; number = number; kind = says }) ≡ step s (record { reading = reading; number = number; kind = k })
  pub rows : state.rows ≡ s.rows
  pub specs : state.specs ≡ s.specs
  pub homes : (row : RowState) → is_home state.waiting row ≡ true → is_home s.waiting row ≡ true
  pub ends : (p : ℕ) → TakesEnd says p → Heeded s k p
  pub adds : (c : ℕ) (x : Call) → is_start_call x ≡ true → Brings says state.waiting (item.Call c x) → Adds s k
  pub opens : (own : ℕ) → says ≡ kind.Opened own → k ≡ kind.Opened own

-- what is at home where a call waits last is at home where it doesn't
home_before : (ws : List Waiting) (c : ℕ) (x : Call) (row : RowState) → is_home (ws ++ waiting.Item (item.Call c x) ∷ []) row ≡ true → is_home ws row ≡ true
home_before ws c x Undefined h = refl
home_before ws c x (Starting p k) h = quiet_more ws (waiting.Item (item.Call c x)) (λ q. refl) p h
home_before ws c x (Up p) h = quiet_more ws (waiting.Item (item.Call c x)) (λ q. refl) p h
home_before ws c x (Asked p d) h = quiet_more ws (waiting.Item (item.Call c x)) (λ q. refl) p h
home_before ws c x (Killed p) h = quiet_more ws (waiting.Item (item.Call c x)) (λ q. refl) p h
home_before ws c x (Restarting k) h = refl

alias_note : (s : State) (reading : ℕ) (number : Option ℕ) (x : Note) → (t : Tells s reading number (kind.Took (item.Note x))) → ((c : ℕ) (y : Call) → Brings t.says s.waiting (item.Call c y) → ⊥) → ((own : ℕ) → t.says ≡ kind.Opened own → ⊥) → Alias s reading number (kind.Took (item.Note x))
alias_note s reading number x t none shut =
    record { state = s; says = t.says; same = t.same; rows = refl; specs = refl; homes = λ row h. h; ends = t.ends; adds = λ c y start b. absurd (none c y b); opens = λ own is. absurd (shut own is) }

note_brings : (x : Note) (ws : List Waiting) (c : ℕ) (y : Call) → Brings (kind.Took (item.Note x)) ws (item.Call c y) → ⊥
note_brings x ws c y b = let no : item.Note x ≡ item.Call c y = b in cc

tells_note_kind : (s : State) (reading : ℕ) (number : Option ℕ) (x : Note) (home : Option ℕ) (ends : Option ℕ) (is : home_of s x ≡ home) (e : end_number x ≡ ends) → (y : Note) × ((tells_note s reading number x home ends is e).says ≡ kind.Took (item.Note y))
unfolding tells_note
tells_note_kind s reading number x (Some slot) ends is e = (x, refl)
tells_note_kind s reading number x None None is e = (x, refl)
tells_note_kind s reading number x None (Some p) is e = (note.Up p, refl)

first_start : (ws : List Waiting) (c : ℕ) (x : Call) → is_start_call x ≡ true → IsFirst ws (item.Call c x) → is_start_waiting (slice_get ws 0) ≡ true
first_start [] c x start b = absurd b
first_start (w ∷ ws) c x start b = ap (λ (y : Waiting). is_start_waiting (Some y)) b ∙ start

pub alias : (s : State) (reading : ℕ) (number : Option ℕ) (k : Kind) → Alias s reading number k
unfolding tells
alias s reading number (kind.Opened own) =
    record { state = s; says = kind.Opened own; same = refl; rows = refl; specs = refl; homes = λ row h. h; ends = (tells s reading number (kind.Opened own)).ends; adds = λ c x start b. absurd b; opens = λ o is. is }
alias s reading number (kind.Took (item.Note x)) =
    let t : Tells s reading number (kind.Took (item.Note x)) = tells s reading number (kind.Took (item.Note x)) in
    let k : (y : Note) × (t.says ≡ kind.Took (item.Note y)) = tells_note_kind s reading number x (home_of s x) (end_number x) refl refl in
    alias_note s reading number x t
    (λ c y b. note_brings k.0 s.waiting c y (subst (λ (j : Kind). Brings j s.waiting (item.Call c y)) k.1 b))
    (λ own is. let no : kind.Took (item.Note k.0) ≡ kind.Opened own = sym k.1 ∙ is in cc)
alias s reading number (kind.Took (item.Call c x)) = by (is_waited_for s) refl
  where
    start_of : (d : ℕ) (y : Call) → is_start_call y ≡ true → item.Call c x ≡ item.Call d y → is_start_call x ≡ true
    start_of d y start b = let same : x ≡ y = cc in ap is_start_call same ∙ start

    by : (b : Bool) → is_waited_for s ≡ b → Alias s reading number (kind.Took (item.Call c x))
    by true waits =
        record {
          state = with_waiting s (item.Call c x);
          says = kind.Stopped;
          same = waits_only s reading number c x waits;
          rows = refl;
          specs = refl;
          homes = λ row h. home_before s.waiting c x row h;
          ends = λ p t. absurd (let no : kind.Stopped ≡ kind.Took (item.Note t.0) = t.1 in cc);
          adds = λ d y start b. absurd b;
          opens = λ own is. absurd (let no : kind.Stopped ≡ kind.Opened own = is in cc);
        }
    by false waits =
        record {
          state = s;
          says = kind.Took (item.Call c x);
          same = refl;
          rows = refl;
          specs = refl;
          homes = λ row h. h;
          ends = λ p t. absurd (took_other c x p t);
          adds = λ d y start b. inl (c, x, refl, start_of d y start b, waits);
          opens = λ own is. absurd (let no : kind.Took (item.Call c x) ≡ kind.Opened own = is in cc);
        }
alias s reading number kind.Resumed = by (not (is_some s.follows) && not (is_over s.phase)) refl
  where
    by : (b : Bool) → (not (is_some s.follows) && not (is_over s.phase)) ≡ b → Alias s reading number kind.Resumed
    by true idle =
        record {
          state = s;
          says = kind.Resumed;
          same = refl;
          rows = refl;
          specs = refl;
          homes = λ row h. h;
          ends = λ p t. absurd (let no : kind.Resumed ≡ kind.Took (item.Note t.0) = t.1 in cc);
          adds = λ c x start b. inr (refl, ap (λ (i : Bool). i && is_start_waiting (slice_get s.waiting 0)) idle ∙ first_start s.waiting c x start b);
          opens = λ own is. absurd (let no : kind.Resumed ≡ kind.Opened own = is in cc);
        }
    by false busy =
        record {
          state = s;
          says = kind.Stopped;
          same = idle_only s reading number busy;
          rows = refl;
          specs = refl;
          homes = λ row h. h;
          ends = λ p t. absurd (let no : kind.Stopped ≡ kind.Took (item.Note t.0) = t.1 in cc);
          adds = λ c x start b. absurd b;
          opens = λ own is. absurd (let no : kind.Stopped ≡ kind.Opened own = is in cc);
        }
alias s reading number kind.Ticked =
    record { state = s; says = kind.Ticked; same = refl; rows = refl; specs = refl; homes = λ row h. h; ends = (tells s reading number kind.Ticked).ends; adds = λ c x start b. absurd b; opens = λ o is. is }
alias s reading number kind.Stopped =
    record { state = s; says = kind.Stopped; same = refl; rows = refl; specs = refl; homes = λ row h. h; ends = (tells s reading number kind.Stopped).ends; adds = λ c x start b. absurd b; opens = λ o is. is }
