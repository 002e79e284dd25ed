-- What an event does that takes a note.
use Rattle.std.specs.Prelude.{◌≡◌, ◌⊎◌, ℕ, ◌==◌, ◌+◌, ◌≤◌, ◌<◌, Bool, true, false, List, [], ◌∷◌, Option, None, Some, refl, if◌then◌else◌, is_some, slice_set, remove, unwrap_or}
use Rattle.std.specs.List.{list_any}
use Rattle.std.proofs.Common.{◌∙◌, ap, sym, subst, inl, inr, arith, ⊎_elim, cond, rules}
use Rattle.std.proofs.lemmas.Bool.{cases_Bool, false≢true}
use Rattle.otp_reason.specs.declared.note.Note.{Note}
use Rattle.otp_reason.specs.declared.note.Note.TheVariants as note
use Rattle.otp_reason.specs.declared.reason.Reason.{Reason}
use Rattle.otp_table.specs.declared.row.Row.{Row}
use Rattle.otp_table.specs.declared.row.RowState.{RowState}
use Rattle.otp_table.specs.declared.row.RowState.TheVariants.{Undefined, Starting, Up, Asked, Killed, Restarting}
use Rattle.otp_table.specs.Rows.{has_process, is_awaited, row_has, with_state}
use Rattle.otp_rules.specs.declared.ending.Ending.TheVariants as ending
use Rattle.otp_rules.specs.declared.event.Event.{Event}
use Rattle.otp_rules.specs.declared.event.Item.{Item}
use Rattle.otp_rules.specs.declared.event.Item.TheVariants as item
use Rattle.otp_rules.specs.declared.event.Kind.{Kind}
use Rattle.otp_rules.specs.declared.event.Kind.TheVariants as kind
use Rattle.otp_rules.specs.declared.event.Waiting.{Waiting}
use Rattle.otp_rules.specs.declared.event.Waiting.TheVariants as waiting
use Rattle.otp_rules.specs.declared.work.Sequel.{Sequel}
use Rattle.otp_rules.specs.declared.work.Sequel.TheVariants as sequel
use Rattle.otp_rules.specs.State.{Outcome, State, answer, is_busy, is_over, put_last, with_waiting}
use Rattle.otp_rules.specs.Places.{at_number, end_row, set_row}
use Rattle.otp_rules.specs.Restarts.{ends_by_significance, is_restarted}
use Rattle.otp_rules.specs.Stops.{terminate}
use Rattle.otp_rules.specs.Starts.{at_starting, failed_after, if_starting, take_failed, take_ignored, take_up, up_after}
use Rattle.otp_rules.specs.Work.{advance}
use Rattle.otp_rules.specs.Deaths.{after_end, death, exit_in, restart, take_exit}
use Rattle.otp_rules.specs.Step.{decide, resume, stamped, step, step_on, take_item, take_note, take_waiting}
use Rattle.otp_rules.specs.Homes.{Brings, IsFirst}
use Rattle.otp_rules.specs.Progress.{exit_number, is_end}
use Rattle.otp_rules.specs.Fit.{is_starting, rows_in, IsLimited}
use Rattle.otp_rules.specs.InOrder.{is_begun, is_stop, Awaits, IsInOrder}
use Rattle.otp_rules.proofs.Walks.{advance-by}
use Rattle.otp_rules.proofs.Decisions.{StandsAt, at_number-survives, at_row-survives, by_test}
use Rattle.otp_rules.proofs.Counting.{at_row-found, remove_count, rows_in-apart, rows_in-at, rows_in-end, rows_in-le, rows_in-set}
use Rattle.otp_rules.proofs.Finishing.{begun_awaited, zero_or_more}
use Rattle.otp_rules.proofs.Numbers.{holders}
use Rattle.otp_laws.specs.Notes.{answer_number, awaits, has_come_up, ChangesNone}
use Rattle.otp_laws.proofs.Falls.{AtMost, process-falling, restart-falls, starting-falling, terminate-falls}

-- the event that brings an item takes it, or does nothing; what waits without it is left
pub brings-item : (P : Outcome → Type 0) (k : Kind) (i : Item) (o : Outcome) → Brings k o.state.waiting i → ((ws : List Waiting) → P (with_waiting ws o)) → ((ws : List Waiting) → P (take_item i (with_waiting ws o))) → P (decide k o)
unfolding decide resume take_waiting
brings-item P (kind.Opened own) i o b rests takes = absurd b
brings-item P (kind.Took j) i o b rests takes = subst (λ (x : Item). P (take_item x o)) (sym b) (takes o.state.waiting)
brings-item P kind.Resumed i o b rests takes =
    by_test P (is_busy o) o (if is_over o.state.phase then o else resume o.state.waiting o) (λ _. rests o.state.waiting)
    (λ _. by_test P (is_over o.state.phase) o (resume o.state.waiting o) (λ _. rests o.state.waiting) (λ _. first o.state.waiting b))
  where
    first : (ws : List Waiting) → IsFirst ws i → P (resume ws o)
    first [] f = absurd f
    first (w ∷ ws) f = subst (λ (y : Waiting). P (take_waiting y (with_waiting ws o))) (sym f) (takes ws)
brings-item P kind.Ticked i o b rests takes = absurd b
brings-item P kind.Stopped i o b rests takes = absurd b

-- it takes it where the supervisor runs and no work is open
pub brings-idle : (P : Outcome → Type 0) (k : Kind) (i : Item) (o : Outcome) → Brings k o.state.waiting i → is_busy o ≡ false → is_over o.state.phase ≡ false → ((ws : List Waiting) → P (take_item i (with_waiting ws o))) → P (decide k o)
unfolding decide resume take_waiting
brings-idle P (kind.Opened own) i o b idle runs takes = absurd b
brings-idle P (kind.Took j) i o b idle runs takes = subst (λ (x : Item). P (take_item x o)) (sym b) (takes o.state.waiting)
brings-idle P kind.Resumed i o b idle runs takes =
    by_test P (is_busy o) o (if is_over o.state.phase then o else resume o.state.waiting o) (λ busy. absurd (false≢true (sym idle ∙ busy)))
    (λ _. by_test P (is_over o.state.phase) o (resume o.state.waiting o) (λ over. absurd (false≢true (sym runs ∙ over))) (λ _. first o.state.waiting b))
  where
    first : (ws : List Waiting) → IsFirst ws i → P (resume ws o)
    first [] f = absurd f
    first (w ∷ ws) f = subst (λ (y : Waiting). P (take_waiting y (with_waiting ws o))) (sym f) (takes ws)
brings-idle P kind.Ticked i o b idle runs takes = absurd b
brings-idle P kind.Stopped i o b idle runs takes = absurd b

-- a note is taken while the supervisor runs
pub brings-note : (P : Outcome → Type 0) (k : Kind) (x : Note) (o : Outcome) → Brings k o.state.waiting (item.Note x) → ((ws : List Waiting) → P (with_waiting ws o)) → ((ws : List Waiting) → P (take_note x (with_waiting ws o))) → P (decide k o)
unfolding take_item
brings-note P k x o b rests takes =
    brings-item P k (item.Note x) o b rests
    (λ ws. by_test P (is_over o.state.phase) (with_waiting ws o) (take_note x (with_waiting ws o)) (λ _. rests ws) (λ _. takes ws))

pub zero_or_some : (n : ℕ) → (0 < n) ⊎ (n ≡ 0)
zero_or_some n = ⊎_elim (λ (zero : n ≡ 0). inr zero) (λ (some : 0 < n). inl some) (zero_or_more n)

-- the same rows and as much work
abbrev pub Same : Outcome → Outcome → Type 0
Same o new = (new.state.rows ≡ o.state.rows) × (new.state.follows ≡ o.state.follows)

-- open work that awaits an answer rests
pub advance-same : (n : ℕ) (o new : Outcome) → Awaits o.state → Same o new → Same o (advance n new)
advance-same n o new awaits same =
    advance-by (Same o) n new (λ _. same)
    (λ busy none. absurd (false≢true (sym none ∙ ap (λ (rows : List Row). list_any (row_has is_awaited) rows) same.0 ∙ awaits (ap (λ (f : Option Sequel). is_some f) (sym same.1) ∙ busy))))

-- an event whose decision changes no row changes none
pub rests-same : (s : State) (e : Event) → Awaits s → Same (record { state = stamped e.reading s; orders = [] }) (decide e.kind (record { state = stamped e.reading s; orders = [] })) → ChangesNone s e
unfolding step step_on
rests-same s e h same =
    let start : Outcome = record { state = stamped e.reading s; orders = [] } in
    (advance-same (unwrap_or e.number 0) start (decide e.kind start) h same).0

-- what is done at the row of the process
pub at_process : (P : Outcome → Type 0) (p : ℕ) (f : ℕ → Row → Outcome → Outcome) (o : Outcome) → (holders p o ≡ 0 → P o) → ((place : ℕ) (row : Row) → StandsAt place row o → has_process p row.state ≡ true → P (f place row o)) → P (at_number p f o)
unfolding at_number
at_process P p f o none each =
    ⊎_elim
    (λ (zero : holders p o ≡ 0). at_row-survives P (row_has (has_process p)) o f o (none zero) (none zero) each)
    (λ (some : 0 < holders p o). at_row-found P (row_has (has_process p)) o f o some each)
    (zero_or_more (holders p o))

-- one of no rows isn't so
pub none_at : (t : RowState → Bool) (place : ℕ) (row : Row) (o : Outcome) → StandsAt place row o → rows_in t o.state.rows ≡ 0 → t row.state ≡ false
none_at t place row o at none =
    ⊎_elim (λ holds_so. absurd (let one : ◌≡◌ {A = ℕ} (cond (t row.state) 1 0) 1 = ap (λ (b : Bool). cond b 1 0) holds_so in omega (arith, one, none, rows_in-at t place row o.state.rows at))) (λ isnt. isnt) (cases_Bool (t row.state))

-- a note that no child awaits

starting-rests : (p : ℕ) (f : ℕ → ℕ → Row → Outcome → Outcome) (o : Outcome) → rows_in (is_starting p) o.state.rows ≡ 0 → Same o (at_starting p f o)
unfolding at_starting
starting-rests p f o none =
    at_number-survives (Same o) p (λ place row. if_starting (λ k. f k place row) row.state) o (refl, refl)
    (λ place row at has. one place row row.state has (none_at (is_starting p) place row o at none))
  where
    one : (place : ℕ) (row : Row) (state : RowState) → has_process p state ≡ true → is_starting p state ≡ false → Same o (if_starting (λ k. f k place row) state o)
    one place row Undefined has isnt = (refl, refl)
    one place row (Starting q k) has isnt = absurd (false≢true (sym isnt ∙ has))
    one place row (Up _) has isnt = (refl, refl)
    one place row (Asked _ _) has isnt = (refl, refl)
    one place row (Killed _) has isnt = (refl, refl)
    one place row (Restarting _) has isnt = (refl, refl)

exit-rests : (p : ℕ) (r : Reason) (o : Outcome) → rows_in (has_come_up p) o.state.rows ≡ 0 → Same o (take_exit p r o)
unfolding take_exit exit_in
exit-rests p r o none =
    at_number-survives (Same o) p (λ place row. exit_in p r place row row.state) o (refl, refl)
    (λ place row at has. one place row row.state has (none_at (has_come_up p) place row o at none))
  where
    one : (place : ℕ) (row : Row) (state : RowState) → has_process p state ≡ true → has_come_up p state ≡ false → Same o (exit_in p r place row state o)
    one place row Undefined has isnt = (refl, refl)
    one place row (Starting q k) has isnt = (refl, refl)
    one place row (Up _) has isnt = absurd (false≢true (sym isnt ∙ has))
    one place row (Asked _ _) has isnt = absurd (false≢true (sym isnt ∙ has))
    one place row (Killed _) has isnt = absurd (false≢true (sym isnt ∙ has))
    one place row (Restarting _) has isnt = (refl, refl)

note-rests : (x : Note) (o : Outcome) → rows_in (awaits x) o.state.rows ≡ 0 → Same o (take_note x o)
unfolding take_note take_up take_ignored take_failed
note-rests (note.Up p) o none = starting-rests p _ o none
note-rests (note.Ignored p) o none = starting-rests p _ o none
note-rests (note.Failed p r) o none = starting-rests p _ o none
note-rests (note.Exit p r) o none = exit-rests p r o none

-- an event that brings one changes no row
pub unawaited-rests : (s : State) (e : Event) (x : Note) → Awaits s → Brings e.kind s.waiting (item.Note x) → rows_in (awaits x) s.rows ≡ 0 → ChangesNone s e
unawaited-rests s e x h b none =
    let start : Outcome = record { state = stamped e.reading s; orders = [] } in
    rests-same s e h (brings-note (Same start) e.kind x start b (λ ws. (refl, refl)) (λ ws. note-rests x (with_waiting ws start) none))

-- an answer to a start: nobody is starting under its number any more

-- what follows the work starts children, so that the failure of one counts
abbrev pub starts_some : Option Sequel → Bool
starts_some (Some sequel.Ready) = true
starts_some (Some sequel.Nothing) = true
starts_some (Some (sequel.Added _)) = true
starts_some (Some (sequel.Restarted _)) = true
starts_some _ = false

-- and else nobody is starting
abbrev pub StartsInWork : ℕ → Outcome → Type 0
StartsInWork p o = starts_some o.state.follows ≡ false → rows_in (is_starting p) o.state.rows ≡ 0

starting_begun : (p : ℕ) (rows : List Row) → rows_in (is_starting p) rows ≤ rows_in is_begun rows
starting_begun p = rows_in-le (is_starting p) is_begun one
  where
    at_most : (b : Bool) → cond b 1 0 ≤ cond true 1 0
    at_most true = omega arith
    at_most false = omega arith

    one : (state : RowState) → cond (is_starting p state) 1 0 ≤ cond (is_begun state) 1 0
    one Undefined = omega arith
    one (Starting q _) = at_most (q == p)
    one (Up _) = omega arith
    one (Asked _ _) = omega arith
    one (Killed _) = omega arith
    one (Restarting _) = omega arith

pub starts_in_work : (m : ℕ) (s : State) → IsInOrder m s → (p : ℕ) → starts_some s.follows ≡ false → rows_in (is_starting p) s.rows ≡ 0
starts_in_work m s h p isnt = by s.follows refl isnt
  where
    none : rows_in is_begun s.rows ≡ 0 → rows_in (is_starting p) s.rows ≡ 0
    none z = omega (arith, z, starting_begun p s.rows)

    by : (f : Option Sequel) → s.follows ≡ f → starts_some f ≡ false → rows_in (is_starting p) s.rows ≡ 0
    by None is isnt =
        let limit : rows_in is_awaited s.rows ≡ 0 = subst (λ (f : Option Sequel). IsLimited f (rows_in is_awaited s.rows)) is h.0.0 in
        none (omega (arith, limit, begun_awaited s.rows))
    by (Some sequel.Ready) is isnt = absurd (false≢true (sym isnt))
    by (Some sequel.Nothing) is isnt = absurd (false≢true (sym isnt))
    by (Some (sequel.Added _)) is isnt = absurd (false≢true (sym isnt))
    by (Some (sequel.Restarted _)) is isnt = absurd (false≢true (sym isnt))
    by (Some (sequel.Stopped c)) is isnt = none (h.4 (ap (λ (f : Option Sequel). is_stop f) is)).0
    by (Some (sequel.End x)) is isnt = none (h.2 (ap (λ (f : Option Sequel). is_end f) is)).1

starting_held : (p : ℕ) (rows : List Row) → rows_in (is_starting p) rows + rows_in (has_come_up p) rows ≤ rows_in (has_process p) rows
starting_held p = rows_in-apart (is_starting p) (has_come_up p) (has_process p) one
  where
    one : (state : RowState) → cond (is_starting p state) 1 0 + cond (has_come_up p state) 1 0 ≤ cond (has_process p state) 1 0
    one Undefined = omega arith
    one (Starting _ _) = omega arith
    one (Up _) = omega arith
    one (Asked _ _) = omega arith
    one (Killed _) = omega arith
    one (Restarting _) = omega arith

-- nobody is starting under this number
abbrev pub NoStart : ℕ → Outcome → Type 0
NoStart p o = AtMost (is_starting p) 0 o

-- what is done where the start is awaited, if one row at most has the process
starting-heard : (p : ℕ) (f : ℕ → ℕ → Row → Outcome → Outcome) (o : Outcome) → holders p o ≤ 1
    → ((k place : ℕ) (row : Row) → StandsAt place row o → is_starting p row.state ≡ true → rows_in (is_starting p) o.state.rows ≤ 1 → NoStart p (f k place row o)) → NoStart p (at_starting p f o)
unfolding at_starting
starting-heard p f o one each =
    at_process (NoStart p) p (λ place row. if_starting (λ k. f k place row) row.state) o (λ none. omega (arith, none, starting_held p o.state.rows))
    (λ place row at has. by place row row.state refl at has)
  where
    few : rows_in (is_starting p) o.state.rows ≤ 1
    few = omega (arith, one, starting_held p o.state.rows)

    up : (place : ℕ) (row : Row) → StandsAt place row o → has_come_up p row.state ≡ true → NoStart p o
    up place row at holds_so =
        let c : ◌≡◌ {A = ℕ} (cond (has_come_up p row.state) 1 0) 1 = ap (λ (b : Bool). cond b 1 0) holds_so in
        omega (arith, one, c, starting_held p o.state.rows, rows_in-at (has_come_up p) place row o.state.rows at)

    by : (place : ℕ) (row : Row) (state : RowState) → row.state ≡ state → StandsAt place row o → has_process p state ≡ true → NoStart p (if_starting (λ k. f k place row) state o)
    by place row Undefined is at has = absurd (false≢true has)
    by place row (Starting q k) is at has = each k place row at (ap (λ (s : RowState). is_starting p s) is ∙ has) few
    by place row (Up q) is at has = up place row at (ap (λ (s : RowState). has_come_up p s) is ∙ has)
    by place row (Asked q d) is at has = up place row at (ap (λ (s : RowState). has_come_up p s) is ∙ has)
    by place row (Killed q) is at has = up place row at (ap (λ (s : RowState). has_come_up p s) is ∙ has)
    by place row (Restarting k) is at has = absurd (false≢true has)

set-no_start : (p place : ℕ) (row : Row) (state : RowState) (o : Outcome) → StandsAt place row o → is_starting p row.state ≡ true → rows_in (is_starting p) o.state.rows ≤ 1 → is_starting p state ≡ false → NoStart p (set_row place row state o)
set-no_start p place row state o at starts few isnt =
    let e : rows_in (is_starting p) (slice_set o.state.rows place (with_state state row)) + cond (is_starting p row.state) 1 0 ≡ rows_in (is_starting p) o.state.rows + cond (is_starting p state) 1 0 = rows_in-set (is_starting p) place row state o.state.rows at in
    let c : ◌≡◌ {A = ℕ} (cond (is_starting p row.state) 1 0) 1 = ap (λ (b : Bool). cond b 1 0) starts in
    let z : ◌≡◌ {A = ℕ} (cond (is_starting p state) 1 0) 0 = ap (λ (b : Bool). cond b 1 0) isnt in
    omega (arith, e, c, z, few)

up_after-rows : (p : ℕ) (f : Option Sequel) (o : Outcome) → (up_after p f o).state.rows ≡ o.state.rows
unfolding up_after answer
up_after-rows p None o = refl
up_after-rows p (Some sequel.Ready) o = refl
up_after-rows p (Some sequel.Nothing) o = refl
up_after-rows p (Some (sequel.Added c)) o = refl
up_after-rows p (Some (sequel.Restarted c)) o = refl
up_after-rows p (Some (sequel.Stopped c)) o = refl
up_after-rows p (Some (sequel.End e)) o = refl

up-heard : (p : ℕ) (o : Outcome) → holders p o ≤ 1 → NoStart p (take_up p o)
unfolding take_up
up-heard p o one =
    starting-heard p (λ k place row x. up_after p x.state.follows (set_row place row (Up p) x)) o one
    (λ k place row at starts few.
    subst (λ (rows : List Row). rows_in (is_starting p) rows ≤ 0) (sym (up_after-rows p o.state.follows (set_row place row (Up p) o))) (set-no_start p place row (Up p) o at starts few refl))

ignored-heard : (p : ℕ) (o : Outcome) → holders p o ≤ 1 → NoStart p (take_ignored p o)
unfolding take_ignored
ignored-heard p o one =
    starting-heard p (λ k. end_row) o one
    (λ k place row at starts few.
    let e : rows_in (is_starting p) (end_row place row o).state.rows + cond (is_starting p row.state) 1 0 ≡ rows_in (is_starting p) o.state.rows = rows_in-end (is_starting p) refl place row o at in
    let c : ◌≡◌ {A = ℕ} (cond (is_starting p row.state) 1 0) 1 = ap (λ (b : Bool). cond b 1 0) starts in
    omega (arith, e, c, few))

failed-heard : (p : ℕ) (r : Reason) (o : Outcome) → holders p o ≤ 1 → StartsInWork p o → NoStart p (take_failed p r o)
unfolding take_failed failed_after answer
failed-heard p r o one work =
    starting-heard p (λ k place row x. failed_after r k place row x.state.follows x) o one
    (λ k place row at starts few. by k place row at starts few o.state.follows refl)
  where
    by : (k place : ℕ) (row : Row) → StandsAt place row o → is_starting p row.state ≡ true → rows_in (is_starting p) o.state.rows ≤ 1 → (f : Option Sequel) → o.state.follows ≡ f → NoStart p (failed_after r k place row f o)
    by k place row at starts few None is = omega (arith, work (ap (λ (f : Option Sequel). starts_some f) is))
    by k place row at starts few (Some sequel.Ready) is =
        terminate-falls (is_starting p) (starting-falling p) 0 (ending.InitFailed row.spec.id) (set_row place row Undefined o) (set-no_start p place row Undefined o at starts few refl)
    by k place row at starts few (Some sequel.Nothing) is = set-no_start p place row (Restarting k) o at starts few refl
    by k place row at starts few (Some (sequel.Added c)) is =
        let e : rows_in (is_starting p) (remove o.state.rows place) + cond (is_starting p row.state) 1 0 ≡ rows_in (is_starting p) o.state.rows = remove_count (row_has (is_starting p)) o.state.rows place row at in
        let c : ◌≡◌ {A = ℕ} (cond (is_starting p row.state) 1 0) 1 = ap (λ (b : Bool). cond b 1 0) starts in
        omega (arith, e, c, few)
    by k place row at starts few (Some (sequel.Restarted c)) is = set-no_start p place row Undefined o at starts few refl
    by k place row at starts few (Some (sequel.Stopped c)) is = omega (arith, work (ap (λ (f : Option Sequel). starts_some f) is))
    by k place row at starts few (Some (sequel.End e)) is = omega (arith, work (ap (λ (f : Option Sequel). starts_some f) is))

pub same_some : (q p : ℕ) → ◌≡◌ {A = Option ℕ} (Some q) (Some p) → q ≡ p
same_some q p h = cc

pub none_some : (p : ℕ) → ◌≡◌ {A = Option ℕ} None (Some p) → ⊥
none_some p h = search (rules, h)

pub note-heard : (x : Note) (p : ℕ) (o : Outcome) → answer_number x ≡ Some p → holders p o ≤ 1 → StartsInWork p o → NoStart p (take_note x o)
unfolding take_note
note-heard (note.Up q) p o is one work = subst (λ (n : ℕ). NoStart p (take_up n o)) (sym (same_some q p is)) (up-heard p o one)
note-heard (note.Ignored q) p o is one work = subst (λ (n : ℕ). NoStart p (take_ignored n o)) (sym (same_some q p is)) (ignored-heard p o one)
note-heard (note.Failed q r) p o is one work = subst (λ (n : ℕ). NoStart p (take_failed n r o)) (sym (same_some q p is)) (failed-heard p r o one work)
note-heard (note.Exit q r) p o is one work = absurd (none_some p is)

-- an Exit: nothing changes but what waits, or nobody has the process any more

set-none : (p place : ℕ) (row : Row) (o : Outcome) → holders p o ≤ 1 → StandsAt place row o → has_process p row.state ≡ true → AtMost (has_process p) 0 (set_row place row Undefined o)
set-none p place row o one at has =
    let e : rows_in (has_process p) (slice_set o.state.rows place (with_state Undefined row)) + cond (has_process p row.state) 1 0 ≡ holders p o + 0 = rows_in-set (has_process p) place row Undefined o.state.rows at in
    let c : ◌≡◌ {A = ℕ} (cond (has_process p row.state) 1 0) 1 = ap (λ (b : Bool). cond b 1 0) has in
    omega (arith, e, c, one)

pub end-none : (p place : ℕ) (row : Row) (o : Outcome) → holders p o ≤ 1 → StandsAt place row o → has_process p row.state ≡ true → AtMost (has_process p) 0 (end_row place row o)
end-none p place row o one at has =
    let e : holders p (end_row place row o) + cond (has_process p row.state) 1 0 ≡ holders p o = rows_in-end (has_process p) refl place row o at in
    let c : ◌≡◌ {A = ℕ} (cond (has_process p row.state) 1 0) 1 = ap (λ (b : Bool). cond b 1 0) has in
    omega (arith, e, c, one)

death-none : (p : ℕ) (r : Reason) (place : ℕ) (row : Row) (o : Outcome) → holders p o ≤ 1 → StandsAt place row o → has_process p row.state ≡ true → AtMost (has_process p) 0 (death p r place row o)
unfolding death after_end
death-none p r place row o one at has =
    let gone : Outcome = end_row place row o in
    let none : AtMost (has_process p) 0 gone = end-none p place row o one at has in
    by_test (AtMost (has_process p) 0) (is_restarted row.spec.restart r) (restart p place row o) (after_end p row gone)
    (λ _. restart-falls (has_process p) (process-falling p) 0 p place row o at (set-none p place row o one at has))
    (λ _. by_test (AtMost (has_process p) 0) (ends_by_significance gone.state.flags.auto_shutdown row gone.state.rows) (terminate (ending.Significant p) gone) gone
    (λ _. terminate-falls (has_process p) (process-falling p) 0 (ending.Significant p) gone none) (λ _. none))

abbrev pub Gone : ℕ → Outcome → Outcome → Type 0
Gone p old o = Same old o ⊎ AtMost (has_process p) 0 o

pub exit-heard : (p : ℕ) (r : Reason) (o : Outcome) → holders p o ≤ 1 → Gone p o (take_exit p r o)
unfolding take_exit exit_in
exit-heard p r o one =
    at_process (Gone p o) p (λ place row. exit_in p r place row row.state) o (λ none. inl (refl, refl)) (λ place row at has. by place row row.state refl at has)
  where
    by : (place : ℕ) (row : Row) (state : RowState) → row.state ≡ state → StandsAt place row o → has_process p state ≡ true → Gone p o (exit_in p r place row state o)
    by place row Undefined is at has = absurd (false≢true has)
    by place row (Starting q k) is at has = inl (refl, refl)
    by place row (Up q) is at has =
        by_test (Gone p o) (is_busy o) (put_last (waiting.Item (item.Note (note.Exit p r))) o) (death p r place row o) (λ _. inl (refl, refl))
        (λ _. inr (death-none p r place row o one at (ap (λ (s : RowState). has_process p s) is ∙ has)))
    by place row (Asked q d) is at has = inr (end-none p place row o one at (ap (λ (s : RowState). has_process p s) is ∙ has))
    by place row (Killed q) is at has = inr (end-none p place row o one at (ap (λ (s : RowState). has_process p s) is ∙ has))
    by place row (Restarting k) is at has = absurd (false≢true has)

pub note-ends : (x : Note) (p : ℕ) (o : Outcome) → exit_number x ≡ Some p → holders p o ≤ 1 → Gone p o (take_note x o)
unfolding take_note
note-ends (note.Up q) p o is one = absurd (none_some p is)
note-ends (note.Ignored q) p o is one = absurd (none_some p is)
note-ends (note.Failed q r) p o is one = absurd (none_some p is)
note-ends (note.Exit q r) p o is one = subst (λ (n : ℕ). Gone p o (take_exit n r o)) (sym (same_some q p is)) (exit-heard p r o one)
