-- Work that has just been opened has the lists of the children that it is about.
use Rattle.std.specs.Prelude.{◌≡◌, ℕ, ◌==◌, ◌+◌, ◌-◌, ◌≤◌, ◌<◌, ◌++◌, Bool, true, false, List, [], ◌∷◌, Option, None, Some, refl, not, slice_get, slice_set, slice_range, nat_lt, length, map, filter, reverse, take, drop}
use Rattle.std.specs.List.{cons_option}
use Rattle.std.specs.Option.{option_eq}
use Rattle.std.specs.Ordering.{on}
use Rattle.std.specs.Str.{bytes_eq}
use Rattle.std.proofs.Common.{◌∙◌, ap, sym, subst, arith, ⊎_elim, cond}
use Rattle.std.proofs.lemmas.Bool.{false≢true, cases_Bool, eq-eqb, eqb-true, ltb-true, ltb-false}
use Rattle.std.proofs.lemmas.List.{append-nil, append_assoc, map-append, drop_all, drop_at, take_at, length-take-le, length-drop, length-append, length-map}
use Rattle.std.proofs.lemmas.List.Elements.{filter-append, filter_map-append}
use Rattle.std.proofs.lemmas.Option.{slice_get_within}
use Rattle.std.proofs.lemmas.Slice.Eq.{bytes_eq-Decides}
use Prim.Native.Nat.{zero, suc}
use Rattle.otp_reason.specs.declared.name.Name.{Name}
use Rattle.otp_reason.specs.Names.{name_bytes}
use Rattle.otp_spec.specs.declared.child.ChildSpec.{ChildSpec}
use Rattle.otp_spec.specs.declared.child.Restart.{Restart}
use Rattle.otp_spec.specs.declared.child.Restart.TheVariants.{Permanent, Transient, Temporary}
use Rattle.otp_spec.specs.declared.flags.Strategy.{Strategy}
use Rattle.otp_spec.specs.declared.flags.Strategy.TheVariants.{OneForOne, OneForAll, RestForOne, SimpleOneForOne}
use Rattle.otp_table.specs.declared.row.Row.{Row}
use Rattle.otp_table.specs.declared.row.RowState.{RowState}
use Rattle.otp_table.specs.declared.row.RowState.TheVariants.{Undefined, Starting, Up, Asked, Killed, Restarting}
use Rattle.otp_table.specs.Rows.{free_slot, is_awaited, with_state, calm_rows, calmed, up_number}
use Rattle.otp_rules.specs.declared.ending.Ending.{Ending}
use Rattle.otp_rules.specs.declared.work.Due.{Due}
use Rattle.otp_rules.specs.declared.work.Sequel.{Sequel}
use Rattle.otp_spec.specs.Flags.{is_simple}
use Rattle.otp_rules.specs.State.{Outcome, State, with_rows, with_work}
use Rattle.otp_rules.specs.Places.{is_temporary}
use Rattle.otp_rules.specs.Restarts.{affected_from, affected_to, dues, restart_list, running}
use Rattle.otp_rules.specs.Stops.{calm_all, stop_each, terminate_ordered, terminate_together, terminate}
use Rattle.otp_rules.specs.Deaths.{restart_rows}
use Rattle.otp_rules.specs.Calls.{new_row}
use Rattle.otp_rules.specs.Step.{due_of, rows_from, open_with, open_rows, opening_specs, tick}
use Rattle.otp_rules.specs.Progress.{is_opened, ends_together, affected, comes_back, id_bytes, process_number, processes, start_list, IsIn}
use Rattle.otp_rules.specs.Fit.{is_told, rows_in, times}
use Rattle.otp_rules.proofs.Decisions.{StandsAt, by_test}
use Rattle.otp_rules.proofs.Counting.{times-cons, rows_in-cons, rows_in-set, stop_each-alike, take_rows, drop_rows}
use Rattle.otp_rules.proofs.Fitted.{affected_from_le, affected_to_more, slice_split}
use Rattle.otp_rules.proofs.Stopping.{apart-alike}
use Rattle.otp_rules.specs.declared.work.Sequel.TheVariants as sequel

-- work of these children has just been opened: to be stopped are their processes, of which none stands later among the
-- rows, in reverse start order; and to be started are those of them that such work starts
abbrev pub IsListedAs : List Row → State → Type 0
IsListedAs part s =
    (earlier : List ℕ) × (later : List ℕ)
    × (processes s.rows ≡ earlier ++ processes part ++ later)
    × ((q : ℕ) → IsIn q later → IsIn q (processes part) → ⊥)
    × (s.to_stop ≡ reverse (processes part))
    × (map (λ x. id_bytes x.id) s.to_start ≡ map (λ (x : Row). id_bytes x.id) (start_list s.follows part))

-- the work that opens or ends the supervisor is of all
abbrev pub IsWhole : Option Sequel → List Row → List Row → Type 0
IsWhole (Some sequel.Ready) rows part = part ≡ rows
IsWhole (Some (sequel.End _)) rows part = part ≡ rows
IsWhole _ rows part = Unit {0}

-- such work of some children
abbrev pub IsListedWhole : State → Type 0
IsListedWhole s = (part : List Row) × IsWhole s.follows s.rows part × IsListedAs part s

-- where no work is open, none was opened
pub opens_nothing : (f : Option Sequel) → is_opened f None ≡ false
opens_nothing None = refl
opens_nothing (Some sequel.Ready) = refl
opens_nothing (Some sequel.Nothing) = refl
opens_nothing (Some (sequel.Added _)) = refl
opens_nothing (Some (sequel.Restarted _)) = refl
opens_nothing (Some (sequel.Stopped _)) = refl
opens_nothing (Some (sequel.End _)) = refl

-- nothing is awaited: the children with a process are those that run
processes-running : (rows : List Row) → rows_in is_awaited rows ≡ 0 → processes (calm_rows rows) ≡ running rows
processes-running [] h = refl
processes-running (row ∷ rows) h =
    let split : rows_in is_awaited (row ∷ rows) ≡ cond (is_awaited row.state) 1 0 + rows_in is_awaited rows = rows_in-cons is_awaited row rows in
    let rest : processes (calm_rows rows) ≡ running rows = processes-running rows (omega (arith, h, split)) in
    ap (λ (ps : List ℕ). cons_option (process_number (calmed row.state)) ps) rest
    ∙ one row.state (running rows) (omega (arith, h, split))
  where
    one : (state : RowState) (ps : List ℕ) → ◌≡◌ {A = ℕ} (cond (is_awaited state) 1 0) 0 → cons_option (process_number (calmed state)) ps ≡ cons_option (up_number state) ps
    one Undefined ps h = refl
    one (Starting _ _) ps h = absurd (omega (arith, h))
    one (Up _) ps h = refl
    one (Asked _ _) ps h = absurd (omega (arith, h))
    one (Killed _) ps h = absurd (omega (arith, h))
    one (Restarting _) ps h = refl

-- the ids of those that are started again
abbrev ids_back : List Row → List (Option (List ℕ))
ids_back rows = map (λ (x : Row). id_bytes x.id) (filter (λ (x : Row). comes_back x.spec.restart) (calm_rows rows))

ids_back-append : (xs ys : List Row) → ids_back (xs ++ ys) ≡ ids_back xs ++ ids_back ys
ids_back-append xs ys =
    let f : Row → Row = λ row. with_state (calmed row.state) row in
    let p : Row → Bool = λ row. comes_back row.spec.restart in
    let id : Row → Option (List ℕ) = λ row. id_bytes row.id in
    ap (λ (rows : List Row). map id (filter p rows)) (map-append f xs ys)
    ∙ ap (λ (rows : List Row). map id rows) (filter-append p (map f xs) (map f ys))
    ∙ map-append id (filter p (map f xs)) (filter p (map f ys))

dues-ids : (kept : Option ℕ) (rows : List Row) → map (λ (x : Due). id_bytes x.id) (dues kept rows) ≡ ids_back rows
dues-ids kept [] = refl
dues-ids kept (row ∷ rows) = one row.spec.restart (filter (λ (x : Row). not (is_temporary x.spec.restart)) rows) (filter (λ (x : Row). comes_back x.spec.restart) (calm_rows rows)) (dues-ids kept rows)
  where
    one : (r : Restart) (xs ys : List Row)
        → map (λ (x : Due). id_bytes x.id) (map (λ (x : Row). record { id = x.id; kept = kept }) xs) ≡ map (λ (x : Row). id_bytes x.id) ys
        → map (λ (x : Due). id_bytes x.id) (map (λ (x : Row). record { id = x.id; kept = kept }) (cond (not (is_temporary r)) (row ∷ xs) xs)) ≡ map (λ (x : Row). id_bytes x.id) (cond (comes_back r) (with_state (calmed row.state) row ∷ ys) ys)
    one Permanent xs ys h = ap (λ (ids : List (Option (List ℕ))). id_bytes row.id ∷ ids) h
    one Transient xs ys h = ap (λ (ids : List (Option (List ℕ))). id_bytes row.id ∷ ids) h
    one Temporary xs ys h = h

restart_list-ids : (from to place k : ℕ) (rows : List Row) → from ≤ place → place + 1 ≤ to → map (λ (x : Due). id_bytes x.id) (restart_list from to place k rows) ≡ ids_back (slice_range rows from to)
restart_list-ids from to place k rows le more =
    let xs : List Row = slice_range rows from place in
    let ys : List Row = slice_range rows place (place + 1) in
    let zs : List Row = slice_range rows (place + 1) to in
    let id : Due → Option (List ℕ) = λ due. id_bytes due.id in
    let split : slice_range rows from to ≡ (xs ++ ys) ++ zs = slice_split rows from (place + 1) to (omega (arith, le)) more ∙ ap (λ (t : List Row). t ++ zs) (slice_split rows from place (place + 1) le (omega arith)) in
    map-append id (dues None xs ++ dues (Some k) ys) (dues None zs)
    ∙ ap (λ (ids : List (Option (List ℕ))). ids ++ map id (dues None zs)) (map-append id (dues None xs) (dues (Some k) ys))
    ∙ ap (λ (ids : List (Option (List ℕ))). (ids ++ map id (dues (Some k) ys)) ++ map id (dues None zs)) (dues-ids None xs)
    ∙ ap (λ (ids : List (Option (List ℕ))). (ids_back xs ++ ids) ++ map id (dues None zs)) (dues-ids (Some k) ys)
    ∙ ap (λ (ids : List (Option (List ℕ))). (ids_back xs ++ ids_back ys) ++ ids) (dues-ids None zs)
    ∙ ap (λ (ids : List (Option (List ℕ))). ids ++ ids_back zs) (sym (ids_back-append xs ys))
    ∙ sym (ids_back-append (xs ++ ys) zs)
    ∙ ap ids_back (sym split)

-- a slice of one
pub one_slice : (rows : List Row) (place : ℕ) (row : Row) → slice_get rows place ≡ Some row → slice_range rows place (place + 1) ≡ row ∷ []
one_slice [] place row at = let none : ◌≡◌ {A = Option Row} None (Some row) = at in cc
one_slice (x ∷ rows) zero row at = let same : x ≡ row = (let e : ◌≡◌ {A = Option Row} (Some x) (Some row) = at in cc) in ap (λ (r : Row). r ∷ []) same
one_slice (x ∷ rows) (suc i) row at =
    let less : suc i + 1 - suc i ≡ i + 1 - i = omega arith in
    ap (λ (n : ℕ). take n (drop i rows)) less ∙ one_slice rows i row at

-- the children from one place to another, with those before and after
abbrev mended : ℕ → ℕ → List Row → List Row
mended from to rows = take from rows ++ calm_rows (slice_range rows from to) ++ drop to rows

abbrev part_of : Strategy → ℕ → List Row → List Row
part_of s place rows = slice_range rows (affected_from s place) (affected_to s place (length rows))

one_affected : (place : ℕ) (rows : List Row) → place < length rows → slice_range (mended place (place + 1) rows) place (place + 1) ≡ calm_rows (slice_range rows place (place + 1))
one_affected place rows within =
    let part : List Row = calm_rows (slice_range rows place (place + 1)) in
    let after_it : List Row = drop (place + 1) rows in
    let some : length (drop place rows) ≡ length rows - place = length-drop place rows in
    let long : length part ≡ place + 1 - place =
    length-map (slice_range rows place (place + 1)) (λ (row : Row). with_state (calmed row.state) row)
    ∙ length-take-le (place + 1 - place) (drop place rows) (omega (arith, some, within)) in
    ap (λ (xs : List Row). take (place + 1 - place) (drop place xs)) (append_assoc (take place rows) part after_it)
    ∙ ap (λ (xs : List Row). take (place + 1 - place) xs) (drop_at (take place rows) (part ++ after_it) place (length-take-le place rows (omega (arith, within))))
    ∙ take_at part after_it (place + 1 - place) long

affected-is : (s : Strategy) (place : ℕ) (rows : List Row) → place < length rows
    → affected s place (mended (affected_from s place) (affected_to s place (length rows)) rows) ≡ calm_rows (part_of s place rows)
affected-is OneForOne place rows within = one_affected place rows within
affected-is OneForAll place rows within =
    let part : List Row = calm_rows (slice_range rows 0 (length rows)) in
    ap (λ (xs : List Row). part ++ xs) (drop_all (length rows) rows (omega arith)) ∙ append-nil part
affected-is RestForOne place rows within =
    let part : List Row = calm_rows (slice_range rows place (length rows)) in
    ap (λ (xs : List Row). drop place xs) (append_assoc (take place rows) part (drop (length rows) rows))
    ∙ drop_at (take place rows) (part ++ drop (length rows) rows) place (length-take-le place rows (omega (arith, within)))
    ∙ ap (λ (xs : List Row). part ++ xs) (drop_all (length rows) rows (omega arith))
    ∙ append-nil part
affected-is SimpleOneForOne place rows within = one_affected place rows within

pub stands_at : (front : List Row) (row : Row) (rows : List Row) → slice_get (front ++ row ∷ rows) (length front) ≡ Some row
stands_at [] row rows = refl
stands_at (x ∷ front) row rows = stands_at front row rows

-- the child that began the restart, which has no process, stands in its place
mended-at : (from to place : ℕ) (row : Row) (rows : List Row) → slice_get rows place ≡ Some (with_state Undefined row) → from ≤ place → place + 1 ≤ to → slice_get (mended from to rows) place ≡ Some (with_state Undefined row)
mended-at from to place row rows at le more =
    let f : Row → Row = λ x. with_state (calmed x.state) x in
    let down : Row = with_state Undefined row in
    let front : List Row = take from rows ++ map f (slice_range rows from place) in
    let zs : List Row = slice_range rows (place + 1) to in
    let within : place < length rows = slice_get_within rows place (with_state Undefined row) at in
    let split : slice_range rows from to ≡ slice_range rows from place ++ down ∷ zs =
    slice_split rows from place to le (omega (arith, more))
    ∙ ap (λ (xs : List Row). slice_range rows from place ++ xs) (slice_split rows place (place + 1) to (omega arith) more ∙ ap (λ (xs : List Row). xs ++ zs) (one_slice rows place down at)) in
    let whole : mended from to rows ≡ front ++ down ∷ (map f zs ++ drop to rows) =
    ap (λ (xs : List Row). (take from rows ++ map f xs) ++ drop to rows) split
    ∙ ap (λ (xs : List Row). (take from rows ++ xs) ++ drop to rows) (map-append f (slice_range rows from place) (down ∷ zs))
    ∙ ap (λ (xs : List Row). xs ++ drop to rows) (sym (append_assoc (take from rows) (map f (slice_range rows from place)) (down ∷ map f zs)))
    ∙ append_assoc front (down ∷ map f zs) (drop to rows) in
    let first : length (take from rows) ≡ from = length-take-le from rows (omega (arith, within, le)) in
    let left : length (drop from rows) ≡ length rows - from = length-drop from rows in
    let long : length (map f (slice_range rows from place)) ≡ place - from = length-map (slice_range rows from place) f ∙ length-take-le (place - from) (drop from rows) (omega (arith, left, within)) in
    let here : length front ≡ place = omega (arith, length-append (take from rows) (map f (slice_range rows from place)), first, long, le) in
    ap (λ (xs : List Row). slice_get xs place) whole
    ∙ ap (λ (i : ℕ). slice_get (front ++ down ∷ (map f zs ++ drop to rows)) i) (sym here)
    ∙ stands_at front down (map f zs ++ drop to rows)

-- no process past the last row
past : (rows : List Row) (q : ℕ) → IsIn q (processes (drop (length rows) rows)) → ⊥
past rows q h = let none : times q (processes (drop (length rows) rows)) ≡ 0 = ap (λ (xs : List Row). times q (processes xs)) (drop_all (length rows) rows (omega arith)) in omega (arith, none, h)

-- the child alone that is to be restarted has no process
one_down : (place : ℕ) (row : Row) (rows : List Row) → slice_get rows place ≡ Some row → row.state ≡ Undefined → (q : ℕ) → IsIn q (processes (calm_rows (slice_range rows place (place + 1)))) → ⊥
one_down place row rows at down q h =
    let none : times q (processes (calm_rows (slice_range rows place (place + 1)))) ≡ 0 =
    ap (λ (xs : List Row). times q (processes (calm_rows xs))) (one_slice rows place row at)
    ∙ ap (λ (s : RowState). times q (cons_option (process_number (calmed s)) [])) down in
    omega (arith, none, h)

-- where a restart doesn't affect all children after the first, none of those that it affects has a process
none_later : (s : Strategy) (place : ℕ) (row : Row) (rows : List Row) → slice_get rows place ≡ Some row → row.state ≡ Undefined
    → (q : ℕ) → IsIn q (processes (drop (affected_to s place (length rows)) rows)) → IsIn q (processes (calm_rows (part_of s place rows))) → ⊥
none_later OneForOne place row rows at down q h k = one_down place row rows at down q k
none_later OneForAll place row rows at down q h k = past rows q h
none_later RestForOne place row rows at down q h k = past rows q h
none_later SimpleOneForOne place row rows at down q h k = one_down place row rows at down q k

-- a restart's work
pub restarted-listed : (place k : ℕ) (row : Row) (o : Outcome) → StandsAt place (with_state Undefined row) o → rows_in is_awaited o.state.rows ≡ 0
    → (let s : Strategy = o.state.flags.strategy in let new : State = (restart_rows (affected_from s place) (affected_to s place (length o.state.rows)) place k o).state in
    (slice_get new.rows place ≡ Some (with_state Undefined row)) × IsListedAs (affected s place new.rows) new)
unfolding restart_rows
restarted-listed place k row o at none =
    let rows : List Row = o.state.rows in
    let s : Strategy = o.state.flags.strategy in
    let from : ℕ = affected_from s place in
    let to : ℕ = affected_to s place (length rows) in
    let part : List Row = slice_range rows from to in
    let within : place < length rows = slice_get_within rows place (with_state Undefined row) at in
    let le : from ≤ place = affected_from_le s place in
    let more : place + 1 ≤ to = affected_to_more s place (length rows) within in
    let inside : rows_in is_awaited part ≤ rows_in is_awaited rows =
    (let a : rows_in is_awaited part ≤ rows_in is_awaited (drop from rows) = take_rows is_awaited (to - from) (drop from rows) in omega (arith, a, drop_rows is_awaited from rows)) in
    let runs : processes (calm_rows part) ≡ running part = processes-running part (omega (arith, inside, none)) in
    let new : State = (restart_rows from to place k o).state in (
      mended-at from to place row rows at le more,
      subst (λ (xs : List Row). IsListedAs xs new) (sym (affected-is s place rows within)) (
        processes (take from rows),
        processes (drop to rows),
        filter_map-append (λ (x : Row). process_number x.state) (take from rows ++ calm_rows part) (drop to rows)
            ∙ ap (λ (ps : List ℕ). ps ++ processes (drop to rows)) (filter_map-append (λ (x : Row). process_number x.state) (take from rows) (calm_rows part)),
        none_later s place (with_state Undefined row) rows at refl,
        sym (ap (λ (ps : List ℕ). reverse ps) runs),
        restart_list-ids from to place k rows le more,
      ),
    )

pub together-follows : (e : Ending) (o : Outcome) → (terminate_together e o).state.follows ≡ Some (sequel.End e)
unfolding terminate_together
together-follows e o = (stop_each-alike (running o.state.rows) (calm_all (with_work [] [] (Some (sequel.End e)) o))).4

pub together : (e : Ending) (o : Outcome) → is_simple o.state.flags.strategy ≡ true → ends_together (terminate_together e o).state ≡ true
unfolding terminate_together
together e o simple =
    apart-alike (stop_each (running o.state.rows) (calm_all (with_work [] [] (Some (sequel.End e)) o))) (calm_all (with_work [] [] (Some (sequel.End e)) o))
    (stop_each-alike (running o.state.rows) (calm_all (with_work [] [] (Some (sequel.End e)) o)))
    ∙ simple

-- the end's work, but that of dynamic children
pub ended-listed : (e : Ending) (o : Outcome) → rows_in is_awaited o.state.rows ≡ 0 → ends_together (terminate e o).state ≡ false → IsListedWhole (terminate e o).state
unfolding terminate terminate_ordered
ended-listed e o none =
    by_test (λ x. ends_together x.state ≡ false → IsListedWhole x.state) (is_simple o.state.flags.strategy) (terminate_together e o) (terminate_ordered e o)
    (λ simple plain. absurd (false≢true (sym plain ∙ together e o simple)))
    (λ _ _.
    let rows : List Row = o.state.rows in (
      calm_rows rows,
      refl,
      ([], [], sym (append-nil (processes (calm_rows rows))), (λ q h k. omega (arith, h)), sym (ap (λ (ps : List ℕ). reverse ps) (processes-running rows none)), refl),
    ))

-- new children have no process
new-processes : (slot : ℕ) (specs : List ChildSpec) → processes (rows_from slot specs) ≡ []
new-processes slot [] = refl
new-processes slot (spec ∷ specs) = new-processes (slot + 1) specs

new-ids : (slot : ℕ) (specs : List ChildSpec) → map (λ (x : Due). id_bytes x.id) (map due_of specs) ≡ map (λ (x : Row). id_bytes x.id) (rows_from slot specs)
new-ids slot [] = refl
new-ids slot (spec ∷ specs) = ap (λ (ids : List (Option (List ℕ))). Some (name_bytes spec.id) ∷ ids) (new-ids (slot + 1) specs)

pub opened-listed : (own : ℕ) (o : Outcome) → IsListedWhole (open_rows own o).state
unfolding open_rows open_with
opened-listed own o =
    let specs : List ChildSpec = opening_specs (is_simple o.state.flags.strategy) o.state.specs in
    let rows : List Row = rows_from 0 specs in (
      rows,
      refl,
      (
        [],
        [],
        sym (append-nil (processes rows)),
        (λ q h k. omega (arith, h)),
        sym (ap (λ (ps : List ℕ). reverse ps) (new-processes 0 specs)),
        new-ids 0 specs,
      ),
    )

-- a child that is added
pub added-listed : (c : ℕ) (id : Option Name) (spec : ChildSpec) (o : Outcome)
    → IsListedAs (new_row (free_slot o.state.rows) id spec ∷ []) (with_work [] (record { id = id; kept = None } ∷ []) (Some (sequel.Added c)) (with_rows (o.state.rows ++ new_row (free_slot o.state.rows) id spec ∷ []) o)).state
added-listed c id spec o =
    let row : Row = new_row (free_slot o.state.rows) id spec in (
      processes o.state.rows,
      [],
      filter_map-append (λ (x : Row). process_number x.state) o.state.rows (row ∷ []) ∙ sym (append-nil (processes o.state.rows ++ [])),
      (λ q h k. omega (arith, k)),
      refl,
      refl,
    )

-- a child that is started again
pub same_id : (id : Name) (other : Option Name) → option_eq (on name_bytes bytes_eq) other (Some id) ≡ true → id_bytes (Some id) ≡ id_bytes other
same_id id None h = absurd (false≢true h)
same_id id (Some name) h = ap (λ (bytes : List ℕ). Some bytes) (sym ((bytes_eq-Decides (name_bytes name) (name_bytes id)).0 h))

pub again-listed : (c : ℕ) (id : Name) (row : Row) (o : Outcome) → id_bytes row.id ≡ Some (name_bytes id) → row.state ≡ Undefined
    → IsListedAs (row ∷ []) (with_work [] (record { id = Some id; kept = None } ∷ []) (Some (sequel.Restarted c)) o).state
again-listed c id row o has down =
    let nobody : processes (row ∷ []) ≡ [] = ap (λ (s : RowState). cons_option (process_number s) []) down in (
      processes o.state.rows,
      [],
      sym (append-nil (processes o.state.rows)) ∙ sym (append-nil (processes o.state.rows ++ [])) ∙ ap (λ (ps : List ℕ). (processes o.state.rows ++ ps) ++ []) (sym nobody),
      (λ q h k. omega (arith, h)),
      sym (ap (λ (ps : List ℕ). reverse ps) nobody),
      ap (λ (x : Option (List ℕ)). x ∷ []) (sym has),
    )

-- the last of the rows that have the process
has_last : (p : ℕ) (rows : List Row) → IsIn p (processes rows)
    → (place : ℕ) × (row : Row) × (slice_get rows place ≡ Some row) × (process_number row.state ≡ Some p)
    × (earlier : List ℕ) × (later : List ℕ) × (processes rows ≡ earlier ++ p ∷ later) × (IsIn p later → ⊥)
has_last p [] h = absurd (omega (arith, h))
has_last p (x ∷ rows) h =
    ⊎_elim
    (λ more.
    let rest : (place : ℕ) × (row : Row) × (slice_get rows place ≡ Some row) × (process_number row.state ≡ Some p) × (earlier : List ℕ) × (later : List ℕ) × (processes rows ≡ earlier ++ p ∷ later) × (IsIn p later → ⊥) =
    has_last p rows (ltb-true 0 (times p (processes rows)) more) in
    let further : (n : Option ℕ) → cons_option n (processes rows) ≡ cons_option n rest.4 ++ p ∷ rest.5 = λ n. longer n (processes rows) rest.4 rest.5 rest.6 in
    (suc rest.0, rest.1, rest.2, rest.3, cons_option (process_number x.state) rest.4, rest.5, further (process_number x.state), rest.7))
    (λ none.
    let zero_more : times p (processes rows) ≡ 0 = (let e : times p (processes rows) ≤ 0 = ltb-false 0 (times p (processes rows)) none in omega (arith, e)) in
    (zero, x, refl, here (process_number x.state) zero_more h, [], processes rows, ap (λ (n : Option ℕ). cons_option n (processes rows)) (here (process_number x.state) zero_more h), λ k. omega (arith, k, zero_more)))
    (cases_Bool (nat_lt 0 (times p (processes rows))))
  where
    longer : (n : Option ℕ) (ps earlier later : List ℕ) → ps ≡ earlier ++ p ∷ later → cons_option n ps ≡ cons_option n earlier ++ p ∷ later
    longer None ps earlier later e = e
    longer (Some m) ps earlier later e = ap (λ (xs : List ℕ). m ∷ xs) e

    here : (n : Option ℕ) → times p (processes rows) ≡ 0 → 0 < times p (cons_option n (processes rows)) → n ≡ Some p
    here None none k = absurd (omega (arith, none, k))
    here (Some m) none k =
        ⊎_elim
        (λ same. ap (λ (i : ℕ). Some i) (eqb-true m p same))
        (λ other. absurd (let z : ◌≡◌ {A = ℕ} (cond (m == p) 1 0) 0 = ap (λ (b : Bool). cond b 1 0) other in omega (arith, none, k, z, times-cons p m (processes rows))))
        (cases_Bool (m == p))

process_in : (p : ℕ) (rows : List Row) (place : ℕ) (row : Row) → slice_get rows place ≡ Some row → process_number row.state ≡ Some p → IsIn p (processes rows)
process_in p [] place row at is = let none : ◌≡◌ {A = Option Row} None (Some row) = at in cc
process_in p (x ∷ rows) zero row at is =
    let same : x ≡ row = (let e : ◌≡◌ {A = Option Row} (Some x) (Some row) = at in cc) in
    let e : times p (cons_option (process_number x.state) (processes rows)) ≡ times p (p ∷ processes rows) = ap (λ (n : Option ℕ). times p (cons_option n (processes rows))) (ap (λ (r : Row). process_number r.state) same ∙ is) in
    let one : ◌≡◌ {A = ℕ} (cond (p == p) 1 0) 1 = ap (λ (b : Bool). cond b 1 0) (eq-eqb p p refl) in
    omega (arith, e, one, times-cons p p (processes rows))
process_in p (x ∷ rows) (suc i) row at is = more (process_number x.state) (process_in p rows i row at is)
  where
    more : (n : Option ℕ) → 0 < times p (processes rows) → 0 < times p (cons_option n (processes rows))
    more None h = h
    more (Some m) h = omega (arith, h, times-cons p m (processes rows))

-- a child that is stopped: the work is that of the last row with its process
pub stopped-listed : (c p place : ℕ) (row : Row) (o : Outcome) → StandsAt place row o → process_number row.state ≡ Some p
    → (i : ℕ) × (other : Row) × (slice_get o.state.rows i ≡ Some other) × (process_number other.state ≡ Some p) × IsListedAs (other ∷ []) (with_work (p ∷ []) [] (Some (sequel.Stopped c)) o).state
stopped-listed c p place row o at has =
    let it : (place : ℕ) × (row : Row) × (slice_get o.state.rows place ≡ Some row) × (process_number row.state ≡ Some p) × (earlier : List ℕ) × (later : List ℕ) × (processes o.state.rows ≡ earlier ++ p ∷ later) × (IsIn p later → ⊥) =
    has_last p o.state.rows (process_in p o.state.rows place row at has) in
    let one : processes (it.1 ∷ []) ≡ p ∷ [] = ap (λ (n : Option ℕ). cons_option n []) it.3 in (
      it.0,
      it.1,
      it.2,
      it.3,
      (
        it.4,
        it.5,
        it.6 ∙ sym (append_assoc it.4 (p ∷ []) it.5) ∙ ap (λ (ps : List ℕ). (it.4 ++ ps) ++ it.5) (sym one),
        (λ q h k. only q it.5 it.7 h (subst (λ (ps : List ℕ). IsIn q ps) one k)),
        sym (ap (λ (ps : List ℕ). reverse ps) one),
        refl,
      ),
    )
  where
    only : (q : ℕ) (later : List ℕ) → (IsIn p later → ⊥) → IsIn q later → IsIn q (p ∷ []) → ⊥
    only q later other h k =
        ⊎_elim
        (λ same. other (subst (λ (n : ℕ). IsIn n later) (sym (eqb-true p q same)) h))
        (λ apart. let z : ◌≡◌ {A = ℕ} (cond (p == q) 1 0) 0 = ap (λ (b : Bool). cond b 1 0) apart in omega (arith, k, z, times-cons q p []))
        (cases_Bool (p == q))

pub starting : (row : Row) (q kept : ℕ) → row.state ≡ Starting q kept → is_awaited row.state ≡ true
starting row q kept is = ap is_awaited is

pub told_awaited : (p : ℕ) (state : RowState) → is_told p state ≡ true → is_awaited state ≡ true
told_awaited p Undefined h = h
told_awaited p (Starting _ _) h = refl
told_awaited p (Up _) h = h
told_awaited p (Asked _ _) h = refl
told_awaited p (Killed _) h = refl
told_awaited p (Restarting _) h = h

pub down_calm : (place : ℕ) (row : Row) (state : RowState) (o : Outcome) → StandsAt place row o → is_awaited state ≡ false → rows_in is_awaited o.state.rows ≤ cond (is_awaited row.state) 1 0 → rows_in is_awaited (slice_set o.state.rows place (with_state state row)) ≡ 0
down_calm place row state o at calm few =
    let e : rows_in is_awaited (slice_set o.state.rows place (with_state state row)) + cond (is_awaited row.state) 1 0 ≡ rows_in is_awaited o.state.rows + cond (is_awaited state) 1 0 = rows_in-set is_awaited place row state o.state.rows at in
    let z : ◌≡◌ {A = ℕ} (cond (is_awaited state) 1 0) 0 = ap (λ (b : Bool). cond b 1 0) calm in
    omega (arith, e, z, few)

pub open_rows-follows : (own : ℕ) (o : Outcome) → (open_rows own o).state.follows ≡ Some sequel.Ready
unfolding open_rows open_with
open_rows-follows own o = refl

pub tick-follows : (o : Outcome) → (tick o).state.follows ≡ o.state.follows
unfolding tick
tick-follows o = refl

-- work that goes on wasn't opened again
pub opens_not_again : (f : Option Sequel) → is_opened f f ≡ false
opens_not_again None = refl
opens_not_again (Some sequel.Ready) = refl
opens_not_again (Some sequel.Nothing) = refl
opens_not_again (Some (sequel.Added _)) = refl
opens_not_again (Some (sequel.Restarted _)) = refl
opens_not_again (Some (sequel.Stopped _)) = refl
opens_not_again (Some (sequel.End _)) = refl
