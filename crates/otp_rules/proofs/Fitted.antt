-- Each child that is to be started has its row, whatever is decided.
use Rattle.std.specs.Prelude.{◌≡◌, ℕ, ◌==◌, ◌+◌, ◌-◌, ◌≤◌, ◌<◌, ◌++◌, ◌&&◌, ◌||◌, Bool, true, false, List, [], ◌∷◌, Option, None, Some, refl, not, is_some, is_none, slice_get, slice_set, slice_range, nat_le, nat_lt, length, remove, map, filter, reverse, take, drop, count_by}
use Rattle.std.specs.Option.{option_eq}
use Rattle.std.specs.Ordering.{on}
use Rattle.std.specs.Str.{bytes_eq}
use Rattle.std.proofs.Common.{◌∙◌, ap, sym, subst, inl, inr, arith, cond, get_or}
use Rattle.std.proofs.lemmas.Bool.{cond_both, false≢true, and_from, eq-eqb, lt-ltb}
use Rattle.std.proofs.lemmas.List.Sums.{sum_by-append, sum_by-cons, sum_by-take-drop, sum_by-take-le, sum_by-le-sum_by, sum_by-drop_more}
use Rattle.std.proofs.lemmas.Option.{slice_get_within}
use Rattle.std.proofs.lemmas.List.{append_assoc, append_cancel_right, map-append, get_or-set_same}
use Rattle.otp_reason.specs.declared.name.Name.{Name}
use Rattle.otp_reason.specs.Names.{name_bytes}
use Rattle.otp_spec.specs.declared.child.ChildSpec.{ChildSpec}
use Rattle.otp_spec.specs.declared.flags.SupFlags.{SupFlags}
use Rattle.otp_spec.specs.declared.flags.Strategy.{Strategy}
use Rattle.otp_spec.specs.declared.flags.Strategy.TheVariants.{OneForOne, OneForAll, RestForOne, SimpleOneForOne}
use Rattle.otp_table.specs.declared.row.Row.{Row}
use Rattle.otp_table.specs.declared.row.RowState.{RowState}
use Rattle.otp_table.specs.declared.row.RowState.TheVariants.{Undefined, Starting, Up, Asked, Killed, Restarting}
use Rattle.otp_table.specs.Rows.{is_awaited, row_has, with_state, calm_rows, calmed, up_number, is_up, free_slot}
use Rattle.otp_rules.specs.declared.call.Reply.{Reply}
use Rattle.otp_rules.specs.declared.ending.Ending.{Ending}
use Rattle.otp_rules.specs.declared.event.Kind.{Kind}
use Rattle.otp_rules.specs.declared.work.Due.{Due}
use Rattle.otp_spec.specs.Flags.{is_simple}
use Rattle.otp_rules.specs.State.{Outcome, State, answer, with_rows, with_stamps, with_work}
use Rattle.otp_rules.specs.Places.{end_row, is_removed, is_temporary, set_row}
use Rattle.otp_rules.specs.Restarts.{affected_from, affected_to, dues, restart_list, running}
use Rattle.otp_rules.specs.Stops.{calm_all, terminate_ordered, terminate_together, terminate}
use Rattle.otp_rules.specs.Deaths.{restart_rows, restart}
use Rattle.otp_rules.specs.Calls.{new_row}
use Rattle.otp_rules.specs.Step.{due_of, rows_from, open_with, open_rows, opening_specs, killed, late_number, tick}
use Rattle.otp_rules.specs.Run.{empty_state}
use Rattle.otp_rules.specs.Fit.{rows_in, times, IsSound, is_free, IsFree, Matches, Fits, nameless, IsNamed, IsFitted}
use Rattle.otp_rules.proofs.Bits.{counts_none}
use Rattle.otp_rules.proofs.States.{held_goes, told_has}
use Rattle.otp_rules.proofs.Walks.{restart-by, terminate-by}
use Rattle.otp_rules.proofs.Decisions.{IsIdle, StandsAt, Survives, by_test}
use Rattle.std.specs.List.{cons_option, sum_by}
use Prim.Native.Nat.{zero, suc}
use Rattle.otp_rules.proofs.Counting.{times-cons, times-append, rows_in-cons, set_count, remove_count, rows_in-set, Alike, end_row-alike, stop_each-alike, times-reverse, there}
use Rattle.otp_rules.proofs.Sound.{awaits_nothing, sound-survives}
use Rattle.std.proofs.lemmas.List.Folds.{drop_split}
use Rattle.std.proofs.lemmas.List.Elements.{filter_map-append}
use Rattle.std.proofs.lemmas.Slice.Eq.{bytes_eq-Decides}
use Rattle.otp_rules.proofs.Numbers.{counted_length}
use Rattle.otp_rules.proofs.Fits.{fits-front, fits-after, fits-append, fits-before, fits-map, fits-set, fits-remove}
use Rattle.otp_rules.specs.declared.ending.Ending.TheVariants as ending
use Rattle.otp_rules.specs.declared.work.Sequel.TheVariants as sequel

abbrev pub Stands : Outcome → Type 0
Stands o = IsSound o.state × IsFitted o.state

fits-none : (ps : List ℕ) (dues : List Due) (rows : List Row) → dues ≡ [] → Fits ps dues rows
fits-none ps dues rows h = subst (λ (ds : List Due). Fits ps ds rows) (sym h) tt

id_same : (id : Option Name) → option_eq (on name_bytes bytes_eq) id id ≡ true
id_same None = refl
id_same (Some name) = (bytes_eq-Decides (name_bytes name) (name_bytes name)).1 refl

fits-at : (ps : List ℕ) (due : Due) (place : ℕ) (row : Row) (rows : List Row) → slice_get rows place ≡ Some row → Matches due row → IsFree ps row → Fits ps (due ∷ []) rows
fits-at ps due place row [] at m f = let no_row : ◌≡◌ {A = Option Row} None (Some row) = at in cc
fits-at ps due zero row (x ∷ rows) at m f =
    let same : x ≡ row = let e : ◌≡◌ {A = Option Row} (Some x) (Some row) = at in cc in
    inl (subst (λ (r : Row). Matches due r) (sym same) m, subst (λ (r : Row). IsFree ps r) (sym same) f, tt)
fits-at ps due (suc i) row (x ∷ rows) at m f = inr (fits-at ps due i row rows at m f)

-- a row's end keeps the others, where a row that goes isn't free
pub end-fits : (ps : List ℕ) (dues : List Due) (place : ℕ) (row : Row) (o : Outcome) → StandsAt place row o → (is_removed row ≡ true → IsFree ps row → ⊥) → Fits ps dues o.state.rows → Fits ps dues (end_row place row o).state.rows
unfolding end_row
end-fits ps dues place row o at goes h =
    by_test (λ x. Fits ps dues x.state.rows) (is_removed row) (with_rows (remove o.state.rows place) o) (set_row place row Undefined o)
    (λ e. fits-remove ps place row (goes e) dues o.state.rows at h)
    (λ _. fits-set ps place row Undefined (λ _. refl) dues o.state.rows at h)

pub end-named : (place : ℕ) (row : Row) (o : Outcome) → StandsAt place row o → count_by nameless (end_row place row o).state.rows ≤ count_by nameless o.state.rows
unfolding end_row
end-named place row o at =
    by_test (λ x. count_by nameless x.state.rows ≤ count_by nameless o.state.rows) (is_removed row) (with_rows (remove o.state.rows place) o) (set_row place row Undefined o)
    (λ _. let e : count_by nameless (remove o.state.rows place) + cond (nameless row) 1 0 ≡ count_by nameless o.state.rows = remove_count nameless o.state.rows place row at in omega (arith, e))
    (λ _. let e : count_by nameless (slice_set o.state.rows place (with_state Undefined row)) + cond (nameless row) 1 0 ≡ count_by nameless o.state.rows + cond (nameless row) 1 0 = set_count nameless o.state.rows place row (with_state Undefined row) at in omega (arith, e))

-- the same flags and no more rows without an id
pub named-less : (new old : State) → new.flags ≡ old.flags → count_by nameless new.rows ≤ count_by nameless old.rows → IsNamed old → IsNamed new
named-less new old same less h plain = omega (arith, less, h (sym (ap (λ (x : SupFlags). is_simple x.strategy) same) ∙ plain))

pub set-named : (place : ℕ) (row : Row) (state : RowState) (o : Outcome) → StandsAt place row o → IsNamed o.state → IsNamed (set_row place row state o).state
set-named place row state o at h plain =
    let e : count_by nameless (slice_set o.state.rows place (with_state state row)) + cond (nameless row) 1 0 ≡ count_by nameless o.state.rows + cond (nameless row) 1 0 = set_count nameless o.state.rows place row (with_state state row) at in
    omega (arith, e, h plain)

remove-named : (place : ℕ) (row : Row) (o : Outcome) → StandsAt place row o → IsNamed o.state → IsNamed (with_rows (remove o.state.rows place) o).state
remove-named place row o at h plain =
    let e : count_by nameless (remove o.state.rows place) + cond (nameless row) 1 0 ≡ count_by nameless o.state.rows = remove_count nameless o.state.rows place row at in
    omega (arith, e, h plain)

-- a row's end, and the work stays
pub ended-fitted : (place : ℕ) (row : Row) (o : Outcome) → StandsAt place row o → (is_removed row ≡ true → IsFree o.state.to_stop row → ⊥) → IsFitted o.state → IsFitted (end_row place row o).state
ended-fitted place row o at goes h =
    let same : Alike (end_row place row o) o = end_row-alike place row o in (
      named-less (end_row place row o).state o.state same.0 (end-named place row o at) h.0,
      subst (λ (ps : List ℕ). Fits ps (end_row place row o).state.to_start (end_row place row o).state.rows) (sym same.2)
          (subst (λ (ds : List Due). Fits o.state.to_stop ds (end_row place row o).state.rows) (sym same.3)
          (end-fits o.state.to_stop o.state.to_start place row o at goes h.1)),
    )

map_count : (p : Row → Bool) (f : Row → Row) → ((row : Row) → p (f row) ≡ p row) → (rows : List Row) → count_by p (map f rows) ≡ count_by p rows
map_count p f h [] = refl
map_count p f h (row ∷ rows) =
    let e : ◌≡◌ {A = ℕ} (cond (p (f row)) 1 0) (cond (p row) 1 0) = ap (λ (b : Bool). cond b 1 0) (h row) in
    omega (arith, e, sum_by-cons (λ (r : Row). cond (p r) 1 0) row rows, sum_by-cons (λ (r : Row). cond (p r) 1 0) (f row) (map f rows), map_count p f h rows)

calm_named : (rows : List Row) → count_by nameless (calm_rows rows) ≡ count_by nameless rows
calm_named rows = map_count nameless (λ (row : Row). with_state (calmed row.state) row) (λ row. refl) rows

terminate-starts : (e : Ending) (o : Outcome) → (terminate e o).state.to_start ≡ []
terminate-starts e o =
    terminate-by (λ x. x.state.to_start ≡ []) e o
    (λ _. (stop_each-alike (running o.state.rows) (calm_all (with_work [] [] (Some (sequel.End e)) o))).3)
    (λ _. refl)

together-flags : (e : Ending) (o : Outcome) → (terminate_together e o).state.flags ≡ o.state.flags
unfolding terminate_together
together-flags e o = (stop_each-alike (running o.state.rows) (calm_all (with_work [] [] (Some (sequel.End e)) o))).0

terminate-named : (e : Ending) (o : Outcome) → IsNamed o.state → IsNamed (terminate e o).state
unfolding terminate terminate_ordered
terminate-named e o h =
    by_test (λ x. IsNamed x.state) (is_simple o.state.flags.strategy) (terminate_together e o) (terminate_ordered e o)
    (λ simple plain. absurd (false≢true (sym plain ∙ ap (λ (x : SupFlags). is_simple x.strategy) (together-flags e o) ∙ simple)))
    (λ _ plain. omega (arith, calm_named o.state.rows, h plain))

terminate-fitted : (e : Ending) (o : Outcome) → IsNamed o.state → IsFitted (terminate e o).state
terminate-fitted e o h = (terminate-named e o h, fits-none (terminate e o).state.to_stop (terminate e o).state.to_start (terminate e o).state.rows (terminate-starts e o))

-- the child runs and has no id
abbrev runs_nameless : Row → Bool
runs_nameless row = is_up row.state && is_none row.id

-- a child that is to be restarted has its row
due-free : (ps : List ℕ) (row : Row) (state : RowState) → row.state ≡ state → is_awaited row.state ≡ false → is_temporary row.spec.restart ≡ false → runs_nameless row ≡ false
    → ((p : ℕ) → state ≡ Up p → 0 < times p ps) → is_free ps (is_temporary row.spec.restart || is_none row.id) (calmed state) ≡ true
due-free ps row Undefined is calm kept named there = refl
due-free ps row (Starting _ _) is calm kept named there = absurd (false≢true (sym calm ∙ ap (λ (s : RowState). is_awaited s) is))
due-free ps row (Up p) is calm kept named there =
    let has_id_too : is_none row.id ≡ false = sym (ap (λ (s : RowState). is_up s && is_none row.id) is) ∙ named in
    let stays : not (is_temporary row.spec.restart || is_none row.id) ≡ true = ap (λ (b : Bool). not (b || is_none row.id)) kept ∙ ap not has_id_too in
    and_from (not (is_temporary row.spec.restart || is_none row.id)) (nat_lt 0 (times p ps)) stays (lt-ltb 0 (times p ps) (there p refl))
due-free ps row (Asked _ _) is calm kept named there = absurd (false≢true (sym calm ∙ ap (λ (s : RowState). is_awaited s) is))
due-free ps row (Killed _) is calm kept named there = absurd (false≢true (sym calm ∙ ap (λ (s : RowState). is_awaited s) is))
due-free ps row (Restarting _) is calm kept named there = refl

fits-dues : (ps : List ℕ) (kept : Option ℕ) (rows : List Row) → rows_in is_awaited rows ≡ 0 → ((q : ℕ) → times q (running rows) ≤ times q ps) → count_by runs_nameless rows ≡ 0 → Fits ps (dues kept rows) (calm_rows rows)
fits-dues ps kept [] calm there named = tt
fits-dues ps kept (row ∷ rows) calm there named =
    let awaits : rows_in is_awaited (row ∷ rows) ≡ cond (is_awaited row.state) 1 0 + rows_in is_awaited rows = rows_in-cons is_awaited row rows in
    let names : count_by runs_nameless (row ∷ rows) ≡ cond (runs_nameless row) 1 0 + count_by runs_nameless rows = sum_by-cons (λ (r : Row). cond (runs_nameless r) 1 0) row rows in
    let rest : Fits ps (dues kept rows) (calm_rows rows) =
    fits-dues ps kept rows (omega (arith, calm, awaits)) (λ q. omega (arith, there q, running-more q row.state (running rows))) (omega (arith, named, names)) in
    (elim (is_temporary row.spec.restart) as (λ b. is_temporary row.spec.restart ≡ b → Fits ps (map (λ (r : Row). record { id = r.id; kept = kept }) (cond (not b) (row ∷ filter (λ (r : Row). not (is_temporary r.spec.restart)) rows) (filter (λ (r : Row). not (is_temporary r.spec.restart)) rows))) (calm_rows (row ∷ rows))) [
      | true ↦ λ e. fits-front ps (dues kept rows) (with_state (calmed row.state) row) (calm_rows rows) rest
      | false ↦ λ e. inl (
        id_same row.id,
        due-free ps row row.state refl (counts_none (is_awaited row.state) (omega (arith, calm, awaits))) e (counts_none (runs_nameless row) (omega (arith, named, names)))
            (λ p is. let up : times p (running (row ∷ rows)) ≡ times p (p ∷ running rows) = ap (λ (s : RowState). times p (cons_option (up_number s) (running rows))) is in
            let one : ◌≡◌ {A = ℕ} (cond (p == p) 1 0) 1 = ap (λ (x : Bool). cond x 1 0) (eq-eqb p p refl) in
            omega (arith, there p, up, times-cons p p (running rows), one)),
        rest,
      )
    ]) refl
  where
    running-more : (q : ℕ) (state : RowState) (rest : List ℕ) → times q rest ≤ times q (cons_option (up_number state) rest)
    running-more q Undefined rest = omega arith
    running-more q (Starting _ _) rest = omega arith
    running-more q (Up p) rest = omega (arith, times-cons q p rest)
    running-more q (Asked _ _) rest = omega arith
    running-more q (Killed _) rest = omega arith
    running-more q (Restarting _) rest = omega arith

pub slice_split : (rows : List Row) (a m z : ℕ) → a ≤ m → m ≤ z → slice_range rows a z ≡ slice_range rows a m ++ slice_range rows m z
slice_split rows a m z h k =
    append_cancel_right (slice_range rows a z) (slice_range rows a m ++ slice_range rows m z) (drop z rows)
    (sym (drop_split rows a z (omega (arith, h, k))) ∙ drop_split rows a m h ∙ ap (λ (t : List Row). slice_range rows a m ++ t) (drop_split rows m z k)
    ∙ sym (append_assoc (slice_range rows a m) (slice_range rows m z) (drop z rows)))

part_rows : (p : Row → Bool) (rows : List Row) (a z : ℕ) → count_by p (slice_range rows a z) ≤ count_by p rows
part_rows p rows a z =
    let f : Row → ℕ = λ r. cond (p r) 1 0 in
    let e : sum_by f (take a rows) + sum_by f (drop a rows) ≡ sum_by f rows = sum_by-take-drop f rows a in
    omega (arith, sum_by-take-le f (drop a rows) (z - a), e)

restarted-fits : (from to place k : ℕ) (rows : List Row) → from ≤ place → place + 1 ≤ to → rows_in is_awaited rows ≡ 0 → count_by runs_nameless (slice_range rows from to) ≡ 0
    → Fits (reverse (running (slice_range rows from to))) (restart_list from to place k rows) (take from rows ++ calm_rows (slice_range rows from to) ++ drop to rows)
restarted-fits from to place k rows le more calm named =
    let whole : List Row = slice_range rows from to in
    let xs : List Row = slice_range rows from place in
    let ys : List Row = slice_range rows place (place + 1) in
    let zs : List Row = slice_range rows (place + 1) to in
    let ps : List ℕ = reverse (running whole) in
    let split : whole ≡ (xs ++ ys) ++ zs = slice_split rows from (place + 1) to (omega (arith, le)) more ∙ ap (λ (t : List Row). t ++ zs) (slice_split rows from place (place + 1) le (omega arith)) in
    let runs : (q : ℕ) → times q (running whole) ≡ times q (running xs) + times q (running ys) + times q (running zs) = λ q.
    ap (λ (t : List Row). times q (running t)) split
    ∙ ap (λ (t : List ℕ). times q t) (filter_map-append (λ (r : Row). up_number r.state) (xs ++ ys) zs ∙ ap (λ (t : List ℕ). t ++ running zs) (filter_map-append (λ (r : Row). up_number r.state) xs ys))
    ∙ times-append q (running xs ++ running ys) (running zs)
    ∙ ap (λ (n : ℕ). n + times q (running zs)) (times-append q (running xs) (running ys)) in
    let counts : (p : Row → Bool) → count_by p whole ≡ count_by p xs + count_by p ys + count_by p zs = λ p.
    ap (λ (t : List Row). count_by p t) split
    ∙ sum_by-append (λ (r : Row). cond (p r) 1 0) (xs ++ ys) zs
    ∙ ap (λ (n : ℕ). n + count_by p zs) (sum_by-append (λ (r : Row). cond (p r) 1 0) xs ys) in
    let awaits : rows_in is_awaited whole ≤ rows_in is_awaited rows = part_rows (row_has is_awaited) rows from to in
    let back : (q : ℕ) → times q ps ≡ times q (running whole) = λ q. times-reverse q (running whole) in
    let parts : Fits ps ((dues None xs ++ dues (Some k) ys) ++ dues None zs) ((calm_rows xs ++ calm_rows ys) ++ calm_rows zs) =
    fits-append ps (dues None xs ++ dues (Some k) ys) (dues None zs) (calm_rows xs ++ calm_rows ys) (calm_rows zs)
    (fits-append ps (dues None xs) (dues (Some k) ys) (calm_rows xs) (calm_rows ys)
    (fits-dues ps None xs (omega (arith, counts (row_has is_awaited), awaits, calm)) (λ q. omega (arith, runs q, back q)) (omega (arith, counts runs_nameless, named)))
    (fits-dues ps (Some k) ys (omega (arith, counts (row_has is_awaited), awaits, calm)) (λ q. omega (arith, runs q, back q)) (omega (arith, counts runs_nameless, named))))
    (fits-dues ps None zs (omega (arith, counts (row_has is_awaited), awaits, calm)) (λ q. omega (arith, runs q, back q)) (omega (arith, counts runs_nameless, named))) in
    let f : Row → Row = λ row. with_state (calmed row.state) row in
    let calmed_split : calm_rows whole ≡ (calm_rows xs ++ calm_rows ys) ++ calm_rows zs =
    ap (λ (t : List Row). map f t) split ∙ map-append f (xs ++ ys) zs ∙ ap (λ (t : List Row). t ++ map f zs) (map-append f xs ys) in
    fits-before ps (restart_list from to place k rows) (take from rows ++ calm_rows whole) (drop to rows)
    (fits-after ps (restart_list from to place k rows) (take from rows) (calm_rows whole)
    (subst (λ (t : List Row). Fits ps (restart_list from to place k rows) t) (sym calmed_split) parts))

pub affected_from_le : (s : Strategy) (place : ℕ) → affected_from s place ≤ place
affected_from_le OneForOne place = omega arith
affected_from_le OneForAll place = omega arith
affected_from_le RestForOne place = omega arith
affected_from_le SimpleOneForOne place = omega arith

pub affected_to_more : (s : Strategy) (place count : ℕ) → place < count → place + 1 ≤ affected_to s place count
affected_to_more OneForOne place count h = omega arith
affected_to_more OneForAll place count h = omega (arith, h)
affected_to_more RestForOne place count h = omega (arith, h)
affected_to_more SimpleOneForOne place count h = omega arith

part_of_named : (rows : List Row) (from to : ℕ) → count_by nameless rows ≡ 0 → count_by runs_nameless (slice_range rows from to) ≡ 0
part_of_named rows from to h =
    let less : count_by runs_nameless rows ≤ count_by nameless rows =
    sum_by-le-sum_by (λ (r : Row). cond (runs_nameless r) 1 0) (λ (r : Row). cond (nameless r) 1 0) rows (λ r. weaker (is_up r.state) (is_none r.id)) in
    omega (arith, h, less, part_rows runs_nameless rows from to)
  where
    weaker : (a b : Bool) → cond (a && b) 1 0 ≤ cond b 1 0
    weaker true b = omega arith
    weaker false b = omega arith

-- of the children that a restart affects none runs without an id: under simple_one_for_one it is the one that ended
part_named : (s : Strategy) (rows : List Row) (place : ℕ) (row : Row) → place < length rows → get_or rows place row ≡ with_state Undefined row → (is_simple s ≡ false → count_by nameless rows ≡ 0)
    → count_by runs_nameless (slice_range rows (affected_from s place) (affected_to s place (length rows))) ≡ 0
part_named OneForOne rows place row within is h = part_of_named rows place (place + 1) (h refl)
part_named OneForAll rows place row within is h = part_of_named rows 0 (length rows) (h refl)
part_named RestForOne rows place row within is h = part_of_named rows place (length rows) (h refl)
part_named SimpleOneForOne rows place row within is h =
    let f : Row → ℕ = λ r. cond (runs_nameless r) 1 0 in
    let split : sum_by f (drop place rows) ≡ sum_by f (slice_range rows place (place + 1)) + sum_by f (drop (place + 1) rows) =
    ap (λ (t : List Row). sum_by f t) (drop_split rows place (place + 1) (omega arith)) ∙ sum_by-append f (slice_range rows place (place + 1)) (drop (place + 1) rows) in
    let first : sum_by f (drop place rows) ≡ f (get_or rows place row) + sum_by f (drop (place + 1) rows) = sum_by-drop_more f rows place row within in
    let zero : ◌≡◌ {A = ℕ} (f (get_or rows place row)) 0 = ap f is in
    omega (arith, split, first, zero)

restart-fitted : (b : Bool) (p place : ℕ) (row : Row) (o : Outcome) → IsIdle b o → StandsAt place row o → Stands o → IsFitted (restart p place row o).state
unfolding restart_rows
restart-fitted b p place row o idle at h =
    let counted : Outcome = with_stamps (o.state.stamps ++ o.state.last ∷ []) (set_row place row Undefined o) in
    let rows : List Row = slice_set o.state.rows place (with_state Undefined row) in
    let strategy : Strategy = o.state.flags.strategy in
    let from : ℕ = affected_from o.state.flags.strategy place in
    let to : ℕ = affected_to o.state.flags.strategy place (length (slice_set o.state.rows place (with_state Undefined row))) in
    let within : place < length rows = counted_length place row o at in
    let le : from ≤ place = affected_from_le strategy place in
    let more : place + 1 ≤ to = affected_to_more strategy place (length rows) within in
    let named : IsNamed counted.state = set-named place row Undefined o at h.1.0 in
    let here : get_or rows place row ≡ with_state Undefined row = get_or-set_same o.state.rows place (with_state Undefined row) row (slice_get_within o.state.rows place row at) in
    let calm : rows_in is_awaited rows ≡ 0 =
    (let e : rows_in is_awaited rows + cond (is_awaited row.state) 1 0 ≡ rows_in is_awaited o.state.rows + 0 = rows_in-set is_awaited place row Undefined o.state.rows at in omega (arith, e, awaits_nothing b o idle h.0)) in
    restart-by (λ x. IsFitted x.state) p place row o
    (λ _. terminate-fitted ending.Intensity counted named)
    (λ _. (
      (λ plain.
          let part : List Row = slice_range rows from to in
          let split : count_by nameless (take from rows ++ calm_rows part ++ drop to rows) ≡ count_by nameless (take from rows) + count_by nameless (calm_rows part) + count_by nameless (drop to rows) =
          sum_by-append (λ (r : Row). cond (nameless r) 1 0) (take from rows ++ calm_rows part) (drop to rows)
          ∙ ap (λ (n : ℕ). n + count_by nameless (drop to rows)) (sum_by-append (λ (r : Row). cond (nameless r) 1 0) (take from rows) (calm_rows part)) in
          let front : count_by nameless (take from rows) ≤ count_by nameless rows = sum_by-take-le (λ (r : Row). cond (nameless r) 1 0) rows from in
          let back : count_by nameless (take to rows) + count_by nameless (drop to rows) ≡ count_by nameless rows = sum_by-take-drop (λ (r : Row). cond (nameless r) 1 0) rows to in
          omega (arith, split, front, back, calm_named part, part_rows nameless rows from to, named plain)),
      restarted-fits from to place p rows le more calm (part_named strategy rows place row within here named),
    ))

tick-fitted : (o : Outcome) → IsFitted o.state → IsFitted (tick o).state
unfolding tick
tick-fitted o h =
    let f : Row → Row = λ row. killed row (late_number o.state.last row.state) in (
      (λ plain. let e : count_by nameless (map f o.state.rows) ≡ count_by nameless o.state.rows = map_count nameless f (λ row. ap (λ (id : Option Name). is_none id) (late_id row (late_number o.state.last row.state))) o.state.rows in omega (arith, e, h.0 plain)),
      fits-map o.state.to_stop o.state.to_stop f (λ row. late_id row (late_number o.state.last row.state))
          (λ row free. late_free o.state.to_stop o.state.last row row.state refl free) o.state.to_start o.state.rows h.1,
    )
  where
    late_id : (row : Row) (late : Option ℕ) → (killed row late).id ≡ row.id
    late_id row None = refl
    late_id row (Some p) = refl

    late_free : (ps : List ℕ) (now : ℕ) (row : Row) (state : RowState) → row.state ≡ state → IsFree ps row → IsFree ps (killed row (late_number now state))
    late_free ps now row Undefined is free = free
    late_free ps now row (Starting _ _) is free = free
    late_free ps now row (Up _) is free = free
    late_free ps now row (Asked p None) is free = free
    late_free ps now row (Asked p (Some d)) is free =
        cond_both (nat_le d now) (Some p) None (λ (x : Option ℕ). IsFree ps (killed row x))
        (λ _. sym (ap (λ (s : RowState). is_free ps (is_removed row) s) is) ∙ free) (λ _. free)
    late_free ps now row (Killed _) is free = free
    late_free ps now row (Restarting _) is free = free

opened-fits : (slot : ℕ) (specs : List ChildSpec) → Fits [] (map due_of specs) (rows_from slot specs)
opened-fits slot [] = tt
opened-fits slot (spec ∷ specs) = inl (id_same (Some spec.id), refl, opened-fits (slot + 1) specs)

opened-named : (slot : ℕ) (specs : List ChildSpec) → count_by nameless (rows_from slot specs) ≡ 0
opened-named slot [] = refl
opened-named slot (spec ∷ specs) = omega (arith, sum_by-cons (λ (r : Row). cond (nameless r) 1 0) (new_row slot (Some spec.id) spec) (rows_from (slot + 1) specs), opened-named (slot + 1) specs)

open-fitted : (own : ℕ) (o : Outcome) → IsFitted (open_rows own o).state
unfolding open_rows open_with
open-fitted own o =
    let specs : List ChildSpec = opening_specs (is_simple o.state.flags.strategy) o.state.specs in
    ((λ _. opened-named 0 specs), opened-fits 0 specs)

answer-fitted : (c : ℕ) (r : Reply) (o : Outcome) → IsFitted o.state → IsFitted (answer c r o).state
unfolding answer
answer-fitted c r o h = h

-- a child that starts isn't free
starting_busy : (ps : List ℕ) (row : Row) (q kept : ℕ) → row.state ≡ Starting q kept → IsFree ps row → ⊥
starting_busy ps row q kept is free = false≢true (sym (ap (λ (s : RowState). is_free ps (is_removed row) s) is) ∙ free)

idle-fitted : (b : Bool) (new o : Outcome) → IsIdle b o → new.state.to_start ≡ o.state.to_start → IsNamed new.state → Stands o → IsFitted new.state
idle-fitted b new o idle same named h = (named, fits-none new.state.to_stop new.state.to_start new.state.rows (same ∙ (h.0.2 idle.1).1))

named_id : (id : Option Name) (simple : Bool) → is_some id ≡ not simple → simple ≡ false → is_none id ≡ false
named_id None simple h plain = absurd (false≢true (h ∙ ap not plain))
named_id (Some x) simple h plain = refl

pub fitted-survives : (k : Kind) (b : Bool) → Survives k b Stands
fitted-survives k b =
    let s : Survives k b (λ o. IsSound o.state) = sound-survives k b in
    record {
      answered = λ c r o x. (s.answered c r o x.0, answer-fitted c r o x.1);
      taken = λ w ws o idle runs is x. (s.taken w ws o idle runs is x.0, x.1);
      call_waits = λ c call o x. (s.call_waits c call o x.0, x.1);
      exit_waits = λ p r o noted x. (s.exit_waits p r o noted x.0, x.1);
      up = λ p place row q kept o at is same noted x. (
        s.up p place row q kept o at is same noted x.0,
        (
          set-named place row (Up p) o at x.1.0,
          fits-set o.state.to_stop place row (Up p) (λ free. absurd (starting_busy o.state.to_stop row q kept is free)) o.state.to_start o.state.rows at x.1.1,
        ),
      );
      up_closed = λ p place row q kept c o at is same follows x. (s.up_closed p place row q kept c o at is same follows x.0, (set-named place row (Up p) o at x.1.0, tt));
      ignored = λ p place row q kept o at is same noted x.
          (s.ignored p place row q kept o at is same noted x.0, ended-fitted place row o at (λ _ free. starting_busy o.state.to_stop row q kept is free) x.1);
      opening_failed = λ place row q kept o runs at is follows x.
          (s.opening_failed place row q kept o runs at is follows x.0, terminate-fitted (ending.InitFailed row.spec.id) (set_row place row Undefined o) (set-named place row Undefined o at x.1.0));
      restart_failed = λ place row q kept o at is follows x. (s.restart_failed place row q kept o at is follows x.0, (set-named place row (Restarting kept) o at x.1.0, tt));
      added_failed = λ place row q kept c o at is follows x. (s.added_failed place row q kept c o at is follows x.0, (remove-named place row o at x.1.0, tt));
      restarted_failed = λ place row q kept c o at is follows x. (s.restarted_failed place row q kept c o at is follows x.0, (set-named place row Undefined o at x.1.0, tt));
      stopped = λ p r place row o at told noted x. (
        s.stopped p r place row o at told noted x.0,
        ended-fitted place row o at (λ goes free. held_goes o.state.to_stop p row.state (told_has p row.state told) (sym (ap (λ (g : Bool). is_free o.state.to_stop g row.state) goes) ∙ free)) x.1,
      );
      died = λ p place row o idle runs at is x. (
        s.died p place row o idle runs at is x.0,
        idle-fitted b (end_row place row o) o idle (end_row-alike place row o).3 (named-less (end_row place row o).state o.state (end_row-alike place row o).0 (end-named place row o at) x.1.0) x,
      );
      restarts = λ p place row o idle runs at is x. (s.restarts p place row o idle runs at is x.0, restart-fitted b p place row o idle at x);
      ends = λ e o other idle runs x. (s.ends e o other idle runs x.0, terminate-fitted e o x.1.0);
      ticks = λ o is x. (s.ticks o is x.0, tick-fitted o x.1);
      opens = λ own o is link over x. (s.opens own o is link over x.0, open-fitted own o);
      adds = λ c id spec o idle runs named x. (
        s.adds c id spec o idle runs named x.0,
        (
          (λ plain.
              let none : ◌≡◌ {A = ℕ} (cond (is_none id) 1 0) 0 = ap (λ (t : Bool). cond t 1 0) (named_id id (is_simple o.state.flags.strategy) named plain) in
              let e : count_by nameless (o.state.rows ++ new_row (free_slot o.state.rows) id spec ∷ []) ≡ count_by nameless o.state.rows + count_by nameless (new_row (free_slot o.state.rows) id spec ∷ []) = sum_by-append (λ (r : Row). cond (nameless r) 1 0) o.state.rows (new_row (free_slot o.state.rows) id spec ∷ []) in
              omega (arith, e, sum_by-cons (λ (r : Row). cond (nameless r) 1 0) (new_row (free_slot o.state.rows) id spec) [], none, x.1.0 plain)),
          fits-after [] (record { id = id; kept = None } ∷ []) o.state.rows (new_row (free_slot o.state.rows) id spec ∷ []) (inl (id_same id, refl, tt)),
        ),
      );
      starts_again = λ c id place row o idle runs at has is x. (
        s.starts_again c id place row o idle runs at has is x.0,
        (
          x.1.0,
          fits-at [] (record { id = Some id; kept = None }) place row o.state.rows at has (ap (λ (t : RowState). is_free [] (is_removed row) t) is),
        ),
      );
      removed = λ place row o idle runs at down x. (s.removed place row o idle runs at down x.0, idle-fitted b (with_rows (remove o.state.rows place) o) o idle refl (remove-named place row o at x.1.0) x);
      given_up = λ place row o idle runs at down x. (s.given_up place row o idle runs at down x.0, idle-fitted b (set_row place row Undefined o) o idle refl (set-named place row Undefined o at x.1.0) x);
      stops_child = λ c p place row o idle runs at up x. (s.stops_child c p place row o idle runs at up x.0, (x.1.0, tt));
    }

pub empty-fitted : (flags : SupFlags) (specs : List ChildSpec) → IsFitted (empty_state flags specs)
empty-fitted flags specs = (λ _. refl, tt)
