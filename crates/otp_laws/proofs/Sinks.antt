-- A child that is stopped for a call goes down, and nothing brings it up again while the work is open.
use Rattle.std.specs.Prelude.{◌≡◌, ℕ, ◌==◌, ◌+◌, ◌≤◌, ◌<◌, ◌&&◌, not, Bool, true, false, List, [], ◌∷◌, Option, Contains, refl, nat_lt, slice_set, count_by}
use Rattle.std.proofs.Common.{◌∙◌, ap, sym, arith, ⊎_elim, cond}
use Rattle.std.proofs.lemmas.Bool.{and_from, cases_Bool, eqb-true, false≢true}
use Rattle.std.proofs.lemmas.List.Sums.{sum_by-cons}
use Rattle.otp_spec.specs.declared.child.Shutdown.{Shutdown}
use Rattle.otp_spec.specs.declared.child.Shutdown.TheVariants.{BrutalKill, Infinity, Milliseconds}
use Rattle.otp_table.specs.declared.row.Row.{Row}
use Rattle.otp_table.specs.declared.row.RowState.{RowState}
use Rattle.otp_table.specs.declared.row.RowState.TheVariants.{Undefined, Starting, Up, Asked, Killed, Restarting}
use Rattle.otp_table.specs.Rows.{has_process, is_awaited, is_undefined, row_has, with_state}
use Rattle.otp_rules.specs.State.{Outcome, with_waiting}
use Rattle.otp_rules.specs.Places.{end_process, end_row}
use Rattle.otp_rules.specs.Stops.{tell, tell_row, told, use_exit, without}
use Rattle.otp_rules.specs.Fit.{is_told, rows_in, runs_as, times}
use Rattle.otp_rules.proofs.Counting.{cond_le, rows_in-apart, rows_in-at, rows_in-set, times-cons, told-told}
use Rattle.otp_rules.proofs.Lasting.{contains_counts}
use Rattle.otp_rules.proofs.Homes.{same_number}
use Rattle.otp_rules.proofs.Numbers.{holders, told_process}
use Rattle.otp_laws.specs.Down.{AreDown, AreSinking, is_kept}
use Rattle.otp_laws.proofs.Both.{both, tell-most, use_exit-most}
use Rattle.otp_laws.proofs.Falls.{Sinking}
use Rattle.otp_laws.proofs.Heeded.{at_process, end-none}
use Rattle.otp_laws.proofs.Still.{IsStill, apart, split}

-- no such state comes of an order to stop, of a kill at a deadline, or of an end
told-sinks : (ps : List ℕ) (now p : ℕ) (s : Shutdown) → is_kept ps (told now p s) ≡ false
told-sinks ps now p BrutalKill = refl
told-sinks ps now p (Milliseconds _) = refl
told-sinks ps now p Infinity = refl

no_less : (b c : Bool) → b ≡ false → cond b 1 0 ≤ cond c 1 0
no_less b c none = let z : ◌≡◌ {A = ℕ} (cond b 1 0) 0 = ap (λ (x : Bool). cond x 1 0) none in omega (arith, z)

pub sinks : (ps : List ℕ) → Sinking (is_kept ps)
sinks ps = record {
  down = refl;
  telling = λ now p s state has. no_less (is_kept ps (told now p s)) (is_kept ps state) (told-sinks ps now p s);
  late = λ p d. refl;
}

-- counted in two lists

counts_le : (t u v : Row → Bool) → ((row : Row) → cond (t row) 1 0 ≤ cond (u row) 1 0 + cond (v row) 1 0) → (rows : List Row) → count_by t rows ≤ count_by u rows + count_by v rows
counts_le t u v less [] = omega arith
counts_le t u v less (row ∷ rows) =
    omega (arith, less row, counts_le t u v less rows, sum_by-cons (λ (r : Row). cond (t r) 1 0) row rows, sum_by-cons (λ (r : Row). cond (u r) 1 0) row rows, sum_by-cons (λ (r : Row). cond (v r) 1 0) row rows)

-- where no child runs under a number, it may be dropped from those that are still to be stopped
popped-sinks : (u : Row → Bool) (p : ℕ) (ps : List ℕ) (rows : List Row) → rows_in (runs_as p) rows ≤ 0 → AreSinking u (p ∷ ps) rows → AreSinking u ps rows
popped-sinks u p ps rows none h = omega (arith, none, h, counts_le (both u (is_kept ps)) (both u (is_kept (p ∷ ps))) (row_has (runs_as p)) (λ row. one (u row) row.state) rows)
  where
    up : (q : ℕ) → cond (nat_lt (times q ps) 1) 1 0 ≤ cond (nat_lt (times q (p ∷ ps)) 1) 1 0 + cond (q == p) 1 0
    up q =
        ⊎_elim
        (λ (same : (q == p) ≡ true). let is : ◌≡◌ {A = ℕ} (cond (q == p) 1 0) 1 = ap (λ (b : Bool). cond b 1 0) same in omega (arith, is, at_most (nat_lt (times q ps) 1)))
        (λ (isnt : (q == p) ≡ false). omega (arith, cond_le (nat_lt (times q ps) 1) (nat_lt (times q (p ∷ ps)) 1) (λ less. still_less q isnt less)))
        (cases_Bool (q == p))
      where
        at_most : (b : Bool) → cond b 1 0 ≤ 1
        at_most true = omega arith
        at_most false = omega arith

        still_less : (q : ℕ) → (q == p) ≡ false → nat_lt (times q ps) 1 ≡ true → nat_lt (times q (p ∷ ps)) 1 ≡ true
        still_less q isnt less =
            let back : (p == q) ≡ false =
            ⊎_elim (λ (same : (p == q) ≡ true). absurd (false≢true (sym isnt ∙ ap (λ (n : ℕ). n == p) (sym (eqb-true p q same)) ∙ same_number p))) (λ (other : (p == q) ≡ false). other) (cases_Bool (p == q)) in
            let zero : ◌≡◌ {A = ℕ} (cond (p == q) 1 0) 0 = ap (λ (b : Bool). cond b 1 0) back in
            let fewer : times q (p ∷ ps) ≡ times q ps = omega (arith, zero, times-cons q p ps) in
            ap (λ (n : ℕ). nat_lt n 1) fewer ∙ less

    one : (b : Bool) (state : RowState) → cond (b && is_kept ps state) 1 0 ≤ cond (b && is_kept (p ∷ ps) state) 1 0 + cond (runs_as p state) 1 0
    one false state = omega arith
    one true Undefined = omega arith
    one true (Starting _ _) = omega arith
    one true (Up q) = up q
    one true (Asked _ _) = omega arith
    one true (Killed _) = omega arith
    one true (Restarting _) = omega arith

-- what runs under a number has the process, and wasn't told to stop
runs_or_told : (p : ℕ) (rows : List Row) → rows_in (runs_as p) rows + rows_in (is_told p) rows ≤ rows_in (has_process p) rows
runs_or_told p = rows_in-apart (runs_as p) (is_told p) (has_process p) one
  where
    one : (state : RowState) → cond (runs_as p state) 1 0 + cond (is_told p state) 1 0 ≤ cond (has_process p state) 1 0
    one Undefined = omega arith
    one (Starting _ _) = omega arith
    one (Up _) = omega arith
    one (Asked _ _) = omega arith
    one (Killed _) = omega arith
    one (Restarting _) = omega arith

-- a process whose end waited runs no more
used-none : (p : ℕ) (place : Option ℕ) (o : Outcome) → holders p o ≤ 1 → rows_in (runs_as p) (use_exit p place o).state.rows ≤ 0
unfolding use_exit end_process
used-none p place o one =
    let left : Outcome = with_waiting (without o.state.waiting place) o in
    at_process (λ (x : Outcome). rows_in (runs_as p) x.state.rows ≤ 0) p end_row left (λ none. omega (arith, none, runs_or_told p o.state.rows))
    (λ i row at has. omega (arith, end-none p i row left one at has, runs_or_told p (end_row i row left).state.rows))

pub used-sinks : (u : Row → Bool) → IsStill u → (p : ℕ) (ps : List ℕ) (place : Option ℕ) (o : Outcome) → holders p o ≤ 1 → AreSinking u (p ∷ ps) o.state.rows → AreSinking u ps (use_exit p place o).state.rows
used-sinks u still p ps place o one h = popped-sinks u p ps (use_exit p place o).state.rows (used-none p place o one) (use_exit-most u (is_kept (p ∷ ps)) still (sinks (p ∷ ps)) 0 p place o h)

-- nor does one that is told to stop: it was told
told-none : (p : ℕ) (o : Outcome) → holders p o ≤ 1 → rows_in (runs_as p) (tell p o).state.rows ≤ 0
unfolding tell tell_row
told-none p o one =
    at_process (λ (x : Outcome). rows_in (runs_as p) x.state.rows ≤ 0) p (tell_row p) o (λ none. omega (arith, none, runs_or_told p o.state.rows))
    (λ i row at has.
    let now : RowState = told o.state.last p row.spec.shutdown in
    let rows : List Row = slice_set o.state.rows i (with_state now row) in
    let e : (t : RowState → Bool) → rows_in t rows + cond (t row.state) 1 0 ≡ rows_in t o.state.rows + cond (t now) 1 0 = λ t. rows_in-set t i row now o.state.rows at in
    let was : ◌≡◌ {A = ℕ} (cond (has_process p row.state) 1 0) 1 = ap (λ (b : Bool). cond b 1 0) has in
    let has_now : ◌≡◌ {A = ℕ} (cond (has_process p now) 1 0) 1 = ap (λ (b : Bool). cond b 1 0) (told_process o.state.last p p row.spec.shutdown ∙ same_number p) in
    let told_now : ◌≡◌ {A = ℕ} (cond (is_told p now) 1 0) 1 = ap (λ (b : Bool). cond b 1 0) (told-told o.state.last p row.spec.shutdown) in
    omega (arith, e (has_process p), was, has_now, told_now, one, e (is_told p), rows_in-at (is_told p) i row o.state.rows at, runs_or_told p rows))

pub tell-sinks : (u : Row → Bool) → IsStill u → (p : ℕ) (ps : List ℕ) (o : Outcome) → holders p o ≤ 1 → AreSinking u (p ∷ ps) o.state.rows → AreSinking u ps (tell p o).state.rows
tell-sinks u still p ps o one h = popped-sinks u p ps (tell p o).state.rows (told-none p o one) (tell-most u (is_kept (p ∷ ps)) still (sinks (p ∷ ps)) 0 p o h)

-- where nobody is still to be stopped, and no answer is awaited, all that sink are down
pub sunk : (u : Row → Bool) (rows : List Row) → rows_in is_awaited rows ≡ 0 → AreSinking u [] rows → AreDown u rows
sunk u rows calm h row among passes = by row.state refl
  where
    awaited : is_awaited row.state ≡ true → ⊥
    awaited is = omega (arith, calm, contains_counts (row_has is_awaited) rows row among is)

    kept : is_kept [] row.state ≡ true → ⊥
    kept is = omega (arith, h, contains_counts (both u (is_kept [])) rows row among (and_from (u row) (is_kept [] row.state) passes is))

    by : (state : RowState) → row.state ≡ state → row.state ≡ Undefined
    by Undefined is = is
    by (Starting _ _) is = absurd (awaited (ap is_awaited is))
    by (Up _) is = absurd (kept (ap (λ (s : RowState). is_kept [] s) is))
    by (Asked _ _) is = absurd (awaited (ap is_awaited is))
    by (Killed _) is = absurd (awaited (ap is_awaited is))
    by (Restarting _) is = absurd (kept (ap (λ (s : RowState). is_kept [] s) is))

-- where one row at most passes a test, and one that does is undefined, all that do are
pub one_down : (u : Row → Bool) (rows : List Row) (one : Row) → count_by u rows ≤ 1 → Contains rows one → u one ≡ true → one.state ≡ Undefined → AreDown u rows
one_down u rows one few there named down row among passes =
    ⊎_elim (λ (holds_so : is_undefined row.state ≡ true). is_down row.state holds_so)
    (λ (isnt : is_undefined row.state ≡ false).
    let here : 0 < count_by (both u is_undefined) rows = contains_counts (both u is_undefined) rows one there (and_from (u one) (is_undefined one.state) named (ap is_undefined down)) in
    let other : 0 < count_by (both u (λ s. not (is_undefined s))) rows = contains_counts (both u (λ s. not (is_undefined s))) rows row among (and_from (u row) (not (is_undefined row.state)) passes (ap not isnt)) in
    absurd (omega (arith, few, here, other, apart (both u is_undefined) (both u (λ s. not (is_undefined s))) u (λ r. split (u r) (is_undefined r.state)) rows)))
    (cases_Bool (is_undefined row.state))
  where
    is_down : (state : RowState) → is_undefined state ≡ true → state ≡ Undefined
    is_down Undefined h = refl
    is_down (Starting _ _) h = absurd (false≢true h)
    is_down (Up _) h = absurd (false≢true h)
    is_down (Asked _ _) h = absurd (false≢true h)
    is_down (Killed _) h = absurd (false≢true h)
    is_down (Restarting _) h = absurd (false≢true h)

-- where one row at most passes a test, and one that does is still to be stopped, all that do sink
pub one_sinks : (u : Row → Bool) (p : ℕ) (row : Row) (rows : List Row) → count_by u rows ≤ 1 → Contains rows row → u row ≡ true → row.state ≡ Up p → AreSinking u (p ∷ []) rows
one_sinks u p row rows few there named up =
    let t : RowState → Bool = λ s. not (is_kept (p ∷ []) s) in
    let here : 0 < count_by (both u t) rows = contains_counts (both u t) rows row there (and_from (u row) (t row.state) named (ap t up ∙ ap (λ (n : ℕ). not (nat_lt n 1)) listed)) in
    omega (arith, few, here, apart (both u (is_kept (p ∷ []))) (both u t) u (λ r. split (u r) (is_kept (p ∷ []) r.state)) rows)
  where
    listed : times p (p ∷ []) ≡ 1
    listed = let one : ◌≡◌ {A = ℕ} (cond (p == p) 1 0) 1 = ap (λ (b : Bool). cond b 1 0) (same_number p) in omega (arith, one, times-cons p p [])
