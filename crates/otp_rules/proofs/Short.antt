-- A run from a base that keeps one restart more than the intensity: those before them are too old to count.
use Rattle.std.specs.Prelude.{◌≡◌, ◌⊎◌, ℕ, ◌+◌, ◌-◌, ◌≤◌, ◌++◌, Bool, true, false, List, [], ◌∷◌, Option, None, Some, All, refl, length, drop, take, max, nat_lt, nat_le, unwrap_or, if◌then◌else◌}
use Rattle.std.proofs.Common.{◌∙◌, ap, sym, subst, arith, inl, inr, length-drop}
use Rattle.std.proofs.Math.Seq.{drop-append-add, drop-append_seam}
use Rattle.std.proofs.lemmas.Bool.{leb-true, leb-false}
use Rattle.std.proofs.lemmas.List.{append-nil, append_assoc, length-append, take-append-drop}
use Rattle.std.proofs.lemmas.List.Elements.{All-drop, All-nil}
use Rattle.std.proofs.lemmas.List.Sorted.{IsNonDecreasingBy-drop, IsNonDecreasingBy-short}
use Rattle.std.specs.List.Sorted.{IsNonDecreasing}
use Rattle.otp_window.proofs.Crowded.{kept_alike}
use Rattle.otp_window.specs.Period.{in_period}
use Rattle.otp_spec.specs.declared.flags.SupFlags.{SupFlags}
use Rattle.otp_rules.specs.declared.call.Answered.{Answered}
use Rattle.otp_rules.specs.declared.ending.SupEnd.{SupEnd}
use Rattle.otp_rules.specs.declared.ending.Ending.TheVariants as ending
use Rattle.otp_rules.specs.declared.event.Effect.{Effect}
use Rattle.otp_rules.specs.declared.event.Event.{Event}
use Rattle.otp_rules.specs.declared.event.Kind.{Kind}
use Rattle.otp_rules.specs.declared.event.Kind.TheVariants as kind
use Rattle.otp_rules.specs.declared.work.Sequel.{Sequel}
use Rattle.otp_rules.specs.declared.work.Sequel.TheVariants as sequel
use Rattle.otp_rules.specs.State.{Outcome, State, answer, is_busy, is_over}
use Rattle.otp_rules.specs.Ends.{end_all, last_stamps, refuse_all}
use Rattle.otp_rules.specs.Evidence.{IsShowing}
use Rattle.otp_rules.specs.Step.{decide, open_rows, step, step_on, stamped, tick}
use Rattle.otp_rules.specs.Run.{empty_state, orders_of, state_after}
use Rattle.otp_rules.specs.Progress.{decided}
use Rattle.otp_rules.specs.Cuts.{Earlier, older, short_base_of, left_of, CountsAlike, ShowsAlike, CutAnywhere, GoesOnFromCut, KeepSame, ShortCutsAgree}
use Rattle.otp_rules.proofs.Decisions.{decide-survives}
use Rattle.otp_rules.proofs.Earlier.{step-behind}
use Rattle.otp_rules.proofs.Runs.{runs_joined_law}
use Rattle.otp_rules.proofs.Shown.{end_evidence_law}
use Rattle.otp_rules.proofs.Steady.{Goes, Steady, advance-goes, steady-survives}

-- no restarts stand before, or so many came since that those before are too old to count
abbrev IsOld : Earlier → State → Type 0
IsOld x s = (x.stamps ≡ []) ⊎ (s.flags.intensity + 1 ≤ length s.stamps)

kept_same : (i : ℕ) (xs ss : List ℕ) → (xs ≡ []) ⊎ (i + 1 ≤ length ss) → last_stamps i (xs ++ ss) ≡ last_stamps i ss
kept_same i xs ss (inl none) = ap (λ (ys : List ℕ). last_stamps i (ys ++ ss)) none
kept_same i xs ss (inr many) =
    let place : length (xs ++ ss) - (i + 1) ≡ length xs + (length ss - (i + 1)) = omega (arith, many, length-append xs ss) in
    ap (λ (n : ℕ). drop n (xs ++ ss)) place ∙ drop-append-add xs ss (length ss - (i + 1))

counts_same : (x : Earlier) (s : State) (reading : ℕ) → IsOld x s → IsShowing (older x s) → CountsAlike x (stamped reading s)
counts_same x s reading (inl none) shown =
    ap (λ (ys : List ℕ). nat_lt s.flags.intensity (in_period s.flags.period (ys ++ (s.stamps ++ max reading s.last ∷ [])) (max reading s.last))) none
counts_same x s reading (inr many) shown =
    let now : ℕ = max reading s.last in
    let all : List ℕ = x.stamps ++ s.stamps in
    let behind : drop (length x.stamps) all ≡ s.stamps = drop-append_seam x.stamps s.stamps in
    let ordered : IsNonDecreasing all = shown.0 in
    let latest : All (λ t. t ≤ now) all = λ k d within. omega (arith, shown.1 k d within) in
    let Below : List ℕ → Type 0 = λ ts. All (λ t. t ≤ now) ts in
    ap (λ (ts : List ℕ). nat_lt s.flags.intensity (in_period s.flags.period ts now)) (sym (append_assoc x.stamps s.stamps (now ∷ [])))
    ∙ kept_alike s.flags.intensity s.flags.period now all s.stamps (kept_same s.flags.intensity x.stamps s.stamps (inr many)) ordered latest
    (subst IsNonDecreasing behind (IsNonDecreasingBy-drop (λ t. t) (length x.stamps) all ordered))
    (subst Below behind (All-drop (λ t. t ≤ now) (length x.stamps) all latest))

-- the restarts of s, and later ones
abbrev Grown : State → Outcome → Type 0
Grown s o = (later : List ℕ) × (o.state.stamps ≡ s.stamps ++ later) × (o.state.flags ≡ s.flags)

grown_goes : (s : State) → Goes (Grown s)
unfolding answer end_all refuse_all
grown_goes s = record { rows = λ rows o h. h; waiting = λ items o h. h; left = λ ps ds o h. h; told = λ id p s o h. h; started = λ id n o h. h; closes = λ f o is stays h. h; answered = λ c r o h. h; ready = λ o h. h; ended = λ e o is h. h }

abbrev IsOpening : Kind → Type 0
IsOpening (kind.Opened own) = Unit {0}
IsOpening (kind.Took x) = ⊥
IsOpening kind.Resumed = ⊥
IsOpening kind.Ticked = ⊥
IsOpening kind.Stopped = ⊥

one_later : (s : State) (o : Outcome) → Grown s o → (later : List ℕ) × (o.state.stamps ++ o.state.last ∷ [] ≡ s.stamps ++ later) × (o.state.flags ≡ s.flags)
one_later s o g = (g.0 ++ o.state.last ∷ [], ap (λ (ts : List ℕ). ts ++ o.state.last ∷ []) g.1 ∙ append_assoc s.stamps g.0 (o.state.last ∷ []), g.2)

grown_ticks : (s : State) (o : Outcome) → Grown s o → Grown s (tick o)
unfolding tick
grown_ticks s o h = h

opens_not : (s : State) (k : Kind) (own : ℕ) (o : Outcome) → (IsOpening k → ⊥) → k ≡ kind.Opened own → Grown s (open_rows own o)
opens_not s k own o not is = absurd (not (subst IsOpening (sym is) tt))

grown_steady : (s : State) (k : Kind) (b : Bool) → (IsOpening k → ⊥) → Steady k b (Grown s)
grown_steady s k b not =
    record {
      goes = grown_goes s;
      opens = λ ps ds f o idle runs stays h. h;
      ends = λ ps e o other idle h. h;
      exceeds = λ ps o idle runs many h. one_later s o h;
      restarts = λ ps ds o idle runs few h. one_later s o h;
      ticks = grown_ticks s;
      opened = λ own o is h. opens_not s k own o not is;
    }

abbrev began : State → ℕ → Outcome
began s reading = record { state = stamped reading s; orders = [] }

decide_grows : (s : State) (k : Kind) (reading : ℕ) → (IsOpening k → ⊥) → Grown s (decide k (began s reading))
decide_grows s k reading not =
    let before : Outcome = began s reading in
    decide-survives k (Grown s) before (steady-survives k (is_busy before) (Grown s) (grown_steady s k (is_busy before) not)) ([], sym (append-nil s.stamps), refl)

step_grows : (s : State) (e : Event) → Grown s (decide e.kind (began s e.reading)) → Grown s (step s e)
unfolding step step_on
step_grows s e g = advance-goes (Grown s) (grown_goes s) (unwrap_or e.number 0) (decide e.kind (began s e.reading)) g

long_enough : (i n m k : ℕ) → i + 1 ≤ n → m ≡ n + k → i + 1 ≤ m
long_enough i n m k h e = omega arith

stays_old : (x : Earlier) (s t : State) (later : List ℕ) → t.stamps ≡ s.stamps ++ later → t.flags ≡ s.flags → IsOld x s → IsOld x t
stays_old x s t later more flags (inl none) = inl none
stays_old x s t later more flags (inr many) =
    let same : t.flags.intensity ≡ s.flags.intensity = ap (λ (f : SupFlags). f.intensity) flags in
    let long : length t.stamps ≡ length s.stamps + length later = ap (λ (ts : List ℕ). length ts) more ∙ length-append s.stamps later in
    inr (omega (arith, same, long, many))

shows_old : (x : Earlier) (t : State) → IsOld x t → ShowsAlike x t.flags t.stamps
shows_old x t h = kept_same t.flags.intensity x.stamps t.stamps h

abbrev Next : Earlier → State → Event → Type 0
Next x s e = ShowsAlike (left_of x e.kind s) (decided s e).flags (decided s e).stamps × IsOld (left_of x e.kind s) (step s e).state

grown_next : (x : Earlier) (s : State) (e : Event) → left_of x e.kind s ≡ x → IsOld x s → Grown s (decide e.kind (began s e.reading)) → Next x s e
grown_next x s e same h g =
    let f : Grown s (step s e) = step_grows s e g in
    let Says : Earlier → Type 0 = λ y. ShowsAlike y (decided s e).flags (decided s e).stamps in
    let Old : Earlier → Type 0 = λ y. IsOld y (step s e).state in (
      subst Says (sym same) (shows_old x (decided s e) (stays_old x s (decided s e) g.0 g.1 g.2 h)),
      subst Old (sym same) (stays_old x s (step s e).state f.0 f.1 f.2 h),
    )

fresh_next : (x y : Earlier) (s : State) (e : Event) → left_of x e.kind s ≡ y → y.stamps ≡ [] → Next x s e
fresh_next x y s e same none =
    let Says : Earlier → Type 0 = λ z. ShowsAlike z (decided s e).flags (decided s e).stamps in
    let Old : Earlier → Type 0 = λ z. IsOld z (step s e).state in (
      subst Says (sym same) (kept_same (decided s e).flags.intensity y.stamps (decided s e).stamps (inl none)),
      subst Old (sym same) (inl none),
    )

stays_idle : (s : State) (own reading : ℕ) → is_over s.phase ≡ false → Grown s (decide (kind.Opened own) (began s reading))
unfolding decide
stays_idle s own reading is =
    subst (λ (b : Bool). Grown s (if b then open_rows own (began s reading) else began s reading)) (sym is) ([], sym (append-nil s.stamps), refl)

opened_next : (x : Earlier) (s : State) (reading : ℕ) (number : Option ℕ) (own : ℕ) (over : Bool) → is_over s.phase ≡ over → IsOld x s → Next x s (record { reading = reading; number = number; kind = kind.Opened own })
opened_next x s reading number own true is h =
    fresh_next x (record x { stamps = [] }) s (record { reading = reading; number = number; kind = kind.Opened own }) (ap (λ (b : Bool). if b then record x { stamps = [] } else x) is) refl
opened_next x s reading number own false is h =
    grown_next x s (record { reading = reading; number = number; kind = kind.Opened own }) (ap (λ (b : Bool). if b then record x { stamps = [] } else x) is) h (stays_idle s own reading is)

next_old : (x : Earlier) (s : State) (reading : ℕ) (number : Option ℕ) (k : Kind) → IsOld x s → Next x s (record { reading = reading; number = number; kind = k })
next_old x s reading number (kind.Opened own) h = opened_next x s reading number own (is_over s.phase) refl h
next_old x s reading number (kind.Took i) h = grown_next x s (record { reading = reading; number = number; kind = kind.Took i }) refl h (decide_grows s (kind.Took i) reading (λ o. o))
next_old x s reading number kind.Resumed h = grown_next x s (record { reading = reading; number = number; kind = kind.Resumed }) refl h (decide_grows s kind.Resumed reading (λ o. o))
next_old x s reading number kind.Ticked h = grown_next x s (record { reading = reading; number = number; kind = kind.Ticked }) refl h (decide_grows s kind.Ticked reading (λ o. o))
next_old x s reading number kind.Stopped h = grown_next x s (record { reading = reading; number = number; kind = kind.Stopped }) refl h (decide_grows s kind.Stopped reading (λ o. o))

abbrev outcome_under : Earlier → State → Event → Outcome
outcome_under x s e = record { state = older x (step s e).state; orders = (step s e).orders }

run_older : (x : Earlier) (s : State) (events : List Event) → IsOld x s → IsShowing (older x s)
    → (orders_of (older x s) events ≡ orders_of s events)
    × (y : Earlier) × (state_after (older x s) events ≡ older y (state_after s events)) × IsOld y (state_after s events)
run_older x s [] h shown = (refl, x, refl, h)
run_older x s (e ∷ es) h shown =
    let next : Next x s e = next_old x s e.reading e.number e.kind h in
    let y : Earlier = left_of x e.kind s in
    let one : step (older x s) e ≡ outcome_under y s e = step-behind x s e (counts_same x s e.reading h shown) next.0 in
    let later : IsShowing (older y (step s e).state) = subst IsShowing (ap (λ (o : Outcome). o.state) one) (end_evidence_law (older x s) (e ∷ []) e shown).0 in
    let rest = run_older y (step s e).state es next.1 later in (
      ap (λ (o : Outcome). o.orders ++ orders_of o.state es) one ∙ ap (λ (os : List Effect). (step s e).orders ++ os) rest.0,
      rest.1,
      ap (λ (o : Outcome). state_after o.state es) one ∙ rest.2,
      rest.3,
    )

-- what a cut drops
abbrev dropped_of : State → Earlier
dropped_of s = record { stamps = take (length s.stamps - (s.flags.intensity + 1)) s.stamps; replies = s.replies; ends = s.ends }

with_cut : (s : State) → older (dropped_of s) (short_base_of s) ≡ s
with_cut s =
    ap (λ (ts : List ℕ). record s { stamps = ts; replies = s.replies ++ []; ends = s.ends ++ [] }) (take-append-drop (length s.stamps - (s.flags.intensity + 1)) s.stamps)
    ∙ ap (λ (rs : List Answered). record s { replies = rs; ends = s.ends ++ [] }) (append-nil s.replies)
    ∙ ap (λ (es : List (ℕ × SupEnd)). record s { ends = es }) (append-nil s.ends)

cut_old : (s : State) (b : Bool) → nat_le (s.flags.intensity + 1) (length s.stamps) ≡ b → IsOld (dropped_of s) (short_base_of s)
cut_old s true is =
    let many : s.flags.intensity + 1 ≤ length s.stamps = leb-true _ _ is in
    inr (omega (arith, many, length-drop (length s.stamps - (s.flags.intensity + 1)) s.stamps))
cut_old s false is =
    let few = leb-false (s.flags.intensity + 1) (length s.stamps) is in
    let none : length s.stamps - (s.flags.intensity + 1) ≡ 0 = omega (arith, few) in
    inl (ap (λ (n : ℕ). take n s.stamps) none)

pub short_cuts_agree_law : ShortCutsAgree
short_cuts_agree_law s events shown =
    let x : Earlier = dropped_of s in
    let again : s ≡ older x (short_base_of s) = sym (with_cut s) in
    let run = run_older x (short_base_of s) events (cut_old s (nat_le (s.flags.intensity + 1) (length s.stamps)) refl) (subst IsShowing again shown) in
    let same : state_after s events ≡ older run.1 (state_after (short_base_of s) events) = ap (λ (t : State). state_after t events) again ∙ run.2 in
    let from_base : State = state_after (short_base_of s) events in
    let Keeps : State → Type 0 = λ t. KeepSame t.flags.intensity t.stamps from_base.stamps in (
      sym run.0 ∙ ap (λ (t : State). orders_of t events) (with_cut s),
      run.1,
      same,
      subst Keeps (sym same) (kept_same from_base.flags.intensity run.1.stamps from_base.stamps run.3),
    )

no_work : ◌≡◌ {A = Option Sequel} None (Some (sequel.End ending.Intensity)) → ⊥
no_work h = cc

pub cut_anywhere_law : CutAnywhere
cut_anywhere_law flags specs past events =
    let first : State = empty_state flags specs in
    let s : State = state_after first past in
    let shown : IsShowing s = (end_evidence_law first past (record { reading = 0; number = None; kind = kind.Ticked }) (IsNonDecreasingBy-short (λ t. t) [] (omega arith), All-nil (λ t. t ≤ 0), λ h. absurd (no_work h))).0 in
    let GoesOn : State → Type 0 = λ t. GoesOnFromCut s events t in
    subst GoesOn (sym (runs_joined_law first past events).0) (short_cuts_agree_law s events shown)
