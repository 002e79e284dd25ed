-- Where a supervisor gets the flags and specifications that it has, nothing changes.
use Rattle.std.proofs.Common.{◌≡◌, ◌-◌, ◌≤◌, ℕ, All, Bool, true, false, List, [], ◌∷◌, ◌++◌, Option, None, Some, ap, append-nil, append_assoc, arith, drop, length, map, refl, sym, ◌∙◌}
use Rattle.std.specs.Prelude.{if◌then◌else◌}
use Rattle.std.specs.List.{filter}
use Rattle.std.specs.Str.{bytes_eq}
use Rattle.std.proofs.lemmas.Bool.{false≢true, true≢false}
use Rattle.std.proofs.lemmas.List.Elements.{All-head, All-tail}
use Rattle.std.proofs.lemmas.List.Sums.{count_by-le-length, length-filter}
use Rattle.std.proofs.lemmas.Slice.Eq.{bytes_eq-Decides}
use Rattle.otp_reason.specs.declared.name.Name.{Name}
use Rattle.otp_reason.specs.Names.{name_bytes}
use Rattle.otp_spec.specs.declared.child.ChildSpec.{ChildSpec}
use Rattle.otp_spec.specs.declared.flags.SupFlags.{SupFlags}
use Rattle.otp_spec.specs.Flags.{is_simple}
use Rattle.otp_window.specs.Period.{in_period, is_in_period}
use Rattle.otp_table.specs.declared.row.Row.{Row}
use Rattle.otp_table.specs.Rows.{has_id}
use Rattle.otp_rules.specs.declared.event.Waiting.{Waiting}
use Rattle.otp_rules.specs.declared.work.Due.{Due}
use Rattle.otp_rules.specs.declared.work.Phase.{Phase}
use Rattle.otp_rules.specs.declared.work.Phase.TheVariants.{Unopened, Open, Ended}
use Rattle.otp_rules.specs.declared.work.Sequel.{Sequel}
use Rattle.otp_rules.specs.Rate.{IsBounded}
use Rattle.otp_rules.specs.State.{State, is_over}
use Rattle.otp_base.specs.declared.change.seat.Seat.{Seat}
use Rattle.otp_base.specs.declared.change.seat.Seat.TheVariants.{Kept}
use Rattle.otp_base.specs.Change.{MayChange, changed, phase_after, rows_after, shared, stamps_after}
use Rattle.otp_base.specs.Laws.{AreOf}
use Rattle.otp_base.specs.Seats.{filled, kept_rows, named, rows_of, seat_of, seated, standing, without, Seated}
use Rattle.otp_base.proofs.Kept.{Rests, no_plan_fault, rests}
use Rattle.otp_base.proofs.Resumes.{few_kept}

has_own_id : (row : Row) → row.id ≡ Some row.spec.id → has_id row.spec.id row ≡ true
has_own_id row own =
    let id : Name = row.spec.id in
    let same : bytes_eq (name_bytes id) (name_bytes id) ≡ true = (bytes_eq-Decides (name_bytes id) (name_bytes id)).1 refl in
    ap (λ (x : Option Name). has_id id (record row { id = x })) own ∙ same

abbrev with_left : List Row → List Seat → Seated
with_left left seats = record { seats = seats; left = left }

-- a row that has this id is found first
seat_first : (b : Bool) (row : Row) (rows : List Row) (seats : List Seat) → b ≡ true
    → ◌≡◌ {A = Seated}
    (with_left (if b then rows else row ∷ without row.spec.id rows) (seats ++ seat_of row.spec (if b then Some row else named row.spec.id rows) ∷ []))
    (with_left rows (seats ++ Kept row ∷ []))
seat_first true row rows seats is = refl
seat_first false row rows seats is = absurd (false≢true is)

all_keep : (rows : List Row) (seats : List Seat) → All (λ row. row.id ≡ Some row.spec.id) rows
    → ◌≡◌ {A = Seated} (seated (with_left rows seats) (map (λ row. row.spec) rows)) (with_left [] (seats ++ map (λ row. Kept row) rows))
all_keep [] seats own = ap (λ (xs : List Seat). with_left [] xs) (sym (append-nil seats))
all_keep (row ∷ rows) seats own =
    let first : has_id row.spec.id row ≡ true = has_own_id row (All-head (λ (r : Row). r.id ≡ Some r.spec.id) row rows own) in
    ap (λ (s : Seated). seated s (map (λ (r : Row). r.spec) rows)) (seat_first (has_id row.spec.id row) row rows seats first)
    ∙ all_keep rows (seats ++ Kept row ∷ []) (All-tail (λ (r : Row). r.id ≡ Some r.spec.id) row rows own)
    ∙ ap (λ (xs : List Seat). with_left [] xs) (append_assoc seats (Kept row ∷ []) (map (λ (r : Row). Kept r) rows))

filled_same : (used before rows : List Row) → filled used before (map (λ row. Kept row) rows) ≡ before ++ rows
filled_same used before [] = sym (append-nil before)
filled_same used before (row ∷ rows) = filled_same used (before ++ row ∷ []) rows ∙ append_assoc before (row ∷ []) rows

rows_same : (rows : List Row) (specs : List ChildSpec) → AreOf specs rows → rows_of (seated (standing rows) specs).seats ≡ rows
rows_same rows specs h =
    let seats : List Seat = (seated (standing rows) specs).seats in
    let all : seats ≡ map (λ (row : Row). Kept row) rows =
    ap (λ (xs : List ChildSpec). (seated (standing rows) xs).seats) (sym h.planned) ∙ ap (λ (s : Seated). s.seats) (all_keep rows [] h.named) in
    ap (λ (xs : List Seat). filled (kept_rows seats) [] xs) all ∙ filled_same (kept_rows seats) [] rows

same_rows : (b over : Bool) (rows : List Row) (specs : List ChildSpec) → b ≡ false → over ≡ false → AreOf specs rows
    → (if b then map (shared specs) rows else rows_of (seated (standing rows) (if over then [] else specs)).seats) ≡ rows
same_rows false false rows specs static runs h = rows_same rows specs h
same_rows false true rows specs static runs h = absurd (true≢false runs)
same_rows true over rows specs static runs h = absurd (true≢false static)

same_phase : (phase : Phase) → is_over phase ≡ false → phase_after phase ≡ phase
same_phase Unopened runs = absurd (true≢false runs)
same_phase (Open _) runs = refl
same_phase (Ended _ _) runs = absurd (true≢false runs)

-- the state with these lists in place of its own
abbrev with_lists : State → List ℕ → List Row → List ℕ → List Due → Option Sequel → List Waiting → Phase → State
with_lists s stamps rows to_stop to_start follows waiting phase =
    record s { stamps = stamps; rows = rows; to_stop = to_stop; to_start = to_start; follows = follows; waiting = waiting; phase = phase }

pub same_stays : (s : State) → MayChange s.flags s.specs s → is_simple s.flags.strategy ≡ false → is_over s.phase ≡ false → AreOf s.specs s.rows
    → ◌≡◌ {A = State} (changed s.flags s.specs s) (record s { stamps = stamps_after s.flags s.last s.stamps })
same_stays s may static runs h =
    let stamps : List ℕ = stamps_after s.flags s.last s.stamps in
    let new : List Row = rows_after s.flags.strategy s.specs s in
    let rest : Rests s = rests s (no_plan_fault s.flags s.specs s may.planned).0 in
    ap (λ (x : List Row). with_lists s stamps x [] [] None [] (phase_after s.phase)) (same_rows (is_simple s.flags.strategy) (is_over s.phase) s.rows s.specs static runs h)
    ∙ ap (λ (x : List ℕ). with_lists s stamps s.rows x [] None [] (phase_after s.phase)) (sym rest.stops)
    ∙ ap (λ (x : List Due). with_lists s stamps s.rows s.to_stop x None [] (phase_after s.phase)) (sym rest.starts)
    ∙ ap (λ (x : Option Sequel). with_lists s stamps s.rows s.to_stop s.to_start x [] (phase_after s.phase)) (sym rest.follows)
    ∙ ap (λ (x : List Waiting). with_lists s stamps s.rows s.to_stop s.to_start s.follows x (phase_after s.phase)) (sym rest.waiting)
    ∙ ap (λ (x : Phase). with_lists s stamps s.rows s.to_stop s.to_start s.follows s.waiting x) (same_phase s.phase runs)

none_cut : (n m : ℕ) → n ≤ m → n - m ≡ 0
none_cut n m few = omega (arith, few)

pub stamps_stay : (flags : SupFlags) (last : ℕ) (stamps : List ℕ) → in_period flags.period stamps last ≤ flags.intensity
    → stamps_after flags last stamps ≡ filter (is_in_period flags.period last) stamps
stamps_stay flags last stamps few =
    let times : List ℕ = filter (is_in_period flags.period last) stamps in
    ap (λ (n : ℕ). drop n times) (none_cut (length times) flags.intensity (omega (arith, few, length-filter (is_in_period flags.period last) stamps)))

pub stamps_few : (flags : SupFlags) (last : ℕ) (stamps : List ℕ) → IsBounded flags (stamps_after flags last stamps)
stamps_few flags last stamps t =
    let times : List ℕ = filter (is_in_period flags.period last) stamps in
    omega (arith, few_kept flags.intensity times, count_by-le-length (is_in_period flags.period t) (stamps_after flags last stamps))
