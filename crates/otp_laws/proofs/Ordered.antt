-- While a call's start is awaited, the child that is starting is the one that the call asks for, under a number that its work ordered.
use Rattle.std.specs.Prelude.{◌≡◌, ◌⊎◌, ℕ, ◌≤◌, ◌<◌, ◌++◌, Bool, true, false, List, [], ◌∷◌, Option, None, Some, Contains, refl, if◌then◌else◌, is_some, map, count_by, unwrap_or}
use Rattle.std.specs.List.{cons_option, filter_map}
use Rattle.std.specs.Option.{option_eq}
use Rattle.std.specs.Ordering.{on}
use Rattle.std.specs.Str.{bytes_eq}
use Rattle.std.proofs.Common.{◌∙◌, ap, sym, subst, arith, ⊎_elim}
use Rattle.std.proofs.lemmas.Bool.{and_from, and_parts, eqb-true, false≢true}
use Rattle.std.proofs.lemmas.List.Elements.{Contains-append_left, Contains-append_right}
use Rattle.std.proofs.lemmas.List.{map-append}
use Rattle.std.proofs.lemmas.Slice.Eq.{bytes_eq-Decides}
use Prim.Native.Nat.{zero, suc}
use Rattle.otp_reason.specs.declared.name.Name.{Name}
use Rattle.otp_reason.specs.Names.{name_bytes}
use Rattle.otp_table.specs.declared.row.Row.{Row}
use Rattle.otp_table.specs.declared.row.RowState.{RowState}
use Rattle.otp_table.specs.declared.row.RowState.TheVariants.{Undefined, Starting, Up, Asked, Killed, Restarting}
use Rattle.otp_table.specs.Rows.{is_awaited, is_undefined, row_has}
use Rattle.otp_rules.specs.declared.event.Effect.TheVariants as effect
use Rattle.otp_rules.specs.declared.event.Event.{Event}
use Rattle.otp_rules.specs.declared.event.Kind.{Kind}
use Rattle.otp_rules.specs.declared.work.Due.{Due}
use Rattle.otp_rules.specs.declared.work.Sequel.{Sequel}
use Rattle.otp_rules.specs.declared.work.Sequel.TheVariants as sequel
use Rattle.otp_rules.specs.State.{State}
use Rattle.otp_rules.specs.Step.{step}
use Rattle.otp_rules.specs.Progress.{Ordered, Progress, decided, gave, heard, id_bytes, is_opened, opened_now, seen, started, taken, went_on}
use Rattle.otp_rules.specs.Fit.{is_starting, rows_in, HasStarts, IsLimited, IsSound}
use Rattle.otp_rules.proofs.Lasting.{contains_counts, counts_contain}
use Rattle.otp_rules.proofs.WhileOpen.{Tracks}
use Rattle.otp_laws.specs.Oks.{StartsAreOrdered, is_call_start}
use Rattle.otp_laws.proofs.Both.{Begins, both, decided-most, step-most}
use Rattle.otp_laws.proofs.Falls.{starting-falling}

-- two children of one id

abbrev same_id : Option Name → Row → Bool
same_id id row = option_eq (on name_bytes bytes_eq) row.id id

pub one_id : (x y : Option Name) → option_eq (on name_bytes bytes_eq) x y ≡ true → id_bytes x ≡ id_bytes y
one_id None None h = refl
one_id None (Some b) h = absurd (false≢true h)
one_id (Some a) None h = absurd (false≢true h)
one_id (Some a) (Some b) h = ap (λ (bytes : List ℕ). Some bytes) ((bytes_eq-Decides (name_bytes a) (name_bytes b)).0 h)

own_id : (x : Option Name) → option_eq (on name_bytes bytes_eq) x x ≡ true
own_id None = refl
own_id (Some a) = (bytes_eq-Decides (name_bytes a) (name_bytes a)).1 refl

-- what lists contain

pub contains_map : {X Y : Type 0} (f : X → Y) (xs : List X) (x : X) → Contains xs x → Contains (map f xs) (f x)
contains_map f [] x c = absurd (omega (arith, c.1))
contains_map f (y ∷ ys) x (zero, within, is) = (zero, omega arith, ap f is)
contains_map f (y ∷ ys) x (suc k, within, is) = let rest = contains_map f ys x (k, omega (arith, within), is) in (suc rest.0, omega (arith, rest.1), rest.2)

contains_option : {Y : Type 0} (o : Option Y) (ys : List Y) (y : Y) → Contains ys y → Contains (cons_option o ys) y
contains_option None ys y c = c
contains_option (Some x) ys y c = (suc c.0, omega (arith, c.1), c.2)

contains_some : {X Y : Type 0} (f : X → Option Y) (xs : List X) (x : X) (y : Y) → Contains xs x → f x ≡ Some y → Contains (filter_map f xs) y
contains_some f [] x y c is = absurd (omega (arith, c.1))
contains_some f (z ∷ zs) x y (zero, within, same) is =
    subst (λ o. Contains (cons_option o (filter_map f zs)) y) (sym (ap f same ∙ is)) (zero, omega arith, refl)
contains_some f (z ∷ zs) x y (suc k, within, same) is = contains_option (f z) (filter_map f zs) y (contains_some f zs x y (k, omega (arith, within), same) is)

-- the list of one
contains_one : {X : Type 0} (x y : X) → Contains (x ∷ []) y → x ≡ y
contains_one x y (zero, within, is) = is
contains_one x y (suc k, within, is) = absurd (omega (arith, within))

-- work for a call opens where nobody is starting

starts_for : (f g : Option Sequel) → is_opened f g ≡ true → is_call_start g ≡ true → f ≡ None
starts_for None g opened call = refl
starts_for (Some sequel.Ready) None opened call = absurd (false≢true call)
starts_for (Some sequel.Ready) (Some sequel.Ready) opened call = absurd (false≢true call)
starts_for (Some sequel.Ready) (Some sequel.Nothing) opened call = absurd (false≢true call)
starts_for (Some sequel.Ready) (Some (sequel.Added _)) opened call = absurd (false≢true opened)
starts_for (Some sequel.Ready) (Some (sequel.Restarted _)) opened call = absurd (false≢true opened)
starts_for (Some sequel.Ready) (Some (sequel.Stopped _)) opened call = absurd (false≢true call)
starts_for (Some sequel.Ready) (Some (sequel.End _)) opened call = absurd (false≢true call)
starts_for (Some sequel.Nothing) g opened call = absurd (false≢true opened)
starts_for (Some (sequel.Added _)) g opened call = absurd (false≢true opened)
starts_for (Some (sequel.Restarted _)) g opened call = absurd (false≢true opened)
starts_for (Some (sequel.Stopped _)) g opened call = absurd (false≢true opened)
starts_for (Some (sequel.End _)) g opened call = absurd (false≢true opened)

opens_none_again : (f g : Option Sequel) → is_call_start f ≡ true → is_opened f g ≡ false
opens_none_again None g h = absurd (false≢true h)
opens_none_again (Some sequel.Ready) g h = absurd (false≢true h)
opens_none_again (Some sequel.Nothing) g h = absurd (false≢true h)
opens_none_again (Some (sequel.Added _)) g h = refl
opens_none_again (Some (sequel.Restarted _)) g h = refl
opens_none_again (Some (sequel.Stopped _)) g h = absurd (false≢true h)
opens_none_again (Some (sequel.End _)) g h = absurd (false≢true h)

starting_awaits : (q : ℕ) (state : RowState) → is_starting q state ≡ true → is_awaited state ≡ true
starting_awaits q Undefined h = absurd (false≢true h)
starting_awaits q (Starting _ _) h = refl
starting_awaits q (Up _) h = absurd (false≢true h)
starting_awaits q (Asked _ _) h = absurd (false≢true h)
starting_awaits q (Killed _) h = absurd (false≢true h)
starting_awaits q (Restarting _) h = absurd (false≢true h)

-- an ordered start of this id, under this number
abbrev HasOrder : List Ordered → Option Name → ℕ → Type 0
HasOrder ordered id q = (x : Ordered) × Contains ordered x × (id_bytes x.id ≡ id_bytes id) × (x.number ≡ q)

renamed : (ordered : List Ordered) (a b : Option Name) (q : ℕ) → id_bytes a ≡ id_bytes b → HasOrder ordered a q → HasOrder ordered b q
renamed ordered a b q same x = (x.0, x.1, x.2 ∙ same, x.3)

heard_too : (k : Kind) (ordered : List Ordered) (id : Option Name) (q : ℕ) → HasOrder ordered id q → HasOrder (map (heard k) ordered) id q
heard_too k ordered id q x = (heard k x.0, contains_map (heard k) ordered x.0 x.1, x.2, x.3)

and_more : (ordered more : List Ordered) (id : Option Name) (q : ℕ) → HasOrder ordered id q → HasOrder (ordered ++ more) id q
and_more ordered more id q x = (x.0, Contains-append_left ordered more x.0 x.1, x.2, x.3)

-- the decision
seen-ordered : (s : State) (e : Event) (g : Progress) → IsSound s → Tracks s.follows (decided s e) → StartsAreOrdered s g → is_call_start (decided s e).follows ≡ true
    → (row : Row) (q : ℕ) → Contains (decided s e).rows row → is_starting q row.state ≡ true → HasOrder (seen s e g).ordered row.id q
seen-ordered s e g sound tracked h call row q among starts =
    let u : Row → Bool = same_id row.id in
    let t : RowState → Bool = is_starting q in
    let here : 0 < count_by (both u t) (decided s e).rows = contains_counts (both u t) (decided s e).rows row among (and_from (u row) (t row.state) (own_id row.id) starts) in
    let before : 0 < count_by (both u t) s.rows = omega (arith, here, decided-most u t (λ state r. refl) (starting-falling q) s e) in
    let old : (r : Row) × Contains s.rows r × (both u t r ≡ true) = counts_contain (both u t) s.rows before in
    let parts = and_parts (u old.0) (t old.0.state) old.2 in
    ⊎_elim
    (λ (same : (decided s e).follows ≡ s.follows).
    let call_then : is_call_start s.follows ≡ true = ap is_call_start (sym same) ∙ call in
    let x : HasOrder g.ordered old.0.id q = h call_then old.0 q old.1 parts.1 in
    let unopened : is_opened s.follows (decided s e).follows ≡ false = opens_none_again s.follows (decided s e).follows call_then in
    let is_seen : seen s e g ≡ went_on e.kind g = ap (λ (b : Bool). if b then opened_now s (taken e.kind s.waiting) (decided s e) else went_on e.kind g) unopened in
    subst (λ (y : Progress). HasOrder y.ordered row.id q) (sym is_seen) (heard_too e.kind g.ordered row.id q (renamed g.ordered old.0.id row.id q (one_id old.0.id row.id parts.0) x)))
    (λ rest.
    ⊎_elim (λ (none : (decided s e).follows ≡ None). absurd (false≢true (sym (ap is_call_start none) ∙ call)))
    (λ (opened : is_opened s.follows (decided s e).follows ≡ true).
    let idle : s.follows ≡ None = starts_for s.follows (decided s e).follows opened call in
    let calm : rows_in is_awaited s.rows ≡ 0 = subst (λ (f : Option Sequel). IsLimited f (rows_in is_awaited s.rows)) idle sound.0 in
    absurd (omega (arith, calm, contains_counts (row_has is_awaited) s.rows old.0 old.1 (starting_awaits q old.0.state parts.1)))) rest)
    tracked

-- the event
pub step-ordered : (s : State) (e : Event) (g : Progress) → IsSound s → Tracks s.follows (decided s e) → ((step s e).state.follows ≡ (decided s e).follows) ⊎ (is_some (step s e).state.follows ≡ false)
    → StartsAreOrdered s g → StartsAreOrdered (step s e).state (gave (step s e).orders (seen s e g))
step-ordered s e g sound tracked left h call row q among starts =
    let u : Row → Bool = same_id row.id in
    let t : RowState → Bool = is_starting q in
    let ordered : List Ordered = (seen s e g).ordered in
    let more : List Ordered = filter_map started (step s e).orders in
    let here : 0 < count_by (both u t) (step s e).state.rows = contains_counts (both u t) (step s e).state.rows row among (and_from (u row) (t row.state) (own_id row.id) starts) in
    ⊎_elim
    (λ (same : (step s e).state.follows ≡ (decided s e).follows).
    let call_then : is_call_start (decided s e).follows ≡ true = ap is_call_start (sym same) ∙ call in
    ⊎_elim
    (λ (less : count_by (both u t) (step s e).state.rows ≤ count_by (both u t) (decided s e).rows).
    let old : (r : Row) × Contains (decided s e).rows r × (both u t r ≡ true) = counts_contain (both u t) (decided s e).rows (omega (arith, here, less)) in
    let parts = and_parts (u old.0) (t old.0.state) old.2 in
    let x : HasOrder ordered old.0.id q = seen-ordered s e g sound tracked h call_then old.0 q old.1 parts.1 in
    and_more ordered more row.id q (renamed ordered old.0.id row.id q (one_id old.0.id row.id parts.0) x))
    (λ (begun : Begins (λ id n. (id_bytes id ≡ id_bytes row.id) × (n ≡ q)) (step s e)).
    let x : Ordered = record { id = begun.0; number = begun.1; answered = false } in
    (x, Contains-append_right ordered more x (contains_some started (step s e).orders (effect.Start begun.0 begun.1) x begun.2 refl), begun.3.0, begun.3.1))
    (step-most u t (λ state r. refl) (starting-falling q) (λ id n. (id_bytes id ≡ id_bytes row.id) × (n ≡ q)) s e
    (λ due r kept has passes starting.
    (sym (one_id r.id due.id (and_parts (option_eq (on name_bytes bytes_eq) r.id due.id) (is_undefined r.state) has).0) ∙ one_id r.id row.id passes, eqb-true (unwrap_or e.number 0) q starting))))
    (λ (none : is_some (step s e).state.follows ≡ false). absurd (false≢true (sym none ∙ busy (step s e).state.follows call)))
    left
  where
    busy : (f : Option Sequel) → is_call_start f ≡ true → is_some f ≡ true
    busy None h = absurd (false≢true h)
    busy (Some x) h = refl

-- what was ordered for a call is the start of the one child that its work is about
pub ordered-child : (s : State) (g : Progress) (x : Ordered) (child : Row) (part : List Row) → HasStarts s g → map (λ (y : Due). id_bytes y.id) g.opened.to_start ≡ map (λ (y : Row). id_bytes y.id) part → part ≡ child ∷ [] → Contains g.ordered x → id_bytes x.id ≡ id_bytes child.id
ordered-child s g x child part h listed one among =
    let first : List Due = h.0 in
    let ids : List Due → List (Option (List ℕ)) = map (λ (y : Due). id_bytes y.id) in
    let here : Contains (ids first) (id_bytes x.id) = subst (λ (l : List (Option (List ℕ))). Contains l (id_bytes x.id)) h.2 (contains_map (λ (y : Ordered). id_bytes y.id) g.ordered x among) in
    let all : Contains (ids first ++ ids s.to_start) (id_bytes x.id) = Contains-append_left (ids first) (ids s.to_start) (id_bytes x.id) here in
    let same : ids first ++ ids s.to_start ≡ id_bytes child.id ∷ [] =
    sym (map-append (λ (y : Due). id_bytes y.id) first s.to_start) ∙ ap ids (sym h.1) ∙ listed ∙ ap (λ (l : List Row). map (λ (y : Row). id_bytes y.id) l) one in
    sym (contains_one (id_bytes child.id) (id_bytes x.id) (subst (λ (l : List (Option (List ℕ))). Contains l (id_bytes x.id)) same all))
