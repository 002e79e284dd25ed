-- What an office keeps from event to event.
use Rattle.std.proofs.Common.{◌≡◌, ℕ, ◌+◌, ◌≤◌, ◌++◌, List, [], ◌∷◌, Option, None, Some, not, append-nil, append_assoc, refl, ap, sym, ◌∙◌, subst, arith, length, take, drop, length-append, length-drop}
use Rattle.std.specs.List.{Contains}
use Rattle.std.proofs.lemmas.List.{take-append-le}
use Rattle.std.proofs.lemmas.List.Elements.{filter-append, filter_map-append}
use Rattle.std.proofs.Math.Seq.{drop-append_seam}
use Rattle.otp_rules.specs.declared.event.Effect.{Effect}
use Rattle.otp_rules.specs.declared.event.Event.{Event}
use Rattle.otp_rules.specs.Effects.{is_reply}
use Rattle.otp_rules.specs.Needs.{numbers_of}
use Rattle.otp_rules.specs.State.{State}
use Rattle.otp_rules.specs.Step.{step}
use Rattle.otp_rules.specs.Run.{state_after, orders_of}
use Rattle.otp_core.specs.View.{View, state_of}
use Rattle.otp_signals.specs.declared.view.Holding.{Holding}
use Rattle.otp_signals.specs.Lists.{EachBetween}
use Rattle.otp_rules.specs.declared.event.Item.{Item}
use Rattle.otp_rules.specs.declared.event.Kind.{Kind}
use Rattle.otp_rules.specs.declared.event.Kind.TheVariants as kind
use Rattle.otp_bodies.specs.Events.{item_of, items_of, Happened, drawn_by}
use Rattle.otp_bodies.specs.Offices.{OfficeView, IsOffice, Begins, sent_of}
use Rattle.otp_bodies.specs.Orders.{orders_in, orders_along}
use Rattle.otp_bodies.specs.Posts.{words_in}
use Rattle.otp_bodies.proofs.Posting.{none_left, posted_same}

-- the orders of one event more
pub orders_on : (s : State) (es : List Event) (e : Event) → orders_of s (es ++ e ∷ []) ≡ orders_of s es ++ (step (state_after s es) e).orders
orders_on s [] e = append-nil (step s e).orders
orders_on s (x ∷ xs) e =
    ap (λ (l : List Effect). (step s x).orders ++ l) (orders_on (step s x).state xs e)
    ∙ sym (append_assoc (step s x).orders (orders_of (step s x).state xs) (step (state_after (step s x).state xs) e).orders)

-- all orders, with those of one event more
pub along_on : (core next : View) (e : Event) → next.base ≡ core.base → next.history ≡ core.history ++ e ∷ []
    → orders_along next ≡ orders_along core ++ orders_in (step (state_of core) e).orders
along_on core next e base history =
    ap (λ (b : State). orders_in (orders_of b next.history)) base
    ∙ ap (λ (h : List Event). orders_in (orders_of core.base h)) history
    ∙ ap orders_in (orders_on core.base core.history e)
    ∙ filter-append (λ (x : Effect). not (is_reply x)) (orders_of core.base core.history) (step (state_of core) e).orders

pub along_same : (core next : View) → next.base ≡ core.base → next.history ≡ core.history → orders_along next ≡ orders_along core
along_same core next base history =
    ap (λ (b : State). orders_in (orders_of b next.history)) base ∙ ap (λ (h : List Event). orders_in (orders_of core.base h)) history

drawn_on : (drawn next : List ℕ) (h longer : List Event) (reading : ℕ) (number : Option ℕ) (kind : Kind) → drawn ≡ numbers_of h
    → longer ≡ h ++ record { reading = reading; number = number; kind = kind } ∷ []
    → (number ≡ None → next ≡ drawn) → ((n : ℕ) → number ≡ Some n → next ≡ drawn ++ n ∷ []) → next ≡ numbers_of longer
drawn_on drawn next h longer reading None kind e more none some =
    none refl ∙ e ∙ sym (append-nil (numbers_of h))
    ∙ sym (filter_map-append (λ (x : Event). x.number) h (record { reading = reading; number = None; kind = kind } ∷ [])) ∙ ap numbers_of (sym more)
drawn_on drawn next h longer reading (Some n) kind e more none some =
    some n refl ∙ ap (λ (l : List ℕ). l ++ n ∷ []) e
    ∙ sym (filter_map-append (λ (x : Event). x.number) h (record { reading = reading; number = Some n; kind = kind } ∷ [])) ∙ ap numbers_of (sym more)

empty_from : (n : ℕ) (l : List Effect) → [] ≡ drop n l → n ≤ length l → n ≡ length l
empty_from n l e le = let k : length (drop n l) ≡ 0 = ap (λ (x : List Effect). length x) (sym e) in let d = length-drop n l in omega arith

-- what the drawing of a number leaves as it was

pub drawn_posts : (number : Option ℕ) (h : Holding) → (drawn_by number h).posts ≡ h.posts
drawn_posts None h = refl
drawn_posts (Some n) h = refl

pub drawn_slots : (number : Option ℕ) (h : Holding) → (drawn_by number h).slots ≡ h.slots
drawn_slots None h = refl
drawn_slots (Some n) h = refl

-- what was cut off is of a history with one event more
cut_on : (core next : View) (e : Event) → next.cut ≡ core.cut → next.history ≡ core.history ++ e ∷ [] → core.cut ≤ length core.history → next.cut ≤ length next.history
cut_on core next e cut history within =
    let more : length next.history ≡ length (core.history ++ e ∷ []) = ap (λ (h : List Event). length h) history in
    let sum = length-append core.history (e ∷ []) in
    omega arith

-- one event happened, and all orders before it were sent
pub happened : (old new : OfficeView) (e : Event)
    → old.outbox ≡ [] → new.core.base ≡ old.core.base → new.core.cut ≡ old.core.cut → new.core.history ≡ old.core.history ++ e ∷ []
    → new.outbox ≡ orders_in (step (state_of old.core) e).orders → new.sent ≡ old.sent
    → (e.number ≡ None → new.owner.drawn ≡ old.owner.drawn) → ((n : ℕ) → e.number ≡ Some n → new.owner.drawn ≡ old.owner.drawn ++ n ∷ [])
    → new.owner.posts ≡ old.owner.posts → new.owner.slots ≡ old.owner.slots → new.first_slot ≡ old.first_slot → IsOffice old → IsOffice new
happened old new e empty base cut history outbox sent none some posts slots first i =
    let fresh : List Effect = orders_in (step (state_of old.core) e).orders in
    let all : orders_along new.core ≡ orders_along old.core ++ fresh = along_on old.core new.core e base history in
    let whole : old.sent ≡ length (orders_along old.core) = empty_from old.sent (orders_along old.core) (sym empty ∙ i.orders) i.counted in
    let len = ap (λ (x : List Effect). length x) all in
    let sum = length-append (orders_along old.core) fresh in
    let sent_same : sent_of new ≡ sent_of old = ap (λ n. take n (orders_along new.core)) sent ∙ ap (λ (l : List Effect). take old.sent l) all ∙ take-append-le old.sent (orders_along old.core) fresh i.counted in
    let Slots : List ℕ → Type 0 = λ ss. EachBetween new.first_slot (new.first_slot + 256) (Contains ss) in
    let From : ℕ → Type 0 = λ n. EachBetween n (n + 256) (Contains old.owner.slots) in
    record {
      begins = subst Begins (sym base) i.begins;
      cut = cut_on old.core new.core e cut history i.cut;
      numbers = drawn_on old.owner.drawn new.owner.drawn old.core.history new.core.history e.reading e.number e.kind i.numbers history none some;
      orders = outbox ∙ sym (drop-append_seam (orders_along old.core) fresh) ∙ ap (λ n. drop n (orders_along old.core ++ fresh)) (sym (sent ∙ whole)) ∙ ap (λ (l : List Effect). drop new.sent l) (sym all);
      counted = omega arith;
      posts = posted_same old new new.outbox sent_same posts (none_left (sent_of old) old.outbox new.outbox (words_in old.owner.posts) empty i.posts);
      slots = subst Slots (sym slots) (subst From (sym first) i.slots);
      fits = let f = i.fits in omega arith;
    }

abbrev listed : Option Item → List Item
listed None = []
listed (Some x) = x ∷ []

items_on : (h longer : List Event) (reading : ℕ) (number : Option ℕ) (kind : Kind) → longer ≡ h ++ record { reading = reading; number = number; kind = kind } ∷ []
    → (found : Option Item) → item_of kind ≡ found → items_of longer ≡ items_of h ++ listed found
items_on h longer reading number kind more None e =
    ap items_of more ∙ filter_map-append (λ (x : Event). item_of x.kind) h (record { reading = reading; number = number; kind = kind } ∷ [])
    ∙ ap (λ (o : Option Item). items_of h ++ Rattle.std.specs.List.filter_map (λ (u : Unit {0}). o) (tt ∷ [])) e
items_on h longer reading number kind more (Some x) e =
    ap items_of more ∙ filter_map-append (λ (x : Event). item_of x.kind) h (record { reading = reading; number = number; kind = kind } ∷ [])
    ∙ ap (λ (o : Option Item). items_of h ++ Rattle.std.specs.List.filter_map (λ (u : Unit {0}). o) (tt ∷ [])) e

-- an event that takes no item
pub none_taken : (old new : OfficeView) (reading : ℕ) (kind : Kind) → Happened reading kind old new → item_of kind ≡ None → items_of new.core.history ≡ items_of old.core.history
none_taken old new reading kind h e = items_on old.core.history new.core.history reading h.number kind h.history None e ∙ append-nil (items_of old.core.history)

-- an event that takes one
pub one_taken : (old new : OfficeView) (reading : ℕ) (x : Item) → Happened reading (kind.Took x) old new → items_of new.core.history ≡ items_of old.core.history ++ x ∷ []
one_taken old new reading x h = items_on old.core.history new.core.history reading h.number (kind.Took x) h.history (Some x) refl
