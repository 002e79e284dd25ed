-- The orders that are sent, one by one.
use Rattle.std.proofs.Common.{◌≡◌, ℕ, zero, suc, ◌+◌, ◌<◌, ◌≤◌, ◌++◌, List, [], ◌∷◌, Option, None, Some, Bool, true, false, cond, not, refl, ap, sym, ◌∙◌, subst, arith, rules, length, drop, get_or, add-one, length-drop, drop-cons}
use Rattle.std.specs.Prelude.{slice_get, MatchOption}
use Rattle.otp_rules.specs.declared.event.Effect.TheVariants as effect
use Rattle.std.specs.List.{All, Contains, filter}
use Rattle.std.proofs.lemmas.List.Sums.{sum_by-append, sum_by-cons}
use Rattle.std.proofs.lemmas.Option.{slice_get_within, get_or_from_slice_get}
use Rattle.otp_rules.specs.declared.event.Effect.{Effect}
use Rattle.otp_rules.specs.Effects.{is_reply}
use Rattle.otp_rules.specs.Needs.{IsLawfulHistory, numbers_of}
use Rattle.otp_rules.specs.Named.{OrdersNumbered, NamesOneOf, named_by}
use Rattle.otp_rules.specs.State.{State, own_number}
use Rattle.otp_core.specs.View.{state_of}
use Rattle.otp_rules.specs.Run.{orders_of}
use Rattle.otp_signals.specs.declared.signal.Signal.{Signal}
use Rattle.otp_signals.specs.Signals.{word_of}
use Rattle.otp_signals.specs.Holdings.{after_post}
use Rattle.otp_bodies.specs.Offices.{OfficeView, IsOffice, words_with_first}
use Rattle.otp_bodies.specs.Orders.{orders_in, orders_along, post_of, has_some}
use Rattle.otp_bodies.specs.Flushes.{Posts, Posted, IsPosted, IsFirst, IsSent, SentFirst, sending_of}
use Rattle.otp_bodies.specs.Letters.{one_if}
use Rattle.otp_bodies.specs.declared.port.Launched.{Launched}
use Rattle.otp_bodies.specs.Ports.{Taken, carried}
use Rattle.otp_bodies.specs.declared.office.orders.Sending.{Sending}
use Rattle.otp_bodies.specs.Posts.{WerePosted, words_in}
use Rattle.otp_bodies.proofs.Posting.{left_first, tried_first}

-- an order stands first where it stands
pub at_order : (xs : List Effect) (i : ℕ) (x : Effect) → slice_get xs i ≡ Some x → is_reply x ≡ false → orders_in (drop i xs) ≡ x ∷ orders_in (drop (i + 1) xs)
at_order xs i x e isnt =
    let within : i < length xs = slice_get_within xs i x e in
    let at : get_or xs i x ≡ x = get_or_from_slice_get xs i x x e in
    ap orders_in (drop-cons xs i x within ∙ ap (λ (y : Effect). y ∷ drop (suc i) xs) at)
    ∙ ap (λ b. cond (not b) (x ∷ orders_in (drop (suc i) xs)) (orders_in (drop (suc i) xs))) isnt
    ∙ ap (λ n. x ∷ orders_in (drop n xs)) (sym (add-one i))

-- a reply is passed over
pub at_reply : (xs : List Effect) (i : ℕ) (x : Effect) → slice_get xs i ≡ Some x → is_reply x ≡ true → orders_in (drop (i + 1) xs) ≡ orders_in (drop i xs)
at_reply xs i x e is =
    let within : i < length xs = slice_get_within xs i x e in
    let at : get_or xs i x ≡ x = get_or_from_slice_get xs i x x e in
    sym (ap orders_in (drop-cons xs i x within ∙ ap (λ (y : Effect). y ∷ drop (suc i) xs) at)
    ∙ ap (λ b. cond (not b) (x ∷ orders_in (drop (suc i) xs)) (orders_in (drop (suc i) xs))) is
    ∙ ap (λ n. orders_in (drop n xs)) (sym (add-one i)))

pub is_not : (b : Bool) → true ≡ not b → b ≡ false
is_not true e = absurd (search (rules, e))
is_not false e = refl

pub is_so : (b : Bool) → false ≡ not b → b ≡ true
is_so true e = refl
is_so false e = absurd (search (rules, e))

-- behind the first order come the others
pub behind_first : (xs : List Effect) (from r : ℕ) → (found : Option Effect) → slice_get xs r ≡ found
    → (length xs ≤ r → orders_in (drop from xs) ≡ [])
    → ((x : Effect) → slice_get xs r ≡ Some x → orders_in (drop from xs) ≡ x ∷ orders_in (drop (r + 1) xs))
    → has_some (orders_in (drop from xs)) ≡ true → orders_in (drop (r + 1) xs) ≡ drop 1 (orders_in (drop from xs))
behind_first xs from r (Some x) e none first some = sym (ap (λ (l : List Effect). drop 1 l) (first x e))
behind_first xs from r None e none first some =
    let past : length xs ≤ r = past_none xs r e in
    absurd (empty_has (orders_in (drop from xs)) (none past) some)
  where
    past_none : (ys : List Effect) (i : ℕ) → slice_get ys i ≡ None → length ys ≤ i
    past_none [] i e = omega arith
    past_none (y ∷ ys) zero e = absurd (search (rules, e))
    past_none (y ∷ ys) (suc i) e = let h = past_none ys i e in omega arith

    empty_has : (l : List Effect) → l ≡ [] → has_some l ≡ true → ⊥
    empty_has [] e h = search (rules, h)
    empty_has (y ∷ ys) e h = search (rules, e)

drop_one : (n : ℕ) (l : List Effect) → drop 1 (drop n l) ≡ drop (suc n) l
drop_one zero [] = refl
drop_one zero (x ∷ xs) = refl
drop_one (suc n) [] = refl
drop_one (suc n) (x ∷ xs) = drop_one n xs

some_long : (l : List Effect) → has_some l ≡ true → 0 < length l
some_long [] e = absurd (search (rules, e))
some_long (x ∷ xs) e = omega arith

-- the first order was sent
pub advanced : (o : OfficeView) → has_some o.outbox ≡ true → WerePosted (words_with_first o) (words_in o.owner.posts) → IsOffice o → IsOffice (record o { outbox = drop 1 o.outbox; sent = o.sent + 1 })
advanced o some were i =
    let all : List Effect = orders_along o.core in
    let more : 0 < length (drop o.sent all) = subst (λ (l : List Effect). 0 < length l) i.orders (some_long o.outbox some) in
    let left = length-drop o.sent all in
    record {
      begins = i.begins;
      cut = i.cut;
      numbers = i.numbers;
      orders = ap (λ (l : List Effect). drop 1 l) i.orders ∙ drop_one o.sent all ∙ ap (λ n. drop n all) (sym (add-one o.sent));
      counted = omega arith;
      posts = left_first o (drop 1 o.outbox) were;
      slots = i.slots;
      fits = i.fits;
    }

module _ (P : Effect → Type 0) where
  pub all_drop : (n : ℕ) (l : List Effect) → All P l → All P (drop n l)
  all_drop zero l h = h
  all_drop (suc n) [] h = h
  all_drop (suc n) (x ∷ xs) h = all_drop n xs (λ k d b. h (suc k) d (omega arith))

  all_cons : (x : Effect) (xs : List Effect) → P x → All P xs → All P (x ∷ xs)
  all_cons x xs p h zero d b = p
  all_cons x xs p h (suc k) d b = h k d (omega arith)

  pub all_filter : (test : Effect → Bool) (l : List Effect) → All P l → All P (filter test l)
  all_filter test [] h = h
  all_filter test (x ∷ xs) h =
      let rest : All P (filter test xs) = all_filter test xs (λ k d b. h (suc k) d (omega arith)) in
      elim (test x) as (λ b. All P (cond b (x ∷ filter test xs) (filter test xs))) [ true ↦ all_cons x (filter test xs) (h 0 x (omega arith)) rest | false ↦ rest ]

abbrev number_in : Option (ℕ × Signal) → Option ℕ
number_in None = None
number_in (Some x) = Some x.0

post_names : (e : Effect) → named_by e ≡ number_in (post_of e)
post_names (effect.Start id n) = refl
post_names (effect.Ask id n) = refl
post_names (effect.Kill id n) = refl
post_names (effect.Reply c) = refl
post_names effect.Ready = refl
post_names (effect.End x) = refl

-- the process of the first order is one of the office's numbers
pub known_number : (o : OfficeView) (number : ℕ) (told : Signal) → Posts o number told → OrdersNumbered → IsLawfulHistory o.core.base o.core.history → IsOffice o → Contains o.owner.drawn number
known_number o number told p law lawful i =
    let P : Effect → Type 0 = NamesOneOf (numbers_of o.core.history) in
    let Lawful : State → Type 0 = λ s. IsLawfulHistory s o.core.history in
    let Orders : State → Type 0 = λ s. All P (orders_of s o.core.history) in
    let orders : All P (orders_of o.core.base o.core.history) =
    subst Orders (sym i.begins.is) (law i.begins.flags i.begins.specs o.core.history (subst Lawful i.begins.is lawful)) in
    let later : All P (drop o.sent (orders_along o.core)) = all_drop P o.sent (orders_along o.core) (all_filter P (λ (x : Effect). not (is_reply x)) (orders_of o.core.base o.core.history) orders) in
    let First : List Effect → Type 0 = λ l. All P l in
    let all_first : All P (p.order ∷ p.rest) = subst First (sym i.orders ∙ p.outbox) later in
    let first : NamesOneOf (numbers_of o.core.history) p.order = all_first 0 p.order (omega arith) in
    let In : List ℕ → Type 0 = λ l. Contains l number in
    subst In (sym i.numbers) (first number (post_names p.order ∙ ap number_in p.post))

-- the word of the first order was posted
pub posted : (o : OfficeView) (number slot : ℕ) (told : Signal) → Posts o number told → IsOffice o → IsOffice (record o { owner = after_post slot (word_of number told) o.owner })
posted o number slot told p i = record {
  begins = i.begins;
  cut = i.cut;
  numbers = i.numbers;
  orders = i.orders;
  counted = i.counted;
  posts = tried_first o number slot told p i.posts;
  slots = i.slots;
  fits = i.fits;
}

-- there is something at a place within
pub some_at : (xs : List Effect) (i : ℕ) → i < length xs → (x : Effect) × (slice_get xs i ≡ Some x)
some_at [] i lt = absurd (omega arith)
some_at (y ∷ ys) zero lt = (y, refl)
some_at (y ∷ ys) (suc i) lt = some_at ys i (omega arith)

-- an order stands at the place that was found
pub found_order : (xs : List Effect) (from r : ℕ) (x : Effect) → orders_in (drop r xs) ≡ orders_in (drop from xs) → orders_in (drop r xs) ≡ x ∷ orders_in (drop (r + 1) xs)
    → has_some (orders_in (drop from xs)) ≡ true
found_order xs from r x e first = ap (λ (l : List Effect). has_some l) (sym e ∙ first)

-- the first order left the outbox
pub sent_first : (old mid new : OfficeView) (how : Sending) (before after : Taken) → IsFirst old how → mid.outbox ≡ old.outbox → mid.sent ≡ old.sent → mid.core ≡ old.core → mid.first_slot ≡ old.first_slot
    → new ≡ record mid { outbox = drop 1 mid.outbox; sent = mid.sent + 1 } → IsSent how old new before after → SentFirst old new before after
sent_first old mid new how before after f outbox sent core slot stepped is_sent =
    let rest : new.outbox ≡ f.rest = ap (λ (o : OfficeView). o.outbox) stepped ∙ ap (λ (l : List Effect). drop 1 l) (outbox ∙ f.outbox) in
    record {
      how = how;
      first = f;
      outbox = f.outbox ∙ ap (λ (l : List Effect). f.order ∷ l) (sym rest);
      count = ap (λ (o : OfficeView). o.sent) stepped ∙ ap (λ n. n + 1) sent;
      core = ap (λ (o : OfficeView). o.core) stepped ∙ core;
      first_slot = ap (λ (o : OfficeView). o.first_slot) stepped ∙ slot;
      is_sent = is_sent;
    }

-- the word stands last in the posts
pub last_post : (old mid new : OfficeView) (number slot : ℕ) (told : Signal) → Posted old mid number told slot → new ≡ record mid { outbox = drop 1 mid.outbox; sent = mid.sent + 1 }
    → IsPosted number told slot old new
last_post old mid new number slot told p stepped = record {
  owner = ap (λ (o : OfficeView). o.owner) stepped ∙ ap (λ (o : OfficeView). o.owner) p.owner;
  of_row = p.of_row;
}

-- one process more, with its body
pub carried_last : (ps : List Launched) (p : Launched) → carried (ps ++ p ∷ []) ≡ carried ps + one_if p.body
carried_last ps p = sum_by-append (λ (l : Launched). one_if l.body) ps (p ∷ []) ∙ ap (λ n. carried ps + n) (sum_by-cons (λ (l : Launched). one_if l.body) p [] ∙ (omega arith))

-- an order is sent somehow
pub is_sent_somehow : (o : OfficeView) (order : Effect) (rest : List Effect) → o.outbox ≡ order ∷ rest → is_reply order ≡ false → MatchOption (sending_of (own_number (state_of o.core).phase) order) (o.outbox ≡ []) (λ how. IsFirst o how)
is_sent_somehow o (effect.Start id n) rest e isnt = record { order = effect.Start id n; rest = rest; outbox = e; sends = refl }
is_sent_somehow o (effect.Ask id n) rest e isnt = record { order = effect.Ask id n; rest = rest; outbox = e; sends = refl }
is_sent_somehow o (effect.Kill id n) rest e isnt = record { order = effect.Kill id n; rest = rest; outbox = e; sends = refl }
is_sent_somehow o (effect.Reply c) rest e isnt = absurd (search (rules, isnt))
is_sent_somehow o effect.Ready rest e isnt = record { order = effect.Ready; rest = rest; outbox = e; sends = refl }
is_sent_somehow o (effect.End x) rest e isnt = record { order = effect.End x; rest = rest; outbox = e; sends = refl }
