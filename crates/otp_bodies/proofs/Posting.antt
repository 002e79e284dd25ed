-- What was posted, as orders are sent one by one.
use Rattle.std.proofs.Common.{◌≡◌, ◌∙◌, ℕ, zero, suc, ◌+◌, ◌<◌, ◌++◌, List, [], ◌∷◌, Option, None, Some, refl, ap, sym, subst, arith, rules, append-nil, append_assoc, length, take, drop, add-one}
use Rattle.std.specs.Prelude.{◌^◌, ◌≤◌, unwrap_or}
use Rattle.std.specs.List.{All, Contains, filter_map}
use Rattle.std.proofs.lemmas.List.{map-append}
use Rattle.std.proofs.lemmas.List.Elements.{All-nil, All-push, filter_map-append}
use Rattle.otp_rules.specs.declared.event.Effect.{Effect}
use Rattle.otp_rules.specs.declared.event.Effect.TheVariants as effect
use Rattle.otp_reason.specs.declared.note.Note.{Note}
use Rattle.otp_rules.specs.State.{own_number}
use Rattle.otp_core.specs.View.{View, new_core, state_of}
use Rattle.otp_spec.specs.declared.child.ChildSpec.{ChildSpec}
use Rattle.otp_spec.specs.declared.flags.SupFlags.{SupFlags}
use Rattle.otp_spec.specs.declared.limits.TheConstants.{MAX_CHILDREN}
use Rattle.otp_signals.specs.declared.view.Holding.{Holding}
use Rattle.otp_signals.specs.Lists.{EachBetween}
use Rattle.otp_signals.specs.declared.signal.Signal.{Signal}
use Rattle.otp_signals.specs.Signals.{word_of}
use Rattle.otp_bodies.specs.declared.office.orders.Sending.TheVariants as sending
use Rattle.otp_bodies.specs.Offices.{HasPosted, IsOffice, OfficeView, sent_of, words_with_first}
use Rattle.otp_bodies.specs.Orders.{orders_along, orders_in, word_ordered, word_posted}
use Rattle.otp_bodies.specs.Posts.{ArePosts, WerePosted, first_word, words_in, words_ordered}
use Rattle.otp_bodies.specs.Flushes.{IsFirst, Posts, sending_of}

module _ (w : ℕ) where
  -- one word, tried so often before
  first_more : (tries : List ℕ) → All (λ v. v ≡ w) tries → WerePosted (w ∷ []) (tries ++ w ∷ [])
  first_more [] tried = ([], [], refl, All-nil (λ v. v ≡ w), refl)
  first_more (t ∷ ts) tried =
      let first : t ≡ w = tried 0 t (omega arith) in (
        ts ++ w ∷ [],
        [],
        ap (λ (v : ℕ). v ∷ (ts ++ w ∷ [])) first ∙ ap (λ (l : List ℕ). w ∷ l) (sym (append-nil (ts ++ w ∷ []))),
        All-push (λ v. v ≡ w) ts w (λ k d b. tried (suc k) d (omega arith)) refl,
        refl,
      )

  -- the same behind other words
  word_more : (words done tries : List ℕ) → WerePosted words done → All (λ v. v ≡ w) tries → WerePosted (words ++ w ∷ []) (done ++ (tries ++ w ∷ []))
  word_more [] done tries were tried = subst (WerePosted (w ∷ [])) (sym (ap (λ (l : List ℕ). l ++ (tries ++ w ∷ [])) were)) (first_more tries tried)
  word_more (v ∷ words) done tries were tried = (
    were.0,
    were.1 ++ (tries ++ w ∷ []),
    ap (λ (l : List ℕ). l ++ (tries ++ w ∷ [])) were.2 ∙ ap (λ (l : List ℕ). v ∷ l) (append_assoc were.0 were.1 (tries ++ w ∷ [])),
    were.3,
    word_more words were.1 tries were.4 tried,
  )

-- a try of an order has its word
tried_word : (first : Option ℕ) (w : ℕ) (tries : List ℕ) → first ≡ Some w → All (λ v. first ≡ Some v) tries → All (λ v. v ≡ w) tries
tried_word first w tries is tried = λ k d b. ap (λ (o : Option ℕ). unwrap_or o w) (sym (tried k d b) ∙ is)

-- an order that posts nothing isn't tried
none_tried : (first : Option ℕ) (tries : List ℕ) → first ≡ None → All (λ v. first ≡ Some v) tries → tries ≡ []
none_tried first [] is tried = refl
none_tried first (t ∷ ts) is tried = let no : ◌≡◌ {A = Option ℕ} None (Some t) = sym is ∙ tried 0 t (omega arith) in cc

pub take_next : (n : ℕ) (l : List Effect) (x : Effect) (rest : List Effect) → drop n l ≡ x ∷ rest → take (suc n) l ≡ take n l ++ x ∷ []
take_next zero l x rest e = ap (λ (y : List Effect). take 1 y) e
take_next (suc n) [] x rest e = absurd (search (rules, e))
take_next (suc n) (y ∷ ys) x rest e = ap (λ (l : List Effect). y ∷ l) (take_next n ys x rest e)

-- the words of one order more
words_next : (n : ℕ) (all : List Effect) (x : Effect) (rest : List Effect) (word : Option ℕ) → drop n all ≡ x ∷ rest → word_ordered x ≡ word
    → words_ordered (take (n + 1) all) ≡ words_ordered (take n all) ++ filter_map (λ (u : Unit {0}). word) (tt ∷ [])
words_next n all x rest word at is =
    ap (λ k. words_ordered (take k all)) (add-one n) ∙ ap words_ordered (take_next n all x rest at)
    ∙ filter_map-append word_ordered (take n all) (x ∷ []) ∙ ap (λ (o : Option ℕ). words_ordered (take n all) ++ filter_map (λ (u : Unit {0}). o) (tt ∷ [])) is

-- the first order posts this word
posts_word : (o : OfficeView) (number : ℕ) (told : Signal) (p : Posts o number told) → first_word o.outbox ≡ Some (word_of number told)
posts_word o number told p = ap first_word p.outbox ∙ ap word_posted p.post

-- once the word of the first order was posted, the words are those of the orders that were sent and of it
pub posted_first : (o : OfficeView) (number slot : ℕ) (told : Signal) → Posts o number told → IsOffice o → WerePosted (words_with_first o) (words_in (o.owner.posts ++ (slot, word_of number told) ∷ []))
posted_first o number slot told p i =
    let w : ℕ = word_of number told in
    let sent : List ℕ = words_ordered (sent_of o) in
    let words : words_with_first o ≡ sent ++ w ∷ [] = words_next o.sent (orders_along o.core) p.order p.rest (Some w) (sym i.orders ∙ p.outbox) (ap word_posted p.post) in
    let more : words_in (o.owner.posts ++ (slot, w) ∷ []) ≡ i.posts.done ++ (i.posts.tries ++ w ∷ []) =
    map-append (λ (post : ℕ × ℕ). post.1) o.owner.posts ((slot, w) ∷ []) ∙ ap (λ (l : List ℕ). l ++ w ∷ []) i.posts.are ∙ append_assoc i.posts.done i.posts.tries (w ∷ []) in
    let tried : All (λ v. v ≡ w) i.posts.tries = tried_word (first_word o.outbox) w i.posts.tries (posts_word o number told p) i.posts.tried in
    subst (λ (l : List ℕ). WerePosted l (words_in (o.owner.posts ++ (slot, w) ∷ []))) (sym words)
    (subst (WerePosted (sent ++ w ∷ [])) (sym more) (word_more w sent i.posts.done i.posts.tries i.posts.were tried))

-- and where the first order isn't sent yet, that was a try
pub tried_first : (o : OfficeView) (number slot : ℕ) (told : Signal) → Posts o number told → HasPosted o → ArePosts (sent_of o) o.outbox (words_in (o.owner.posts ++ (slot, word_of number told) ∷ []))
tried_first o number slot told p h =
    let w : ℕ = word_of number told in
    record {
      done = h.done;
      tries = h.tries ++ w ∷ [];
      are = map-append (λ (post : ℕ × ℕ). post.1) o.owner.posts ((slot, w) ∷ []) ∙ ap (λ (l : List ℕ). l ++ w ∷ []) h.are ∙ append_assoc h.done h.tries (w ∷ []);
      were = h.were;
      tried = All-push (λ v. first_word o.outbox ≡ Some v) h.tries w h.tried (posts_word o number told p);
    }

-- an order that tells the parent posts nothing
told_quiet : (own : ℕ) (n : Note) (x : Effect) → sending_of own x ≡ Some (sending.Tell n) → word_ordered x ≡ None
told_quiet own n (effect.Start id p) is = let no : Some (sending.Start id p) ≡ Some (sending.Tell n) = is in cc
told_quiet own n (effect.Ask id p) is = let no : Some (sending.Ask p) ≡ Some (sending.Tell n) = is in cc
told_quiet own n (effect.Kill id p) is = let no : Some (sending.Kill p) ≡ Some (sending.Tell n) = is in cc
told_quiet own n (effect.Reply c) is = refl
told_quiet own n effect.Ready is = refl
told_quiet own n (effect.End e) is = refl

-- so before it is told the words are those of the orders that were sent, and of it
pub told_first : (o : OfficeView) (n : Note) → IsFirst o (sending.Tell n) → IsOffice o → WerePosted (words_with_first o) (words_in o.owner.posts)
told_first o n f i =
    let sent : List ℕ = words_ordered (sent_of o) in
    let quiet : word_ordered f.order ≡ None = told_quiet (own_number (state_of o.core).phase) n f.order f.sends in
    let words : words_with_first o ≡ sent = words_next o.sent (orders_along o.core) f.order f.rest None (sym i.orders ∙ f.outbox) quiet ∙ append-nil sent in
    let none : i.posts.tries ≡ [] = none_tried (first_word o.outbox) i.posts.tries (ap first_word f.outbox ∙ quiet) i.posts.tried in
    let are : words_in o.owner.posts ≡ i.posts.done = i.posts.are ∙ ap (λ (l : List ℕ). i.posts.done ++ l) none ∙ append-nil i.posts.done in
    subst (λ (l : List ℕ). WerePosted l (words_in o.owner.posts)) (sym words) (subst (WerePosted sent) (sym are) i.posts.were)

-- the first order left the outbox
pub left_first : (o : OfficeView) (rest : List Effect) → WerePosted (words_with_first o) (words_in o.owner.posts) → ArePosts (take (o.sent + 1) (orders_along o.core)) rest (words_in o.owner.posts)
left_first o rest were = record {
  done = words_in o.owner.posts;
  tries = [];
  are = sym (append-nil (words_in o.owner.posts));
  were = were;
  tried = All-nil (λ v. first_word rest ≡ Some v);
}

-- where none was to be sent, none was tried, whatever is to be sent next
pub none_left : (sent outbox next : List Effect) (posts : List ℕ) → outbox ≡ [] → ArePosts sent outbox posts → ArePosts sent next posts
none_left sent outbox next posts empty h = record {
  done = h.done;
  tries = [];
  are = h.are ∙ ap (λ (l : List ℕ). h.done ++ l) (none_tried (first_word outbox) h.tries (ap first_word empty) h.tried);
  were = h.were;
  tried = All-nil (λ v. first_word next ≡ Some v);
}

-- the same orders and posts
pub posted_same : (old new : OfficeView) (next : List Effect) → sent_of new ≡ sent_of old → new.owner.posts ≡ old.owner.posts → ArePosts (sent_of old) next (words_in old.owner.posts)
    → ArePosts (sent_of new) next (words_in new.owner.posts)
posted_same old new next sent posts h =
    subst (λ (l : List Effect). ArePosts l next (words_in new.owner.posts)) (sym sent) (subst (λ (l : List (ℕ × ℕ)). ArePosts (sent_of old) next (words_in l)) (sym posts) h)

-- an office of a supervisor that was never opened
pub opened : (core : View) (flags : SupFlags) (specs : List ChildSpec) (owner : Holding) (sent first : ℕ) → core ≡ new_core flags specs → length specs ≤ MAX_CHILDREN → owner.drawn ≡ [] → owner.posts ≡ []
    → EachBetween first (first + MAX_CHILDREN) (Contains owner.slots) → first + MAX_CHILDREN < 2 ^ 64 → sent ≡ 0
    → IsOffice (record { core = core; owner = owner; outbox = orders_in (drop 0 core.effects); sent = sent; first_slot = first })
opened core flags specs owner sent first is few drawn posts slots fits none =
    let Of : View → Type 0 = λ v. IsOffice (record { core = v; owner = owner; outbox = orders_in (drop 0 v.effects); sent = sent; first_slot = first }) in
    let Sent : ℕ → Type 0 = λ n. IsOffice (record { core = new_core flags specs; owner = owner; outbox = []; sent = n; first_slot = first }) in
    subst Of (sym is) (subst Sent (sym none) (record {
      begins = record { flags = flags; specs = specs; is = refl; few = few };
      cut = omega arith;
      numbers = drawn;
      orders = refl;
      counted = omega arith;
      posts = record { done = []; tries = []; are = ap words_in posts; were = refl; tried = All-nil (λ v. first_word [] ≡ Some v) };
      slots = slots;
      fits = fits;
    }))
