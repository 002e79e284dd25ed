-- An office whose supervisor had no event gets the core of another one.
use Rattle.std.proofs.Common.{◌≡◌, ℕ, ◌≤◌, List, [], ◌∷◌, ap, arith, drop, length, refl, subst, sym, take, ◌∙◌}
use Rattle.std.proofs.Math.Seq.{drop-nil}
use Rattle.otp_core.specs.View.{View, new_core, stored_of}
use Rattle.otp_rules.specs.declared.event.Effect.{Effect}
use Rattle.otp_rules.specs.declared.event.Event.{Event}
use Rattle.otp_rules.specs.Needs.{numbers_of}
use Rattle.otp_rules.specs.Run.{orders_of}
use Rattle.otp_spec.specs.declared.child.ChildSpec.{ChildSpec}
use Rattle.otp_spec.specs.declared.flags.SupFlags.{SupFlags}
use Rattle.otp_spec.specs.declared.limits.TheConstants.{MAX_CHILDREN}
use Rattle.otp_bodies.proofs.Posting.{none_left}
use Rattle.otp_bodies.specs.Offices.{IsOffice, OfficeView, sent_of}
use Rattle.otp_bodies.specs.Orders.{orders_along, orders_in}
use Rattle.otp_bodies.specs.Posts.{ArePosts, words_in}

-- where nothing was cut off and nothing is stored nothing happened
pub nothing_happened : (core : View) → core.cut ≡ 0 → length (stored_of core) ≡ 0 → core.history ≡ []
nothing_happened core uncut none = by core.history (ap (λ (n : ℕ). length (drop n core.history)) (sym uncut) ∙ none)
  where
    by : (events : List Event) → length events ≡ 0 → events ≡ []
    by [] long = refl
    by (e ∷ es) long = absurd (omega (arith, long))

-- before the first event there are no orders
none_ordered : (core : View) → core.history ≡ [] → orders_along core ≡ []
none_ordered core none = ap (λ (events : List Event). orders_in (orders_of core.base events)) none

pub planned_anew : (old : OfficeView) (flags : SupFlags) (specs : List ChildSpec) → length specs ≤ MAX_CHILDREN → old.core.history ≡ [] → IsOffice old
    → IsOffice (record old { core = new_core flags specs; outbox = [] })
planned_anew old flags specs few none i =
    let orders = none_ordered old.core none in
    record {
      begins = record { flags = flags; specs = specs; is = refl; few = few };
      cut = omega arith;
      numbers = i.numbers ∙ ap numbers_of none;
      orders = sym (drop-nil old.sent);
      counted = subst (λ (l : List Effect). old.sent ≤ length l) orders i.counted;
      posts =
          let empty : old.outbox ≡ [] = i.orders ∙ ap (λ (l : List Effect). drop old.sent l) orders ∙ drop-nil old.sent in
          subst (λ (l : List Effect). ArePosts (take old.sent l) [] (words_in old.owner.posts)) orders (none_left (sent_of old) old.outbox [] (words_in old.owner.posts) empty i.posts);
      slots = i.slots;
      fits = i.fits;
    }
