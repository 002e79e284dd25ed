use Rattle.std.proofs.Common.{◌≡◌, List, [], ap, arith, take, ◌∙◌, drop, length, subst, sym}
use Rattle.otp_core.specs.View.{View}
use Rattle.otp_bodies.specs.Offices.{IsOffice, OfficeView}
use Rattle.otp_rules.specs.declared.event.Effect.{Effect}
use Rattle.otp_bodies.specs.Orders.{orders_along, orders_in}
use Rattle.otp_bodies.specs.Posts.{ArePosts, words_in}
use Rattle.otp_bodies.proofs.office.office.Office.cut.Goals as goal

pub invariant_of-self : goal.invariant_of-self
invariant_of-self g c =
    let v : View = c.self.inside.core in
    let is : c.cut.new.self ≡ record v { cut = length v.history; effects = [] } =
    (c.in-Ok.ensures {u = tt}).ok ∙ ap (λ (w : View). record w { cut = length w.history }) c.clear_effects.ensures in
    let Is : View → Type 0 = λ w. IsOffice (record { core = w; owner = c.self.inside.owner; outbox = orders_in (drop 0 w.effects); sent = c.self.inside.sent.count; first_slot = c.self.inside.first_slot }) in
    let Next : List Effect → Type 0 = λ l. ArePosts (take c.self.inside.sent.count (orders_along v)) l (words_in c.self.inside.owner.posts) in
    let empty : orders_in (drop c.self.inside.next v.effects) ≡ [] = ap (λ (o : OfficeView). o.outbox) c.self.view_is ∙ c.requires in
    subst Is (sym is) (record {
      begins = c.self.invariant.begins;
      cut = omega arith;
      numbers = c.self.invariant.numbers;
      orders = sym empty ∙ c.self.invariant.orders;
      counted = c.self.invariant.counted;
      posts = subst Next empty c.self.invariant.posts;
      slots = c.self.invariant.slots;
      fits = c.self.invariant.fits;
    })
