use Rattle.std.proofs.Common.{◌≡◌, ℕ, ◌+◌, refl, ap, sym, ◌∙◌, drop, List, true, subst}
use Rattle.otp_rules.specs.declared.event.Effect.{Effect}
use Rattle.otp_bodies.specs.Offices.{OfficeView, IsOffice, words_with_first}
use Rattle.otp_bodies.specs.Posts.{WerePosted, words_in}
use Rattle.otp_bodies.specs.Orders.{orders_in, has_some}
use Rattle.otp_bodies.proofs.Sends.{advanced, behind_first}
use Rattle.otp_bodies.proofs.office.office.Office.drop_first.Goals as goal

pub invariant_of-self : goal.invariant_of-self
invariant_of-self g c =
    let xs = c.effects-effects.result.now in
    let e = c.effects-effects.ensures in
    let same = ap (λ (l : List Effect). orders_in (drop c.self.inside.next l)) e in
    let some : has_some (orders_in (drop c.self.inside.next xs)) ≡ true = ap (λ (l : List Effect). has_some l) same ∙ ap (λ (o : OfficeView). has_some o.outbox) c.self.view_is ∙ c.requires.some in
    let rest : orders_in (drop (c.first_order.result + 1) xs) ≡ _ = behind_first xs c.self.inside.next c.first_order.result _ refl c.first_order.ensures.none c.first_order.ensures.first some in
    let o : OfficeView = record { core = c.self.inside.core; owner = c.self.inside.owner; outbox = orders_in (drop c.self.inside.next c.self.inside.core.effects); sent = c.self.inside.sent.count; first_slot = c.self.inside.first_slot } in
    let moved : orders_in (drop (c.first_order.result + 1) c.self.inside.core.effects) ≡ drop 1 o.outbox = ap (λ (l : List Effect). orders_in (drop (c.first_order.result + 1) l)) (sym e) ∙ rest ∙ ap (λ (l : List Effect). drop 1 l) same in
    let F : List Effect → Type 0 = λ l. IsOffice (record o { outbox = l; sent = o.sent + 1 }) in
    let W : OfficeView → Type 0 = λ v. WerePosted (words_with_first v) (words_in v.owner.posts) in
    let G : ℕ → Type 0 = λ n. IsOffice (record o { outbox = orders_in (drop (c.first_order.result + 1) c.self.inside.core.effects); sent = n }) in
    subst G (sym c.raise.ensures.one_more) (subst F (sym moved) (advanced o (ap (λ (l : List Effect). has_some l) (sym same) ∙ some) (subst W (sym c.self.view_is) c.requires.posted) c.self.invariant))

pub returns : goal.returns
returns g c =
    let xs = c.effects-effects.result.now in
    let e = c.effects-effects.ensures in
    let same = ap (λ (l : List Effect). orders_in (drop c.self.inside.next l)) e in
    let some : has_some (orders_in (drop c.self.inside.next xs)) ≡ true = ap (λ (l : List Effect). has_some l) same ∙ ap (λ (o : OfficeView). has_some o.outbox) c.self.view_is ∙ c.requires.some in
    let rest : orders_in (drop (c.first_order.result + 1) xs) ≡ _ = behind_first xs c.self.inside.next c.first_order.result _ refl c.first_order.ensures.none c.first_order.ensures.first some in
    let o : OfficeView = record { core = c.self.inside.core; owner = c.self.inside.owner; outbox = orders_in (drop c.self.inside.next c.self.inside.core.effects); sent = c.self.inside.sent.count; first_slot = c.self.inside.first_slot } in
    let moved : orders_in (drop (c.first_order.result + 1) c.self.inside.core.effects) ≡ drop 1 o.outbox = ap (λ (l : List Effect). orders_in (drop (c.first_order.result + 1) l)) (sym e) ∙ rest ∙ ap (λ (l : List Effect). drop 1 l) same in
    ap (λ n. record o { outbox = orders_in (drop (c.first_order.result + 1) c.self.inside.core.effects); sent = n }) c.raise.ensures.one_more
    ∙ ap (λ (l : List Effect). record o { outbox = l; sent = o.sent + 1 }) moved
    ∙ ap (λ (v : OfficeView). record v { outbox = drop 1 v.outbox; sent = v.sent + 1 }) c.self.view_is
