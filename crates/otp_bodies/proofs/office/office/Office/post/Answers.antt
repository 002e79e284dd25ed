use Rattle.std.proofs.Common.{sym, drop, inr, subst}
use Rattle.otp_signals.specs.declared.view.Holding.{Holding}
use Rattle.otp_bodies.specs.Offices.{OfficeView, IsOffice, words_with_first}
use Rattle.otp_bodies.specs.Orders.{orders_in}
use Rattle.otp_bodies.specs.Flushes.{Posts}
use Rattle.otp_bodies.specs.Posts.{WerePosted, words_in}
use Rattle.otp_bodies.proofs.Posting.{posted_first}
use Rattle.otp_bodies.proofs.Sends.{known_number, posted}
use Rattle.otp_bodies.proofs.office.office.Office.post.Goals as goal

pub post-requires-clause-number : goal.post-requires-clause-number
post-requires-clause-number g c =
    let P : OfficeView → Type 0 = λ o. Posts o c.args.number c.args.told in
    inr (known_number _ c.args.number c.args.told (subst P (sym c.self.view_is) c.requires) c.orders_are_numbered.ensures.from_empty c.history.ensures.lawful c.self.invariant)

pub invariant_of-self : goal.invariant_of-self
invariant_of-self g c =
    let P : OfficeView → Type 0 = λ o. Posts o c.args.number c.args.told in
    let F : Holding → Type 0 = λ h. IsOffice (record { core = c.self.inside.core; owner = h; outbox = orders_in (drop c.self.inside.next c.self.inside.core.effects); sent = c.self.inside.sent.count; first_slot = c.self.inside.first_slot }) in
    subst F (sym c.post.ensures) (posted _ c.args.number _ c.args.told (subst P (sym c.self.view_is) c.requires) c.self.invariant)

pub returns-clause-words : goal.returns-clause-words
returns-clause-words g c =
    let P : OfficeView → Type 0 = λ o. Posts o c.args.number c.args.told in
    let o : OfficeView = record { core = c.self.inside.core; owner = c.self.inside.owner; outbox = orders_in (drop c.self.inside.next c.self.inside.core.effects); sent = c.self.inside.sent.count; first_slot = c.self.inside.first_slot } in
    let F : Holding → Type 0 = λ h. WerePosted (words_with_first o) (words_in h.posts) in
    subst F (sym c.post.ensures) (posted_first o c.args.number _ c.args.told (subst P (sym c.self.view_is) c.requires) c.self.invariant)
