use Rattle.std.proofs.Common.{◌≡◌, ℕ, List, ap, length, subst, sym, ◌∙◌}
use Rattle.otp_driver.specs.Links.{HaveParents}
use Rattle.otp_driver.specs.Members.{Member}
use Rattle.otp_driver.specs.declared.driven.link.Link.{Link}
use Rattle.otp_driver.specs.Changed.{links_from}
use Rattle.otp_driver.proofs.Changed.{links_stay, members_stay, parents_stay}
use Rattle.otp_driver.proofs.driver.Driver.changed_from.Goals as goal

pub invariant_of-result : goal.invariant_of-result
invariant_of-result c =
    let olds : List Link = c.as_slice.result.now in
    let planted : List Link = c.planted.inside.links.items in
    let made : List Link = c.in_ok-links.links.items in
    let is : made ≡ links_from olds c.args.origins.now 0 planted =
    c.in_ok-links.ensures ∙ ap (λ (ls : List Link). links_from olds c.args.origins.now 0 ls) c.as_slice-2.ensures.value in
    let many : length made ≡ length planted = ap (λ (ls : List Link). length ls) is ∙ links_stay olds c.args.origins.now 0 planted in
    let all : length c.in_ok-supervisors.supervisors.items ≡ length c.planted.inside.supervisors.items =
    ap (λ (ms : List Member). length ms) c.in_ok-supervisors.ensures.ok ∙ members_stay c.as_slice-3.result.now c.args.origins.now 0 c.planted.inside.supervisors.items in
    let parents : HaveParents (length planted) made =
    subst (λ (ls : List Link). HaveParents (length planted) ls) (sym is) (parents_stay (length planted) olds c.args.origins.now 0 planted c.planted.invariant.parents) in
    record {
      reading = c.self.invariant.reading;
      links = many ∙ c.planted.invariant.links ∙ sym all;
      parents = subst (λ (n : ℕ). HaveParents n made) (sym many) parents;
    }
