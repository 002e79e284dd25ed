use Rattle.std.proofs.Common.{◌≡◌, ℕ, List, length, subst, sym, rules}
use Rattle.otp_table.specs.declared.row.Row.{Row}
use Rattle.otp_driver.specs.Routes.{IsWithin, route_of}
use Rattle.otp_driver.specs.declared.route.Route.{Route}
use Rattle.otp_driver.proofs.Within.{route_within}
use Rattle.otp_driver.proofs.driver.Driver.next_route.Goals as goal

pub returns-in-Some-clause-within : goal.returns-in-Some-clause-within
returns-in-Some-clause-within c =
    let links = c.as_slice.result.now in
    let order = c.in-Some.order.now in
    let count : length links ≡ length c.args.self.now.members = search rules in
    let within : (rows : List Row) → IsWithin (length c.args.self.now.members) (route_of links c.args.place rows order) =
    λ rows. subst (λ (n : ℕ). IsWithin n (route_of links c.args.place rows order)) count (route_within links c.args.place rows order (search rules)) in
    subst (λ (r : Route). IsWithin (length c.args.self.now.members) r) (sym c.route_of.ensures) (within _)
