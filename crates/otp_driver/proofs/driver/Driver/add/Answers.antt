use Rattle.std.proofs.Common.{◌≡◌, ◌≤◌, ◌++◌, List, [], ◌∷◌, length, subst, sym, rules}
use Rattle.otp_driver.specs.Links.{HaveParents}
use Rattle.otp_driver.specs.declared.driven.link.Link.{Link}
use Rattle.otp_driver.proofs.Within.{parents_push}
use Rattle.otp_driver.proofs.driver.Driver.add.Goals as goal

pub invariant_of-self-2 : goal.invariant_of-self-2
invariant_of-self-2 c =
    let more : c.push_reserved-2.new.self.items ≡ c.self.inside.links.items ++ c.args.link ∷ [] = search rules in
    let inside : c.args.link.parent ≤ length c.self.inside.links.items = search rules in
    record {
      reading = c.self.invariant.reading;
      links = search rules;
      parents =
          subst (λ (ls : List Link). HaveParents (length ls) ls) (sym more)
          (parents_push c.self.inside.links.items c.args.link inside c.self.invariant.parents);
    }
