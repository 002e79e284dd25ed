use Rattle.std.proofs.Common.{List, Bool, ◌∙◌, get_or}
use Rattle.otp_bodies.specs.declared.bodies.Kept.{Kept}
use Rattle.otp_bodies.specs.declared.bodies.BodyPlace.TheVariants as placed
use Rattle.otp_bodies.specs.Bodies.{is_at_home, stray}
use Rattle.otp_bodies.proofs.Keeping.{IsFirstAt, first_at, home_is_here, moved_at, put_back, within_moved}
use Rattle.otp_bodies.proofs.bodies.Bodies.leave.Goals as goal

pub returns-clause-kept : goal.returns-clause-kept
returns-clause-kept g c =
    let xs : List Kept = c.args.self.now.kept in
    let t : Kept → Bool = is_at_home c.args.slot in
    c.take_out.ensures.kept stray ∙ moved_at t (placed.Away c.args.slot) xs c.args.at stray (first_at t xs c.args.at stray c.requires)

pub returns-clause-body : goal.returns-clause-body
returns-clause-body g c =
    let xs : List Kept = c.args.self.now.kept in
    let first : IsFirstAt (is_at_home c.args.slot) xs c.args.at stray = first_at (is_at_home c.args.slot) xs c.args.at stray c.requires in
    c.take_out.ensures.body stray ∙ home_is_here c.args.slot (get_or xs c.args.at stray).place first.passes

pub returns-clause-back : goal.returns-clause-back
returns-clause-back g c =
    let xs : List Kept = c.args.self.now.kept in
    let first : IsFirstAt (is_at_home c.args.slot) xs c.args.at stray = first_at (is_at_home c.args.slot) xs c.args.at stray c.requires in
    put_back xs c.take_out.new.self.kept c.args.at c.args.slot (placed.Away c.args.slot) stray (c.take_out.ensures.kept stray) first

pub returns-clause-within : goal.returns-clause-within
returns-clause-within g c =
    let xs : List Kept = c.args.self.now.kept in
    let first : IsFirstAt (is_at_home c.args.slot) xs c.args.at stray = first_at (is_at_home c.args.slot) xs c.args.at stray c.requires in
    within_moved xs c.take_out.new.self.kept c.args.at (record (get_or xs c.args.at stray) { place = placed.Away c.args.slot }) (c.take_out.ensures.kept stray) first.within
