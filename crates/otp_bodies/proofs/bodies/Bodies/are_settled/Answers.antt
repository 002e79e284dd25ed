use Rattle.otp_bodies.proofs.There.{all_stay}
use Rattle.otp_bodies.proofs.bodies.Bodies.are_settled.Goals as goal

pub returns : goal.returns
returns g c = all_stay c.args.rows.now c.args.is_any_waiting c.args.self.now.kept c.requires.there c.requires.calls
