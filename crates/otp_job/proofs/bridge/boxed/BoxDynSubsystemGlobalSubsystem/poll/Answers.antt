use Rattle.std.proofs.Common.{◌≡◌, subst, refl, Global}
use Rattle.std.specs.declared.dyn_box.DynBox.{DynBox}
use Rattle.otp_job.proofs.bridge.boxed.BoxDynSubsystemGlobalSubsystem.poll.Goals as goal

pub returns : goal.returns
returns g c =
    let Box : Type 0 = DynBox g.dyn-1.0.I Global (λ x. (g.dyn-1.0.entry x).0.Denot) in
    let now : Box = record { ptr = c.args.self.now.ptr; vtable = c.deref_box_mut-1.result.now.0; alloc = c.args.self.now.alloc; value = c.poll.new.self } in
    subst
    (λ (p : (x : g.dyn-1.0.I) × (g.dyn-1.0.entry x).0.Denot).
    (y : (g.dyn-1.0.entry p.0).0.Denot) × (now ≡ record { ptr = c.args.self.now.ptr; vtable = p.0; alloc = c.args.self.now.alloc; value = y }) × (g.dyn-1.0.entry p.0).1.polled p.1 c.poll.result y)
    (c.deref_box_mut-1.ensures).value.1
    (c.poll.new.self, refl, c.poll.ensures)
