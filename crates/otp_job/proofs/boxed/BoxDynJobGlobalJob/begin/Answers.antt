use Rattle.std.proofs.Common.{◌≡◌, subst, refl, Global}
use Rattle.std.specs.declared.dyn_box.DynBox.{DynBox}
use Rattle.otp_job.specs.Places.{PlaceView}
use Rattle.otp_job.proofs.boxed.BoxDynJobGlobalJob.begin.Goals as goal

pub returns : goal.returns
returns g c =
    let place : PlaceView = record { number = c.args.place.now.number; slot = c.args.place.now.slot; table = c.args.place.now.table; id = c.args.place.now.id; reading = c.args.place.now.reading } in
    let Box : Type 0 = DynBox g.dyn-1.0.I Global (λ x. (g.dyn-1.0.entry x).0.Denot) in
    let now : Box = record { ptr = c.args.self.now.ptr; vtable = c.deref_box_mut-1.result.now.0; alloc = c.args.self.now.alloc; value = c.begin.new.self } in
    subst
    (λ (p : (x : g.dyn-1.0.I) × (g.dyn-1.0.entry x).0.Denot).
    (y : (g.dyn-1.0.entry p.0).0.Denot) × (now ≡ record { ptr = c.args.self.now.ptr; vtable = p.0; alloc = c.args.self.now.alloc; value = y }) × (g.dyn-1.0.entry p.0).1.started p.1 place c.begin.result y)
    (c.deref_box_mut-1.ensures).value.1
    (c.begin.new.self, refl, c.begin.ensures)
