use Rattle.std.proofs.Common.{◌<◌, length, OnOk, refl, slice_set, subst, sym}
use Rattle.std.specs.Prelude.{Ok, Err}
use Rattle.otp_trial.specs.Played.{IsAt, Seated, Stand, Tells}
use Rattle.otp_trial.specs.TrialInside.{stand_of}
use Rattle.otp_trial.proofs.Tellings.{tells-anew, tells-then}
use Rattle.otp_trial.proofs.trial.Trial.begin.Goals as goal

pub returns-clause-told : goal.returns-clause-told
returns-clause-told c =
    let a : Stand = stand_of c.self.inside in
    let old : Seated = c.index_mut.result.now in
    let new : Seated = c.renew.new.self in
    let mid : Stand = record a { seats = slice_set a.seats c.args.place new } in
    let here : IsAt a.seats c.args.place old = record {
      inside = subst (λ (s : Stand). c.args.place < length s.seats) (sym c.self.view_is) c.requires;
      is = c.index_mut.ensures.value;
    } in
    let P : Stand → Type 0 = λ s. Tells s mid c.args.out.now.items c.args.out.now.items in
    let anew : Tells c.args.self.now mid c.args.out.now.items c.args.out.now.items =
    subst P c.self.view_is (tells-anew a mid c.args.place old new c.args.out.now.items here c.in_ok-renew.ensures refl) in
    (elim c.happen.result as (λ r.
    OnOk r (Tells mid c.happen.new.self c.args.out.now.items c.happen.new.out.items) →
    OnOk r (Tells c.args.self.now c.happen.new.self c.args.out.now.items c.happen.new.out.items)) [
      | Ok _ ↦ λ later. tells-then c.args.self.now mid c.happen.new.self c.args.out.now.items c.args.out.now.items c.happen.new.out.items anew later
      | Err _ ↦ λ x. x
    ]) c.happen.ensures.told
