use Rattle.std.proofs.Common.{◌≡◌, ◌<◌, ◌∙◌, ℕ, ap, length, refl, slice_set, subst, sym}
use Rattle.otp_trial.specs.Clocks.{shown}
use Rattle.otp_trial.specs.Played.{Begins, Happens, IsAt, Seated, Stand, Tells, TellsFirst}
use Rattle.otp_trial.specs.TrialInside.{stand_of}
use Rattle.otp_trial.proofs.Tellings.{begins-event, first-event, tells-event}
use Rattle.otp_trial.proofs.trial.Trial.happen.Goals as goal

pub returns-clause-told : goal.returns-clause-told
returns-clause-told c =
    let a : Stand = stand_of c.self.inside in
    let old : Seated = c.index_mut.result.now in
    let new : Seated = c.happen.new.self in
    let b : Stand = record a { seats = slice_set a.seats c.args.place new } in
    let here : IsAt a.seats c.args.place old = record {
      inside = subst (λ (s : Stand). c.args.place < length s.seats) (sym c.self.view_is) c.requires;
      is = c.index_mut.ensures.value;
    } in
    let at_now : c.now-now.result ≡ shown a.clock a.time =
    c.now-now.ensures.value ∙ ap (λ (s : Stand). shown s.clock s.time) (sym c.self.view_is) in
    let happens : Happens (shown a.clock a.time) c.args.kind old new c.args.out.now.items c.happen.new.out.items =
    subst (λ (reading : ℕ). Happens reading c.args.kind old new c.args.out.now.items c.happen.new.out.items) at_now c.in_ok-self-inside.ensures in
    let P : Stand → Type 0 = λ s. Tells s b c.args.out.now.items c.happen.new.out.items in
    subst P c.self.view_is (tells-event a b c.args.place c.args.kind old new c.args.out.now.items c.happen.new.out.items here happens refl)

pub returns-clause-first : goal.returns-clause-first
returns-clause-first c =
    let a : Stand = stand_of c.self.inside in
    let old : Seated = c.index_mut.result.now in
    let new : Seated = c.happen.new.self in
    let b : Stand = record a { seats = slice_set a.seats c.args.place new } in
    let here : IsAt a.seats c.args.place old = record {
      inside = subst (λ (s : Stand). c.args.place < length s.seats) (sym c.self.view_is) c.requires;
      is = c.index_mut.ensures.value;
    } in
    let at_now : c.now-now.result ≡ shown a.clock a.time =
    c.now-now.ensures.value ∙ ap (λ (s : Stand). shown s.clock s.time) (sym c.self.view_is) in
    let happens : Happens (shown a.clock a.time) c.args.kind old new c.args.out.now.items c.happen.new.out.items =
    subst (λ (reading : ℕ). Happens reading c.args.kind old new c.args.out.now.items c.happen.new.out.items) at_now c.in_ok-self-inside.ensures in
    let P : Stand → Type 0 = λ s. Begins c.args.place c.args.kind s b in
    subst P c.self.view_is (begins-event a b c.args.place c.args.kind old new c.args.out.now.items c.happen.new.out.items here happens refl)

pub returns-clause-begins : goal.returns-clause-begins
returns-clause-begins c =
    let a : Stand = stand_of c.self.inside in
    let old : Seated = c.index_mut.result.now in
    let new : Seated = c.happen.new.self in
    let b : Stand = record a { seats = slice_set a.seats c.args.place new } in
    let here : IsAt a.seats c.args.place old = record {
      inside = subst (λ (s : Stand). c.args.place < length s.seats) (sym c.self.view_is) c.requires;
      is = c.index_mut.ensures.value;
    } in
    let at_now : c.now-now.result ≡ shown a.clock a.time =
    c.now-now.ensures.value ∙ ap (λ (s : Stand). shown s.clock s.time) (sym c.self.view_is) in
    let happens : Happens (shown a.clock a.time) c.args.kind old new c.args.out.now.items c.happen.new.out.items =
    subst (λ (reading : ℕ). Happens reading c.args.kind old new c.args.out.now.items c.happen.new.out.items) at_now c.in_ok-self-inside.ensures in
    let P : Stand → Type 0 = λ s. TellsFirst c.args.place c.args.kind s b c.args.out.now.items c.happen.new.out.items in
    subst P c.self.view_is (first-event a b c.args.place c.args.kind old new c.args.out.now.items c.happen.new.out.items here happens refl)
