use Rattle.std.proofs.Common.{◌≡◌, List, ◌∙◌, refl, sym, subst}
use Rattle.otp_run.specs.Lists.{AllAt}
use Rattle.otp_run.specs.Schedulers.{SchedulerState, IsPlaced}
use Rattle.otp_run.specs.Gathers.{AreInOrder, IsAll, IsRoomFor}
use Rattle.otp_run.proofs.Ways.{few_of_all}
use Rattle.otp_run.proofs.gathering.gather.Goals as goal

pub reserve-requires : goal.reserve-requires
reserve-requires g c =
    let same : c.as_slice-2.result.now ≡ c.as_slice.result.now = c.as_slice-2.ensures.value ∙ sym c.as_slice.ensures.value in
    let known = c.if-not-is_all.ensures {u = tt} in
    few_of_all c.as_slice-2.result.now
    (subst (λ (l : List SchedulerState). AreInOrder l) (sym same) (known.all.0 refl).1)
    (subst (λ (l : List SchedulerState). AllAt (λ index s. IsPlaced s) l) (sym same) (known.placed refl))

pub returns-in_default-clause-refused : goal.returns-in_default-clause-refused
returns-in_default-clause-refused g c = (subst (λ (l : List SchedulerState). IsAll l) c.as_slice.ensures.value ((c.if-not-is_all.ensures {u = tt}).all.0 refl), refl)

pub gather_into-requires-clause-all : goal.gather_into-requires-clause-all
gather_into-requires-clause-all g c = subst (λ (l : List SchedulerState). IsAll l) c.as_slice.ensures.value ((c.if-not-is_all.ensures {u = tt}).all.0 refl)

pub gather_into-requires-clause-placed : goal.gather_into-requires-clause-placed
gather_into-requires-clause-placed g c = subst (λ (l : List SchedulerState). AllAt (λ index s. IsPlaced s) l) c.as_slice.ensures.value ((c.if-not-is_all.ensures {u = tt}).placed refl)

pub gather_into-requires-clause-room : goal.gather_into-requires-clause-room
gather_into-requires-clause-room g c = subst (λ (l : List SchedulerState). IsRoomFor l c.in-Ok.room) c.as_slice-2.ensures.value (c.in-Ok.ensures {u = tt})

pub returns-clause-all : goal.returns-clause-all
returns-clause-all g c = subst (λ (l : List SchedulerState). IsAll l) c.as_slice.ensures.value ((c.if-not-is_all.ensures {u = tt}).all.0 refl)
