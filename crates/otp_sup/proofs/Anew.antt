-- A supervisor that had no event gets another plan.
use Rattle.std.proofs.Common.{◌≡◌, ℕ, ◌≤◌, List, [], ◌++◌, None, Option, ap, arith, false, length, refl, subst, sym, true, ◌∙◌}
use Rattle.otp_bodies.specs.Bodies.{are_ready, count_given, count_opened, settled}
use Rattle.otp_bodies.specs.declared.bodies.Kept.{Kept}
use Rattle.otp_core.specs.View.{new_core, state_of, stored_of}
use Rattle.otp_signals.specs.Counts.{Publishing, after_publish}
use Rattle.otp_bodies.proofs.Shared.{none_sent}
use Rattle.otp_bodies.proofs.Telling.{none_told, told_same}
use Rattle.otp_bodies.specs.Events.{items_of}
use Rattle.otp_bodies.specs.Offices.{KeepsOffice, OfficeView}
use Rattle.otp_rules.specs.Counts.{counts_of}
use Rattle.otp_rules.specs.State.{State}
use Rattle.otp_rules.specs.declared.call.CountsNow.{CountsNow}
use Rattle.otp_rules.specs.declared.event.Event.{Event}
use Rattle.otp_spec.specs.Supervisor.{Supervisor}
use Rattle.otp_sup.proofs.Calls.{nothing_waits, settled_calls}
use Rattle.otp_sup.proofs.Flushing.{first_bodies}
use Rattle.otp_sup.proofs.Published.{counts_first}
use Rattle.otp_sup.proofs.Told.{told_first}
use Rattle.otp_sup.specs.Facts.{IsTable, TableView}
use Rattle.otp_sup.specs.Plans.{IsBegunBy, never_opened}
use Rattle.otp_sup.specs.Published.{AreCounted, counts_along}

pub anew_table : (plans : ℕ → Option Supervisor) (old : TableView) (office : OfficeView) (supervisor : Supervisor) (kept : List Kept) (counts : Publishing) → IsTable plans old → old.office.core.history ≡ []
    → plans old.taker.inbox ≡ None → office ≡ record old.office { core = new_core supervisor.flags supervisor.specs; outbox = [] } → KeepsOffice office
    → are_ready (count_opened supervisor.flags supervisor.specs) kept ≡ true → ((place : ℕ) → count_given place kept ≤ 1) → counts ≡ after_publish (counts_of (state_of office.core)) old.counts
    → IsTable plans (record { office = office; taker = old.taker; bodies = settled [] false kept; counts = counts; ends_told = old.ends_told })
anew_table plans old office supervisor kept counts i none free is keeps ready once publishing =
    let base : office.core.base ≡ never_opened supervisor = ap (λ (o : OfficeView). o.core.base) is in
    let along = counts_along office.core.base office.core.history in
    let none_yet : office.core.history ≡ [] = ap (λ (o : OfficeView). o.core.history) is in
    let no_ends = i.ends ∙ told_first old.office.core old.taker.taken none in
    record {
      plan = subst (λ (p : Option Supervisor). IsBegunBy p office.core.base) (sym free) tt;
      taken = i.taken ∙ ap items_of none ∙ sym (ap items_of none_yet);
      calls = settled_calls [] false kept ∙ sym (nothing_waits office keeps.begins none_yet);
      bodies = first_bodies office kept keeps none_yet (subst (λ (b : State). are_ready (count_opened b.flags b.specs) kept ≡ true) (sym base) ready) once;
      counts = subst (λ (p : Option Supervisor). AreCounted p along counts.published) (sym free)
          (old.counts.published, ap (λ (p : Publishing). p.published) publishing ∙ ap (λ (l : List CountsNow). old.counts.published ++ l) (counts_first office.core _ none_yet refl));
      told = told_same _ _ [] _ refl no_ends (none_told (stored_of office.core));
      ends = no_ends ∙ sym (told_first office.core old.taker.taken none_yet);
      starts = i.starts ∙ none_sent old.office none ∙ sym (none_sent office none_yet);
      turns =
          let given = i.turns in
          let before = ap (λ (l : List Event). length l) none in
          let now = ap (λ (l : List Event). length l) none_yet in
          omega (arith, given, before, now);
    }
