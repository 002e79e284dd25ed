use Rattle.std.proofs.Common.{rules, ap, get_or, set, subst, sym, ◌∙◌}
use Rattle.std.proofs.Common.{◌≡◌, List}
use Rattle.otp_table.specs.Counted.{AreCounted}
use Rattle.otp_table.specs.declared.row.Row.{Row}
use Rattle.otp_table.specs.Rows.{with_state}
use Rattle.otp_table.specs.Keys.{id_key}
use Rattle.otp_table.specs.Marks.{number_at}
use Rattle.otp_table.specs.Numbers.{AreApart, AreWithin, IsOnlyAt}
use Rattle.otp_table.proofs.Differing.{set_apart, set_within}
use Rattle.otp_table.proofs.Indexed.{kept_marks}
use Rattle.std.proofs.lemmas.List.{get_or_default, get_or-set_same}
use Rattle.otp_table.proofs.Defined.{set_but}
use Rattle.otp_table.proofs.Soonest.{set_before}
use Rattle.otp_table.proofs.rows.Rows.set_state.Goals as goal

pub invariant_of-self : goal.invariant_of-self
invariant_of-self c =
    let items : List Row = c.self.inside.items.items in
    let here : Row = c.index_mut.result.now in
    let is_here : get_or items c.args.place here ≡ here = search rules in
    let as_state : List Row → List Row = λ (xs : List Row). set xs c.args.place (with_state c.args.state (get_or xs c.args.place here)) in
    let counts : AreCounted c.count_change.new.counts (as_state items) =
    subst (λ (xs : List Row). AreCounted c.count_change.new.counts (as_state xs)) c.deref.ensures.value (c.count_change.ensures here) in
    let counted : AreCounted c.count_change.new.counts (set items c.args.place (with_state c.args.state here)) =
    subst (λ (row : Row). AreCounted c.count_change.new.counts (set items c.args.place (with_state c.args.state row))) is_here counts in
    record {
      room = search rules;
      limit = search rules;
      counted = counted;
      defined = c.defined_after-self-inside.ensures _ (sym (c.undefined.ensures _ counted)) (set_but c.self.inside.items.items c.args.place c.self.inside.defined _ c.self.invariant.defined) c.index_mut.result.now
          (ap (λ (r : Row). r.state) (get_or-set_same c.self.inside.items.items c.args.place (with_state c.args.state c.index_mut.result.now) c.index_mut.result.now (search rules)));
      soonest = c.soonest_of-self-inside.ensures _ (sym (c.timed.ensures _ counted)) (set_before items c.args.place c.self.inside.soonest c.soonest_with.result (with_state c.args.state here) c.soonest_with.ensures.least c.soonest_with.ensures.own c.self.invariant.soonest);
      within = set_within items c.args.place (with_state c.args.state here) _ c.self.inside.greatest _ (search rules) c.number-number.ensures c.self.invariant.within c.greatest_with-self-inside.ensures;
      apart = λ w. set_apart items c.args.place (with_state c.args.state here) _ (search rules) c.number-number.ensures (c.self.invariant.apart (c.stay_apart-self-inside.ensures.before w))
          (subst (λ (xs : List Row). IsOnlyAt c.args.place c.number-number.result (number_at xs)) c.deref-3.ensures.value (c.stay_apart-self-inside.ensures.only w));
      ids_room = search rules;
      ids_rise = c.self.invariant.ids_rise;
      named = λ yes. kept_marks id_key items c.args.place (with_state c.args.state here) c.self.inside.ids.items (search rules) (sym (ap id_key (get_or_default items c.args.place (with_state c.args.state here) here (search rules) ∙ is_here))) (c.self.invariant.named yes);
    }

pub stay_apart-self-inside-requires-clause-within : goal.stay_apart-self-inside-requires-clause-within
stay_apart-self-inside-requires-clause-within c = subst (λ (xs : List Row). AreWithin c.self.inside.greatest (number_at xs)) (sym c.deref-3.ensures.value) c.self.invariant.within

pub stay_apart-self-inside-requires-clause-apart : goal.stay_apart-self-inside-requires-clause-apart
stay_apart-self-inside-requires-clause-apart c w = subst (λ (xs : List Row). AreApart (number_at xs)) (sym c.deref-3.ensures.value) (c.self.invariant.apart w)

pub stay_apart-self-inside-requires-clause-old : goal.stay_apart-self-inside-requires-clause-old
stay_apart-self-inside-requires-clause-old c = c.number_in-old.ensures ∙ ap (λ (xs : List Row). number_at xs c.args.place) (c.deref-2.ensures.value ∙ sym c.deref-3.ensures.value)
