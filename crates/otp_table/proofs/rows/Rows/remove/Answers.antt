use Rattle.std.proofs.Common.{rules, ap, refl, subst, sym, ◌∙◌}
use Rattle.std.proofs.Common.{◌≡◌, ◌<◌, List, Some, length}
use Rattle.std.specs.Prelude.{slice_get}
use Rattle.std.specs.List.{remove}
use Rattle.std.proofs.lemmas.Option.{slice_get_read}
use Rattle.otp_table.specs.Table.{Table}
use Rattle.otp_table.specs.Counted.{AreCounted}
use Rattle.otp_table.specs.declared.row.Row.{Row}
use Rattle.otp_table.specs.Keys.{id_key}
use Rattle.otp_table.specs.Marks.{id_at}
use Rattle.otp_table.proofs.Differing.{removed_apart, removed_within}
use Rattle.otp_table.proofs.Indexed.{removed_marks}
use Rattle.otp_table.proofs.Defined.{removed_defined}
use Rattle.otp_table.proofs.Soonest.{removed_before}
use Rattle.otp_table.proofs.rows.Rows.remove.Goals as goal

pub invariant_of-self : goal.invariant_of-self
invariant_of-self c =
    let counted : AreCounted c.uncount_row.new.counts c.remove.new.self.items = subst (AreCounted c.uncount_row.new.counts) (sym c.remove.ensures.items) (subst (λ (xs : List Row). AreCounted c.uncount_row.new.counts (remove xs c.args.place)) c.deref.ensures.value c.uncount_row.ensures) in
    record {
      room = search rules;
      limit = search rules;
      counted = counted;
      soonest = c.soonest_of-self-inside.ensures _ (sym (c.timed.ensures _ counted)) (removed_before c.self.inside.items.items c.remove.new.self.items c.args.place c.self.inside.soonest c.remove.ensures.items (search rules) c.self.invariant.soonest);
      defined = removed_defined c.self.inside.items.items c.remove.new.self.items c.args.place c.self.inside.defined _ c.remove.ensures.items (search rules) c.self.invariant.defined c.defined_without-self-inside.ensures.less c.defined_without-self-inside.ensures.gone;
      within = removed_within c.self.inside.items.items _ c.args.place c.self.inside.greatest c.remove.ensures.items c.self.invariant.within;
      apart = λ w. removed_apart c.self.inside.items.items _ c.args.place c.remove.ensures.items (c.self.invariant.apart w);
      ids_room = search rules;
      ids_rise = c.remove_mark.ensures.rises;
      named = λ yes. removed_marks id_key c.self.inside.items.items _ c.args.place _ c.self.inside.ids.items _ c.remove.ensures.items (c.id_in-id.ensures ∙ ap (λ (xs : List Row). id_at xs c.args.place) c.deref-2.ensures.value)
          (c.self.invariant.named yes) c.remove_mark.ensures.gone;
    }

pub returns-clause-row : goal.returns-clause-row
returns-clause-row c =
    let Has : Table → Type 0 = λ t. slice_get t.rows c.args.place ≡ Some c.remove.result in
    let Within : Table → Type 0 = λ t. c.args.place < length t.rows in
    let within : c.args.place < length c.self.inside.items.items = subst Within (sym c.self.view_is) c.requires in
    subst Has c.self.view_is (slice_get_read c.self.inside.items.items (length c.self.inside.items.items) c.args.place c.remove.result refl within c.remove.ensures.value)
