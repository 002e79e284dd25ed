use Rattle.std.proofs.Common.{rules, arith, subst, sym, [], ◌∷◌, ◌++◌}
use Rattle.std.proofs.lemmas.Grind.{common_steps}
use Rattle.std.proofs.Common.{List, ◌≡◌, ◌∙◌, ℕ, ap, length}
use Rattle.otp_table.specs.Counted.{AreCounted}
use Rattle.otp_table.specs.declared.row.Row.{Row}
use Rattle.otp_table.specs.Keys.{id_key}
use Rattle.otp_table.specs.Marks.{number_at, number_key}
use Rattle.otp_table.specs.Numbers.{AreApart, AreWithin, IsOnlyAt}
use Rattle.otp_table.proofs.Differing.{pushed_apart, pushed_within}
use Rattle.otp_table.proofs.Indexed.{key_past, pushed_marks}
use Rattle.otp_table.proofs.Defined.{pushed_defined}
use Rattle.otp_table.proofs.Soonest.{pushed_before}
use Rattle.otp_table.proofs.rows.Rows.insert.Goals as goal

pub invariant_of-self : goal.invariant_of-self
invariant_of-self c =
    record {
      room = search rules;
      limit = search rules;
      counted = subst (AreCounted _) (sym c.push_reserved.ensures.items) (subst (λ (xs : List Row). AreCounted c.count_row.new.counts (xs ++ c.args.row ∷ [])) c.deref.ensures.value c.count_row.ensures);
      defined = pushed_defined c.self.inside.items.items c.push_reserved.new.self.items c.self.inside.defined _ c.args.row c.push_reserved.ensures.items c.self.invariant.defined (omega (arith, c.min-self-inside.ensures)) (grind (arith, common_steps));
      soonest = pushed_before c.self.inside.items.items c.push_reserved.new.self.items c.self.inside.soonest c.soonest_with-self-inside.result c.args.row c.push_reserved.ensures.items c.soonest_with-self-inside.ensures.least c.soonest_with-self-inside.ensures.own c.self.invariant.soonest;
      within = pushed_within c.self.inside.items.items _ c.args.row _ c.self.inside.greatest _ c.push_reserved.ensures.items c.number-number.ensures c.self.invariant.within c.greatest_with-self-inside.ensures;
      apart = λ w. pushed_apart c.self.inside.items.items _ c.args.row c.len-3.result c.number-number.result c.push_reserved.ensures.items (search rules) c.number-number.ensures (c.self.invariant.apart (c.stay_apart-self-inside.ensures.before w))
          (subst (λ (xs : List Row). IsOnlyAt c.len-3.result c.number-number.result (number_at xs)) c.deref-2.ensures.value (c.stay_apart-self-inside.ensures.only w));
      ids_room = search rules;
      ids_rise = c.change_mark-self-inside.ensures.rises;
      named = λ yes. pushed_marks id_key c.self.inside.items.items _ c.args.row _ _ c.self.inside.ids.items _ c.push_reserved.ensures.items (search rules) c.id_key.ensures
          (c.self.invariant.named (c.change_mark-self-inside.ensures.before yes)) (c.change_mark-self-inside.ensures.changed yes);
    }

pub stay_apart-self-inside-requires-clause-within : goal.stay_apart-self-inside-requires-clause-within
stay_apart-self-inside-requires-clause-within c = subst (λ (xs : List Row). AreWithin c.self.inside.greatest (number_at xs)) (sym c.deref-2.ensures.value) c.self.invariant.within

pub stay_apart-self-inside-requires-clause-apart : goal.stay_apart-self-inside-requires-clause-apart
stay_apart-self-inside-requires-clause-apart c w = subst (λ (xs : List Row). AreApart (number_at xs)) (sym c.deref-2.ensures.value) (c.self.invariant.apart w)

pub stay_apart-self-inside-requires-clause-old : goal.stay_apart-self-inside-requires-clause-old
stay_apart-self-inside-requires-clause-old c =
    let items : List Row = c.self.inside.items.items in
    let here : length items ≡ c.len-3.result = search rules in
    sym (ap (λ (xs : List Row). number_at xs c.len-3.result) c.deref-2.ensures.value ∙ ap (λ (p : ℕ). number_at items p) (sym here) ∙ key_past number_key items)
