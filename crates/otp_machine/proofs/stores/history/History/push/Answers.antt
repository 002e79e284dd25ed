use Rattle.std.proofs.Common.{ap, arith, ◌∙◌, ◌++◌, ◌∷◌, [], ℕ, map}
use Rattle.std.specs.Prelude.{Option}
use Rattle.otp_machine.specs.declared.stores.history.ShortEvent.{ShortEvent}
use Rattle.otp_machine.specs.Events.{calls_in, terms_in, Events}
use Rattle.otp_machine.specs.HistoryInside.{event_of}
use Rattle.otp_machine.proofs.Histories.{kept, kept_number, places_after, pushed_to}
use Rattle.otp_machine.proofs.stores.history.History.push.Goals as goal

pub invariant_of-self : goal.invariant_of-self
invariant_of-self c =
    record {
      places = places_after c.self.inside.terms.items c.short_kind-kind.new.terms.items
          c.self.inside.calls.items (calls_in c.args.kind.now) c.short_kind-kind.new.calls.items
          c.self.inside.events.items c.push_reserved.new.self.items
          (record { reading = c.args.reading; number = c.unwrap_or.result; kind = c.short_kind-kind.result })
          (kept c.self.inside.terms.items c.short_kind-kind.new.terms.items (terms_in c.args.kind.now) c.short_kind-kind.ensures.terms) c.short_kind-kind.ensures.calls c.push_reserved.ensures.items c.short_kind-kind.ensures.within
          c.self.invariant.places;
      events = omega (arith, c);
      terms = omega (arith, c);
      calls = omega (arith, c);
      few_terms = omega (arith, c.self.invariant.few_terms, c.short_kind-kind.ensures.terms_len, c.requires, ap (λ (h : Events). h.room) c.self.view_is, c);
      few_calls = omega (arith, c.self.invariant.few_calls, c.short_kind-kind.ensures.calls_len, c.requires, ap (λ (h : Events). h.room) c.self.view_is, c);
    }

pub returns-clause-events : goal.returns-clause-events
returns-clause-events c =
    let e : ShortEvent = record { reading = c.args.reading; number = c.unwrap_or.result; kind = c.short_kind-kind.result } in
    pushed_to c.self.inside.terms.items c.short_kind-kind.new.terms.items
    c.self.inside.calls.items (calls_in c.args.kind.now) c.short_kind-kind.new.calls.items
    c.self.inside.events.items c.push_reserved.new.self.items e c.args.kind.now
    (kept c.self.inside.terms.items c.short_kind-kind.new.terms.items (terms_in c.args.kind.now) c.short_kind-kind.ensures.terms) c.short_kind-kind.ensures.calls c.push_reserved.ensures.items c.short_kind-kind.ensures.kind
    c.self.invariant.places
    ∙ ap (λ (n : Option ℕ). map (event_of c.self.inside.terms.items c.self.inside.calls.items) c.self.inside.events.items ++ record { reading = c.args.reading; number = n; kind = c.args.kind.now } ∷ []) (kept_number c.args.reading c.unwrap_or.result c.args.number c.short_kind-kind.result c.unwrap_or.ensures (c.short_kind-kind.ensures.starts ∙ c.is_some.ensures))
    ∙ ap (λ (h : Events). h.events ++ record { reading = c.args.reading; number = c.args.number; kind = c.args.kind.now } ∷ []) c.self.view_is
