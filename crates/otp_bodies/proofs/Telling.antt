-- The ends that were told, as a history goes on.
use Rattle.std.proofs.Common.{◌≡◌, ℕ, zero, suc, ◌<◌, List, [], ◌∷◌, ◌++◌, Option, None, Some, refl, sym, subst, arith, length, get_or, append-nil}
use Rattle.std.specs.Prelude.{slice_get}
use Rattle.std.proofs.lemmas.List.Elements.{All-nil, All-push}
use Rattle.std.proofs.lemmas.List.Quantifiers.{all_pairs_push}
use Rattle.std.proofs.lemmas.Option.{slice_get_within}
use Rattle.otp_rules.specs.declared.ending.SupEnd.{SupEnd}
use Rattle.otp_rules.specs.declared.event.Event.{Event}
use Rattle.otp_rules.specs.declared.event.Item.{Item}
use Rattle.otp_rules.specs.declared.event.Item.TheVariants as item
use Rattle.otp_rules.specs.declared.event.Kind.{Kind}
use Rattle.otp_rules.specs.declared.event.Kind.TheVariants as kind
use Rattle.otp_core.specs.View.{stored_of}
use Rattle.otp_bodies.specs.declared.told.ToldEnd.{ToldEnd}
use Rattle.otp_bodies.specs.Ends.{AreTold, IsToldIn, told_with}
use Rattle.otp_bodies.specs.Offices.{OfficeView}
use Rattle.otp_bodies.specs.Letters.{Comes, number_of}
use Rattle.otp_bodies.specs.Events.{Happened}

get_before : (xs more : List Event) (i : ℕ) (x : Event) → slice_get xs i ≡ Some x → slice_get (xs ++ more) i ≡ Some x
get_before [] more i x e = let n : ◌≡◌ {A = Option Event} None (Some x) = e in cc
get_before (y ∷ ys) more zero x e = e
get_before (y ∷ ys) more (suc i) x e = get_before ys more i x e

get_last : (xs : List Event) (x : Event) → slice_get (xs ++ x ∷ []) (length xs) ≡ Some x
get_last [] x = refl
get_last (y ∷ ys) x = get_last ys x

told_before : (history more : List Event) (x : ToldEnd) → IsToldIn history x → IsToldIn (history ++ more) x
told_before history more x t = record {
  event = t.event;
  note = t.note;
  at = get_before history more x.event t.event t.at;
  took = t.took;
  number = t.number;
  tells = t.tells;
  shown = t.shown;
}

-- an event more tells no end
longer : (history more : List Event) (ends : List ToldEnd) → AreTold history ends → AreTold (history ++ more) ends
longer history more ends t = record {
  each = λ k d within. told_before history more (get_or ends k d) (t.each k d within);
  rising = t.rising;
}

-- an event more tells the end that came with its item, if one did
one_more : (history : List Event) (e : Event) (x : Item) (end : Option SupEnd) (ends : List ToldEnd) → e.kind ≡ kind.Took x → Comes x end → AreTold history ends
    → AreTold (history ++ e ∷ []) (ends ++ told_with (length history) x end)
unfolding Comes
one_more history e x None ends took comes t = subst (λ (l : List ToldEnd). AreTold (history ++ e ∷ []) l) (sym (append-nil ends)) (longer history (e ∷ []) ends t)
one_more history e (item.Call c call) (Some end) ends took comes t = absurd comes
one_more history e (item.Note n) (Some end) ends took comes t =
    let last : ToldEnd = record { event = length history; number = number_of n; end = end } in
    record {
      each = All-push (IsToldIn (history ++ e ∷ [])) ends last (longer history (e ∷ []) ends t).each
          (record { event = e; note = n; at = get_last history e; took = took; number = refl; tells = comes.0; shown = comes.1 });
      rising = all_pairs_push (λ (a b : ToldEnd). a.event < b.event) ends last t.rising
          (λ k d within. slice_get_within history (get_or ends k d).event (t.each k d within).event (t.each k d within).at);
    }

-- so it is after each event
pub told_on : (old new : OfficeView) (reading : ℕ) (x : Item) (end : Option SupEnd) (ends : List ToldEnd) → Happened reading (kind.Took x) old new → Comes x end → AreTold (stored_of old.core) ends
    → AreTold (stored_of new.core) (ends ++ told_with (length (stored_of old.core)) x end)
told_on old new reading x end ends h comes t =
    subst (λ (l : List Event). AreTold l (ends ++ told_with (length (stored_of old.core)) x end)) (sym h.stored)
    (one_more (stored_of old.core) (record { reading = reading; number = h.number; kind = kind.Took x }) x end ends refl comes t)

pub told_still : (old new : OfficeView) (reading : ℕ) (k : Kind) (ends : List ToldEnd) → Happened reading k old new → AreTold (stored_of old.core) ends → AreTold (stored_of new.core) ends
told_still old new reading k ends h t =
    subst (λ (l : List Event). AreTold l ends) (sym h.stored) (longer (stored_of old.core) (record { reading = reading; number = h.number; kind = k } ∷ []) ends t)

-- none yet
pub none_told : (history : List Event) → AreTold history []
none_told history = record { each = All-nil (IsToldIn history); rising = λ i j d before within. absurd (omega (arith, within)) }

-- the same history, told the same ends
pub told_same : (history later : List Event) (ends after : List ToldEnd) → later ≡ history → after ≡ ends → AreTold history ends → AreTold later after
told_same history later ends after same also t =
    subst (λ (l : List Event). AreTold l after) (sym same) (subst (λ (l : List ToldEnd). AreTold history l) (sym also) t)
