-- What supervisors are opened with stays, whatever happens.
use Rattle.std.specs.Prelude.{◌≡◌, ◌<◌, ◌+◌, ℕ, Bool, List, [], ◌∷◌, ◌++◌, Option, Some, None, drop, get_or, length, map, refl, slice_set, take}
use Rattle.std.proofs.Common.{◌∙◌, ap, append_assoc, arith, subst, sym}
use Rattle.std.proofs.Math.Seq.{map-set_same}
use Rattle.std.proofs.lemmas.List.{drop-set-lt, drop_more, map-set, take_more_set}
use Rattle.otp_file.specs.Trees.{Table, Tree}
use Rattle.otp_rules.specs.declared.event.Event.{Event}
use Rattle.otp_spec.specs.declared.child.ChildSpec.{ChildSpec}
use Rattle.otp_spec.specs.declared.flags.SupFlags.{SupFlags}
use Rattle.otp_trial.specs.Again.{EventsKeepTrees, PlantedAreFresh}
use Rattle.otp_trial.specs.Strains.{unstrained}
use Rattle.otp_trial.specs.declared.story.away.Away.{Away}
use Rattle.otp_trial.specs.declared.story.strain.Strain.{Strain}
use Rattle.otp_trial.specs.Played.{ArePlanted, IsPlanted, Lead, Move, Seated, fresh, seat_after, seat_by, unplayed, with_intensity}

fresh_of : (tells : Bool) (path : List ℕ) (flags : SupFlags) (specs : List ChildSpec) (seat : Seated) → seat ≡ unplayed tells path flags specs → fresh seat ≡ seat
fresh_of tells path flags specs seat is = ap fresh is ∙ sym is

are_fresh : (tells : Bool) (tables : List Table) (seats : List Seated) → ArePlanted tells tables seats → map fresh seats ≡ seats
are_fresh tells [] [] are = refl
are_fresh tells [] (x ∷ xs) are = absurd are
are_fresh tells (t ∷ ts) [] are = absurd are
are_fresh tells (t ∷ ts) (x ∷ xs) (here, rest) =
    ap (λ (y : Seated). y ∷ map fresh xs) (fresh_of tells x.path t.flags t.specs x here)
    ∙ ap (λ (ys : List Seated). x ∷ ys) (are_fresh tells ts xs rest)

planted_are_fresh : (tells : Bool) (tree : Tree) (seats : List Seated) → IsPlanted tells tree seats → map fresh seats ≡ seats
planted_are_fresh tells tree seats ((more, is, below), paths) =
    let root : Seated = unplayed tells [] tree.flags tree.specs in
    ap (map fresh) is ∙ ap (λ (ys : List Seated). root ∷ ys) (are_fresh tells tree.below more below) ∙ sym is

pub all_planted_are_fresh : PlantedAreFresh
all_planted_are_fresh None tells tree seats is = planted_are_fresh tells tree seats is
all_planted_are_fresh (Some change) tells tree seats (planted, is, (seat, at, changed)) =
    ap (map fresh) changed
    ∙ map-set fresh planted change.place (with_intensity change.intensity seat)
    ∙ ap (λ (ys : List Seated). slice_set ys change.place (with_intensity change.intensity seat)) (planted_are_fresh tells tree planted is)
    ∙ sym changed

-- nothing has happened to a core of which none was cut off, and none is stored
pub no_events : (cut : ℕ) (history : List Event) → cut ≡ 0 → length (drop cut history) ≡ 0 → history ≡ []
no_events cut [] none empty = refl
no_events cut (e ∷ es) none empty = absurd (omega (arith, subst (λ (n : ℕ). length (drop n (e ∷ es)) ≡ 0) none empty))

-- nothing has happened to a supervisor
pub is_fresh : (seat : Seated) → seat.history ≡ [] → seat.strain ≡ unstrained → seat.aways ≡ [] → fresh seat ≡ seat
is_fresh seat events strain aways =
    ap (λ (es : List Event). record seat { history = es; strain = unstrained; aways = [] }) (sym events)
    ∙ ap (λ (s : Strain). record seat { strain = s; aways = [] }) (sym strain)
    ∙ ap (λ (xs : List Away). record seat { aways = xs }) (sym aways)

-- one more of these was put in order
pub mapped_after : {X : Type 0} (f : X → X) (xs all : List X) (i : ℕ) (d x : X) → i < length xs → x ≡ f (get_or xs i d) →
    take i xs ++ map f (drop i xs) ≡ all → take (i + 1) (slice_set xs i x) ++ map f (drop (i + 1) (slice_set xs i x)) ≡ all
mapped_after f xs all i d x inside new before =
    ap (λ front. front ++ map f (drop (i + 1) (slice_set xs i x))) (take_more_set xs i x inside)
    ∙ ap (λ rest. (take i xs ++ x ∷ []) ++ map f rest) (drop-set-lt (i + 1) xs i x (omega arith))
    ∙ append_assoc (take i xs) (x ∷ []) (map f (drop (i + 1) xs))
    ∙ ap (λ one. take i xs ++ one ∷ map f (drop (i + 1) xs)) new
    ∙ ap (λ rest. take i xs ++ map f rest) (sym (drop_more xs i d inside))
    ∙ before

-- a supervisor after an event, or anew
stays : (event : Option Event) (seat : Seated) → fresh (seat_by event seat) ≡ fresh seat
stays None seat = refl
stays (Some e) seat = refl

lead_keeps : (seats : List Seated) (ms : List Move) (after : List Seated) → Lead seats ms after → map fresh after ≡ map fresh seats
lead_keeps seats [] after same = ap (map fresh) same
lead_keeps seats (m ∷ ms) after (here, rest) =
    lead_keeps (slice_set seats m.place (seat_after m)) ms after rest
    ∙ map-set_same fresh seats m.place (seat_after m) m.seat (stays m.event m.seat ∙ ap fresh here.is)

pub events_keep_trees : EventsKeepTrees
events_keep_trees place k old new (seat, e, ms, makes, is) =
    lead_keeps old.seats (record { time = old.time; place = place; seat = seat; event = Some e } ∷ ms) new.seats makes.lead
