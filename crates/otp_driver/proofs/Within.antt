-- Whom an order reaches is a supervisor of the tree.
use Rattle.std.specs.Prelude.{◌≡◌, ◌⊎◌, Bool, true, ℕ, ◌+◌, ◌<◌, ◌≤◌, List, [], ◌∷◌, ◌++◌, Option, Some, None, get_or, length, position, refl, slice_get}
use Rattle.std.proofs.Common.{◌∙◌, ap, arith, inl, inr, subst, sym}
use Rattle.std.proofs.lemmas.List.{length-append}
use Rattle.std.proofs.lemmas.Bool.{ltb-true}
use Rattle.std.proofs.lemmas.List.Quantifiers.{position-Some}
use Rattle.std.proofs.lemmas.Option.{get_or_from_slice_get, none-some, slice_get_cases, slice_get_within}
use Rattle.otp_rules.specs.declared.ending.Ending.{Ending}
use Rattle.otp_rules.specs.declared.event.Effect.{Effect}
use Rattle.otp_rules.specs.declared.event.Effect.TheVariants as effect
use Rattle.otp_reason.specs.declared.reason.Reason.{Reason}
use Rattle.otp_table.specs.declared.row.Row.{Row}
use Rattle.otp_driver.specs.declared.driven.link.Link.{Link}
use Rattle.otp_driver.specs.Driven.{IsAt}
use Rattle.otp_driver.specs.Links.{HaveParents, first_link, holds_process, is_link_of, nested_of, told}
use Rattle.otp_driver.specs.Members.{Member, has_order, row_at}
use Rattle.otp_reason.specs.declared.note.Note.{Note}
use Rattle.otp_reason.specs.declared.note.Note.TheVariants as note
use Rattle.otp_driver.specs.Routes.{IsWithin, end_route, ending_in, ready_route, route_of, start_route, stop_route, tell_end, tell_up}
use Rattle.otp_driver.proofs.Each.{each_push}

found : (test : Link → Bool) (links : List Link) (i : ℕ) → position test links ≡ Some i → i < length links
found test links i at = (position-Some test links i (first_link 0 None) at).0

nested-found : (links : List Link) (place : ℕ) (row : Option Row) (i : ℕ) → nested_of links place row ≡ Some i → i < length links
unfolding nested_of
nested-found links place None i at = absurd (none-some i at)
nested-found links place (Some row) i at = found (is_link_of place row) links i at

start-within : (o : Option ℕ) (number count : ℕ) → ((i : ℕ) → o ≡ Some i → i < count) → IsWithin count (start_route o number)
start-within None number count inside = tt
start-within (Some i) number count inside = inside i refl

stop-within : (o : Option ℕ) (count : ℕ) → ((i : ℕ) → o ≡ Some i → i < count) → IsWithin count (stop_route o)
stop-within None count inside = tt
stop-within (Some i) count inside = inside i refl

up-within : (parent : ℕ) (o : Option ℕ) (count : ℕ) → parent < count → IsWithin count (tell_up parent o)
up-within parent None count inside = tt
up-within parent (Some number) count inside = inside

ready-within : (o : Option Link) (count : ℕ) → ((l : Link) → o ≡ Some l → l.parent < count) → IsWithin count (ready_route o)
ready-within None count inside = tt
ready-within (Some l) count inside = up-within l.parent l.process count (inside l refl)

tell-within : (l : Link) (o : Option ℕ) (reason : Reason) (why : Ending) (count : ℕ) → l.parent < count → IsWithin count (tell_end l o reason why)
tell-within l None reason why count inside = tt
tell-within l (Some number) reason why count inside = inside

end-within : (o : Option Link) (reason : Reason) (why : Ending) (count : ℕ) → ((l : Link) → o ≡ Some l → l.parent < count) → IsWithin count (end_route o reason why)
end-within None reason why count inside = tt
end-within (Some l) reason why count inside = tell-within l l.process reason why count (inside l refl)

parent-of : (links : List Link) (place count : ℕ) (l : Link) → HaveParents count links → slice_get links place ≡ Some l → l.parent < count
parent-of links place count l parents at =
    subst (λ (x : Link). x.parent < count) (get_or_from_slice_get links place l l at) (parents place l (slice_get_within links place l at))

pub route_within : (links : List Link) (place : ℕ) (rows : List Row) (order : Effect) → HaveParents (length links) links → IsWithin (length links) (route_of links place rows order)
unfolding route_of
route_within links place rows (effect.Start _ number) parents =
    start-within (nested_of links place (row_at rows number)) number (length links) (nested-found links place (row_at rows number))
route_within links place rows (effect.Ask _ number) parents =
    stop-within (position (holds_process place number) links) (length links) (found (holds_process place number) links)
route_within links place rows (effect.Kill _ number) parents =
    stop-within (position (holds_process place number) links) (length links) (found (holds_process place number) links)
route_within links place rows (effect.Reply _) parents = tt
route_within links place rows effect.Ready parents =
    ready-within (slice_get links place) (length links) (λ l at. parent-of links place (length links) l parents at)
route_within links place rows (effect.End end) parents =
    end-within (slice_get links place) end.reason (ending_in end.cause) (length links) (λ l at. parent-of links place (length links) l parents at)

-- a link is put behind the others
pub parents_push : (links : List Link) (l : Link) → l.parent ≤ length links → HaveParents (length links) links →
    HaveParents (length (links ++ l ∷ [])) (links ++ l ∷ [])
parents_push links l inside parents =
    let more : length (links ++ l ∷ []) ≡ length links + 1 = length-append links (l ∷ []) in
    let wider : HaveParents (length links + 1) links = λ k d b. omega (arith, parents k d b) in
    subst (λ (n : ℕ). HaveParents n (links ++ l ∷ [])) (sym more)
    (each_push (λ (x : Link). x.parent < length links + 1) links l (omega (arith, inside)) wider)

-- what it tells its parent doesn't change whose child it is
told_parent : (x : Note) (ended : Option Ending) (l : Link) → (told x ended l).parent ≡ l.parent
unfolding told
told_parent (note.Up _) ended l = refl
told_parent (note.Ignored _) ended l = refl
told_parent (note.Failed _ _) ended l = refl
told_parent (note.Exit _ _) ended l = refl

pub told_within : (x : Note) (ended : Option Ending) (l new : Link) (count : ℕ) → l.parent < count → new ≡ told x ended l → new.parent < count
told_within x ended l new count inside is =
    subst (λ (n : ℕ). n < count) (sym (ap (λ (y : Link). y.parent) is ∙ told_parent x ended l)) inside

-- the first supervisor that has an order has one
pub first_has : (members : List Member) (place : ℕ) → position has_order members ≡ Some place → (m : Member) → IsAt members place m → has_order m ≡ true
first_has members place found m at = ap (λ (x : Member). has_order x) at.is ∙ (position-Some has_order members place m found).1

order-there : (m : Member) → m.taken < length m.effects → slice_get m.effects m.taken ≡ None →
    ((o : Effect) × (m.taken < length m.effects) × (slice_get m.effects m.taken ≡ Some o) × (get_or m.effects m.taken o ≡ o))
    ⊎ ((length m.effects ≤ m.taken) × (slice_get m.effects m.taken ≡ None)) → ⊥
order-there m inside none (inl (o, within, got, is)) = none-some o (sym none ∙ got)
order-there m inside none (inr (past, gone)) = absurd (omega (arith, inside, past))

member-there : (members : List Member) (place : ℕ) → place < length members → ((m : Member) → IsAt members place m → has_order m ≡ true) →
    ((m : Member) → IsAt members place m → slice_get m.effects m.taken ≡ None) →
    ((m : Member) × (place < length members) × (slice_get members place ≡ Some m) × (get_or members place m ≡ m))
    ⊎ ((length members ≤ place) × (slice_get members place ≡ None)) → ⊥
member-there members place inside has none (inl (m, within, got, is)) =
    let at : IsAt members place m = record { inside = inside; is = sym is } in
    order-there m (ltb-true m.taken (length m.effects) (has m at)) (none m at) (slice_get_cases m.effects m.taken).1
member-there members place inside has none (inr (past, gone)) = absurd (omega (arith, inside, past))

-- a supervisor that has an order has a next one
pub has_next : (members : List Member) (place : ℕ) → place < length members → ((m : Member) → IsAt members place m → has_order m ≡ true) →
    ((m : Member) → IsAt members place m → slice_get m.effects m.taken ≡ None) → ⊥
has_next members place inside has none = member-there members place inside has none (slice_get_cases members place).1
