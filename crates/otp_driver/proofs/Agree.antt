-- The next step of a tree is one alone.
use Rattle.std.proofs.lemmas.Bool.{ltb-false, ltb-true}
use Rattle.std.specs.Prelude.{Bool, true, false, nat_lt, ◌≡◌, ◌<◌, ◌≤◌, ◌++◌, ◌∷◌, [], ℕ, List, Option, Some, None, position, refl, slice_get, slice_set, unwrap_or}
use Rattle.std.proofs.Common.{◌∙◌, ap, arith, inl, inr, subst, sym}
use Rattle.std.proofs.lemmas.List.{get_or_default}
use Rattle.std.proofs.lemmas.Option.{none-some}
use Rattle.otp_core.specs.Happened.{number_after}
use Rattle.otp_driver.specs.Members.{Happens, Member, has_order, passed, state_in}
use Rattle.otp_driver.specs.Links.{asked, begun, told}
use Rattle.otp_driver.specs.declared.driven.link.Link.{Link}
use Rattle.otp_rules.specs.declared.event.Item.TheVariants as item
use Rattle.otp_rules.specs.declared.event.Kind.TheVariants as kind
use Rattle.otp_driver.specs.Driven.{ByItself, Does, Driven, HasLink, IsAt, IsNext, Occurs, Relinks, Routed, Takes, comes_at, with_link}
use Rattle.otp_driver.specs.Agree.{StepsAgree}
use Rattle.otp_driver.specs.Routes.{route_of}
use Rattle.otp_driver.specs.declared.route.Route.{Route}
use Rattle.otp_driver.specs.declared.route.Route.TheVariants.{Outside, Start, Stop, Tell}
use Rattle.otp_rules.specs.Needs.{needs_number}
use Rattle.otp_rules.specs.Step.{step}
use Rattle.otp_rules.specs.declared.event.Effect.{Effect}
use Rattle.otp_rules.specs.declared.event.Kind.{Kind}

-- what is in an option is one alone
pub same_some : {X : Type 0} (o : Option X) (a b : X) → o ≡ Some a → o ≡ Some b → a ≡ b
same_some o a b one other = let e : Some a ≡ Some b = sym one ∙ other in cc

pub member_same : (ms : List Member) (p : ℕ) (a b : Member) → IsAt ms p a → IsAt ms p b → a ≡ b
member_same ms p a b one other = one.is ∙ get_or_default ms p a b one.inside ∙ sym other.is

link_same : (ls : List Link) (p : ℕ) (a b : Link) → HasLink ls p a → HasLink ls p b → a ≡ b
link_same ls p a b one other = one.is ∙ get_or_default ls p a b one.inside ∙ sym other.is

-- what a member becomes by an event of this number
after_of : ℕ → Kind → Member → Option ℕ → Member
after_of reading k m number =
    record m {
      history = m.history ++ record { reading = reading; number = number; kind = k } ∷ [];
      effects = m.effects ++ (step (state_in m) (record { reading = reading; number = number; kind = k })).orders;
    }

happens_after : (reading last : ℕ) (k : Kind) (m x : Member) (n : ℕ) → Happens reading last k m x n
    → (x ≡ after_of reading k m (number_after last (needs_number (state_in m) reading k))) × (n ≡ unwrap_or (number_after last (needs_number (state_in m) reading k)) last)
unfolding after_of
happens_after reading last k m x n (number, number_is, n_is, x_is) =
    (x_is ∙ ap (after_of reading k m) number_is, n_is ∙ ap (λ (o : Option ℕ). unwrap_or o last) number_is)

happens_same : (reading last : ℕ) (k : Kind) (m x y : Member) (i j : ℕ) → Happens reading last k m x i → Happens reading last k m y j → (x ≡ y) × (i ≡ j)
happens_same reading last k m x y i j one other =
    let a : _ = happens_after reading last k m x i one in
    let b : _ = happens_after reading last k m y j other in
    (a.0 ∙ sym b.0, a.1 ∙ sym b.1)

pub occurs_same : (p : ℕ) (k : Kind) (t u v : Driven) → Occurs p k t u → Occurs p k t v → u ≡ v
occurs_same p k t u v one other =
    let before : other.before ≡ one.before = member_same t.members p other.before one.before other.at one.at in
    let moved : Happens t.reading t.last k one.before other.after other.last =
    subst (λ (m : Member). Happens t.reading t.last k m other.after other.last) before other.happens in
    let same : (one.after ≡ other.after) × (one.last ≡ other.last) =
    happens_same t.reading t.last k one.before one.after other.after one.last other.last one.happens moved in
    one.new_is
    ∙ ap (λ (m : Member). record t { members = slice_set t.members p m; last = one.last }) same.0
    ∙ ap (λ (n : ℕ). record t { members = slice_set t.members p other.after; last = n }) same.1
    ∙ sym other.new_is

pub relinks_same : (p : ℕ) (change : Link → Link) (t u v : Driven) → Relinks p change t u → Relinks p change t v → u ≡ v
relinks_same p change t u v one other =
    one.new_is ∙ ap (λ (l : Link). with_link p (change l) t) (link_same t.links p one.link other.link one.has other.has) ∙ sym other.new_is

pub takes_same : (p : ℕ) (t u v : Driven) → Takes p t u → Takes p t v → u ≡ v
takes_same p t u v one other =
    one.new_is ∙ ap (λ (m : Member). record t { members = slice_set t.members p (passed m) }) (member_same t.members p one.member other.member one.at other.at) ∙ sym other.new_is

does_same : (r : Route) (p : ℕ) (t u v : Driven) → Does r p t u → Does r p t v → u ≡ v
does_same Outside p t u v one other = absurd one
does_same (Start below number) p t u v (mid, occurs, links) (mid', occurs', links') =
    let same : mid' ≡ mid = occurs_same below (kind.Opened number) t mid' mid occurs' occurs in
    relinks_same below (begun number) mid u v links (subst (λ (x : Driven). Relinks below (begun number) x v) same links')
does_same (Stop below) p t u v one other = relinks_same below asked t u v one other
does_same (Tell parent x ended) p t u v (mid, occurs, links) (mid', occurs', links') =
    let same : mid' ≡ mid = occurs_same parent (kind.Took (item.Note x)) t mid' mid occurs' occurs in
    relinks_same p (told x ended) mid u v links (subst (λ (y : Driven). Relinks p (told x ended) y v) same links')

pub order_same : (t : Driven) (p : ℕ) (d e : Effect) (q r : Route) → IsNext t p d q → IsNext t p e r → d ≡ e
order_same t p d e q r one other =
    let same : other.member ≡ one.member = member_same t.members p other.member one.member other.at one.at in
    let moved : slice_get one.member.effects one.member.taken ≡ Some e = subst (λ (m : Member). slice_get m.effects m.taken ≡ Some e) same other.order_is in
    same_some (slice_get one.member.effects one.member.taken) d e one.order_is moved

pub next_same : (t : Driven) (p : ℕ) (d e : Effect) (q r : Route) → IsNext t p d q → IsNext t p e r → q ≡ r
next_same t p d e q r one other =
    let same : other.member ≡ one.member = member_same t.members p other.member one.member other.at one.at in
    let order : d ≡ e = order_same t p d e q r one other in
    one.route_is
    ∙ ap (λ (x : Effect). route_of t.links p (state_in one.member).rows x) order
    ∙ ap (λ (m : Member). route_of t.links p (state_in m).rows e) (sym same)
    ∙ sym other.route_is

routed_same : (t u v : Driven) → Routed t u → Routed t v → u ≡ v
routed_same t u v one other =
    let place : other.place ≡ one.place = same_some (position has_order t.members) other.place one.place other.first one.first in
    let next : IsNext t one.place other.order other.route = subst (λ (p : ℕ). IsNext t p other.order other.route) place other.next in
    let route : other.route ≡ one.route = sym (next_same t one.place one.order other.order one.route other.route one.next next) in
    let does : Does one.route one.place t other.mid =
    subst (λ (r : Route). Does r one.place t other.mid) route (subst (λ (p : ℕ). Does other.route p t other.mid) place other.does) in
    let mid : other.mid ≡ one.mid = does_same one.route one.place t other.mid one.mid does one.does in
    let takes : Takes one.place one.mid v =
    subst (λ (x : Driven). Takes one.place x v) mid (subst (λ (p : ℕ). Takes p other.mid v) place other.takes) in
    takes_same one.place one.mid u v one.takes takes

-- the first place at which something comes
not_before : (t : Driven) (p q : ℕ) (k : Kind) → comes_at t p ≡ Some k → ((i : ℕ) → i < q → comes_at t i ≡ None) → q ≤ p
not_before t p q k some none = by (nat_lt p q) refl
  where
    by : (b : Bool) → nat_lt p q ≡ b → q ≤ p
    by true e = absurd (none-some k (sym (none p (ltb-true p q e)) ∙ some))
    by false e = ltb-false p q e

by_itself_same : (t u v : Driven) → ByItself t u → ByItself t v → u ≡ v
by_itself_same t u v one other =
    let low : other.place ≤ one.place = not_before t one.place other.place one.kind one.comes other.first in
    let high : one.place ≤ other.place = not_before t other.place one.place other.kind other.comes one.first in
    let place : other.place ≡ one.place = omega (arith, low, high) in
    let comes : comes_at t one.place ≡ Some other.kind = subst (λ (p : ℕ). comes_at t p ≡ Some other.kind) place other.comes in
    let kind : other.kind ≡ one.kind = same_some (comes_at t one.place) other.kind one.kind comes one.comes in
    let event : Occurs one.place one.kind t v =
    subst (λ (k : Kind). Occurs one.place k t v) kind (subst (λ (p : ℕ). Occurs p other.kind t v) place other.event) in
    occurs_same one.place one.kind t u v one.event event

pub steps_agree : StepsAgree
steps_agree t u v (inl one) (inl other) = routed_same t u v one other
steps_agree t u v (inl one) (inr other) = absurd (none-some one.place (sym other.taken ∙ one.first))
steps_agree t u v (inr one) (inl other) = absurd (none-some other.place (sym one.taken ∙ other.first))
steps_agree t u v (inr one) (inr other) = by_itself_same t u v one other
