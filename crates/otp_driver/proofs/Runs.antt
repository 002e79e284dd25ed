-- From one tree, of the same inputs comes the same.
use Rattle.std.specs.Prelude.{◌≡◌, ◌<◌, ◌≤◌, ℕ, Bool, true, false, List, [], ◌∷◌, Option, None, Some, length, nat_lt, position, refl, slice_get}
use Rattle.std.proofs.Common.{◌∙◌, ap, arith, inl, inr, subst, sym}
use Rattle.std.proofs.lemmas.Bool.{ltb-false, ltb-true}
use Rattle.std.proofs.lemmas.Option.{none-some, slice_get_past}
use Rattle.otp_rules.specs.declared.call.Call.{Call}
use Rattle.otp_rules.specs.declared.event.Effect.{Effect}
use Rattle.otp_rules.specs.declared.event.Item.TheVariants as item
use Rattle.otp_rules.specs.declared.event.Kind.TheVariants as kind
use Rattle.otp_driver.specs.declared.driven.link.Link.{Link}
use Rattle.otp_driver.specs.Links.{asked}
use Rattle.otp_driver.specs.Members.{Member, has_order, state_in}
use Rattle.otp_driver.specs.declared.order.Order.{Order}
use Rattle.otp_driver.specs.declared.order.What.{What}
use Rattle.otp_driver.specs.declared.route.Route.{Route}
use Rattle.otp_driver.specs.declared.route.Route.TheVariants.{Outside}
use Rattle.otp_driver.specs.Orders.{what_of}
use Rattle.otp_file.specs.Trees.{Table, Tree}
use Rattle.otp_driver.specs.Members.{unopened}
use Rattle.otp_driver.specs.Changed.{Changes, changed_from, origins_of}
use Rattle.otp_driver.specs.Opened.{ArePlanted, IsPlanted}
use Rattle.otp_driver.specs.Driven.{at_reading, comes, comes_at, Called, Does, Driven, IsAsked, IsAt, IsIdle, IsNext, IsOutside, Occurs, Relinks, Step, Takes, Through}
use Rattle.otp_driver.specs.Runs.{Comes, HandsOut, Input, Output, Rests, Runs, RunsAgree, TakesNext, Tells, Calls, Stops, Reads, Renews, Ordered, AllDone, Numbered, Heard}
use Rattle.otp_driver.proofs.Agree.{member_same, next_same, occurs_same, relinks_same, same_some, steps_agree, takes_same}

-- a tree that stands takes no step

outside_stands : (t u : Driven) (place : ℕ) → IsOutside t place → Step t u → ⊥
outside_stands t u place outside (inl routed) =
    let same : routed.place ≡ place = same_some (position has_order t.members) routed.place place routed.first outside.first in
    let next : IsNext t place routed.order routed.route = subst (λ (p : ℕ). IsNext t p routed.order routed.route) same routed.next in
    let route : routed.route ≡ Outside = next_same t place routed.order outside.order routed.route Outside next outside.next in
    subst (λ (r : Route). Does r routed.place t routed.mid) route routed.does
outside_stands t u place outside (inr by_itself) = none-some place (sym by_itself.taken ∙ outside.first)

idle_stands : (t u : Driven) → IsIdle t → Step t u → ⊥
unfolding comes_at
idle_stands t u idle (inl routed) = none-some routed.place (sym idle.taken ∙ routed.first)
idle_stands t u idle (inr it) = none-some it.kind (sym (none_at it.place) ∙ it.comes)
  where
    beyond : (place : ℕ) → length t.members ≤ place → comes_at t place ≡ None
    beyond place far = ap (λ (m : Option Member). comes place t.reading m (slice_get t.links place)) (slice_get_past t.members place far)

    none_by : (place : ℕ) (b : Bool) → nat_lt place (length t.members) ≡ b → comes_at t place ≡ None
    none_by place true e = idle.none place (ltb-true place (length t.members) e)
    none_by place false e = beyond place (ltb-false place (length t.members) e)

    none_at : (place : ℕ) → comes_at t place ≡ None
    none_at place = none_by place (nat_lt place (length t.members)) refl

-- so it goes on to one place alone

through_same : (t u v : Driven) (xs ys : List Driven) → Through t xs u → Through t ys v → ((w : Driven) → Step u w → ⊥) → ((w : Driven) → Step v w → ⊥) → u ≡ v
through_same t u v [] [] one other still rests = one ∙ sym other
through_same t u v [] (y ∷ ys) one other still rests = absurd (still y (subst (λ (x : Driven). Step x y) (sym one) other.0))
through_same t u v (x ∷ xs) [] one other still rests = absurd (rests x (subst (λ (z : Driven). Step z x) (sym other) one.0))
through_same t u v (x ∷ xs) (y ∷ ys) one other still rests =
    let same : y ≡ x = sym (steps_agree t x y one.0 other.0) in
    through_same x u v xs ys one.1 (subst (λ (z : Driven). Through z ys v) same other.1) still rests

-- what is handed out is one alone

-- what the next order says is one alone
says_same : (t u : Driven) (p q : ℕ) (d e : Effect) (one : IsNext t p d Outside) (other : IsNext u q e Outside) → u ≡ t → p ≡ q → what_of (state_in one.member).rows d ≡ what_of (state_in other.member).rows e
says_same t u p q d e one other tree place =
    let moved : IsAt t.members q other.member = subst (λ (x : Driven). IsAt x.members q other.member) tree other.at in
    let here : IsAt t.members p other.member = subst (λ (i : ℕ). IsAt t.members i other.member) (sym place) moved in
    let member : one.member ≡ other.member = member_same t.members p one.member other.member one.at here in
    let next : slice_get other.member.effects other.member.taken ≡ Some d = subst (λ (m : Member). slice_get m.effects m.taken ≡ Some d) member one.order_is in
    let order : d ≡ e = same_some (slice_get other.member.effects other.member.taken) d e next other.order_is in
    ap (λ (m : Member). what_of (state_in m).rows d) member ∙ ap (λ (x : Effect). what_of (state_in other.member).rows x) order

hands_same : (t u v : Driven) (d e : Order) → HandsOut d t u → HandsOut e t v → (d ≡ e) × (u ≡ v)
hands_same t u v d e one other =
    let p : ℕ = d.supervisor in
    let q : ℕ = e.supervisor in
    let mid : other.mid ≡ one.mid =
    through_same t other.mid one.mid other.goes_on.0 one.goes_on.0 other.goes_on.1 one.goes_on.1 (λ w. outside_stands other.mid w q other.outside) (λ w. outside_stands one.mid w p one.outside) in
    let first : position has_order one.mid.members ≡ Some q = subst (λ (x : Driven). position has_order x.members ≡ Some q) mid other.outside.first in
    let place : p ≡ q = same_some (position has_order one.mid.members) p q one.outside.first first in
    let said : what_of (state_in one.outside.next.member).rows one.outside.order ≡ what_of (state_in other.outside.next.member).rows other.outside.order = says_same one.mid other.mid p q one.outside.order other.outside.order one.outside.next other.outside.next mid place in
    let what : d.what ≡ e.what = one.says ∙ said ∙ sym other.says in
    let takes : Takes q one.mid v = subst (λ (x : Driven). Takes q x v) mid other.takes in (
      ap (λ (i : ℕ). record { supervisor = i; what = d.what }) place ∙ ap (λ (w : What). record { supervisor = q; what = w }) what,
      takes_same p one.mid u v one.takes (subst (λ (i : ℕ). Takes i one.mid v) (sym place) takes),
    )

rests_same : (t u v : Driven) → Rests t u → Rests t v → u ≡ v
rests_same t u v one other = through_same t u v one.0.0 other.0.0 one.0.1 other.0.1 (λ w. idle_stands u w one.1) (λ w. idle_stands v w other.1)

-- an order is next, or nothing is left to do
not_both : (t u v : Driven) (d : Order) → HandsOut d t u → Rests t v → ⊥
not_both t u v d one other =
    let mid : v ≡ one.mid = through_same t v one.mid other.0.0 one.goes_on.0 other.0.1 one.goes_on.1 (λ w. idle_stands v w other.1) (λ w. outside_stands one.mid w d.supervisor one.outside) in
    none-some d.supervisor (sym other.1.taken ∙ subst (λ (x : Driven). position has_order x.members ≡ Some d.supervisor) (sym mid) one.outside.first)

-- so is what comes of what is told

called_same : (t u v : Driven) (n m place : ℕ) (call : Call) → Called n place call t u → Called m place call t v → (n ≡ m) × (u ≡ v)
called_same t u v n m place call (number, (mid, occurs, is)) (number', (mid', occurs', is')) =
    let same : n ≡ m = number ∙ sym number' in
    let taken : Occurs place (kind.Took (item.Call n call)) t mid' = subst (λ (i : ℕ). Occurs place (kind.Took (item.Call i call)) t mid') (sym same) occurs' in
    let mids : mid ≡ mid' = occurs_same place (kind.Took (item.Call n call)) t mid mid' occurs taken in
    (same, is ∙ ap (λ (x : Driven). record x { calls = n }) mids ∙ ap (λ (i : ℕ). record mid' { calls = i }) same ∙ sym is')

-- who has no link is asked nothing
no_links : (t u : Driven) → t.links ≡ [] → Relinks 0 asked t u → ⊥
no_links t u none relinks =
    let few : 0 < length t.links = relinks.has.inside in
    let nothing : length t.links ≡ 0 = ap (λ (l : List Link). length l) none in
    omega (arith, few, nothing)

asked_same : (t u v : Driven) → IsAsked t u → IsAsked t v → u ≡ v
asked_same t u v (inl one) (inl other) = one.1 ∙ sym other.1
asked_same t u v (inl one) (inr other) = absurd (no_links t v one.0 other)
asked_same t u v (inr one) (inl other) = absurd (no_links t u other.0 one)
asked_same t u v (inr one) (inr other) = relinks_same 0 asked t u v one other

-- a tree file is planted in one way alone
all_planted_same : (ts : List Table) (ms ns : List Member) → ArePlanted ts ms → ArePlanted ts ns → ms ≡ ns
all_planted_same [] [] [] one other = refl
all_planted_same [] [] (n ∷ ns) one other = absurd other
all_planted_same [] (m ∷ ms) ns one other = absurd one
all_planted_same (t ∷ ts) [] ns one other = absurd one
all_planted_same (t ∷ ts) (m ∷ ms) [] one other = absurd other
all_planted_same (t ∷ ts) (m ∷ ms) (n ∷ ns) one other =
    let first : m ≡ n = one.0 ∙ sym other.0 in
    ap (λ (x : Member). x ∷ ms) first ∙ ap (λ (l : List Member). n ∷ l) (all_planted_same ts ms ns one.1 other.1)

planted_same : (tree : Tree) (t u : Driven) → IsPlanted tree t → IsPlanted tree u → t ≡ u
planted_same tree t u ((added, is, below, (reading, last, calls)), links) ((added', is', below', (reading', last', calls')), links') =
    let same : added ≡ added' = all_planted_same tree.below added added' below below' in
    let members : t.members ≡ u.members = is ∙ ap (λ (l : List Member). unopened tree.flags tree.specs ∷ l) same ∙ sym is' in
    let all : t.links ≡ u.links = links ∙ sym links' in
    ap (λ (l : List Member). record t { members = l }) members
    ∙ ap (λ (l : List Link). record t { members = u.members; links = l }) all
    ∙ ap (λ (n : ℕ). record t { members = u.members; links = u.links; reading = n }) (reading ∙ sym reading')
    ∙ ap (λ (n : ℕ). record t { members = u.members; links = u.links; reading = u.reading; last = n }) (last ∙ sym last')
    ∙ ap (λ (n : ℕ). record t { members = u.members; links = u.links; reading = u.reading; last = u.last; calls = n }) (calls ∙ sym calls')

changes_same : (tree : Tree) (t u v : Driven) → Changes tree t u → Changes tree t v → u ≡ v
changes_same tree t u v (p, planted, one) (q, planted', other) =
    one.new_is
    ∙ ap (λ (x : Driven). changed_from (origins_of t.links x.links) t x) (planted_same tree p q planted planted')
    ∙ sym other.new_is

comes_same : (i : Input) (o p : Output) (t u v : Driven) → Comes i o t u → Comes i p t v → (o ≡ p) × (u ≡ v)
comes_same TakesNext (Ordered d) (Ordered e) t u v one other =
    let same : (d ≡ e) × (u ≡ v) = hands_same t u v d e one other in
    (ap (λ (x : Order). Ordered x) same.0, same.1)
comes_same TakesNext (Ordered d) AllDone t u v one other = absurd (not_both t u v d one other)
comes_same TakesNext (Ordered d) (Numbered n) t u v one other = absurd other
comes_same TakesNext (Ordered d) Heard t u v one other = absurd other
comes_same TakesNext AllDone (Ordered e) t u v one other = absurd (not_both t v u e other one)
comes_same TakesNext AllDone AllDone t u v one other = (refl, rests_same t u v one other)
comes_same TakesNext AllDone (Numbered n) t u v one other = absurd other
comes_same TakesNext AllDone Heard t u v one other = absurd other
comes_same TakesNext (Numbered n) p t u v one other = absurd one
comes_same TakesNext Heard p t u v one other = absurd one
comes_same (Tells r place x) Heard Heard t u v one other = (refl, occurs_same place (kind.Took (item.Note x)) (at_reading r t) u v one other)
comes_same (Tells r place x) Heard (Ordered e) t u v one other = absurd other
comes_same (Tells r place x) Heard AllDone t u v one other = absurd other
comes_same (Tells r place x) Heard (Numbered n) t u v one other = absurd other
comes_same (Tells r place x) (Ordered e) p t u v one other = absurd one
comes_same (Tells r place x) AllDone p t u v one other = absurd one
comes_same (Tells r place x) (Numbered n) p t u v one other = absurd one
comes_same (Calls r place call) (Numbered n) (Numbered m) t u v one other =
    let same : (n ≡ m) × (u ≡ v) = called_same (at_reading r t) u v n m place call one other in
    (ap (λ (x : ℕ). Numbered x) same.0, same.1)
comes_same (Calls r place call) (Numbered n) (Ordered e) t u v one other = absurd other
comes_same (Calls r place call) (Numbered n) AllDone t u v one other = absurd other
comes_same (Calls r place call) (Numbered n) Heard t u v one other = absurd other
comes_same (Calls r place call) (Ordered e) p t u v one other = absurd one
comes_same (Calls r place call) AllDone p t u v one other = absurd one
comes_same (Calls r place call) Heard p t u v one other = absurd one
comes_same (Stops r) Heard Heard t u v one other = (refl, asked_same (at_reading r t) u v one other)
comes_same (Stops r) Heard (Ordered e) t u v one other = absurd other
comes_same (Stops r) Heard AllDone t u v one other = absurd other
comes_same (Stops r) Heard (Numbered n) t u v one other = absurd other
comes_same (Stops r) (Ordered e) p t u v one other = absurd one
comes_same (Stops r) AllDone p t u v one other = absurd one
comes_same (Stops r) (Numbered n) p t u v one other = absurd one
comes_same (Reads r) Heard Heard t u v one other = (refl, one ∙ sym other)
comes_same (Reads r) Heard (Ordered e) t u v one other = absurd other
comes_same (Reads r) Heard AllDone t u v one other = absurd other
comes_same (Reads r) Heard (Numbered n) t u v one other = absurd other
comes_same (Reads r) (Ordered e) p t u v one other = absurd one
comes_same (Reads r) AllDone p t u v one other = absurd one
comes_same (Reads r) (Numbered n) p t u v one other = absurd one
comes_same (Renews tree) Heard Heard t u v one other = (refl, changes_same tree t u v one other)
comes_same (Renews tree) Heard (Ordered e) t u v one other = absurd other
comes_same (Renews tree) Heard AllDone t u v one other = absurd other
comes_same (Renews tree) Heard (Numbered n) t u v one other = absurd other
comes_same (Renews tree) (Ordered e) p t u v one other = absurd one
comes_same (Renews tree) AllDone p t u v one other = absurd one
comes_same (Renews tree) (Numbered n) p t u v one other = absurd one

pub runs_agree : RunsAgree
runs_agree [] [] [] t u v one other = (refl, one ∙ sym other)
runs_agree [] [] (p ∷ ps) t u v one other = absurd other
runs_agree [] (o ∷ os) ps t u v one other = absurd one
runs_agree (i ∷ is) [] ps t u v one other = absurd one
runs_agree (i ∷ is) (o ∷ os) [] t u v one other = absurd other
runs_agree (i ∷ is) (o ∷ os) (p ∷ ps) t u v (mid, comes, runs) (mid', comes', runs') =
    let first : (o ≡ p) × (mid ≡ mid') = comes_same i o p t mid mid' comes comes' in
    let rest : (os ≡ ps) × (u ≡ v) = runs_agree is os ps mid u v runs (subst (λ (x : Driven). Runs is ps x v) (sym first.1) runs') in
    (ap (λ (x : Output). x ∷ os) first.0 ∙ ap (λ (l : List Output). p ∷ l) rest.0, rest.1)
