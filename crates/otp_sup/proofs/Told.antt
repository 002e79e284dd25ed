-- The ends that came with what a history took, as it goes on.
use Rattle.std.proofs.Common.{◌≡◌, ◌∙◌, ℕ, suc, ◌+◌, ◌-◌, ◌<◌, ◌≤◌, Bool, true, false, List, [], ◌∷◌, ◌++◌, Option, None, Some, refl, sym, ap, arith, length, drop, append-nil, append_assoc, length-append, length-drop}
use Rattle.std.specs.Prelude.{is_some, nat_lt, if◌then◌else◌}
use Rattle.std.specs.List.{cons_option}
use Rattle.std.proofs.lemmas.List.{length-map}
use Rattle.std.proofs.lemmas.Bool.Decides.{nat_tests}
use Rattle.otp_rules.specs.declared.ending.SupEnd.{SupEnd}
use Rattle.otp_rules.specs.declared.event.Event.{Event}
use Rattle.otp_rules.specs.declared.event.Item.{Item}
use Rattle.otp_rules.specs.declared.event.Kind.{Kind}
use Rattle.otp_rules.specs.declared.event.Kind.TheVariants as kind
use Rattle.otp_core.specs.View.{View, stored_of}
use Rattle.otp_bodies.specs.declared.letter.Message.{Message}
use Rattle.otp_bodies.specs.declared.told.ToldEnd.{ToldEnd}
use Rattle.otp_bodies.specs.Ends.{told_with}
use Rattle.otp_bodies.specs.Messages.{items_in, message}
use Rattle.otp_bodies.specs.Events.{Happened, item_of, items_of}
use Rattle.otp_bodies.specs.Offices.{OfficeView}
use Rattle.otp_sup.specs.Told.{ends_told_in, told_along, told_at}

-- no messages tell no ends
none_told : (cut place : ℕ) (es : List Event) → told_along cut place es [] ≡ []
none_told cut place [] = refl
none_told cut place (e ∷ es) = refl

-- an event more that takes nothing tells none
one_other : (cut place : ℕ) (es : List Event) (e : Event) (ms : List Message) → is_some (item_of e.kind) ≡ false → told_along cut place (es ++ e ∷ []) ms ≡ told_along cut place es ms
one_other cut place [] e [] none = refl
one_other cut place [] e (m ∷ ms) none =
    ap (λ (b : Bool). if b then told_at cut place m ++ told_along cut (suc place) [] ms else told_along cut (suc place) [] (m ∷ ms)) none
one_other cut place (x ∷ es) e [] none = refl
one_other cut place (x ∷ es) e (m ∷ ms) none =
    ap (λ (l : List ToldEnd). if is_some (item_of x.kind) then told_at cut place m ++ l else told_along cut (suc place) (es ++ e ∷ []) (m ∷ ms)) (one_other cut (suc place) es e ms none)
    ∙ ap (λ (l : List ToldEnd). if is_some (item_of x.kind) then told_at cut place m ++ told_along cut (suc place) es ms else l) (one_other cut (suc place) es e (m ∷ ms) none)

-- a place further on
further : (cut place : ℕ) (es : List Event) (m : Message) → told_at cut (suc place + length es) m ≡ told_at cut (place + suc (length es)) m
further cut place es m = let same : suc place + length es ≡ place + suc (length es) = omega arith in ap (λ (k : ℕ). told_at cut k m) same

-- the first of several events took something or not, and the message that it took is the first
first_of_more : (cut place : ℕ) (es : List Event) (e : Event) (n : Message) (ms : List Message) (m : Message) (o : Option Item) → suc (length ms) ≡ length (cons_option o (items_of es))
    → (suc (length ms) ≡ length (items_of es) → told_along cut (suc place) (es ++ e ∷ []) (n ∷ ms ++ m ∷ []) ≡ told_along cut (suc place) es (n ∷ ms) ++ told_at cut (suc place + length es) m)
    → (length ms ≡ length (items_of es) → told_along cut (suc place) (es ++ e ∷ []) (ms ++ m ∷ []) ≡ told_along cut (suc place) es ms ++ told_at cut (suc place + length es) m)
    → (if is_some o then told_at cut place n ++ told_along cut (suc place) (es ++ e ∷ []) (ms ++ m ∷ []) else told_along cut (suc place) (es ++ e ∷ []) (n ∷ ms ++ m ∷ []))
    ≡ (if is_some o then told_at cut place n ++ told_along cut (suc place) es ms else told_along cut (suc place) es (n ∷ ms)) ++ told_at cut (place + suc (length es)) m
first_of_more cut place es e n ms m None many other took =
    other many ∙ ap (λ (l : List ToldEnd). told_along cut (suc place) es (n ∷ ms) ++ l) (further cut place es m)
first_of_more cut place es e n ms m (Some y) many other took =
    ap (λ (l : List ToldEnd). told_at cut place n ++ l) (took (omega (arith, many)))
    ∙ sym (append_assoc (told_at cut place n) (told_along cut (suc place) es ms) (told_at cut (suc place + length es) m))
    ∙ ap (λ (l : List ToldEnd). (told_at cut place n ++ told_along cut (suc place) es ms) ++ l) (further cut place es m)

-- the same where no message was taken before the last event
first_of_none : (cut place : ℕ) (es : List Event) (e : Event) (m : Message) (o : Option Item) → 0 ≡ length (cons_option o (items_of es))
    → (0 ≡ length (items_of es) → told_along cut (suc place) (es ++ e ∷ []) (m ∷ []) ≡ told_along cut (suc place) es [] ++ told_at cut (suc place + length es) m)
    → (if is_some o then told_at cut place m ++ told_along cut (suc place) (es ++ e ∷ []) [] else told_along cut (suc place) (es ++ e ∷ []) (m ∷ [])) ≡ told_at cut (place + suc (length es)) m
first_of_none cut place es e m None none other =
    other none
    ∙ ap (λ (l : List ToldEnd). l ++ told_at cut (suc place + length es) m) (none_told cut (suc place) es)
    ∙ further cut place es m
first_of_none cut place es e m (Some y) none other = absurd (omega (arith, none))

-- one that takes an item tells the end that came with it
one_more : (cut place : ℕ) (es : List Event) (e : Event) (ms : List Message) (m : Message) → is_some (item_of e.kind) ≡ true → length ms ≡ length (items_of es)
    → told_along cut place (es ++ e ∷ []) (ms ++ m ∷ []) ≡ told_along cut place es ms ++ told_at cut (place + length es) m
one_more cut place [] e [] m took many =
    let same : place ≡ place + 0 = omega arith in
    ap (λ (b : Bool). if b then told_at cut place m ++ [] else []) took
    ∙ append-nil (told_at cut place m)
    ∙ ap (λ (k : ℕ). told_at cut k m) same
one_more cut place [] e (n ∷ ms) m took many = absurd (omega (arith, many))
one_more cut place (x ∷ es) e [] m took many = first_of_none cut place es e m (item_of x.kind) many (λ none. one_more cut (suc place) es e [] m took none)
one_more cut place (x ∷ es) e (n ∷ ms) m took many =
    first_of_more cut place es e n ms m (item_of x.kind) many (λ as_many. one_more cut (suc place) es e (n ∷ ms) m took as_many) (λ as_many. one_more cut (suc place) es e ms m took as_many)

-- an event that was cut off
first_cut : (cut place : ℕ) (es : List Event) (m : Message) (ms : List Message) (o : Option Item) → place < cut → told_along cut (suc place) es (m ∷ ms) ≡ [] → told_along cut (suc place) es ms ≡ []
    → (if is_some o then told_at cut place m ++ told_along cut (suc place) es ms else told_along cut (suc place) es (m ∷ ms)) ≡ []
first_cut cut place es m ms None earlier other took = other
first_cut cut place es m ms (Some x) earlier other took =
    let before : nat_lt place cut ≡ true = grind (arith, nat_tests, earlier) in
    ap (λ (b : Bool). (if b then [] else told_with (place - cut) m.item m.end) ++ told_along cut (suc place) es ms) before ∙ took

-- of events that were cut off no end is kept
all_cut : (cut place : ℕ) (es : List Event) (ms : List Message) → place + length es ≤ cut → told_along cut place es ms ≡ []
all_cut cut place [] ms few = refl
all_cut cut place (e ∷ es) [] few = refl
all_cut cut place (e ∷ es) (m ∷ ms) few =
    first_cut cut place es m ms (item_of e.kind) (omega (arith, few)) (all_cut cut (suc place) es (m ∷ ms) (omega (arith, few))) (all_cut cut (suc place) es ms (omega (arith, few)))

-- none is kept where all events were cut off
pub told_cut : (core : View) (ms : List Message) → core.cut ≡ length core.history → ends_told_in core ms ≡ []
told_cut core ms all = all_cut core.cut 0 core.history ms (omega (arith, all))

-- nor where there is none
pub told_first : (core : View) (ms : List Message) → core.history ≡ [] → ends_told_in core ms ≡ []
told_first core ms none = ap (λ (es : List Event). told_along core.cut 0 es ms) none

-- the same history and the same messages
pub ends_same : (old new : View) (ms ns : List Message) (ends : List ToldEnd) → new.cut ≡ old.cut → new.history ≡ old.history → ns ≡ ms → ends ≡ ends_told_in old ms → ends ≡ ends_told_in new ns
ends_same old new ms ns ends cut history same told =
    told
    ∙ ap (λ (k : ℕ). told_along k 0 old.history ms) (sym cut)
    ∙ ap (λ (es : List Event). told_along new.cut 0 es ms) (sym history)
    ∙ ap (λ (l : List Message). ends_told_in new l) (sym same)

-- an event that took nothing
pub ends_still : (old new : OfficeView) (reading : ℕ) (k : Kind) (ms : List Message) → Happened reading k old new → item_of k ≡ None → ends_told_in old.core ms ≡ ends_told_in new.core ms
ends_still old new reading k ms h none =
    let e : Event = record { reading = reading; number = h.number; kind = k } in
    sym (ap (λ (c : ℕ). told_along c 0 new.core.history ms) h.cut
    ∙ ap (λ (es : List Event). told_along old.core.cut 0 es ms) h.history
    ∙ one_other old.core.cut 0 old.core.history e ms (ap (λ (o : Option Item). is_some o) none))

-- an event that took an item: the end that came with it is the last
pub ends_on : (old new : OfficeView) (reading : ℕ) (x : Item) (end : Option SupEnd) (ms : List Message) → Happened reading (kind.Took x) old new → items_in ms ≡ items_of old.core.history
    → ends_told_in old.core ms ++ told_with (length (stored_of old.core)) x end ≡ ends_told_in new.core (ms ++ message x end ∷ [])
ends_on old new reading x end ms h taken =
    let e : Event = record { reading = reading; number = h.number; kind = kind.Took x } in
    let m : Message = message x end in
    let many : length ms ≡ length (items_of old.core.history) = sym (length-map ms (λ (n : Message). n.item)) ∙ ap (λ (l : List Item). length l) taken in
    let cut = old.core.cut in
    let history = old.core.history in
    let stored = length-drop cut history in
    let longer = length-drop new.core.cut new.core.history in
    let one = ap (λ (l : List Event). length l) h.stored in
    let grown = length-append (drop cut history) (e ∷ []) in
    let events = ap (λ (l : List Event). length l) h.history in
    let more = length-append history (e ∷ []) in
    let same = h.cut in
    let whole : cut ≤ length history = omega (arith, stored, longer, one, grown, events, more, same) in
    let after : nat_lt (0 + length history) cut ≡ false = grind (arith, nat_tests, whole) in
    let place : (0 + length history) - cut ≡ length (drop cut history) = omega (arith, stored) in
    let last : told_at cut (0 + length history) m ≡ told_with (length (drop cut history)) x end =
    ap (λ (b : Bool). if b then [] else told_with ((0 + length history) - cut) x end) after ∙ ap (λ (k : ℕ). told_with k x end) place in
    ap (λ (l : List ToldEnd). ends_told_in old.core ms ++ l) (sym last)
    ∙ sym (ap (λ (c : ℕ). told_along c 0 new.core.history (ms ++ m ∷ [])) h.cut
    ∙ ap (λ (es : List Event). told_along cut 0 es (ms ++ m ∷ [])) h.history
    ∙ one_more cut 0 history e ms m refl many)
