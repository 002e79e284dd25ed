-- Kept events, their terms and their calls.
use Rattle.std.proofs.Common.{◌≡◌, ℕ, ◌+◌, ◌-◌, ◌<◌, ◌≤◌, ◌==◌, ◌++◌, List, [], ◌∷◌, ◌∙◌, ap, arith, get_or, length, map, refl, subst, suc, sym, zero}
use Rattle.std.specs.Prelude.{All, Bool, true, false, not, ◌&&◌, IsTrue, Option, None, Some, if◌then◌else◌, is_some, unwrap_or}
use Rattle.std.proofs.lemmas.List.Elements.{All-append, All-cons, All-nil}
use Rattle.std.specs.Str.{bytes_eq}
use Rattle.std.proofs.lemmas.Bool.{and_parts, both_ways}
use Rattle.std.proofs.lemmas.List.{get_or_append_left, length-append, map-append}
use Rattle.std.proofs.lemmas.Slice.Eq.{bytes_eq-Decides}
use Rattle.otp_reason.specs.declared.reason.Reason.{Reason}
use Rattle.otp_reason.specs.declared.reason.Reason.TheVariants as reason
use Rattle.otp_reason.specs.declared.text.Text.{Text}
use Rattle.otp_reason.specs.Texts.{text_block, text_with}
use Rattle.otp_rules.specs.declared.call.Call.{Call}
use Rattle.otp_rules.specs.declared.call.Call.TheVariants as call
use Rattle.otp_rules.specs.declared.event.Event.{Event}
use Rattle.otp_rules.specs.declared.event.Item.TheVariants as item
use Rattle.otp_rules.specs.declared.event.Kind.{Kind}
use Rattle.otp_rules.specs.declared.event.Kind.TheVariants as kind
use Rattle.otp_machine.specs.declared.stores.history.ShortEvent.{ShortEvent}
use Rattle.otp_machine.specs.declared.stores.history.ShortKind.{ShortKind}
use Rattle.otp_machine.specs.declared.stores.history.Tag.{Tag}
use Rattle.otp_machine.specs.declared.stores.history.Tag.TheVariants as tag
use Rattle.otp_machine.specs.declared.stores.history.Why.{Why}
use Rattle.otp_machine.specs.declared.stores.history.Why.TheVariants as why
use Rattle.otp_machine.specs.HistoryInside.{call_at, event_of, is_last_block, kind_as, kind_of, number_of, reason_as, shows_term, takes_call, term_at, with_block, with_terms, KindWithin}

-- a reason that shows no term is the same with any
same_reason : (w : Why) (t u : Text) → (IsTrue (shows_term w) → t ≡ u) → reason_as w t ≡ reason_as w u
same_reason why.Normal t u same = refl
same_reason why.Shutdown t u same = refl
same_reason why.ShutdownWith t u same = ap (λ (x : Text). reason.ShutdownWith x) (same refl)
same_reason why.Kill t u same = refl
same_reason why.Killed t u same = refl
same_reason why.NoProc t u same = refl
same_reason why.Error t u same = ap (λ (x : Text). reason.Error x) (same refl)

-- an event that takes no call is the same with any
same_call : (g : Tag) (n : ℕ) (r : Reason) (c d : Call) → (IsTrue (takes_call g) → c ≡ d) → kind_as g n r c ≡ kind_as g n r d
same_call tag.Opened n r c d same = refl
same_call tag.Up n r c d same = refl
same_call tag.Ignored n r c d same = refl
same_call tag.Failed n r c d same = refl
same_call tag.Exit n r c d same = refl
same_call tag.Called n r c d same = ap (λ (x : Call). kind.Took (item.Call n x)) (same refl)
same_call tag.Resumed n r c d same = refl
same_call tag.Ticked n r c d same = refl
same_call tag.Stopped n r c d same = refl

-- each block stays where it is
abbrev pub Keeps : List (List ℕ) → List (List ℕ) → Type 0
Keeps old new = (length old ≤ length new) × ((k : ℕ) → k < length old → get_or new k [] ≡ get_or old k [])

all_kept : (blocks : List (List ℕ)) → Keeps blocks blocks
all_kept blocks = (omega arith, λ k lt. refl)

kept_on : (a b c : List (List ℕ)) → Keeps a b → Keeps b c → Keeps a c
kept_on a b c h g = (omega (arith, h.0, g.0), λ k lt. g.1 k (omega (arith, lt, h.0)) ∙ h.1 k lt)

more_kept : (block : List ℕ) (blocks : List (List ℕ)) → Keeps blocks (blocks ++ block ∷ [])
more_kept block blocks = (omega (arith, length-append blocks (block ∷ [])), λ k lt. get_or_append_left blocks (block ∷ []) [] k lt)

block_kept : (block : List ℕ) (blocks : List (List ℕ)) → Keeps blocks (with_block block blocks)
unfolding with_block
block_kept block blocks =
    elim (is_last_block block blocks) as (λ b. Keeps blocks (if b then blocks else blocks ++ block ∷ [])) [
      | true ↦ all_kept blocks
      | false ↦ more_kept block blocks
    ]

-- those of terms that come later too
terms_kept : (terms : List Text) (blocks : List (List ℕ)) → Keeps blocks (with_terms terms blocks)
terms_kept [] blocks = all_kept blocks
terms_kept (term ∷ terms) blocks =
    let first : List (List ℕ) = with_block (text_block term) blocks in
    kept_on blocks first (with_terms terms first) (block_kept (text_block term) blocks) (terms_kept terms first)

pub kept : (blocks more : List (List ℕ)) (terms : List Text) → more ≡ with_terms terms blocks → Keeps blocks more
kept blocks more terms is = subst (λ (xs : List (List ℕ)). Keeps blocks xs) (sym is) (terms_kept terms blocks)

-- the block is the last of these
abbrev pub IsLast : List ℕ → List (List ℕ) → Type 0
IsLast block blocks = (0 < length blocks) × (get_or blocks (length blocks - 1) [] ≡ block)

not_empty : (n : ℕ) → not (n == 0) ≡ true → 0 < n
not_empty zero e = absurd (both_ways false refl e)
not_empty (suc n) e = omega arith

found_last : (block : List ℕ) (blocks : List (List ℕ)) → is_last_block block blocks ≡ true → IsLast block blocks
found_last block blocks e =
    let both : (not (length blocks == 0) ≡ true) × (bytes_eq (get_or blocks (length blocks - 1) []) block ≡ true) = and_parts _ _ e in
    (not_empty (length blocks) both.0, (bytes_eq-Decides (get_or blocks (length blocks - 1) []) block).0 both.1)

put_last : (block : List ℕ) (blocks : List (List ℕ)) → get_or (blocks ++ block ∷ []) (length blocks) [] ≡ block
put_last block [] = refl
put_last block (first ∷ blocks) = put_last block blocks

pushed_last : (block : List ℕ) (blocks : List (List ℕ)) → IsLast block (blocks ++ block ∷ [])
pushed_last block blocks =
    let long : length (blocks ++ block ∷ []) ≡ length blocks + 1 = length-append blocks (block ∷ []) in
    let place : length (blocks ++ block ∷ []) - 1 ≡ length blocks = omega (arith, long) in
    (omega (arith, long), ap (λ (n : ℕ). get_or (blocks ++ block ∷ []) n []) place ∙ put_last block blocks)

-- the block that was put is
block_last : (block : List ℕ) (blocks : List (List ℕ)) → IsLast block (with_block block blocks)
unfolding with_block
block_last block blocks =
    (elim (is_last_block block blocks) as (λ b. is_last_block block blocks ≡ b → IsLast block (if b then blocks else blocks ++ block ∷ [])) [
      | true ↦ λ e. found_last block blocks e
      | false ↦ λ e. pushed_last block blocks
    ]) refl

pub last_of : (block : List ℕ) (blocks more : List (List ℕ)) → more ≡ with_block block blocks → IsLast block more
last_of block blocks more is = subst (λ (xs : List (List ℕ)). IsLast block xs) (sym is) (block_last block blocks)

-- terms and calls that come later change nothing that happened
same_kind : (ts terms : List (List ℕ)) (cs later : List Call) (k : ShortKind) → Keeps ts terms → KindWithin (length ts) (length cs) k → kind_of terms (cs ++ later) k ≡ kind_of ts cs k
same_kind ts terms cs later k kept h =
    ap (λ (r : Reason). kind_as k.tag k.subject r (call_at (cs ++ later) k.place))
    (same_reason k.why (term_at terms k.place k.shown) (term_at ts k.place k.shown)
    (λ shows. ap (λ (bytes : List ℕ). text_with bytes k.shown) (kept.1 k.place (h.0 shows))))
    ∙ same_call k.tag k.subject (reason_as k.why (term_at ts k.place k.shown)) (call_at (cs ++ later) k.place) (call_at cs k.place)
    (λ takes. get_or_append_left cs later call.WhichChildren k.place (h.1 takes))

same_events : (ts terms : List (List ℕ)) (cs later : List Call) (es : List ShortEvent) → Keeps ts terms → All (λ e. KindWithin (length ts) (length cs) e.kind) es → map (event_of terms (cs ++ later)) es ≡ map (event_of ts cs) es
same_events ts terms cs later [] kept h = refl
same_events ts terms cs later (e ∷ es) kept h =
    ap (λ (k : Kind). record { reading = e.reading; number = number_of e; kind = k } ∷ map (event_of terms (cs ++ later)) es) (same_kind ts terms cs later e.kind kept (h 0 e (omega arith)))
    ∙ ap (λ (rest : List Event). event_of ts cs e ∷ rest) (same_events ts terms cs later es kept (λ i d b. h (suc i) d (omega arith)))

-- one more event, with its calls
pushed : (ts terms : List (List ℕ)) (cs later : List Call) (es : List ShortEvent) (e : ShortEvent) (k : Kind) → Keeps ts terms → kind_of terms (cs ++ later) e.kind ≡ k → All (λ x. KindWithin (length ts) (length cs) x.kind) es →
    map (event_of terms (cs ++ later)) (es ++ e ∷ []) ≡ map (event_of ts cs) es ++ record { reading = e.reading; number = number_of e; kind = k } ∷ []
pushed ts terms cs later es e k kept is h =
    map-append (event_of terms (cs ++ later)) es (e ∷ [])
    ∙ ap (λ (xs : List Event). xs ++ event_of terms (cs ++ later) e ∷ []) (same_events ts terms cs later es kept h)
    ∙ ap (λ (x : Kind). map (event_of ts cs) es ++ record { reading = e.reading; number = number_of e; kind = x } ∷ []) is

-- with more terms and calls, each is still there
pub kind_grows : (a b c d : ℕ) (k : ShortKind) → a ≤ b → c ≤ d → KindWithin a c k → KindWithin b d k
kind_grows a b c d k le few h = ((λ shows. omega (arith, le, h.0 shows)), λ takes. omega (arith, few, h.1 takes))

-- the same of lists that were made so
pub pushed_to : (ts terms : List (List ℕ)) (cs later calls : List Call) (es events : List ShortEvent) (e : ShortEvent) (k : Kind) →
    Keeps ts terms → calls ≡ cs ++ later → events ≡ es ++ e ∷ [] → kind_of terms calls e.kind ≡ k →
    All (λ x. KindWithin (length ts) (length cs) x.kind) es →
    map (event_of terms calls) events ≡ map (event_of ts cs) es ++ record { reading = e.reading; number = number_of e; kind = k } ∷ []
pushed_to ts terms cs later calls es events e k kept with_calls with_event is h =
    let same : kind_of terms (cs ++ later) e.kind ≡ k = subst (λ (xs : List Call). kind_of terms xs e.kind ≡ k) with_calls is in
    ap (λ (xs : List Call). map (event_of terms xs) events) with_calls
    ∙ ap (λ (xs : List ShortEvent). map (event_of terms (cs ++ later)) xs) with_event
    ∙ pushed ts terms cs later es e k kept same h

-- each event's term and call are there, those of the new one too
pub places_after : (ts terms : List (List ℕ)) (cs later calls : List Call) (es events : List ShortEvent) (e : ShortEvent) →
    Keeps ts terms → calls ≡ cs ++ later → events ≡ es ++ e ∷ [] → KindWithin (length terms) (length calls) e.kind →
    All (λ x. KindWithin (length ts) (length cs) x.kind) es → All (λ x. KindWithin (length terms) (length calls) x.kind) events
places_after ts terms cs later calls es events e kept with_calls with_event within h =
    let P : ShortEvent → Type 0 = λ x. KindWithin (length terms) (length calls) x.kind in
    let more_calls : length cs ≤ length calls = omega (arith, ap length with_calls, length-append cs later) in
    let before : All P es = λ i d b. kind_grows (length ts) (length terms) (length cs) (length calls) (get_or es i d).kind kept.0 more_calls (h i d b) in
    subst (λ (xs : List ShortEvent). All P xs) (sym with_event)
    (All-append P es (e ∷ []) before (All-cons P e [] within (All-nil P)))

-- the number of an event is kept, where it says whether there is one
pub kept_number : (reading n : ℕ) (o : Option ℕ) (k : ShortKind) → n ≡ unwrap_or o 0 → k.starts ≡ is_some o → number_of (record { reading = reading; number = n; kind = k }) ≡ o
kept_number reading n None k is starts = ap (λ (b : Bool). if b then Some n else None) starts
kept_number reading n (Some m) k is starts = ap (λ (b : Bool). if b then Some n else None) starts ∙ ap (λ (x : ℕ). Some x) is
