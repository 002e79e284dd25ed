-- The answers that an event gives are those that its orders tell of.
use Rattle.std.specs.Prelude.{◌≡◌, ℕ, ◌++◌, Bool, List, [], ◌∷◌, Option, None, Some, map, refl}
use Rattle.std.proofs.Common.{◌∙◌, ap, subst, sym, All}
use Rattle.std.specs.Prelude.{if◌then◌else◌}
use Rattle.std.proofs.lemmas.Bool.{eq-eqb}
use Rattle.std.proofs.lemmas.List.Elements.{All-cons, All-head, All-nil, All-tail}
use Rattle.std.proofs.lemmas.List.{append-nil, append_assoc, map-append}
use Rattle.std.proofs.lemmas.List.Elements.{filter_map-append}
use Rattle.std.specs.List.{cons_option, filter_map}
use Rattle.otp_reason.specs.declared.name.Name.{Name}
use Rattle.otp_spec.specs.declared.child.Shutdown.{Shutdown}
use Rattle.otp_spec.specs.declared.child.Shutdown.TheVariants.{BrutalKill, Milliseconds, Infinity}
use Rattle.otp_table.specs.declared.row.Row.{Row}
use Rattle.otp_rules.specs.declared.call.Answered.{Answered}
use Rattle.otp_rules.specs.declared.call.Reply.{Reply}
use Rattle.otp_rules.specs.declared.ending.Ending.{Ending}
use Rattle.otp_rules.specs.declared.event.Effect.{Effect}
use Rattle.otp_rules.specs.declared.event.Effect.TheVariants as effect
use Rattle.otp_rules.specs.declared.event.Item.TheVariants as item
use Rattle.otp_rules.specs.declared.event.Kind.{Kind}
use Rattle.otp_rules.specs.declared.event.Waiting.{Waiting}
use Rattle.otp_rules.specs.declared.event.Waiting.TheVariants as waiting
use Rattle.otp_rules.specs.State.{Outcome, answer, closed}
use Rattle.otp_rules.specs.Ends.{end_all, refusal, refuse_all, refused, sup_end_of}
use Rattle.otp_rules.specs.Stops.{stop_order}
use Rattle.otp_rules.specs.Step.{kill_order, late_number, open_rows, open_with, step, tick}
use Rattle.otp_rules.specs.Answers.{answered_in, AnswersKept, AnswersTold, IsKeptIn}
use Rattle.otp_rules.specs.Run.{answered, reply_of}
use Rattle.otp_rules.proofs.Steady.{Goes, Steady, step-steady}

abbrev calls_of : List Answered → List ℕ
calls_of given = map (λ (a : Answered). a.call) given

-- the answers since, and the orders that tell of them
abbrev Tells : List Answered → Outcome → Type 0
Tells before o = (given : List Answered) × (o.state.replies ≡ before ++ given) × (calls_of given ≡ filter_map answered_in o.orders)

-- an order that tells of no answer
silent : (before : List Answered) (e : Effect) (o : Outcome) → filter_map answered_in (e ∷ []) ≡ [] → Tells before o → Tells before (record o { orders = o.orders ++ e ∷ [] })
silent before e o none h =
    (h.0, h.1, h.2 ∙ sym (filter_map-append answered_in o.orders (e ∷ []) ∙ ap (λ (cs : List ℕ). filter_map answered_in o.orders ++ cs) none ∙ append-nil (filter_map answered_in o.orders)))

stop_silent : (id : Option Name) (p : ℕ) (how : Shutdown) → filter_map answered_in (stop_order id p how ∷ []) ≡ []
stop_silent id p BrutalKill = refl
stop_silent id p (Milliseconds m) = refl
stop_silent id p Infinity = refl

answer_tells : (before : List Answered) (c : ℕ) (r : Reply) (o : Outcome) → Tells before o → Tells before (answer c r o)
unfolding answer
answer_tells before c r o h =
    let one : Answered = record { call = c; reply = r } in (
      h.0 ++ one ∷ [],
      ap (λ (rs : List Answered). rs ++ one ∷ []) h.1 ∙ append_assoc before h.0 (one ∷ []),
      map-append (λ (a : Answered). a.call) h.0 (one ∷ []) ∙ ap (λ (cs : List ℕ). cs ++ c ∷ []) h.2 ∙ sym (filter_map-append answered_in o.orders (effect.Reply c ∷ [])),
    )

-- the waiting calls that are refused
refused_told : (ws : List Waiting) → calls_of (filter_map refused ws) ≡ filter_map answered_in (filter_map refusal ws)
refused_told [] = refl
refused_told (waiting.Item (item.Note n) ∷ ws) = refused_told ws
refused_told (waiting.Item (item.Call c x) ∷ ws) = ap (λ (cs : List ℕ). c ∷ cs) (refused_told ws)
refused_told (waiting.Retry k ∷ ws) = refused_told ws

refuse_tells : (before : List Answered) (o : Outcome) → Tells before o → Tells before (refuse_all o)
unfolding refuse_all
refuse_tells before o h =
    let more : List Answered = filter_map refused o.state.waiting in (
      h.0 ++ more,
      ap (λ (rs : List Answered). rs ++ more) h.1 ∙ append_assoc before h.0 more,
      map-append (λ (a : Answered). a.call) h.0 more ∙ ap (λ (cs : List ℕ). cs ++ calls_of more) h.2
          ∙ ap (λ (cs : List ℕ). filter_map answered_in o.orders ++ cs) (refused_told o.state.waiting)
          ∙ sym (filter_map-append answered_in o.orders (filter_map refusal o.state.waiting)),
    )

end_tells : (before : List Answered) (e : Ending) (o : Outcome) → Tells before o → Tells before (end_all e o)
unfolding end_all
end_tells before e o h =
    let refusing : Outcome = refuse_all (closed o) in
    silent before (effect.End (sup_end_of o.state.flags o.state.stamps e)) refusing refl (refuse_tells before (closed o) h)

kill_silent : (row : Row) (late : Option ℕ) (rest : List Effect) → filter_map answered_in rest ≡ [] → filter_map answered_in (cons_option (kill_order row late) rest) ≡ []
kill_silent row None rest h = h
kill_silent row (Some p) rest h = h

kills_silent : (last : ℕ) (rows : List Row) → filter_map answered_in (filter_map (λ (row : Row). kill_order row (late_number last row.state)) rows) ≡ []
kills_silent last [] = refl
kills_silent last (row ∷ rows) = kill_silent row (late_number last row.state) (filter_map (λ (r : Row). kill_order r (late_number last r.state)) rows) (kills_silent last rows)

tick_tells : (before : List Answered) (o : Outcome) → Tells before o → Tells before (tick o)
unfolding tick
tick_tells before o h =
    let kills : List Effect = filter_map (λ (row : Row). kill_order row (late_number o.state.last row.state)) o.state.rows in
    (h.0, h.1, h.2 ∙ sym (filter_map-append answered_in o.orders kills ∙ ap (λ (cs : List ℕ). filter_map answered_in o.orders ++ cs) (kills_silent o.state.last o.state.rows) ∙ append-nil (filter_map answered_in o.orders)))

open_tells : (before : List Answered) (own : ℕ) (o : Outcome) → Tells before o → Tells before (open_rows own o)
unfolding open_rows open_with
open_tells before own o h = h

tells_goes : (before : List Answered) → Goes (Tells before)
tells_goes before = record {
  rows = λ rows o h. h;
  waiting = λ items o h. h;
  left = λ ps ds o h. h;
  told = λ id p s o h. silent before (stop_order id p s) o (stop_silent id p s) h;
  started = λ id n o h. silent before (effect.Start id n) o refl h;
  closes = λ f o is stays h. h;
  answered = answer_tells before;
  ready = λ o h. silent before effect.Ready o refl h;
  ended = λ e o is h. end_tells before e o h;
}

tells_steady : (before : List Answered) (k : Kind) (b : Bool) → Steady k b (Tells before)
tells_steady before k b = record {
  goes = tells_goes before;
  opens = λ ps ds f o idle runs stays h. h;
  ends = λ ps e o other idle h. h;
  exceeds = λ ps o idle runs many h. h;
  restarts = λ ps ds o idle runs few h. h;
  ticks = tick_tells before;
  opened = λ own o is h. open_tells before own o h;
}

pub answers_told_law : AnswersTold
answers_told_law s e = step-steady (Tells s.replies) (tells_steady s.replies) s e ([], sym (append-nil s.replies), refl)

-- an answer was given
abbrev HasAnswer : List Answered → ℕ → Type 0
HasAnswer given c = (r : Reply) × (reply_of c given ≡ Some r)

own_answer : (a : Answered) (later : Option Reply) → (r : Reply) × (answered a.call a later ≡ Some r)
own_answer a (Some r) = (r, refl)
own_answer a None = (a.reply, ap (λ (b : Bool). if b then Some a.reply else None) (eq-eqb a.call a.call refl))

-- an earlier answer hides none
still_answered : (a : Answered) (c : ℕ) (later : List Answered) → HasAnswer later c → HasAnswer (a ∷ later) c
still_answered a c later h = (h.0, ap (answered c a) h.1)

each_answered : (cs : List ℕ) (a : Answered) (later : List Answered) → All (HasAnswer later) cs → All (HasAnswer (a ∷ later)) cs
each_answered cs a later h = λ k d b. still_answered a _ later (h k d b)

all_answered : (given : List Answered) → All (HasAnswer given) (calls_of given)
all_answered [] = All-nil (HasAnswer [])
all_answered (a ∷ later) = All-cons (HasAnswer (a ∷ later)) a.call (calls_of later) (own_answer a (reply_of a.call later)) (each_answered (calls_of later) a later (all_answered later))

behind_answered : (c : ℕ) (before given : List Answered) (r : Reply) → reply_of c given ≡ Some r → reply_of c (before ++ given) ≡ Some r
behind_answered c [] given r h = h
behind_answered c (a ∷ before) given r h = ap (answered c a) (behind_answered c before given r h)

-- the order's answer is kept
told_kept : (replies kept : List Answered) (e : Effect) (rest : List Effect) → All (λ c. reply_of c (replies ++ kept) ≡ reply_of c kept) (filter_map answered_in (e ∷ rest)) → IsKeptIn (replies ++ kept) kept e
told_kept replies kept (effect.Start _ _) rest h = tt
told_kept replies kept (effect.Ask _ _) rest h = tt
told_kept replies kept (effect.Kill _ _) rest h = tt
told_kept replies kept (effect.Reply c) rest h = All-head (λ c. reply_of c (replies ++ kept) ≡ reply_of c kept) c (filter_map answered_in rest) h
told_kept replies kept effect.Ready rest h = tt
told_kept replies kept (effect.End _) rest h = tt

rest_kept : (replies kept : List Answered) (e : Effect) (rest : List Effect) → All (λ c. reply_of c (replies ++ kept) ≡ reply_of c kept) (filter_map answered_in (e ∷ rest)) → All (λ c. reply_of c (replies ++ kept) ≡ reply_of c kept) (filter_map answered_in rest)
rest_kept replies kept (effect.Start _ _) rest h = h
rest_kept replies kept (effect.Ask _ _) rest h = h
rest_kept replies kept (effect.Kill _ _) rest h = h
rest_kept replies kept (effect.Reply c) rest h = All-tail (λ c. reply_of c (replies ++ kept) ≡ reply_of c kept) c (filter_map answered_in rest) h
rest_kept replies kept effect.Ready rest h = h
rest_kept replies kept (effect.End _) rest h = h

all_kept : (replies kept : List Answered) (orders : List Effect) → All (λ c. reply_of c (replies ++ kept) ≡ reply_of c kept) (filter_map answered_in orders) → All (IsKeptIn (replies ++ kept) kept) orders
all_kept replies kept [] h = All-nil (IsKeptIn (replies ++ kept) kept)
all_kept replies kept (e ∷ rest) h = All-cons (IsKeptIn (replies ++ kept) kept) e rest (told_kept replies kept e rest h) (all_kept replies kept rest (rest_kept replies kept e rest h))

both_answer : (c : ℕ) (replies before given : List Answered) → HasAnswer given c → reply_of c (replies ++ (before ++ given)) ≡ reply_of c (before ++ given)
both_answer c replies before given h =
    let one : reply_of c (before ++ given) ≡ Some h.0 = behind_answered c before given h.0 h.1 in
    behind_answered c replies (before ++ given) h.0 one ∙ sym one

pub answers_kept_law : AnswersKept
answers_kept_law replies s e =
    let told = answers_told_law s e in
    let given : List Answered = told.0 in
    let Q : List Answered → ℕ → Type 0 = λ kept c. reply_of c (replies ++ kept) ≡ reply_of c kept in
    let each : All (Q (s.replies ++ given)) (calls_of given) = λ k d b. both_answer _ replies s.replies given (all_answered given k d b) in
    let Each : List Answered → Type 0 = λ kept. All (Q kept) (calls_of given) in
    let Among : List ℕ → Type 0 = λ cs. All (Q (step s e).state.replies) cs in
    all_kept replies (step s e).state.replies (step s e).orders (subst Among told.2 (subst Each (sym told.1) each))
