-- Hands that are parted and joined again.
use Rattle.std.proofs.Common.{◌≡◌, ℕ, zero, suc, ◌<◌, List, [], ◌∷◌, ◌++◌, length, map, refl, sym, ap, ◌∙◌, subst, arith, append_assoc}
use Rattle.std.proofs.lemmas.List.{append-nil}
use Rattle.otp_run.specs.Schedulers.{SchedulerState}
use Rattle.otp_close.specs.declared.parting.Rest.{Rest}
use Rattle.otp_signals.specs.Counts.{Reading}
use Rattle.otp_inbox.specs.Tokens.{SenderState}
use Rattle.otp_bodies.specs.declared.letter.Message.{Message}
use Rattle.otp_hand.specs.Begun.{HasCredited}
use Rattle.otp_hand.specs.Ended.{HasEnded}
use Rattle.otp_hand.specs.Hands.{HandView, RunnerView, senders_of}
use Rattle.otp_close.specs.Partings.{hand_of, joined, ArePaired, IsPair, schedulers_of}
use Rattle.otp_close.specs.Settlings.{senders_in}

pub nothing_left : {A : Type 0} (xs : List A) → length xs ≡ 0 → xs ≡ []
nothing_left [] none = refl
nothing_left (x ∷ xs) none = absurd (omega (arith, none))

module _ {J S : Type 0} where
  -- a hand of what it runs processes with, its senders and its passes
  abbrev pub of_runner : RunnerView J S → List (SenderState Message) → List Reading → HandView J S
  of_runner w senders passes = record { scheduler = w.scheduler; senders = senders; turning = w.turning; waiting = w.waiting; resting = w.resting; unsent = w.unsent; refusals = w.refusals; passes = passes }

  pub credited_by : (v w : RunnerView J S) (senders : List (SenderState Message)) → v ≡ w → HasCredited w.scheduler senders → HasCredited v.scheduler senders
  credited_by v w senders is credited = subst (λ (r : RunnerView J S). HasCredited r.scheduler senders) (sym is) credited

  pub ended_by : (v w : RunnerView J S) (senders : List (SenderState Message)) → v ≡ w → HasEnded w.scheduler senders w.unsent → HasEnded v.scheduler senders v.unsent
  ended_by v w senders is ended = subst (λ (r : RunnerView J S). HasEnded r.scheduler senders r.unsent) (sym is) ended

module _ {N J S : Type 0} where
  pub joined-push : (ss : List SchedulerState) (rs : List (Rest N J S)) (s : SchedulerState) (r : Rest N J S) → length ss ≡ length rs → joined (ss ++ s ∷ []) (rs ++ r ∷ []) ≡ joined ss rs ++ hand_of s r ∷ []
  joined-push [] [] s r many = refl
  joined-push [] (x ∷ rs) s r many = absurd (omega (arith, many))
  joined-push (y ∷ ss) [] s r many = absurd (omega (arith, many))
  joined-push (y ∷ ss) (x ∷ rs) s r many = ap (λ l. hand_of y x ∷ l) (joined-push ss rs s r (omega (arith, many)))

  pub paired-push : (ss : List SchedulerState) (rs : List (Rest N J S)) (s : SchedulerState) (r : Rest N J S) → length ss ≡ length rs → IsPair s r → ArePaired ss rs → ArePaired (ss ++ s ∷ []) (rs ++ r ∷ [])
  paired-push [] [] s r many is paired = (is, tt)
  paired-push [] (x ∷ rs) s r many is paired = absurd (omega (arith, many))
  paired-push (y ∷ ss) [] s r many is paired = absurd paired
  paired-push (y ∷ ss) (x ∷ rs) s r many is paired = (paired.0, paired-push ss rs s r (omega (arith, many)) is paired.1)

  -- one more hand is parted
  pub parted-more : (ss ss' : List SchedulerState) (rs rs' : List (Rest N J S)) (s : SchedulerState) (r : Rest N J S) (h : HandView J S) (rest rest' all : List (HandView J S))
      → ss' ≡ ss ++ s ∷ [] → rs' ≡ rs ++ r ∷ [] → hand_of s r ≡ h → rest ≡ h ∷ rest' → length ss ≡ length rs → joined ss rs ++ rest ≡ all → joined ss' rs' ++ rest' ≡ all
  parted-more ss ss' rs rs' s r h rest rest' all one two is next many so_far =
      ap (λ l. joined l rs' ++ rest') one
      ∙ ap (λ l. joined (ss ++ s ∷ []) l ++ rest') two
      ∙ ap (λ l. l ++ rest') (joined-push ss rs s r many)
      ∙ append_assoc (joined ss rs) (hand_of s r ∷ []) rest'
      ∙ ap (λ l. joined ss rs ++ l) (ap (λ g. g ∷ rest') is ∙ sym next)
      ∙ so_far

  pub paired-more : (ss ss' : List SchedulerState) (rs rs' : List (Rest N J S)) (s : SchedulerState) (r : Rest N J S) → ss' ≡ ss ++ s ∷ [] → rs' ≡ rs ++ r ∷ [] → length ss ≡ length rs → IsPair s r → ArePaired ss rs → ArePaired ss' rs'
  paired-more ss ss' rs rs' s r one two many is paired =
      subst (λ l. ArePaired l rs') (sym one) (subst (λ l. ArePaired (ss ++ s ∷ []) l) (sym two) (paired-push ss rs s r many is paired))

  -- all are parted
  pub parted-all : (ss : List SchedulerState) (rs : List (Rest N J S)) (rest all : List (HandView J S)) → length rest ≡ 0 → joined ss rs ++ rest ≡ all → joined ss rs ≡ all
  parted-all ss rs rest all none so_far = sym (append-nil (joined ss rs)) ∙ ap (λ l. joined ss rs ++ l) (sym (nothing_left rest none)) ∙ so_far

  -- the schedulers of joined hands are those that were joined
  pub schedulers-joined : (ss : List SchedulerState) (rs : List (Rest N J S)) → ArePaired ss rs → schedulers_of (joined ss rs) ≡ ss
  schedulers-joined [] rs paired = refl
  schedulers-joined (s ∷ ss) [] paired = absurd paired
  schedulers-joined (s ∷ ss) (r ∷ rs) paired = ap (λ l. s ∷ l) (schedulers-joined ss rs paired.1)

  joined-cons : (ss ss' : List SchedulerState) (rs rs' : List (Rest N J S)) (s : SchedulerState) (r : Rest N J S) → ss ≡ s ∷ ss' → rs ≡ r ∷ rs' → joined ss rs ≡ hand_of s r ∷ joined ss' rs'
  joined-cons ss ss' rs rs' s r next next_too = ap (λ (l : List SchedulerState). joined l rs) next ∙ ap (λ (l : List (Rest N J S)). joined (s ∷ ss') l) next_too

  -- one more hand is joined again
  pub joined-more : (hands hands' all : List (HandView J S)) (ss ss' : List SchedulerState) (rs rs' : List (Rest N J S)) (s : SchedulerState) (r : Rest N J S) (h : HandView J S)
      → ss ≡ s ∷ ss' → rs ≡ r ∷ rs' → hands' ≡ hands ++ h ∷ [] → hand_of s r ≡ h → hands ++ joined ss rs ≡ all → hands' ++ joined ss' rs' ≡ all
  joined-more hands hands' all ss ss' rs rs' s r h next next_too more is so_far =
      ap (λ (l : List (HandView J S)). l ++ joined ss' rs') more
      ∙ append_assoc hands (h ∷ []) (joined ss' rs')
      ∙ ap (λ (g : HandView J S). hands ++ g ∷ joined ss' rs') (sym is)
      ∙ ap (λ (l : List (HandView J S)). hands ++ l) (sym (joined-cons ss ss' rs rs' s r next next_too))
      ∙ so_far

  -- the first two are a pair, and so are the others
  pub paired-cons : (ss ss' : List SchedulerState) (rs rs' : List (Rest N J S)) (s : SchedulerState) (r : Rest N J S) → ss ≡ s ∷ ss' → rs ≡ r ∷ rs' → ArePaired ss rs → ArePaired (s ∷ ss') (r ∷ rs')
  paired-cons ss ss' rs rs' s r next next_too paired =
      let First : List SchedulerState → Type 0 = λ l. ArePaired l rs in
      let Second : List (Rest N J S) → Type 0 = λ l. ArePaired (s ∷ ss') l in
      subst Second next_too (subst First next paired)

  -- a scheduler has its rest
  pub has-rest : (ss ss' : List SchedulerState) (rs : List (Rest N J S)) (s : SchedulerState) → ss ≡ s ∷ ss' → length rs ≡ 0 → ArePaired ss rs → ⊥
  has-rest ss ss' rs s next none paired =
      let First : List SchedulerState → Type 0 = λ l. ArePaired l rs in
      let Second : List (Rest N J S) → Type 0 = λ l. ArePaired (s ∷ ss') l in
      subst Second (nothing_left rs none) (subst First next paired)

  -- and their senders are those of the rests
  pub senders-joined : (ss : List SchedulerState) (rs : List (Rest N J S)) → ArePaired ss rs → length ss ≡ length rs → map senders_in rs ≡ map senders_of (joined ss rs)
  senders-joined [] [] paired many = refl
  senders-joined [] (r ∷ rs) paired many = absurd (omega (arith, many))
  senders-joined (s ∷ ss) [] paired many = absurd paired
  senders-joined (s ∷ ss) (r ∷ rs) paired many = ap (λ l. r.senders ∷ l) (senders-joined ss rs paired.1 (omega (arith, many)))
