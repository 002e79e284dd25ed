-- A run that was told with the supervisors that have a process.
use Rattle.std.specs.Prelude.{◌≡◌, ℕ, Bool, true, List, [], ◌∷◌, ◌++◌}
use Rattle.std.proofs.Common.{◌∙◌, ap}
use Rattle.otp_try.specs.declared.account.account.Account.{Account}
use Rattle.otp_trial.specs.Played.{Seated}
use Rattle.otp_try.specs.Verdict.{whole_verdict}
use Rattle.otp_try_pages.specs.Objects.{TellsBehind, is_played, run_members}
use Rattle.otp_try_pages.specs.Timeline.{TellsPage, timeline_page}

pub told : (front : List ℕ) (account : Account) (seats : List Seated) (running slice : List Bool) (text : List ℕ) → seats ≡ account.trial.seats
    → ((others : List Bool) × (running ≡ true ∷ others)) → slice ≡ running → text ≡ front ++ run_members account seats slice
    → TellsBehind front account text
told front account seats running slice text seats_are (others, running_are) same is = (
  others,
  is
      ∙ ap (λ (ss : List Seated). front ++ run_members account ss slice) seats_are
      ∙ ap (λ (rs : List Bool). front ++ run_members account account.trial.seats rs) (same ∙ running_are),
)

-- a run was told as a page with its verdict
pub paged : (name : List ℕ) (account : Account) (seats : List Seated) (played : Bool) (others : List Bool) (none verdict slice before page : List ℕ)
    → seats ≡ account.trial.seats → played ≡ is_played account.end → none ≡ [] → verdict ≡ none ++ whole_verdict played account.trial.clock account.trial.seats (true ∷ others)
    → slice ≡ verdict → before ≡ [] → page ≡ before ++ timeline_page name seats account slice → TellsPage name account page
paged name account seats played others none verdict slice before page seats_are played_is empty judged same fresh is = (
  others,
  is
      ∙ ap (λ (b : List ℕ). b ++ timeline_page name seats account slice) fresh
      ∙ ap (λ (ss : List Seated). timeline_page name ss account slice) seats_are
      ∙ ap (λ (v : List ℕ). timeline_page name account.trial.seats account v)
      (same ∙ judged ∙ ap (λ (n : List ℕ). n ++ whole_verdict played account.trial.clock account.trial.seats (true ∷ others)) empty
      ∙ ap (λ (b : Bool). whole_verdict b account.trial.clock account.trial.seats (true ∷ others)) played_is),
)
