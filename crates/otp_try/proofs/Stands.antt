-- What stands at the end of a run, put together.
use Rattle.std.specs.Prelude.{◌≡◌, ℕ, Bool, true, List, ◌∷◌, ◌++◌, Result, Ok, Err, OnOk}
use Rattle.std.proofs.Common.{◌∙◌, ap}
use Rattle.otp_trial.specs.Played.{Seated, Stand, now_of}
use Rattle.otp_trial.specs.declared.clock.Clock.{Clock}
use Rattle.otp_trial.specs.declared.processes.inits.Init.{Init}
use Rattle.otp_trial.specs.declared.processes.plans.Hang.{Hang}
use Rattle.otp_trial.specs.declared.processes.plans.PlannedStart.{PlannedStart}
use Rattle.otp_try.specs.Summaries.{IsSummary, summary_text}
use Rattle.otp_try.specs.Verdict.{whole_verdict}

-- the supervisors of a trial were summed up
pub summed : (is_quiet is_played : Bool) (stand : Stand) (by : Clock) (now : ℕ) (shown : List Seated) (running read others : List Bool) (plans : List PlannedStart) (inits : List Init) (hanging : List Hang) (lines : List ℕ)
    → by ≡ stand.clock → now ≡ now_of stand → shown ≡ stand.seats → running ≡ true ∷ others → read ≡ running
    → lines ≡ summary_text is_quiet is_played by now shown read plans inits hanging → IsSummary stand lines
summed is_quiet is_played stand by now shown running read others plans inits hanging lines clock at same are is put = (
  is_quiet,
  is_played,
  others,
  plans,
  inits,
  hanging,
  put
      ∙ ap (λ (c : Clock). summary_text is_quiet is_played c now shown read plans inits hanging) clock
      ∙ ap (λ (t : ℕ). summary_text is_quiet is_played stand.clock t shown read plans inits hanging) at
      ∙ ap (λ (s : List Seated). summary_text is_quiet is_played stand.clock (now_of stand) s read plans inits hanging) same
      ∙ ap (λ (rs : List Bool). summary_text is_quiet is_played stand.clock (now_of stand) stand.seats rs plans inits hanging) (is ∙ are),
)

-- the verdict was written down
pub some_verdict : {T E : Type 0} (r : Result T E) (is_played : Bool) (stand : Stand) (by : Clock) (shown : List Seated) (running read others : List Bool) (x z : List ℕ)
    → by ≡ stand.clock → shown ≡ stand.seats → running ≡ true ∷ others → read ≡ running → OnOk r (z ≡ x ++ whole_verdict is_played by shown read)
    → OnOk r ((others : List Bool) × (z ≡ x ++ whole_verdict is_played stand.clock stand.seats (true ∷ others)))
some_verdict (Ok _) is_played stand by shown running read others x z clock same are is put = (
  others,
  put
      ∙ ap (λ (c : Clock). x ++ whole_verdict is_played c shown read) clock
      ∙ ap (λ (s : List Seated). x ++ whole_verdict is_played stand.clock s read) same
      ∙ ap (λ (rs : List Bool). x ++ whole_verdict is_played stand.clock stand.seats rs) (is ∙ are),
)
some_verdict (Err _) is_played stand by shown running read others x z clock same are is put = tt
