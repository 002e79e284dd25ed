-- A scheduler that was just opened has done nothing.
use Rattle.std.proofs.Common.{◌≡◌, ℕ, ◌-◌, List, [], ◌∷◌, length, map, refl, ap, ◌∙◌}
use Rattle.otp_run.specs.Deques.{fresh_victim, stolen}
use Rattle.otp_run.specs.Opens.{opened}
use Rattle.otp_run.specs.Lists.{AllAt}
use Rattle.otp_run.specs.Schedulers.{SchedulerState, out, order_of}
use Rattle.otp_run.proofs.Places.{each_at}
use Rattle.otp_open.specs.Opens.{IsIdle}

nothing_stolen : (indexes : List ℕ) → stolen (map fresh_victim indexes) ≡ []
nothing_stolen [] = refl
nothing_stolen (k ∷ ks) = nothing_stolen ks

opened_out : (count index : ℕ) → out (opened count index) ≡ 0
unfolding out
opened_out count index = ap (λ l. length l - 0 - 0) (nothing_stolen (order_of index count))

pub all_idle : (count : ℕ) (schedulers : List SchedulerState) → AllAt (λ k s. s ≡ opened count k) schedulers → AllAt (IsIdle count) schedulers
all_idle count schedulers all = each_at (λ k s. s ≡ opened count k) (IsIdle count) schedulers all (λ j x within is. record {
  is = is;
  index = ap (λ (s : SchedulerState). s.own.index) is;
  none_out = ap out is ∙ opened_out count j;
  none_begun = ap (λ (s : SchedulerState). s.begun) is;
  none_ended = ap (λ (s : SchedulerState). s.ended) is;
})
