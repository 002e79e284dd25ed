-- Lines that were played one after the other.
use Rattle.std.specs.Prelude.{◌≡◌, ℕ, true, Ok, List, [], ◌∷◌, ◌++◌, refl}
use Rattle.std.proofs.Common.{◌∙◌, ap, append_assoc, append-nil, subst, sym}
use Rattle.otp_try.specs.Accounts.{Adds, IsAccount, IsPlayed, RunsOn, StandsSo}
use Rattle.otp_try.specs.declared.account.account.Account.{Account}
use Rattle.otp_try.specs.declared.account.account.Played.{Played}
use Rattle.otp_file.specs.Trees.{Tree}
use Rattle.otp_rules.specs.declared.event.Kind.TheVariants as kind
use Rattle.otp_script.specs.Lines.{Saying, saying_in}
use Rattle.otp_trial.specs.Played.{IsPlanted, Seated, Stand, TellsFirst, at_start}
use Rattle.otp_trial.specs.Steps.{TellsTimes}
use Rattle.otp_trial.specs.declared.trial.ActionEnd.{ActionEnd}
use Rattle.otp_trial.specs.declared.clock.Clock.{Clock}

pub runs_on : (old : Stand) (ones : List Played) (mid : Stand) (more : List Played) (new : Stand)
    → RunsOn old ones mid → RunsOn mid more new → RunsOn old (ones ++ more) new
runs_on old [] mid more new same runs = subst (λ (s : Stand). RunsOn s more new) same runs
runs_on old (one ∷ ones) mid more new (next, (is, rest)) runs = (next, (is, runs_on next ones mid more new rest runs))

-- none
pub adds_none : (seats : Stand) (lines : List Played) → Adds seats lines seats lines
adds_none seats lines = ([], (refl, sym (append-nil lines)))

-- one
pub adds_one : (old : Stand) (before : List Played) (new : Stand) (after : List Played) (one : Played) → IsPlayed old one new
    → after ≡ before ++ one ∷ [] → Adds old before new after
adds_one old before new after one is put = (one ∷ [], ((new, (is, refl)), put))

-- some, and then others
pub adds_more : (old : Stand) (before : List Played) (mid : Stand) (between : List Played) (new : Stand) (after : List Played)
    → Adds old before mid between → Adds mid between new after → Adds old before new after
adds_more old before mid between new after (ones, (ran, is)) (more, (runs, then)) =
    (ones ++ more, (runs_on old ones mid more new ran runs, then ∙ ap (λ (ls : List Played). ls ++ more) is ∙ append_assoc before ones more))

-- a line was played: what it did was told on an empty sheet
pub played : (said : Saying) (line : List ℕ) (end : ActionEnd) (old mid new : Stand) (one : Played) (before told : List ℕ) → saying_in line ≡ Ok said → mid ≡ old → before ≡ []
    → TellsTimes said end mid new before told → one.line.items ≡ line → one.told.items ≡ told → one.outcome.taken ≡ end → StandsSo one new → IsPlayed old one new
played said line end old mid new one before told says same empty tells text is came stands =
    let own : TellsTimes said end old new before told = subst (λ (s : Stand). TellsTimes said end s new before told) same tells in
    let all : TellsTimes said end old new [] told = subst (λ (t : List ℕ). TellsTimes said end old new t told) empty own in
    let kept : TellsTimes said end old new [] one.told.items = subst (λ (t : List ℕ). TellsTimes said end old new [] t) (sym is) all in
    let of_line : saying_in one.line.items ≡ Ok said = subst (λ (l : List ℕ). saying_in l ≡ Ok said) (sym text) says in
    ((said, (of_line, subst (λ (e : ActionEnd). TellsTimes said e old new [] one.told.items) (sym came) kept)), stands)

-- a run that was kept, from its opening and its lines
pub account_is : (tree : Tree) (planted : List Seated) (clock : Clock) (opened : Stand) (account : Account) (before told : List ℕ) (none : List Played) → before ≡ [] → none ≡ []
    → IsPlanted true tree planted → TellsFirst 0 (kind.Opened 0) (at_start clock planted) opened before told → account.opening.told.items ≡ told
    → StandsSo account.opening opened → Adds opened none account.trial account.lines.items → IsAccount tree account
account_is tree planted clock opened account before told none empty nothing is opens told_is stands (more, (ran, lines_are)) =
    let own : TellsFirst 0 (kind.Opened 0) (at_start clock planted) opened [] told =
    subst (λ (t : List ℕ). TellsFirst 0 (kind.Opened 0) (at_start clock planted) opened t told) empty opens in
    let all : account.lines.items ≡ more = lines_are ∙ ap (λ (ls : List Played). ls ++ more) nothing in
    record {
      planted = planted;
      is = is;
      clock = clock;
      opened = opened;
      opens = subst (λ (t : List ℕ). TellsFirst 0 (kind.Opened 0) (at_start clock planted) opened [] t) (sym told_is) own;
      stands = stands;
      ran = subst (λ (ls : List Played). RunsOn opened ls account.trial) (sym all) ran;
    }
