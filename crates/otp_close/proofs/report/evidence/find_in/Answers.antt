use Rattle.std.proofs.Common.{◌≡◌, List, inr, subst}
use Rattle.std.specs.Prelude.{IfSome}
use Rattle.otp_bodies.specs.declared.told.ToldEnd.{ToldEnd}
use Rattle.otp_close.specs.Tellings.{IsFalseEnd, IsBorneOut, IsMismatchOf, IsThere}
use Rattle.otp_close.proofs.There.{if_some}
use Rattle.otp_close.proofs.report.evidence.find_in.Goals as goal

pub returns-in-None-clause-found : goal.returns-in-None-clause-found
returns-in-None-clause-found c =
    let Found : List ToldEnd → Type 0 = λ l. IfSome c.find_false_end.result (λ event. IsThere (λ (x : ToldEnd). (x.event ≡ event) × ¬ (IsBorneOut c.args.tables.now x)) l) in
    if_some (λ event. IsFalseEnd c.args.tables.now c.args.table.now event) (λ event. IsMismatchOf c.args.tables.now c.args.table.now event) (λ event is. inr is) c.find_false_end.result (subst Found c.as_slice.ensures.value c.find_false_end.ensures.found)
