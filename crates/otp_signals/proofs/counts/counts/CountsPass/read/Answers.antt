use Rattle.std.proofs.Common.{arith, sym, ap, ◌∙◌, ◌≡◌, ◌+◌, List, subst, map}
use Rattle.otp_rules.specs.declared.call.CountsNow.{CountsNow}
use Rattle.otp_signals.specs.Counts.{EndsWith, IsBeginning}
use Rattle.otp_signals.specs.Words.{counts_in}
use Rattle.otp_signals.proofs.CountsMoves.{reads, begins_counts, ends_counts}
use Rattle.otp_signals.proofs.counts.counts.CountsPass.read.Goals as goal

pub load-word-requires : goal.load-word-requires
load-word-requires c =
    let o = c.self.invariant in
    let i = c.self.inside in
    let is = ap (λ t. t.shared.table_id) c.deref.ensures in
    let words = ap (λ t. t.words) is in
    (o.0.0 ∙ sym is, omega (arith, o.0.1, words), reads _ _ i.seat.me.0 i.seat.me.1)

pub returns : goal.returns
returns c =
    let told = c.load-word.ensures.2 in
    let all = told.0 in
    let me = ap (λ m. m.0) told.2 in
    let seen : map counts_in c.load-word.new.seat.me.0.seen ≡ map counts_in all = ap (λ v. map counts_in v.seen) me in
    let was = c.self.view_is in
    record {
      word = c.load-word.ensures.0 ∙ ap (λ r. r.word) was;
      seen = subst (λ (x : List CountsNow × List CountsNow). IsBeginning x.0 x.1) (λ i. (ap (λ r. r.seen) was i, sym seen i)) (begins_counts c.self.inside.seat.me.0.seen all told.3);
      last = subst (λ (x : CountsNow × List CountsNow). EndsWith x.0 x.1) (λ i. (sym c.counts_in.ensures i, sym seen i)) (ends_counts c.load-word.result told.1 all told.4);
      reads = ap (λ v. v.reads) me ∙ ap (λ r. r.reads + 1) was;
    }
