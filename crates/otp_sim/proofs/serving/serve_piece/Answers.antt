use Rattle.std.proofs.Common.{arith, sym, subst, [], ◌==◌, false, length-drop, ◌≡◌, ◌-◌, ◌+◌, take, drop, length, ◌++◌}
use Rattle.std.proofs.lemmas.Grind.{common_steps}
use Rattle.std.proofs.lemmas.List.Elements.{All-nil}
use Rattle.otp_sim.specs.Runs.{NoEnd}
use Rattle.otp_sim.proofs.Progress.{ran_start, part_no_end, rest_no_end, flushed, next_ends, next_ran}
use Rattle.otp_sim.proofs.serving.serve_piece.Goals as goal

pub loop-end-init : goal.loop-end-init
loop-end-init g c = record {
  ran = ran_start (g.S.Driven.sim c.args.driven.now) _ c.args.ready.now.items _;
  kept = c.requires.kept;
  lines = omega arith;
  failures = omega arith;
}

pub serve_next-requires-clause-kept : goal.serve_next-requires-clause-kept
serve_next-requires-clause-kept g c =
    part_no_end c.loop-end.kept.items c.loop-end.rest.now c.in-Some.end (sym c.in-Some.ensures.found) c.loop-end.invariant.kept

pub returns-in-Err-clause-err : goal.returns-in-Err-clause-err
returns-in-Err-clause-err g c =
    next_ends c.in-Err.why _ (g.S.Driven.sim c.loop-end.driven) _ _ _ c.loop-end.ready.items _ c.loop-end.kept.items c.loop-end.rest.now
    c.in-Some.end (sym c.in-Some.ensures.found) c.loop-end.invariant.ran c.loop-end.invariant.failures c.in-Err.ensures.err

pub loop-end-preserved : goal.loop-end-preserved
loop-end-preserved g c =
    let done = c.in_default-serve_next.ensures {u = tt} in
    let empty : c.serve_next.new.kept.items ≡ [] = done.empty in
    let same : take (length c.loop-end.rest.now - (c.in-Some.end + 1)) (drop (c.in-Some.end + 1) c.loop-end.rest.now) ≡ drop (c.in-Some.end + 1) c.loop-end.rest.now =
    grind (arith, common_steps) in
    record {
      ran = next_ran _ (g.S.Driven.sim c.loop-end.driven) (g.S.Driven.sim c.serve_next.new.driven) _ _ _
          c.loop-end.ready.items c.serve_next.new.ready.items _ c.loop-end.kept.items c.serve_next.new.kept.items c.loop-end.rest.now _
          c.in-Some.end (sym c.in-Some.ensures.found) c.loop-end.invariant.ran done.ok empty same;
      kept = subst NoEnd (sym empty) (All-nil (λ byte. (byte == 10) ≡ false));
      lines = rw same (omega (arith, done.lines, c.in-Some.ensures.inside, c.loop-end.invariant.lines, length-drop (c.in-Some.end + 1) c.loop-end.rest.now));
      failures = omega (arith, done.failures, c.loop-end.invariant.failures);
    }

pub returns-in_default-extend_from_slice-clause-err : goal.returns-in_default-extend_from_slice-clause-err
returns-in_default-extend_from_slice-clause-err g c =
    flushed c.out_of_memory.result _ (g.S.Driven.sim c.loop-end.driven) _ _ _ c.loop-end.ready.items _ _
    c.loop-end.invariant.ran c.loop-end.invariant.failures c.out_of_memory.ensures.end

pub returns-clause-no_end : goal.returns-clause-no_end
returns-clause-no_end g c =
    let whole : c.extend_from_slice.new.self.items ≡ c.loop-end.kept.items ++ c.loop-end.rest.now = c.in-Ok.ensures.items in
    subst NoEnd (sym whole) (rest_no_end c.loop-end.kept.items c.loop-end.rest.now (sym c.in_default.ensures.found) c.loop-end.invariant.kept)
