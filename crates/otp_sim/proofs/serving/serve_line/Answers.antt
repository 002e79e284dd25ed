use Rattle.std.proofs.Common.{◌≡◌, ℕ, ◌+◌, Bool, List, subst, sym, ap, arith}
use Rattle.std.specs.Prelude.{if◌then◌else◌}
use Rattle.otp_sim.specs.Sim.{Sim}
use Rattle.otp_sim.specs.Runs.{Flushes, with_text}
use Rattle.otp_sim.proofs.Settled.{remaining}
use Rattle.otp_sim.proofs.Playing.{less_remains, line_flushed, over_after, playing_begun, playing_done, playing_flushed, playing_moved, playing_on, playing_part}
use Rattle.otp_sim.proofs.serving.serve_line.Goals as goal

pub returns-in_default-clause-err : goal.returns-in_default-clause-err
returns-in_default-clause-err g c =
    let same : c.begin_line.new.out.items ≡ c.args.ready.now.items = c.in_default.ensures.err in
    line_flushed c.out_of_memory.result c.args.line.now (with_text c.args.ready.now.items (g.S.Driven.sim c.args.driven.now)) _ _
    (subst (λ (bytes : List ℕ). Flushes c.out_of_memory.result (g.W.Output.seen c.args.output.now) (g.W.Output.seen c.out_of_memory.new.output) bytes) same c.out_of_memory.ensures.end)

pub loop-is_going-init : goal.loop-is_going-init
loop-is_going-init g c = record {
  playing = playing_begun (with_text c.args.ready.now.items (g.S.Driven.sim c.args.driven.now)) (g.S.Driven.sim c.begin_line.new.self)
      c.args.line.now (g.W.Output.seen c.args.output.now).bytes c.begin_line.new.out.items (c.in-Ok.ensures {u = tt}).ok;
  over = λ e. cc;
  lines = (c.in-Ok.ensures {u = tt}).lines;
  failures = omega arith;
}

pub returns-in_default-write_much-clause-err : goal.returns-in_default-write_much-clause-err
returns-in_default-write_much-clause-err g c = (
  playing_part (with_text c.args.ready.now.items (g.S.Driven.sim c.args.driven.now)) (g.S.Driven.sim c.loop-is_going.driven) c.args.line.now
      (g.W.Output.seen c.args.output.now).bytes (g.W.Output.seen c.loop-is_going.output).bytes (g.W.Output.seen c.write_much.new.output).bytes c.loop-is_going.ready.items c.loop-is_going.invariant.playing c.write_much.ensures.part,
  omega (arith, c.in_default-write_much.ensures.failed, c.loop-is_going.invariant.failures),
)

pub returns-in_default-go_on-clause-err : goal.returns-in_default-go_on-clause-err
returns-in_default-go_on-clause-err g c =
    let moved = playing_moved (with_text c.args.ready.now.items (g.S.Driven.sim c.args.driven.now)) (g.S.Driven.sim c.loop-is_going.driven) c.args.line.now
    (g.W.Output.seen c.args.output.now).bytes (g.W.Output.seen c.loop-is_going.output).bytes (g.W.Output.seen c.write_much.new.output).bytes c.loop-is_going.ready.items c.write_much.new.ready.items
    c.loop-is_going.invariant.playing (c.in-Ok-write_much.ensures {u = tt}).ok in
    let same : c.go_on.new.out.items ≡ c.write_much.new.ready.items = c.in_default-go_on.ensures.err in
    playing_flushed c.out_of_memory-in_default-go_on.result (with_text c.args.ready.now.items (g.S.Driven.sim c.args.driven.now)) (g.S.Driven.sim c.loop-is_going.driven) c.args.line.now
    (g.W.Output.seen c.args.output.now) (g.W.Output.seen c.write_much.new.output) (g.W.Output.seen c.out_of_memory-in_default-go_on.new.output) c.write_much.new.ready.items
    moved (omega (arith, c.loop-is_going.invariant.failures, c.write_much.ensures.kept))
    (subst (λ (bytes : List ℕ). Flushes c.out_of_memory-in_default-go_on.result (g.W.Output.seen c.write_much.new.output) (g.W.Output.seen c.out_of_memory-in_default-go_on.new.output) bytes) same c.out_of_memory-in_default-go_on.ensures.end)

pub loop-is_going-smaller : goal.loop-is_going-smaller
loop-is_going-smaller g c =
    let before : Sim = g.S.Driven.sim c.loop-is_going.driven in
    let going : remaining before + 1 ≡ (if c.loop-is_going.is_going then remaining before + 1 else 0) =
    ap (λ (b : Bool). if b then remaining before + 1 else 0) (sym c.loop-is_going-test.true) in
    let less = less_remains before (g.S.Driven.sim c.go_on.new.self) c.write_much.new.ready.items c.go_on.new.out.items c.in-Ok-go_on.went_on
    c.in-Ok-go_on.ensures.happened c.in-Ok-go_on.ensures.ok in
    rw (← going) less

pub loop-is_going-preserved : goal.loop-is_going-preserved
loop-is_going-preserved g c =
    let moved = playing_moved (with_text c.args.ready.now.items (g.S.Driven.sim c.args.driven.now)) (g.S.Driven.sim c.loop-is_going.driven) c.args.line.now
    (g.W.Output.seen c.args.output.now).bytes (g.W.Output.seen c.loop-is_going.output).bytes (g.W.Output.seen c.write_much.new.output).bytes c.loop-is_going.ready.items c.write_much.new.ready.items
    c.loop-is_going.invariant.playing (c.in-Ok-write_much.ensures {u = tt}).ok in
    record {
      playing = playing_on (with_text c.args.ready.now.items (g.S.Driven.sim c.args.driven.now)) (g.S.Driven.sim c.loop-is_going.driven) (g.S.Driven.sim c.go_on.new.self) c.args.line.now
          (g.W.Output.seen c.args.output.now).bytes (g.W.Output.seen c.write_much.new.output).bytes c.write_much.new.ready.items c.go_on.new.out.items
          moved c.in-Ok-go_on.ensures.ok;
      over = over_after (g.S.Driven.sim c.loop-is_going.driven) (g.S.Driven.sim c.go_on.new.self) c.write_much.new.ready.items c.go_on.new.out.items c.in-Ok-go_on.went_on
          c.in-Ok-go_on.ensures.happened c.in-Ok-go_on.ensures.ok;
      lines = omega (arith, c.in-Ok-go_on.ensures.lines, c.loop-is_going.invariant.lines);
      failures = omega (arith, c.loop-is_going.invariant.failures, c.write_much.ensures.kept);
    }

pub returns-clause-ok : goal.returns-clause-ok
returns-clause-ok g c =
    playing_done (with_text c.args.ready.now.items (g.S.Driven.sim c.args.driven.now)) (g.S.Driven.sim c.loop-is_going.driven) c.args.line.now
    (g.W.Output.seen c.args.output.now).bytes (g.W.Output.seen c.loop-is_going.output).bytes c.loop-is_going.ready.items c.loop-is_going.invariant.playing
    (c.loop-is_going.invariant.over c.loop-is_going-test.false)

pub returns-clause-lines : goal.returns-clause-lines
returns-clause-lines g c = c.loop-is_going.invariant.lines
