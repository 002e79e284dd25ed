use Rattle.std.proofs.Common.{[], ◌≡◌, ℕ, ◌+◌, ◌<◌, ◌≤◌, inr, List, take, length, arith, subst, sym, refl, ap, ◌∙◌}
use Rattle.std.proofs.lemmas.List.{length-take-le}
use Rattle.std.specs.Io.KnownBytes.{Consumes}
use Rattle.otp_sim.proofs.Exits.{stands_start, stands_written, stands_told, flush_exit, output_exit, ended_exit, next_exit, input_exit, stands_end, end_exit, long_exit, stands_served, piece_exit, keeps_known, written_over}
use Rattle.otp_sim.proofs.engine.serve.Goals as goal

pub returns-in_default : goal.returns-in_default
returns-in_default g c =
    flush_exit c.out_of_memory.result _ (g.S.Driven.sim c.args.driven.now) _ _ c.args.ready.now.items [] 0 _
    (stands_start (g.S.Driven.sim c.args.driven.now) _ c.args.ready.now.items [] refl c.requires) c.out_of_memory.ensures.end

pub loop-taken-init : goal.loop-taken-init
loop-taken-init g c = record {
  stands = stands_start (g.S.Driven.sim c.args.driven.now) _ c.args.ready.now.items c.new-kept.result.items c.new-kept.ensures.items c.requires;
  buffer = c.in-Ok.ensures;
}

pub returns-in-Some : goal.returns-in-Some
returns-in-Some g c =
    ended_exit c.finish.result _ (g.S.Driven.sim c.loop-taken.driven) _ _ c.loop-taken.ready.items c.loop-taken.kept.items c.loop-taken.taken c.in-Some.stop _
    c.loop-taken.invariant.stands c.in-Some.ensures c.finish.ensures.kept c.finish.ensures.end

pub returns-in-Err : goal.returns-in-Err
returns-in-Err g c =
    next_exit c.in-Err.end _ (g.S.Driven.sim c.loop-taken.driven) _ _ _ c.loop-taken.ready.items c.read_next.new.ready.items c.loop-taken.kept.items _ c.loop-taken.taken
    c.loop-taken.invariant.stands c.in-Err.ensures.next

pub returns-then-count-eq0 : goal.returns-then-count-eq0
returns-then-count-eq0 g c =
    let next = c.in-Ok-read_next.ensures.next in
    let told = stands_told _ (g.S.Driven.sim c.loop-taken.driven) _ _ _ c.loop-taken.ready.items c.read_next.new.ready.items c.loop-taken.kept.items c.loop-taken.taken
    c.loop-taken.invariant.stands next.0 in
    let stands = stands_end _ (g.S.Driven.sim c.loop-taken.driven) _ _ c.read_next.new.ready.items c.loop-taken.kept.items c.loop-taken.taken _ told
    (take c.in-Ok-read_next.count c.read_next.new.buffer) (ap (λ n. take n c.read_next.new.buffer) c.if-count-eq0.true) next.1.bytes next.1.failures in
    let room : 0 < length c.read_next.new.buffer = omega (arith, c.loop-taken.invariant.buffer, c.deref_mut.ensures.len, c.read_next.auto.buffer) in
    end_exit c.serve_last.result _ (g.S.Driven.sim c.loop-taken.driven) _ _ c.read_next.new.ready.items c.loop-taken.kept.items c.deref.result.now c.loop-taken.taken _
    stands (next.1.end c.if-count-eq0.true room) c.deref.ensures.value c.serve_last.ensures

pub returns-in-Err-serve_piece : goal.returns-in-Err-serve_piece
returns-in-Err-serve_piece g c =
    let next = c.in-Ok-read_next.ensures.next in
    let told = stands_told _ (g.S.Driven.sim c.loop-taken.driven) _ _ _ c.loop-taken.ready.items c.read_next.new.ready.items c.loop-taken.kept.items c.loop-taken.taken
    c.loop-taken.invariant.stands next.0 in
    let buffer : List ℕ = c.deref-in-loop-taken.result.now in
    let size : c.loop-taken.buffer.len ≡ length c.read_next.new.buffer = omega (arith, c.deref_mut.ensures.len, c.read_next.auto.buffer) in
    let same : buffer ≡ c.read_next.new.buffer = c.deref-in-loop-taken.ensures.value ∙ written_over c.loop-taken.buffer.len c.read_next.new.buffer _ size in
    let piece : List ℕ = take c.in-Ok-read_next.count buffer in
    let more = subst (λ (bytes : List ℕ). Consumes (g.R.Input.seen c.loop-taken.input).left (g.R.Input.seen c.read_next.new.input).left (take c.in-Ok-read_next.count bytes))
    (sym same) next.1.bytes in
    piece_exit c.in-Err-serve_piece.end _ (g.S.Driven.sim c.loop-taken.driven) _ _ _ c.read_next.new.ready.items c.loop-taken.kept.items piece c.loop-taken.taken
    told more c.in-Err-serve_piece.ensures.err

pub returns-then-len-gt-LONGEST_LINE : goal.returns-then-len-gt-LONGEST_LINE
returns-then-len-gt-LONGEST_LINE g c =
    let next = c.in-Ok-read_next.ensures.next in
    let told = stands_told _ (g.S.Driven.sim c.loop-taken.driven) _ _ _ c.loop-taken.ready.items c.read_next.new.ready.items c.loop-taken.kept.items c.loop-taken.taken
    c.loop-taken.invariant.stands next.0 in
    let buffer : List ℕ = c.deref-in-loop-taken.result.now in
    let size : c.loop-taken.buffer.len ≡ length c.read_next.new.buffer = omega (arith, c.deref_mut.ensures.len, c.read_next.auto.buffer) in
    let same : buffer ≡ c.read_next.new.buffer = c.deref-in-loop-taken.ensures.value ∙ written_over c.loop-taken.buffer.len c.read_next.new.buffer _ size in
    let piece : List ℕ = take c.in-Ok-read_next.count buffer in
    let more = subst (λ (bytes : List ℕ). Consumes (g.R.Input.seen c.loop-taken.input).left (g.R.Input.seen c.read_next.new.input).left (take c.in-Ok-read_next.count bytes))
    (sym same) next.1.bytes in
    let bound : c.in-Ok-read_next.count ≤ length buffer = rw same c.in-Ok-read_next.ensures.bound.0 in
    let counted : c.loop-taken.taken + c.in-Ok-read_next.count ≡ c.loop-taken.taken + length piece = omega (arith, length-take-le c.in-Ok-read_next.count buffer bound) in
    let done = c.in_default-serve_piece.ensures {u = tt} in
    let stands = stands_served _ (g.S.Driven.sim c.loop-taken.driven) (g.S.Driven.sim c.serve_piece.new.driven) _ _ _
    c.read_next.new.ready.items c.serve_piece.new.ready.items c.loop-taken.kept.items c.serve_piece.new.kept.items piece
    c.loop-taken.taken (c.loop-taken.taken + c.in-Ok-read_next.count) told counted more next.1.failures
    done.ok done.no_end done.lines c.serve_piece.ensures.failures in
    let long : 512 < length c.serve_piece.new.kept.items = omega (arith, c.if-len-gt-LONGEST_LINE.true, c.len.ensures, c.serve_piece.new.kept.ok.0) in
    long_exit c.serve_last-then-len-gt-LONGEST_LINE.result _ (g.S.Driven.sim c.serve_piece.new.driven) _ _ c.serve_piece.new.ready.items c.serve_piece.new.kept.items
    c.deref-then-len-gt-LONGEST_LINE.result.now (c.loop-taken.taken + c.in-Ok-read_next.count) _ stands long
    c.deref-then-len-gt-LONGEST_LINE.ensures.value c.serve_last-then-len-gt-LONGEST_LINE.ensures

pub loop-taken-preserved : goal.loop-taken-preserved
loop-taken-preserved g c =
    let next = c.in-Ok-read_next.ensures.next in
    let told = stands_told _ (g.S.Driven.sim c.loop-taken.driven) _ _ _ c.loop-taken.ready.items c.read_next.new.ready.items c.loop-taken.kept.items c.loop-taken.taken
    c.loop-taken.invariant.stands next.0 in
    let buffer : List ℕ = c.deref-in-loop-taken.result.now in
    let size : c.loop-taken.buffer.len ≡ length c.read_next.new.buffer = omega (arith, c.deref_mut.ensures.len, c.read_next.auto.buffer) in
    let same : buffer ≡ c.read_next.new.buffer = c.deref-in-loop-taken.ensures.value ∙ written_over c.loop-taken.buffer.len c.read_next.new.buffer _ size in
    let piece : List ℕ = take c.in-Ok-read_next.count buffer in
    let more = subst (λ (bytes : List ℕ). Consumes (g.R.Input.seen c.loop-taken.input).left (g.R.Input.seen c.read_next.new.input).left (take c.in-Ok-read_next.count bytes))
    (sym same) next.1.bytes in
    let bound : c.in-Ok-read_next.count ≤ length buffer = rw same c.in-Ok-read_next.ensures.bound.0 in
    let counted : c.loop-taken.taken + c.in-Ok-read_next.count ≡ c.loop-taken.taken + length piece = omega (arith, length-take-le c.in-Ok-read_next.count buffer bound) in
    let done = c.in_default-serve_piece.ensures {u = tt} in
    let stands = stands_served _ (g.S.Driven.sim c.loop-taken.driven) (g.S.Driven.sim c.serve_piece.new.driven) _ _ _
    c.read_next.new.ready.items c.serve_piece.new.ready.items c.loop-taken.kept.items c.serve_piece.new.kept.items piece
    c.loop-taken.taken (c.loop-taken.taken + c.in-Ok-read_next.count) told counted more next.1.failures
    done.ok done.no_end done.lines c.serve_piece.ensures.failures in
    record { stands = stands; buffer = c.loop-taken.invariant.buffer }

pub returns-in_default-write_out : goal.returns-in_default-write_out
returns-in_default-write_out g c =
    output_exit _ _ _ _ c.loop-taken.ready.items c.loop-taken.kept.items c.loop-taken.taken _ c.loop-taken.invariant.stands
    c.write_out.ensures.part c.in_default-write_out.ensures.failed

pub returns : goal.returns
returns g c =
    let written = stands_written _ (g.S.Driven.sim c.loop-taken.driven) _ _ c.loop-taken.ready.items c.write_out.new.ready.items c.loop-taken.kept.items c.loop-taken.taken _
    c.loop-taken.invariant.stands (c.in-Ok-write_out.ensures {u = tt}).ok (c.in-Ok-write_out.ensures {u = tt}).empty c.write_out.ensures.kept in
    input_exit _ (g.S.Driven.sim c.loop-taken.driven) _ _ c.write_out.new.ready.items c.loop-taken.kept.items c.loop-taken.taken _
    written (c.in-Ok-write_out.ensures {u = tt}).empty (keeps_known (g.R.Input.seen c.loop-taken.input).left) (inr c.loop-taken-test.false)
