use Rattle.std.proofs.Common.{◌≡◌, ℕ, ◌++◌, ◌∙◌, List, [], Err, arith, subst, sym, vec_len}
use Rattle.std.proofs.lemmas.Bool.{eqb-true}
use Rattle.otp_sim.specs.Runs.{LineEnds, NoEnd, Played, with_text}
use Rattle.otp_sim.proofs.Progress.{line_ran, line_ran_where, line_piece, line_piece_where, no_bytes, piece_flushed}
use Rattle.otp_sim.proofs.serving.serve_next.Goals as goal

pub returns-then-is_empty-clause-ok : goal.returns-then-is_empty-clause-ok
returns-then-is_empty-clause-ok g c =
    let zero : vec_len c.args.kept.now ≡ 0 = eqb-true _ _ (sym (c.if-is_empty.ensures {u = tt})) in
    let empty : c.args.kept.now.items ≡ [] = no_bytes c.args.kept.now.items (omega (arith, zero, c.args.kept.now.ok.0)) in
    let none : NoEnd c.args.part.now = subst (λ (bytes : List ℕ). NoEnd (bytes ++ c.args.part.now)) empty c.requires.kept in
    rw empty (line_ran_where c.serve_line.result (g.S.Driven.sim c.args.driven.now) (g.S.Driven.sim c.serve_line.new.driven) _ _
    c.args.ready.now.items c.serve_line.new.ready.items c.args.part.now none c.serve_line.ensures.ok)

pub returns-then-is_empty-clause-err : goal.returns-then-is_empty-clause-err
returns-then-is_empty-clause-err g c others =
    let zero : vec_len c.args.kept.now ≡ 0 = eqb-true _ _ (sym (c.if-is_empty.ensures {u = tt})) in
    let empty : c.args.kept.now.items ≡ [] = no_bytes c.args.kept.now.items (omega (arith, zero, c.args.kept.now.ok.0)) in
    let none : NoEnd c.args.part.now = subst (λ (bytes : List ℕ). NoEnd (bytes ++ c.args.part.now)) empty c.requires.kept in
    rw empty (line_piece_where c.serve_line.result (g.S.Driven.sim c.args.driven.now) _ _ c.args.ready.now.items c.args.part.now none c.serve_line.ensures.err others)

pub returns-in_default-clause-err : goal.returns-in_default-clause-err
returns-in_default-clause-err g c others =
    piece_flushed c.out_of_memory.result (g.S.Driven.sim c.args.driven.now) _ _ c.args.ready.now.items _ c.out_of_memory.ensures.end

pub returns-in-Err-clause-err : goal.returns-in-Err-clause-err
returns-in-Err-clause-err g c others =
    let line : c.as_slice.result.now ≡ c.args.kept.now.items ++ c.args.part.now = c.as_slice.ensures.value ∙ c.in-Ok.ensures.items in
    line_piece c.in-Err.why (g.S.Driven.sim c.args.driven.now) _ _ c.args.ready.now.items (c.args.kept.now.items ++ c.args.part.now) c.requires.kept
    (subst (λ (bytes : List ℕ). LineEnds (Err c.in-Err.why) (with_text c.args.ready.now.items (g.S.Driven.sim c.args.driven.now)) bytes
    (g.W.Output.seen c.args.output.now) (g.W.Output.seen c.serve_line-2.new.output))
    line c.in-Err.ensures.err) others

pub returns-clause-ok : goal.returns-clause-ok
returns-clause-ok g c others =
    let line : c.as_slice.result.now ≡ c.args.kept.now.items ++ c.args.part.now = c.as_slice.ensures.value ∙ c.in-Ok.ensures.items in
    line_ran (g.S.Driven.sim c.args.driven.now) (g.S.Driven.sim c.serve_line-2.new.driven) _ _
    c.args.ready.now.items c.serve_line-2.new.ready.items (c.args.kept.now.items ++ c.args.part.now) c.requires.kept
    (subst (λ (bytes : List ℕ). Played (with_text c.args.ready.now.items (g.S.Driven.sim c.args.driven.now)) (g.S.Driven.sim c.serve_line-2.new.driven) bytes
    (g.W.Output.seen c.args.output.now).bytes (g.W.Output.seen c.serve_line-2.new.output).bytes c.serve_line-2.new.ready.items)
    line (c.in_default-serve_line.ensures {u = tt}).ok) others
