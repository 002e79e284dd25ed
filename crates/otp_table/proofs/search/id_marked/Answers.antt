use Rattle.std.proofs.Common.{ℕ, ◌∙◌, subst, sym}
use Rattle.otp_table.specs.Keys.{fingerprint, id_key}
use Rattle.otp_table.specs.Marks.{IsUnder}
use Rattle.otp_table.specs.Rows.{has_id}
use Rattle.otp_table.proofs.Indexed.{found_first, id_tells, marked_within, none_marked, none_passes}
use Rattle.otp_table.proofs.search.id_marked.Goals as goal

pub has_id_at-requires : goal.has_id_at-requires
has_id_at-requires c = marked_within id_key c.fingerprint.result c.in-Some.place c.args.rows.now c.args.marks.now c.requires.marks c.in-Some.ensures

pub returns-in-None : goal.returns-in-None
returns-in-None c =
    let None : ℕ → Type 0 = λ n. (p : ℕ) → IsUnder n p c.args.marks.now → ⊥ in
    sym (none_marked id_key (has_id c.args.id.now) (fingerprint c.args.id.now) c.args.rows.now c.args.marks.now c.requires.marks (id_tells c.args.id.now) (subst None c.fingerprint.ensures c.in-None.ensures))

pub returns-then-has_id_at : goal.returns-then-has_id_at
returns-then-has_id_at c =
    sym (found_first id_key (has_id c.args.id.now) (fingerprint c.args.id.now) c.in-Some.place c.args.rows.now c.args.marks.now c.requires.rises c.requires.marks (id_tells c.args.id.now)
    (subst (λ n. IsUnder n c.in-Some.place c.args.marks.now) c.fingerprint.ensures c.in-Some.ensures) (λ d. sym (c.has_id_at.ensures d) ∙ c.if-has_id_at.true))

pub returns-else-has_id_at : goal.returns-else-has_id_at
returns-else-has_id_at c =
    sym (none_passes id_key (has_id c.args.id.now) (fingerprint c.args.id.now) c.in-Some.place c.args.rows.now c.args.marks.now c.requires.rises c.requires.marks (id_tells c.args.id.now)
    (subst (λ n. IsUnder n c.in-Some.place c.args.marks.now) c.fingerprint.ensures c.in-Some.ensures) (λ d. sym (c.has_id_at.ensures d) ∙ c.if-has_id_at.false))
