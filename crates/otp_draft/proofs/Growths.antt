-- What is true of each tree that is drawn up is so of one that has one more child.
use Rattle.std.proofs.Common.{◌≡◌, ◌+◌, ◌<◌, ◌≤◌, [], ◌∷◌, ◌++◌, All, length, arith, rules, false, length-append}
use Rattle.otp_job.specs.declared.body.Body.{Body}
use Rattle.otp_job.specs.declared.body.Body.TheVariants as body
use Rattle.otp_spec.specs.Flags.{is_simple}
use Rattle.otp_spec.specs.declared.child.ChildSpec.{ChildSpec}
use Rattle.otp_spec.specs.declared.limits.TheConstants.{MAX_CHILDREN, MAX_TABLES}
use Rattle.otp_draft.specs.Inside.{IsDraft}
use Rattle.otp_draft.specs.Plans.{IsNear}
use Rattle.otp_draft.specs.Trees.{Tree, plans_of, size, with_body, with_tree}
use Rattle.otp_draft.specs.declared.limits.TheConstants.{MAX_DEPTH}
use Rattle.otp_draft.specs.declared.paths.Nested.{Nested}

module _ {J S : Type 0} where
  -- the same of a tree
  abbrev pub IsDrawn : Tree J S → Type 0
  IsDrawn t = IsDraft t.flags t.specs t.bodies t.below t.nested t.depth

  pub drawn_with : (spec : ChildSpec) (runs : Body J S) (t : Tree J S) → IsDrawn t → length t.specs < MAX_CHILDREN → is_simple t.flags.strategy ≡ false →
      All IsNear (t.bodies ++ runs ∷ []) → IsDrawn (with_body spec runs t)
  drawn_with spec runs t here few plain near =
      let specs = length-append t.specs (spec ∷ []) in
      let bodies = length-append t.bodies (runs ∷ []) in
      record {
        tables = here.tables;
        nested_all = here.nested_all;
        levels = here.levels;
        children = omega (arith, specs, few);
        count = search rules;
        near = near;
      }

  pub drawn_above : (spec : ChildSpec) (sub t : Tree J S) → IsDrawn t → IsDrawn sub →
      length t.specs < MAX_CHILDREN → is_simple t.flags.strategy ≡ false → sub.depth < MAX_DEPTH → size t + size sub ≤ MAX_TABLES →
      All IsNear (t.bodies ++ body.Sup (size t) ∷ []) → IsDrawn (with_tree spec sub t)
  drawn_above spec sub t here there few plain deep many near =
      let one : Nested = record { id = spec.id; behind = size t } in
      let below = length-append t.below (plans_of sub) in
      let nested = length-append t.nested (one ∷ sub.nested) in
      let specs = length-append t.specs (spec ∷ []) in
      let bodies = length-append t.bodies (body.Sup (size t) ∷ []) in
      record {
        tables = omega (arith, here.tables, below, many);
        nested_all = omega (arith, here.nested_all, there.nested_all, below, nested);
        levels = omega (arith, here.levels, deep);
        children = omega (arith, specs, few);
        count = search rules;
        near = near;
      }
