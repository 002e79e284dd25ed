use Rattle.std.proofs.Common.{◌≡◌, Ok, [], ◌∷◌, ◌++◌, get_or, sym, ◌∙◌, rules}
use Rattle.otp_file.proofs.ChildLemmas.{faults_from_first, fault_passed, spec_passed, all_read}
use Rattle.otp_file.specs.Children.{child_faults, spec_of}
use Rattle.otp_file.specs.Faults.{answer_of}
use Rattle.otp_file.proofs.supervisor.specs_of.Goals as goal
use Rattle.toml.specs.View.{view}

pub loop-index-init : goal.loop-index-init
loop-index-init c = record {
  faults = faults_from_first c.args.values.now;
  specs = rw c.new-specs.ensures.items;
}

pub loop-index-preserved : goal.loop-index-preserved
loop-index-preserved c =
    let vs = c.args.values.now in
    let i = c.loop-index.index in
    let v = c.index-values-index.result in
    let read : answer_of (child_faults i (view (get_or vs i v))) (spec_of (view (get_or vs i v))) ≡ Ok c.in_ok-spec.spec =
    rw (← c.index-values-index.is) (sym c.child_at.ensures ∙ c.in_ok-spec.was) in
    let pushed : c.push.new.self.items ≡ c.loop-index.specs.items ++ c.in_ok-spec.spec ∷ [] = search rules in
    record {
      faults = fault_passed vs i v (spec_of (view (get_or vs i v))) c.in_ok-spec.spec c.loop-index-test.true c.loop-index.invariant.faults read;
      specs = rw pushed (spec_passed vs i v c.loop-index.specs.items c.in_ok-spec.spec c.loop-index-test.true c.loop-index.invariant.specs read);
    }

pub returns-clause-specs : goal.returns-clause-specs
returns-clause-specs c =
    all_read c.args.values.now c.loop-index.index c.loop-index.specs.items c.loop-index-test.false
    c.loop-index.invariant.faults c.loop-index.invariant.specs
