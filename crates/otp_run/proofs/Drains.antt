-- Pops by a pass that has all parts, one after another.
use Rattle.std.proofs.Common.{◌≡◌, ℕ, ◌+◌, ◌-◌, ◌≤◌, List, [], ◌∷◌, ◌++◌, length, map, refl, sym, ap, ◌∙◌, subst, arith, append_assoc, length-append}
use Rattle.std.specs.Prelude.{sum_by}
use Rattle.std.proofs.lemmas.List.{append-nil, length-map}
use Rattle.std.proofs.lemmas.List.Sums.{sum_by-append, sum_by-cons}
use Rattle.otp_job.specs.Processes.{ProcessState}
use Rattle.otp_run.specs.declared.rule.RunView.{RunView}
use Rattle.otp_run.specs.Rule.{AsOften, ticket_of, view_of, all_parts, IsEmptied, TakesLeft}
use Rattle.otp_run.specs.Deques.{OwnState}
use Rattle.otp_run.specs.Gathers.{Popped, DrainedInto, puts_of, taken_of}
use Rattle.otp_run.proofs.Places.{map-append}

module _ {J S : Type 0} where
  -- from the view v and the list old, so many pops led to the view w and the list now
  pub record Drains (v w : RunView) (old now : List (ProcessState J S)) (count : ℕ) : Type 0 where
    pub popped : List (ProcessState J S)
    pub listed : now ≡ old ++ popped
    pub known : w ≡ view_of v.parts v.put (v.taken ++ map ticket_of popped)
    pub counted : length popped ≡ count
    pub bounded : count ≤ length v.put - length v.taken

  pub whole_still : (v w : RunView) (old now : List (ProcessState J S)) (count : ℕ) → Drains v w old now count → v.parts ≡ all_parts → w.parts ≡ all_parts
  whole_still v w old now count d all = ap (λ (z : RunView). z.parts) d.known ∙ all

  pub drained : (v w : RunView) (old now : List (ProcessState J S)) (count : ℕ) → Drains v w old now count → v.parts ≡ all_parts → IsEmptied w → Popped v old now
  drained v w old now count d all s = record {
    popped = d.popped;
    listed = d.listed;
    as_often = subst (λ (z : RunView). AsOften z.put z.taken) d.known (s (whole_still v w old now count d all));
  }

  -- one pop more
  pub drains_more : (v w u : RunView) (old now new : List (ProcessState J S)) (p : ProcessState J S) (count : ℕ) → Drains v w old now count → v.parts ≡ all_parts → TakesLeft w (p.ticket ∷ []) u → new ≡ now ++ p ∷ [] → Drains v u old new (count + 1)
  drains_more v w u old now new p count d all t pushed =
      let known : u ≡ view_of v.parts v.put (v.taken ++ map ticket_of (d.popped ++ p ∷ [])) =
      t.0
      ∙ ap (λ (z : RunView). view_of z.parts z.put (z.taken ++ p.ticket ∷ [])) d.known
      ∙ ap (view_of v.parts v.put) (append_assoc v.taken (map ticket_of d.popped) (p.ticket ∷ []) ∙ ap (λ l. v.taken ++ l) (sym (map-append ticket_of d.popped (p ∷ [])))) in
      let many : length (d.popped ++ p ∷ []) ≡ count + 1 = (let c = d.counted in omega (arith, length-append d.popped (p ∷ []))) in
      record {
        popped = d.popped ++ p ∷ [];
        listed = pushed ∙ ap (λ l. l ++ p ∷ []) d.listed ∙ append_assoc old d.popped (p ∷ []);
        known = known;
        counted = many;
        bounded =
            let b = t.1 (whole_still v w old now count d all) in
            let x = ap (λ (z : RunView). length z.taken) known in
            let y = ap (λ (z : RunView). length z.put) known in
            let m = length-map (d.popped ++ p ∷ []) ticket_of in
            omega (arith, length-append v.taken (map ticket_of (d.popped ++ p ∷ [])));
      }

  -- how many more stand in the list
  pub length_now : (v w : RunView) (old now : List (ProcessState J S)) (count : ℕ) → Drains v w old now count → length now ≡ length old + count
  length_now v w old now count d = let l = ap (λ l. length l) d.listed in let c = d.counted in omega (arith, length-append old d.popped)

  pub none_yet : (v : RunView) (old : List (ProcessState J S)) → Drains v v old old 0
  none_yet v old = record {
    popped = [];
    listed = sym (append-nil old);
    known = ap (view_of v.parts v.put) (sym (append-nil v.taken));
    counted = refl;
    bounded = omega arith;
  }

  -- what came out of one deque
  pub of_one : (o : OwnState) (v : RunView) (old new : List (ProcessState J S)) → o.puts ≡ v.put → o.taken ≡ v.taken → Popped v old new → DrainedInto (o ∷ []) old new
  of_one o v old new puts taken p = record {
    left = p.popped;
    listed = p.listed;
    as_often = λ weight.
        let a = ap (sum_by weight) puts in
        let b = ap (sum_by weight) taken in
        let q = p.as_often weight in
        omega (arith, sum_by-cons (puts_of weight) o [], sum_by-cons (taken_of weight) o [], sum_by-append weight v.taken (map ticket_of p.popped));
  }
