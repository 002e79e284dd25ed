-- What comes of the runs of trees that a program is asked for (own).
use Rattle.std.specs.Prelude.{◌≡◌, ℕ, Bool, List}
use Rattle.otp_sim.specs.Devices.{Written}
use Rattle.otp_exit.specs.declared.ending.ProgramEnd.{ProgramEnd}
use Rattle.otp_exit.specs.declared.ending.ProgramEnd.TheVariants.{RunsNoTrees}

-- what a program does with a tree: what is known of the bytes of its file, whether an object is written, the name of the file, for a
-- run by turns whether counts are written, how the program ends, and what was written before and after
pub record TreeRuns : Type 1 where
  pub by_turns : (List ℕ → Type 0) → Bool → List ℕ → Bool → ProgramEnd → Written → Written → Type 0
  pub for_a_time : (List ℕ → Type 0) → Bool → List ℕ → ProgramEnd → Written → Written → Type 0

-- a program that runs none ends so, and writes nothing
abbrev pub no_trees : TreeRuns
no_trees = record {
  by_turns = λ Holds is_json name counted ending old new. (ending ≡ RunsNoTrees) × (new ≡ old);
  for_a_time = λ Holds is_json name ending old new. (ending ≡ RunsNoTrees) × (new ≡ old);
}
