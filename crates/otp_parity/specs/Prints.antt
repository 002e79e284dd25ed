-- What the definitions print for a transcript.
use Rattle.std.specs.Prelude.{◌≡◌, ◌⊎◌, ℕ, List, [], ◌∷◌, ◌++◌, Ok, Err, codes, decimal}
use Rattle.otp_file.specs.declared.fault.TreeFault.{TreeFault}
use Rattle.otp_file.specs.Faults.{code_of}
use Rattle.otp_file.specs.Files.{Says}
use Rattle.otp_file.specs.Trees.{Tree}
use Rattle.otp_sim.specs.declared.engine.SimEnd.TheVariants.{Done}
use Rattle.otp_sim.specs.Sim.{opened, sim_end, sim_text}

-- all of the lines were played on the supervisor of the tree, and its orders are this text
abbrev pub Plays : Tree → List ℕ → List ℕ → Type 0
Plays said lines text = (sim_text (opened said.flags said.specs) lines ≡ text) × (sim_end (opened said.flags said.specs) lines ≡ Done)

-- the line for a tree that is refused
abbrev pub refusal : TreeFault → List ℕ
refusal why = codes "tree refused: E" ++ decimal (code_of why) ++ 10 ∷ []

-- the file says a tree on which the lines print this text, or it is refused, which the text says
abbrev pub Prints : List ℕ → List ℕ → List ℕ → Type 0
Prints file lines text =
    ((said : Tree) × (Says file (Ok said) × Plays said lines text))
    ⊎ ((why : TreeFault) × (Says file (Err why) × (text ≡ refusal why)))
