use Rattle.std.specs.Prelude.{ℕ, Bool, List}

-- the restarts of one supervisor (Supervisor Behaviour, Maximum Restart Intensity)
pub record WindowView : Type 0 where
  -- how many restarts a period may have
  pub intensity : ℕ
  -- in seconds
  pub period : ℕ
  -- all restarts since the window was made or cleared, in milliseconds
  pub stamps : List ℕ
  -- the next restart takes no memory
  pub reserved : Bool
