-- Another intensity of one supervisor with which the root survives crashes of a child (own).
use Rattle.std.specs.Prelude.{◌≡◌, ℕ, ◌+◌, ◌<◌, ◌≤◌, Option, Some}
use Rattle.otp_file.specs.Trees.{Tree}
use Rattle.otp_costs.specs.Costs.{verdict_of}
use Rattle.otp_costs.specs.Falls.{Bears}
use Rattle.otp_costs.specs.declared.limits.fate.Fate.{Fate}
use Rattle.otp_costs.specs.declared.limits.steady.Verdict.{Verdict}
use Rattle.otp_costs.specs.declared.limits.steady.Verdict.TheVariants.{Falls, Lasts}
use Rattle.otp_reason.specs.declared.name.Name.{Name}
use Rattle.otp_spec.specs.declared.limits.TheConstants.{MAX_INTENSITY}
use Rattle.otp_trial.specs.declared.planting.Change.{Change}
use Rattle.otp_suggest.specs.declared.edge.Bounds.{Bounds}
use Rattle.otp_suggest.specs.declared.remedy.Remedy.{Remedy}
use Rattle.otp_suggest.specs.declared.remedy.Remedy.TheVariants as remedy

-- what a run shows of the root in which this child of the supervisor at a place crashes so often at once, where the supervisor at
-- another place has this intensity
abbrev pub IsBorneWith : Tree → ℕ → Name → ℕ → ℕ → ℕ → Verdict → Type 0
IsBorneWith tree at id count place intensity verdict =
    (root : Fate) × (Bears (Some (record { place = place; intensity = intensity })) tree at id count root × (verdict_of root ≡ verdict))

-- which intensity of the supervisor at a place, whose own is this, has the root survive: its own; or a greater one, with which the
-- root survives and with one less it doesn't; or none, as it doesn't with the greatest
unfoldable pub IsRemedy : Tree → ℕ → Name → ℕ → ℕ → ℕ → Remedy → Type 0
IsRemedy tree at id count place today remedy.Enough = IsBorneWith tree at id count place today Lasts
IsRemedy tree at id count place today (remedy.Least intensity) =
    (less : ℕ) × ((today ≤ less) × ((intensity ≡ less + 1)
    × (IsBorneWith tree at id count place (less + 1) Lasts × IsBorneWith tree at id count place less Falls)))
IsRemedy tree at id count place today remedy.Nowhere =
    (most : ℕ) × ((MAX_INTENSITY ≤ most) × IsBorneWith tree at id count place most Falls)

-- the least lies between these intensities, of which neither is below its own: with the long one the root survives, and with the
-- short one it doesn't
pub record AreEnds (tree : Tree) (at : ℕ) (id : Name) (count place today : ℕ) (bounds : Bounds) : Type 0 where
  pub order : bounds.short < bounds.long
  pub limit : bounds.long ≤ MAX_INTENSITY
  pub above : today ≤ bounds.short
  pub falls : IsBorneWith tree at id count place bounds.short Falls
  pub lasts : IsBorneWith tree at id count place bounds.long Lasts
