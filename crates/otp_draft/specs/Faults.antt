-- Why a child is not added to a supervisor that is drawn up, or a tree not finished. (own)
use Rattle.std.specs.Prelude.{◌+◌, Bool, true, false, not, nat_le, nat_lt, Option, Some, None, ⊤, length, if◌then◌else◌}
use Rattle.otp_job.specs.declared.bridge.bridge.BridgePhase.TheVariants.{New}
use Rattle.otp_job.specs.declared.body.Body.TheVariants as body
use Rattle.otp_spec.specs.Flags.{is_simple}
use Rattle.otp_spec.specs.Supervisor.{IsLawful, supervisor_fault}
use Rattle.otp_spec.specs.declared.child.ChildSpec.{ChildSpec}
use Rattle.otp_spec.specs.declared.child.ChildType.{ChildType}
use Rattle.otp_spec.specs.declared.child.ChildType.TheVariants as kind
use Rattle.otp_spec.specs.declared.child.Shutdown.{Shutdown}
use Rattle.otp_spec.specs.declared.child.Shutdown.TheVariants as shutdown
use Rattle.otp_spec.specs.declared.fault.SpecFault.{SpecFault}
use Rattle.otp_spec.specs.declared.fault.SpecFault.TheVariants.{BadSpec, TooManyChildren}
use Rattle.otp_spec.specs.declared.fault.SpecKey.TheVariants.{Id}
use Rattle.otp_spec.specs.declared.limits.TheConstants.{MAX_CHILDREN, MAX_TABLES}
use Rattle.otp_draft.specs.Children.{spec_of}
use Rattle.otp_draft.specs.Trees.{Tree, size, with_body, with_template, with_tree}
use Rattle.otp_draft.specs.declared.child.Child.{Child}
use Rattle.otp_draft.specs.declared.child.Runs.{Runs}
use Rattle.otp_draft.specs.declared.child.Runs.TheVariants as runs
use Rattle.otp_draft.specs.declared.fault.DraftFault.{DraftFault}
use Rattle.otp_draft.specs.declared.fault.DraftFault.TheVariants.{OutOfMemory, Spec, Dynamic, NoBody, WrongBody, NestedNotInfinity, TooDeep, TooManyTables}
use Rattle.otp_draft.specs.declared.limits.TheConstants.{MAX_DEPTH}

-- it is not that memory was refused
abbrev pub IsOfDraft : DraftFault → Type 0
IsOfDraft OutOfMemory = ⊥
IsOfDraft _ = ⊤

-- flags or specifications that no supervisor may have
abbrev pub spec_fault : Option SpecFault → Option DraftFault
spec_fault None = None
spec_fault (Some why) = Some (Spec why)

-- the shutdown of a nested supervisor is infinity, which the manual demands (supervisor, child specification: shutdown)
abbrev pub is_infinity : Shutdown → Bool
is_infinity shutdown.Infinity = true
is_infinity _ = false

abbrev pub is_supervisor : ChildType → Bool
is_supervisor kind.Supervisor = true
is_supervisor kind.Worker = false

-- a worker's job where a supervisor is wanted
abbrev pub worker_fault : ChildSpec → Option DraftFault
worker_fault spec = if is_supervisor spec.kind then Some WrongBody else None

-- whether a child is handed a body, where the strategy says that it is or isn't
abbrev pub kind_fault : Bool → Bool → Option DraftFault
kind_fault true false = Some Dynamic
kind_fault false true = Some NoBody
kind_fault _ _ = None

abbrev pub or_else : Option DraftFault → Option DraftFault → Option DraftFault
or_else (Some fault) other = Some fault
or_else None other = other

module _ {J S : Type 0} where
  abbrev pub is_template : Runs J S → Bool
  is_template runs.Template = true
  is_template _ = false

  -- the first reason for which a tree is not put below a supervisor by this specification
  abbrev pub nest_fault : ChildSpec → Tree J S → Tree J S → Option DraftFault
  nest_fault spec sub t =
      if not (is_supervisor spec.kind) then Some WrongBody
      else if not (is_infinity spec.shutdown) then Some NestedNotInfinity
      else if nat_le MAX_DEPTH sub.depth then Some TooDeep
      else if nat_lt MAX_TABLES (size t + size sub) then Some TooManyTables
      else spec_fault (supervisor_fault sub.flags sub.specs)

  abbrev pub runs_fault : ChildSpec → Runs J S → Tree J S → Option DraftFault
  runs_fault spec (runs.Worker job) t = worker_fault spec
  runs_fault spec (runs.Bridge subsystem) t = None
  runs_fault spec (runs.Supervisor sub) t = nest_fault spec sub t
  runs_fault spec runs.Template t = None

  abbrev pub limit_fault : Tree J S → Option DraftFault
  limit_fault t = if nat_le MAX_CHILDREN (length t.specs) then Some (Spec TooManyChildren) else None

  abbrev pub child_fault : Option ChildSpec → Runs J S → Tree J S → Option DraftFault
  child_fault None r t = Some (Spec (BadSpec (length t.specs) Id))
  child_fault (Some spec) r t =
      or_else (limit_fault t)
      (or_else (kind_fault (is_simple t.flags.strategy) (is_template r))
      (runs_fault spec r t))

  -- the first reason for which the child is not added: its id is no name; there are 256 children; a dynamic child is
  -- handed a body, or another is handed none; and what it runs
  abbrev pub add_fault : Child J S → Tree J S → Option DraftFault
  add_fault child t = child_fault (spec_of child.keys) child.runs t

  abbrev pub with_runs : ChildSpec → Runs J S → Tree J S → Tree J S
  with_runs spec (runs.Worker job) t = with_body spec (body.Worker job) t
  with_runs spec (runs.Bridge subsystem) t = with_body spec (body.Bridge (record { subsystem = subsystem; phase = New })) t
  with_runs spec (runs.Supervisor sub) t = with_tree spec sub t
  with_runs spec runs.Template t = with_template spec t

  abbrev pub with_spec : Option ChildSpec → Runs J S → Tree J S → Tree J S
  with_spec None r t = t
  with_spec (Some spec) r t = with_runs spec r t

  -- one more child
  abbrev pub with_child : Child J S → Tree J S → Tree J S
  with_child child t = with_spec (spec_of child.keys) child.runs t

  -- why the tree is not finished
  abbrev pub finish_fault : Tree J S → Option DraftFault
  finish_fault t = spec_fault (supervisor_fault t.flags t.specs)

  -- where it is a tree, its supervisor may be opened
  abbrev pub MayBeOpened : Runs J S → Type 0
  MayBeOpened (runs.Supervisor sub) = IsLawful sub.flags sub.specs
  MayBeOpened _ = ⊤
