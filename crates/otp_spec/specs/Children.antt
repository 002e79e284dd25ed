use Rattle.std.specs.Prelude.{Bool, true, false, ◌&&◌}
use Rattle.otp_reason.specs.declared.name.Name.{Name}
use Rattle.otp_reason.specs.Names.{name_bytes, is_lawful_name}
use Rattle.otp_spec.specs.declared.child.ChildSpec.{ChildSpec}
use Rattle.otp_spec.specs.declared.child.ChildType.{ChildType}
use Rattle.otp_spec.specs.declared.child.ChildType.TheVariants.{Worker, Supervisor}
use Rattle.otp_spec.specs.declared.child.Restart.TheVariants.{Permanent}
use Rattle.otp_spec.specs.declared.child.Shutdown.{Shutdown}
use Rattle.otp_spec.specs.declared.child.Shutdown.TheVariants.{Milliseconds, Infinity}
use Rattle.otp_spec.specs.declared.child.Modules.{Modules}
use Rattle.otp_spec.specs.declared.limits.TheConstants.{DEFAULT_SHUTDOWN}
use Rattle.otp_spec.specs.declared.child.Modules.TheVariants.{Dynamic, None, One, Two, Three, Four}

-- how a child of this type is stopped where its specification names nothing
-- (Supervisor Behaviour, "Child Specification", shutdown)
abbrev pub default_shutdown : ChildType → Shutdown
default_shutdown Worker = Milliseconds DEFAULT_SHUTDOWN
default_shutdown Supervisor = Infinity

-- the specification with these two keys and the default of every other
-- (Supervisor Behaviour, "Child Specification")
abbrev pub default_spec : Name → Name → ChildSpec
default_spec id start = record {
  id = id;
  start = start;
  restart = Permanent;
  significant = false;
  shutdown = default_shutdown Worker;
  kind = Worker;
  modules = One start;
}

-- the specification of a child of this type, with the default of its type
abbrev pub default_spec_of : ChildType → Name → Name → ChildSpec
default_spec_of kind id start = record (default_spec id start) { shutdown = default_shutdown kind; kind = kind }

-- the name is one that a specification may have (own)
abbrev pub is_lawful : Name → Bool
is_lawful name = is_lawful_name (name_bytes name)

-- each module's name is lawful; there are at most four by type (own)
abbrev pub are_lawful_modules : Modules → Bool
are_lawful_modules Dynamic = true
are_lawful_modules None = true
are_lawful_modules (One a) = is_lawful a
are_lawful_modules (Two a b) = is_lawful a && is_lawful b
are_lawful_modules (Three a b c) = is_lawful a && is_lawful b && is_lawful c
are_lawful_modules (Four a b c d) = is_lawful a && is_lawful b && is_lawful c && is_lawful d
