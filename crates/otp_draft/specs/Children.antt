-- A child that is drawn up: its keys, and what it runs.
use Rattle.std.specs.Prelude.{ℕ, List, length, nat_le, Option, Some, None, false, if◌then◌else◌}
use Rattle.otp_reason.specs.declared.name.Name.{Name}
use Rattle.otp_reason.specs.Names.{name_of}
use Rattle.otp_reason.specs.declared.name.TheConstants.{NAME_SIZE}
use Rattle.otp_spec.specs.Children.{default_shutdown}
use Rattle.otp_spec.specs.declared.child.ChildSpec.{ChildSpec}
use Rattle.otp_spec.specs.declared.child.Modules.TheVariants.{One}
use Rattle.otp_spec.specs.declared.child.Restart.TheVariants.{Permanent}
use Rattle.otp_spec.specs.declared.child.ChildType.{ChildType}
use Rattle.otp_draft.specs.declared.child.ChildKeys.{ChildKeys}

abbrev pub or_default : {A : Type 0} → Option A → A → A
or_default (Some value) other = value
or_default None other = other

-- the keys of a child of this id and type, with the default of every other
-- (Supervisor Behaviour, "Child Specification")
abbrev pub default_keys : Option Name → ChildType → ChildKeys
default_keys id kind = record {
  id = id;
  start = None;
  restart = Permanent;
  significant = false;
  shutdown = None;
  kind = kind;
  modules = None;
}

-- the specification of these keys, of a child with this id: the start function is named as the child where it is named
-- nothing else (own); its module is the only one, and the shutdown that of the child's type, where none is said
-- (Supervisor Behaviour, "Child Specification")
abbrev pub spec_with : Name → ChildKeys → ChildSpec
spec_with id keys = record {
  id = id;
  start = or_default keys.start id;
  restart = keys.restart;
  significant = keys.significant;
  shutdown = or_default keys.shutdown (default_shutdown keys.kind);
  kind = keys.kind;
  modules = or_default keys.modules (One (or_default keys.start id));
}

-- the keys that a specification says
abbrev pub keys_of : ChildSpec → ChildKeys
keys_of spec = record {
  id = Some spec.id;
  start = Some spec.start;
  restart = spec.restart;
  significant = spec.significant;
  shutdown = Some spec.shutdown;
  kind = spec.kind;
  modules = Some spec.modules;
}

abbrev pub spec_under : Option Name → ChildKeys → Option ChildSpec
spec_under None keys = None
spec_under (Some id) keys = Some (spec_with id keys)

-- the specification of these keys; none where the id is no name
abbrev pub spec_of : ChildKeys → Option ChildSpec
spec_of keys = spec_under keys.id keys

-- the name that shows these bytes; none where they are more than 32
abbrev pub named : List ℕ → Option Name
named bytes = if nat_le (length bytes) NAME_SIZE then Some (name_of bytes) else None
