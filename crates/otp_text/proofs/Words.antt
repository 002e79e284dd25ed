-- Words that are read as the values that they are printed for.
use Rattle.std.proofs.Common.{◌≡◌, Bool, true, false, Some, refl}
use Rattle.otp_spec.specs.declared.child.ChildType.{ChildType}
use Rattle.otp_spec.specs.declared.child.ChildType.TheVariants.{Worker, Supervisor}
use Rattle.otp_spec.specs.declared.child.Restart.{Restart}
use Rattle.otp_spec.specs.declared.child.Restart.TheVariants.{Permanent, Transient, Temporary}
use Rattle.otp_spec.specs.Words.{child_type_of, restart_of, restart_word, type_word}
use Rattle.otp_text.specs.Values.{bool_text}
use Rattle.otp_text.specs.Words.{bool_in}

pub restart_back : (restart : Restart) → restart_of (restart_word restart) ≡ Some restart
unfolding restart_of restart_word
restart_back Permanent = refl
restart_back Transient = refl
restart_back Temporary = refl

pub type_back : (kind : ChildType) → child_type_of (type_word kind) ≡ Some kind
unfolding child_type_of type_word
type_back Worker = refl
type_back Supervisor = refl

pub bool_back : (value : Bool) → bool_in (bool_text value) ≡ Some value
unfolding bool_in bool_text
bool_back true = refl
bool_back false = refl
